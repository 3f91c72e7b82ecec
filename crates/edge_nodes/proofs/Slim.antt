-- Adjacent equals dropped as nodes are put behind each other. Assumes nothing.
use mathlib.Core.Path.{◌≡◌, refl, sym, ap, ap₂, subst, ◌∙◌}
use mathlib.Core.Bool.{Bool, true, false, true≢false, cond, and-true}
use mathlib.Core.List.{List, [], ◌∷◌, ◌++◌, append-nil, map}
use Prim.Native.Nat.{ℕ, suc, ◌+◌, ◌-◌, ◌≤◌, ◌<◌}
use native.Mathlib.Numerals.{add-one}
use native.Mathlib.Omega.{arith}
use lib.Dec.{eqb}
use lib.Pointwise.{pointwise}
use lib.ListN.{length, get_or, set, take, drop, length-append, length-map}
use Rattle.std.proofs.lemmas.List.{get_or-map, drop_all}
use lib.Seq.{drop-cons, length-take-le, take-suc, take_all}
use borrow.Author.Tests.{eq-eqb, ne_eqb, eqb-true}
use Rattle.std.specs.List.{ends_with}
use Rattle.lists.specs.Gather.{slim, slim_after}
use Rattle.lists.specs.Regions.{front, FrontIs}
use Rattle.lists.proofs.Gather.{slim_snoc, slim_some, length_slim}
use Rattle.lists.proofs.Regions.{front_take, front_store, front_front, take_front_of}
use Rattle.edge_nodes.specs.Lent.{node_of, pushed}
use Rattle.edge_nodes.specs.declared.nodes.Placed.{Placed}

-- ---- `push`

eqb_turned : (a b : ℕ) → eqb a b ≡ eqb b a
eqb_turned a b = go (eqb a b) refl
  where
    go : (t : Bool) → eqb a b ≡ t → t ≡ eqb b a
    go true e = sym (eq-eqb b a (sym (eqb-true a b e)))
    go false e = sym (ne_eqb b a (λ p. absurd (true≢false (sym (eq-eqb a b (sym p)) ∙ e))))

-- v is put behind a list unless that ends with it
pushed_by_end : (xs : List ℕ) (v : ℕ) → pushed xs v ≡ xs ++ cond (ends_with eqb xs (v ∷ [])) [] (v ∷ [])
unfolding pushed
pushed_by_end [] v = refl
pushed_by_end (x ∷ xs) v =
    let l : List ℕ = x ∷ xs in
    let last : drop (length l - 1) l ≡ get_or l (length l - 1) 0 ∷ drop (suc (length l - 1)) l = drop-cons l (length l - 1) 0 (omega arith) in
    let none : drop (suc (length l - 1)) l ≡ [] = drop_all (suc (length l - 1)) l (omega arith) in
    let e : ends_with eqb l (v ∷ []) ≡ eqb (get_or l (length l - 1) 0) v =
    ap (pointwise eqb (v ∷ [])) (last ∙ ap (λ (r : List ℕ). get_or l (length l - 1) 0 ∷ r) none) ∙ and-true (eqb v (get_or l (length l - 1) 0)) ∙ eqb_turned v (get_or l (length l - 1) 0) in
    rw (ne_eqb (length l) 0 (λ z. omega (arith, z))) (ap (λ (b : Bool). l ++ cond b [] (v ∷ [])) (sym e))

module _ (s : List ℕ) (k v : ℕ) (fits : k < length s) where
  held : length (take k s) ≡ k
  held = length-take-le k s (omega arith)

  module _ (e : ends_with eqb (take k s) (v ∷ []) ≡ true) where
    same : pushed (take k s) v ≡ take k s
    same = pushed_by_end (take k s) v ∙ ap (λ (b : Bool). take k s ++ cond b [] (v ∷ [])) e ∙ append-nil (take k s)

    pub same_count : k ≡ length (pushed (take k s) v)
    same_count = sym (ap length same ∙ held)

    pub same_held : s ≡ front s (pushed (take k s) v)
    same_held = sym (front_take s k (omega arith)) ∙ sym (ap (front s) same)

  module _ (e : ends_with eqb (take k s) (v ∷ []) ≡ false) where
    more : pushed (take k s) v ≡ take k s ++ v ∷ []
    more = pushed_by_end (take k s) v ∙ ap (λ (b : Bool). take k s ++ cond b [] (v ∷ [])) e

    pub more_count : k + 1 ≡ length (pushed (take k s) v)
    more_count = omega (arith, ap length more, length-append (take k s) (v ∷ []), held)

    pub more_held : set s k v ≡ front s (pushed (take k s) v)
    more_held = front_store s s (take k s) k v 0 held fits (sym (front_take s k (omega arith))) ∙ sym (ap (front s) more)

-- ---- `dedup`

none_slim : (v : ℕ) → pushed (slim eqb []) v ≡ slim eqb (v ∷ [])
unfolding pushed slim slim_after
none_slim v = refl

pub pushed_slim : (xs : List ℕ) (v : ℕ) → pushed (slim eqb xs) v ≡ slim eqb (xs ++ v ∷ [])
unfolding pushed
pushed_slim [] v = none_slim v
pushed_slim (x ∷ xs) v =
    let some : 0 < length (slim eqb (x ∷ xs)) = slim_some eqb (x ∷ xs) (omega arith) in
    rw (ne_eqb (length (slim eqb (x ∷ xs))) 0 (λ p. omega (arith, p))) (sym (slim_snoc eqb (x ∷ xs) v 0 (omega arith)))

longer : (xs : List ℕ) (v : ℕ) → length xs ≤ length (pushed xs v)
unfolding pushed
longer xs v = go (eqb (length xs) 0) refl (eqb (get_or xs (length xs - 1) 0) v)
  where
    go : (t : Bool) → eqb (length xs) 0 ≡ t → (b : Bool) → length xs ≤ length (cond t (v ∷ []) (xs ++ cond b [] (v ∷ [])))
    go true e b = omega (arith, eqb-true (length xs) 0 e)
    go false e b = omega (arith, length-append xs (cond b [] (v ∷ [])))

-- a node more behind those that stand there
onto : (out₀ xs out ys : List ℕ) (k r v : ℕ) → FrontIs (slim eqb xs) out₀ k out → FrontIs (pushed (take k out) v) out r ys → length xs < length out₀
    → FrontIs (slim eqb (xs ++ v ∷ [])) out₀ r ys
onto out₀ xs out ys k r v h got short =
    let at : take k out ≡ slim eqb xs = ap (take k) h.held ∙ take_front_of out₀ (slim eqb xs) k (sym h.count) in
    let p : pushed (take k out) v ≡ slim eqb (xs ++ v ∷ []) = ap (λ (l : List ℕ). pushed l v) at ∙ pushed_slim xs v in
    let more : length (slim eqb xs) ≤ length (slim eqb (xs ++ v ∷ [])) = omega (arith, longer (slim eqb xs) v, ap length (pushed_slim xs v)) in
    let count : r ≡ length (slim eqb (xs ++ v ∷ [])) = got.count ∙ ap length p in
    record {
      count = count;
      fits = omega (arith, count, length_slim eqb (xs ++ v ∷ []), length-append xs (v ∷ []));
      held = got.held ∙ ap₂ front h.held p ∙ front_front out₀ (slim eqb xs) (slim eqb (xs ++ v ∷ [])) more;
    }

-- the nodes of the first i items, slimmed, stand at the front of a list
module _ (items : List Placed) (out₀ : List ℕ) where
  abbrev nodes : List ℕ
  nodes = map node_of items

  pub record Slimmed (i k : ℕ) (out : List ℕ) : Type 0 where
    pub front_is : FrontIs (slim eqb (take i (map node_of items))) out₀ k out
    pub few : k ≤ i

  pub slim_start : Slimmed 0 0 out₀
  unfolding slim front
  slim_start = record { front_is = record { count = refl; fits = omega arith; held = refl }; few = omega arith }

  module _ (out ys : List ℕ) (k i r : ℕ) (inv : Slimmed i k out) where
    many : length nodes ≡ length items
    many = length-map items node_of

    pub slim_turn : (d : Placed) → FrontIs (pushed (take k out) (node_of (get_or items i d))) out r ys → i < length items → length items < length out₀ → Slimmed (i + 1) r ys
    slim_turn d got h short =
        let v : ℕ = node_of (get_or items i d) in
        let next : take i nodes ++ (v ∷ []) ≡ take (i + 1) nodes =
        ap (λ (x : ℕ). take i nodes ++ (x ∷ [])) (sym (get_or-map node_of items i d 0 h))
        ∙ sym (ap (λ (c : ℕ). take c nodes) (add-one i) ∙ take-suc nodes i 0 (omega (arith, h, many))) in
        let all = onto out₀ (take i nodes) out ys k r v inv.front_is got (omega (arith, length-take-le i nodes (omega (arith, h, many)), h, short)) in
        let is : FrontIs (slim eqb (take (i + 1) nodes)) out₀ r ys = subst (λ (l : List ℕ). FrontIs (slim eqb l) out₀ r ys) next all in
        record { front_is = is; few = omega (arith, is.count, length_slim eqb (take (i + 1) nodes), length-take-le (i + 1) nodes (omega (arith, h, many))) }

    pub slim_end : (last : ℕ) → FrontIs (pushed (take k out) last) out r ys → length items ≤ i → length items < length out₀
        → FrontIs (slim eqb (map node_of items ++ last ∷ [])) out₀ r ys
    slim_end last got h short =
        let all : take i nodes ≡ nodes = take_all i nodes (omega (arith, h, many)) in
        subst (λ (l : List ℕ). FrontIs (slim eqb (l ++ last ∷ [])) out₀ r ys) all
        (onto out₀ (take i nodes) out ys k r last inv.front_is got (omega (arith, ap length all, many, short)))
