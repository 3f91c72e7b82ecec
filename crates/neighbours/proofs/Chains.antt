-- Edges on chains: the last index that passes a test, an edge added to its chain, a key searched along a chain. Assumes nothing.
use mathlib.Core.Path.{◌≡◌, refl, sym, ap, ap₂, ◌∙◌}
use mathlib.Core.Bool.{Bool, true, false, true≢false, ◌||◌}
use mathlib.Core.List.{List, [], ◌∷◌, ◌++◌}
use Prim.Native.Nat.{ℕ, zero, suc, ◌+◌, ◌-◌, ◌≤◌, ◌<◌}
use native.Mathlib.Numerals.{add-one}
use native.Mathlib.Decide.{dec_lt, ℕ_discrete}
use native.Mathlib.Omega.{arith}
use lib.Dec.{eqb}
use lib.ListN.{length, get_or, set, length-append, length-set, get_or-append}
use lib.Seq.{get_or-set_same, get_or-set_other, get_or-append-add}
use borrow.Author.Tests.{eqb-true, eq-eqb, ne_eqb}
use Rattle.lists.specs.Search.{seek, first, has}
use Rattle.lists.proofs.Search.{has_at, has_some, and_true}
use Rattle.cutting.specs.Edges.{Edge, edge_at, key, same_key}
use Rattle.std.specs.List.{list_any}
use Rattle.keys.specs.Chains.{chain_of, edge_chain}
use Rattle.neighbours.specs.Chains.{last_below, on_chain, edges_below, Chained}

-- ---- the last index that passes

pub last_here : (p : ℕ → Bool) (n : ℕ) → p n ≡ true → last_below p (n + 1) ≡ n + 1
unfolding last_below
last_here p n e =
    let one : n + 1 ≡ suc n = add-one n in
    ap (last_below p) one ∙ ap (λ (t : Bool). elim t [ true ↦ suc n | false ↦ last_below p n ]) e ∙ sym one

pub last_before : (p : ℕ → Bool) (n : ℕ) → p n ≡ false → last_below p (n + 1) ≡ last_below p n
unfolding last_below
last_before p n e = ap (last_below p) (add-one n) ∙ ap (λ (t : Bool). elim t [ true ↦ suc n | false ↦ last_below p n ]) e

pub last_le : (p : ℕ → Bool) (n : ℕ) → last_below p n ≤ n
unfolding last_below
last_le p zero = omega arith
last_le p (suc n) = go (p n) (last_le p n)
  where
    go : (t : Bool) → last_below p n ≤ n → let r : ℕ = elim t [ true ↦ suc n | false ↦ last_below p n ] in r ≤ suc n
    go true h = omega arith
    go false h = omega arith

-- it passes
last_hit : (p : ℕ → Bool) (n i : ℕ) → last_below p n ≡ i + 1 → p i ≡ true
unfolding last_below
last_hit p zero i h = absurd (omega (arith, h))
last_hit p (suc n) i h = go (p n) refl (last_hit p n i) h
  where
    go : (t : Bool) → p n ≡ t → (last_below p n ≡ i + 1 → p i ≡ true) → let r : ℕ = elim t [ true ↦ suc n | false ↦ last_below p n ] in r ≡ i + 1 → p i ≡ true
    go true e ih q =
        let z : i ≡ n = omega (arith, q) in
        ap p z ∙ e
    go false e ih q = ih q

-- those behind it fail
last_none : (p : ℕ → Bool) (n i : ℕ) → last_below p n ≤ i → i < n → p i ≡ false
unfolding last_below
last_none p zero i h l = absurd (omega arith)
last_none p (suc n) i h l = go (p n) refl (ℕ_discrete i n) (last_none p n i) h
  where
    go : (t : Bool) → p n ≡ t → Dec (i ≡ n) → (last_below p n ≤ i → i < n → p i ≡ false) → let r : ℕ = elim t [ true ↦ suc n | false ↦ last_below p n ] in r ≤ i → p i ≡ false
    go true e d ih q = absurd (omega (arith, q, l))
    go false e (yes z) ih q = ap p z ∙ e
    go false e (no z) ih q = ih q (omega (arith, z, l))

last_ext : (p q : ℕ → Bool) (n : ℕ) → ((i : ℕ) → i < n → p i ≡ q i) → last_below p n ≡ last_below q n
unfolding last_below
last_ext p q zero h = refl
last_ext p q (suc n) h =
    ap₂ (λ (t : Bool) (r : ℕ). elim t [ true ↦ suc n | false ↦ r ]) (h n (omega arith)) (last_ext p q n (λ i l. h i (omega arith)))

-- ---- a search that leaves out those that fail

fewer : (q : ℕ → Bool) (m n : ℕ) → m ≤ n → ((i : ℕ) → m ≤ i → i < n → q i ≡ false) → has q m ≡ has q n
fewer q m n l none = go (has q m) (has q n) refl refl
  where
    go : (s t : Bool) → has q m ≡ s → has q n ≡ t → has q m ≡ has q n
    go true t e f =
        let f₁ = has_some q m e in
        e ∙ sym (has_at q n f₁.0 (omega (arith, f₁.1)) f₁.2)
    go false false e f = e ∙ sym f
    go false true e f =
        let g = has_some q n f in
        near g.0 g.1 g.2 (dec_lt g.0 m)
      where
        near : (i : ℕ) → i < n → q i ≡ true → Dec (i < m) → has q m ≡ has q n
        near i h y (yes b) = has_at q m i b y ∙ sym f
        near i h y (no b) = absurd (true≢false (sym y ∙ none i (omega (arith, b)) h))

-- ---- an edge goes behind the others

module _ (es : List Edge) (f : Edge) where
  snoc_before : (i : ℕ) → i < length es → edge_at (es ++ f ∷ []) i ≡ edge_at es i
  snoc_before i h = get_or-append es (f ∷ []) (0, 0) i h

  snoc_last : edge_at (es ++ f ∷ []) (length es) ≡ f
  snoc_last = ap (edge_at (es ++ f ∷ [])) (sym (omega arith)) ∙ get_or-append-add es (f ∷ []) 0 (0, 0)

pub chained_none : (heads nexts : List ℕ) → ((c : ℕ) → c < length heads → get_or heads c 0 ≡ 0) → Chained [] heads nexts
unfolding last_below
chained_none heads nexts zero-there = record { head = zero-there; next = λ e l. absurd (omega (arith, l)) }

module _ (es : List Edge) (heads nexts : List ℕ) (f : Edge) (some : 0 < length heads) (fits : length es < length nexts) (is : Chained es heads nexts) where
  abbrev gs : List Edge
  gs = es ++ f ∷ []

  abbrev h : ℕ
  h = length heads

  abbrev k : ℕ
  k = length es

  abbrev c : ℕ
  c = edge_chain h f

  abbrev hs : List ℕ
  hs = set heads c (k + 1)

  abbrev ns : List ℕ
  ns = set nexts k (get_or heads c 0)

  low : c < h
  low = omega arith

  grown : length gs ≡ k + 1
  grown = length-append es (f ∷ [])

  -- the others are on a chain as before
  same : (d n : ℕ) → n ≤ k → last_below (on_chain h es d) n ≡ last_below (on_chain h gs d) n
  same d n l = last_ext (on_chain h es d) (on_chain h gs d) n (λ i b. ap (λ (e : Edge). eqb (edge_chain h e) d) (sym (snoc_before es f i (omega arith))))

  at_last : edge_chain h (edge_at gs k) ≡ c
  at_last = ap (edge_chain h) (snoc_last es f)

  head_more : (d : ℕ) → d < h → Dec (d ≡ c) → get_or hs d 0 ≡ last_below (on_chain h gs d) (k + 1)
  head_more d b (yes e) =
      ap (λ (j : ℕ). get_or hs j 0) e ∙ get_or-set_same heads c (k + 1) 0 low ∙ sym (last_here (on_chain h gs d) k (eq-eqb (edge_chain h (edge_at gs k)) d (at_last ∙ sym e)))
  head_more d b (no e) =
      get_or-set_other heads c d (k + 1) 0 e ∙ is.head d b ∙ same d k (omega arith)
      ∙ sym (last_before (on_chain h gs d) k (ne_eqb (edge_chain h (edge_at gs k)) d (λ z. e (sym z ∙ at_last))))

  next_more : (e : ℕ) → e < k + 1 → Dec (e ≡ k) → get_or ns e 0 ≡ last_below (on_chain h gs (edge_chain h (edge_at gs e))) e
  next_more e b (yes z) =
      ap (λ (j : ℕ). get_or ns j 0) z ∙ get_or-set_same nexts k (get_or heads c 0) 0 fits
      ∙ is.head c low ∙ same c k (omega arith) ∙ ap₂ (λ (d j : ℕ). last_below (on_chain h gs d) j) (sym at_last ∙ ap (λ (j : ℕ). edge_chain h (edge_at gs j)) (sym z)) (sym z)
  next_more e b (no z) =
      let l : e < k = omega (arith, z) in
      get_or-set_other nexts k e (get_or heads c 0) 0 z ∙ is.next e l ∙ same (edge_chain h (edge_at es e)) e (omega arith)
      ∙ ap (λ (g : Edge). last_below (on_chain h gs (edge_chain h g)) e) (sym (snoc_before es f e l))

  pub chained_more : Chained (es ++ f ∷ []) (set heads (edge_chain (length heads) f) (length es + 1)) (set nexts (length es) (get_or heads (edge_chain (length heads) f) 0))
  chained_more =
      let lh : length hs ≡ h = length-set heads c (k + 1) in
      record {
        head = λ d b. rw (lh, grown) (head_more d (omega (arith, b, lh)) (ℕ_discrete d c));
        next = λ e b. rw lh (next_more e (omega (arith, b, grown)) (ℕ_discrete e k));
      }

-- ---- along a chain

module _ (h : ℕ) (es : List Edge) (d : ℕ) where
  abbrev on : ℕ → Bool
  on = on_chain h es d

  abbrev below : ℕ → List Edge
  below = edges_below h es d

  -- an edge on it stands before those below
  pub one_on : (i : ℕ) → on i ≡ true → below (suc i) ≡ edge_at es i ∷ below i
  unfolding edges_below
  one_on i e = ap (λ (t : Bool). elim t [ true ↦ edge_at es i ∷ below i | false ↦ below i ]) e

  passed : (i : ℕ) → on i ≡ false → below (suc i) ≡ below i
  unfolding edges_below
  passed i e = ap (λ (t : Bool). elim t [ true ↦ edge_at es i ∷ below i | false ↦ below i ]) e

  to_last : (n : ℕ) → below n ≡ below (last_below on n)
  unfolding edges_below last_below
  to_last zero = refl
  to_last (suc n) = go (on n) refl (to_last n)
    where
      go : (t : Bool) → on n ≡ t → below n ≡ below (last_below on n)
          → elim t [ true ↦ edge_at es n ∷ below n | false ↦ below n ] ≡ below (elim t [ true ↦ suc n | false ↦ last_below on n ])
      go true e ih = sym (one_on n e)
      go false e ih = ih

  -- the walk from the last of them is along this chain
  pub from_last : (at n : ℕ) → at ≡ last_below on n → edges_below h es (edge_chain h (edge_at es (at - 1))) at ≡ below n
  unfolding edges_below
  from_last zero n e = ap below e ∙ sym (to_last n)
  from_last (suc i) n e =
      let z : suc i - 1 ≡ i = omega arith in
      let one : suc i ≡ i + 1 = omega arith in
      let here : edge_chain h (edge_at es i) ≡ d = eqb-true (edge_chain h (edge_at es i)) d (last_hit on n i (sym e ∙ one)) in
      rw z (ap (λ (x : ℕ). edges_below h es x (suc i)) here ∙ ap below e ∙ sym (to_last n))

-- the edges with a key are on its chain
module _ (h : ℕ) (es : List Edge) (f : Edge) where
  abbrev has_its_key : ℕ → Bool
  has_its_key i = same_key (edge_at es i) f

  abbrev its_edges : ℕ → List Edge
  its_edges = edges_below h es (edge_chain h f)

  abbrev its_chain : ℕ → Bool
  its_chain = on_chain h es (edge_chain h f)

  off_chain : (i : ℕ) → its_chain i ≡ false → has_its_key i ≡ false
  off_chain i off = go (has_its_key i) refl
    where
      go : (t : Bool) → has_its_key i ≡ t → has_its_key i ≡ false
      go false e = e
      go true e =
          let k : (key (edge_at es i)).0 ≡ (key f).0 = eqb-true _ _ (and_true _ _ e).0 in
          absurd (true≢false (sym (eq-eqb (edge_chain h (edge_at es i)) (edge_chain h f) (ap (chain_of h) k)) ∙ off))

  has_more : (n : ℕ) → (has_its_key n || has has_its_key n) ≡ has has_its_key (suc n)
  has_more n = go (has_its_key n) refl
    where
      go : (t : Bool) → has_its_key n ≡ t → (t || has has_its_key n) ≡ has has_its_key (suc n)
      go true e = sym (has_at has_its_key (suc n) n (omega arith) e)
      go false e = fewer has_its_key n (suc n) (omega arith) (λ i u v. let z : i ≡ n = omega (arith, u, v) in ap has_its_key z ∙ e)

  -- so a search along it finds what a search of all would
  pub search_chain : (n : ℕ) → list_any (λ e. same_key e f) (its_edges n) ≡ has has_its_key n
  unfolding edges_below first seek
  search_chain zero = refl
  search_chain (suc n) = go (its_chain n) refl (search_chain n)
    where
      go : (t : Bool) → its_chain n ≡ t → list_any (λ e. same_key e f) (its_edges n) ≡ has has_its_key n
          → list_any (λ e. same_key e f) (its_edges (suc n)) ≡ has has_its_key (suc n)
      go true e ih = ap (list_any (λ e. same_key e f)) (one_on h es (edge_chain h f) n e) ∙ ap (λ (t : Bool). has_its_key n || t) ih ∙ has_more n
      go false e ih =
          ap (list_any (λ e. same_key e f)) (passed h es (edge_chain h f) n e) ∙ ih ∙ ap (λ (t : Bool). t || has has_its_key n) (sym (off_chain n e)) ∙ has_more n
