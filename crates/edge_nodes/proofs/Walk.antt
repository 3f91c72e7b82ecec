-- The meetings under a key, found on one chain. Assumes nothing.
use mathlib.Core.Path.{◌≡◌, refl, sym, ap, ◌∙◌}
use mathlib.Core.Bool.{Bool, true, false, true≢false}
use mathlib.Core.List.{List, [], ◌∷◌, ◌++◌, append-nil, append_assoc}
use Prim.Native.Nat.{ℕ, zero, suc, ◌+◌, ◌*◌, ◌-◌, ◌/◌, ◌≤◌, ◌<◌}
use native.Mathlib.Omega.{arith}
use lib.Dec.{eqb}
use lib.ListN.{length, get_or}
use borrow.Author.Tests.{eq-eqb, eqb-true}
use Rattle.std.specs.List.{concat}
use Rattle.lists.specs.Search.{seek, first}
use Rattle.lists.specs.Gather.{gathered}
use Rattle.lists.proofs.Search.{first_hit, and_true}
use Rattle.cutting.specs.Edges.{Edge, edge_at, key, same_key}
use Rattle.edge_nodes.specs.Lent.{under_at, under, under_in}
use Rattle.keys.specs.Chains.{chain_of}
use Rattle.keys.specs.declared.SortedKey.{SortedKey}
use Rattle.lists.proofs.Gather.{length_each, get_or_each}
use Rattle.cutting.specs.Lent.{pairs}
use Rattle.edge_nodes.specs.declared.chains.Chains.{Chains}
use Rattle.edge_nodes.specs.Links.{chain_at, on_chain, head_at, next_at}
use Rattle.edge_nodes.specs.Chained.{number, edge_of, chain_in}
use Rattle.edge_nodes.specs.Chain.{chained}
use Rattle.edge_nodes.proofs.Under.{sorted_key, not_under, under_more}

-- ---- along a chain

module _ (h : ℕ) (es : List Edge) (met : List ℕ) (which : ℕ) (e : Edge) where
  abbrev on : ℕ → Bool
  on = on_chain h es met which (chain_of h (key e).0)

  abbrev from : ℕ → ℕ → List (List ℕ)
  from n q = chained h es met which e n q

  -- one key, one chain
  off_chain : (q : ℕ) → on q ≡ false → under_at es met which e q ≡ []
  unfolding chain_at
  off_chain q off = not_under es met which e q (go (same_key f e) refl)
    where
      f : Edge
      f = edge_at es (get_or met (5 * q + which) 0)

      go : (t : Bool) → same_key f e ≡ t → same_key f e ≡ false
      go false s = s
      go true s =
          let k : (key f).0 ≡ (key e).0 = eqb-true (key f).0 (key e).0 (and_true (eqb (key f).0 (key e).0) (eqb (key f).1 (key e).1) s).0 in
          absurd (true≢false (sym (eq-eqb (chain_of h (key f).0) (chain_of h (key e).0) (ap (chain_of h) k)) ∙ off))

  here : (n q : ℕ) → on q ≡ true → from (suc n) q ≡ under_at es met which e q ∷ from n (suc q)
  unfolding chained
  here n q t = ap (λ (b : Bool). elim b [ true ↦ under_at es met which e q ∷ from n (suc q) | false ↦ from n (suc q) ]) t

  passed : (n q : ℕ) → on q ≡ false → from (suc n) q ≡ from n (suc q)
  unfolding chained
  passed n q t = ap (λ (b : Bool). elim b [ true ↦ under_at es met which e q ∷ from n (suc q) | false ↦ from n (suc q) ]) t

  -- those before the next one on the chain are passed over
  skipped : (n q : ℕ) → from n q ≡ from (n + q - seek on q n) (seek on q n)
  unfolding seek
  skipped zero q = let z : 0 ≡ 0 + q - q = omega arith in ap (λ (k : ℕ). from k q) z
  skipped (suc n) q = go (on q) refl (skipped n (suc q))
    where
      go : (t : Bool) → on q ≡ t → from n (suc q) ≡ from (n + suc q - seek on (suc q) n) (seek on (suc q) n)
          → from (suc n) q ≡ from (suc n + q - elim t [ true ↦ q | false ↦ seek on (suc q) n ]) (elim t [ true ↦ q | false ↦ seek on (suc q) n ])
      go true t ih = let z : suc n ≡ suc n + q - q = omega arith in ap (λ (k : ℕ). from k q) z
      go false t ih =
          let r : ℕ = seek on (suc q) n in
          let z : n + suc q - r ≡ suc n + q - r = omega arith in
          passed n q t ∙ ih ∙ ap (λ (k : ℕ). from k r) z

  to_first : (n q : ℕ) → q ≤ n → from (n - q) q ≡ from (n - first on q n) (first on q n)
  unfolding first
  to_first n q l =
      let s : ℕ = seek on q (n - q) in
      let z : n - q + q ≡ n = omega arith in
      skipped (n - q) q ∙ ap (λ (k : ℕ). from (k - s) s) z

  -- those on the chain are all that collect
  all_on : (n q : ℕ) → under (n + q) es met which e ≡ under q es met which e ++ concat (from n q)
  unfolding chained
  all_on zero q = let z : 0 + q ≡ q = omega arith in ap (λ (k : ℕ). under k es met which e) z ∙ sym (append-nil (under q es met which e))
  all_on (suc n) q =
      let z : suc n + q ≡ n + suc q = omega arith in
      let one : suc q ≡ q + 1 = omega arith in
      ap (λ (k : ℕ). under k es met which e) z ∙ all_on n (suc q)
      ∙ ap (λ (l : List ℕ). l ++ concat (from n (suc q))) (ap (λ (k : ℕ). under k es met which e) one ∙ under_more es met which e q)
      ∙ append_assoc (under q es met which e) (under_at es met which e q) (concat (from n (suc q)))
      ∙ ap (λ (l : List ℕ). under q es met which e ++ l) (go (on q) refl)
    where
      go : (t : Bool) → on q ≡ t → under_at es met which e q ++ concat (from n (suc q)) ≡ concat (from (suc n) q)
      go true t = sym (ap concat (here n q t))
      go false t = ap (λ (l : List ℕ). l ++ concat (from n (suc q))) (off_chain q t) ∙ sym (ap concat (passed n q t))

  -- the walk is at a meeting on the chain, or at the end
  abbrev pub OnIt : ℕ → Type 0
  OnIt q = q < length met / 5 → chain_at h es met which q ≡ chain_of h (key e).0

  found : (k : ℕ) → OnIt (first on k (length met / 5))
  found k b = eqb-true (chain_at h es met which (first on k (length met / 5))) (chain_of h (key e).0) (first_hit on k (length met / 5) b)

  pub walk_start : (q : ℕ) → q ≡ head_at h es met which (chain_of h (key e).0)
      → OnIt q × (concat (from (length met / 5 - q) q) ≡ under (length met / 5) es met which e)
  unfolding head_at under gathered
  walk_start q q-is =
      let n : ℕ = length met / 5 in
      let all : n + 0 ≡ n = omega arith in
      let whole : n - 0 ≡ n = omega arith in
      rw q-is (
        found 0,
        sym (ap concat (to_first n 0 (omega arith))) ∙ ap (λ (k : ℕ). concat (from k 0)) whole ∙ sym (all_on n 0) ∙ ap (λ (k : ℕ). under k es met which e) all,
      )

  pub walk_turn : (q r : ℕ) → OnIt q → q < length met / 5 → r ≡ next_at h es met which q
      → OnIt r × (from (length met / 5 - q) q ≡ under_at es met which e q ∷ from (length met / 5 - r) r)
  unfolding next_at
  walk_turn q r way l r-is =
      let n : ℕ = length met / 5 in
      let z : r ≡ first on (q + 1) n = r-is ∙ ap (λ (c : ℕ). first (on_chain h es met which c) (q + 1) n) (way l) in
      let some : n - q ≡ suc (n - (q + 1)) = omega arith in
      let one : suc q ≡ q + 1 = omega arith in
      let on_it : on q ≡ true = eq-eqb (chain_at h es met which q) (chain_of h (key e).0) (way l) in
      rw z (
        found (q + 1),
        ap (λ (k : ℕ). from k q) some ∙ here (n - (q + 1)) q on_it
            ∙ ap (λ (l : List (List ℕ)). under_at es met which e q ∷ l) (ap (from (n - (q + 1))) one ∙ to_first n (q + 1) (omega arith)),
      )

  pub walk_end : (q : ℕ) → length met / 5 ≤ q → from (length met / 5 - q) q ≡ []
  unfolding chained
  walk_end q l = let z : length met / 5 - q ≡ 0 = omega arith in ap (λ (k : ℕ). from k q) z

-- ---- read from the lists

module _ (t : Chains) (k : SortedKey) where
  abbrev h : ℕ
  h = length t.heads.now

  abbrev es : List Edge
  es = pairs t.meetings.edges.now

  abbrev met : List ℕ
  met = t.meetings.met.now

  abbrev which : ℕ
  which = number t.meetings.side

  -- what the walk has left at q
  abbrev left : ℕ → List (List ℕ)
  left q = chained h es met which (edge_of k) (length met / 5 - q) q

  abbrev pub OnChain : ℕ → Type 0
  OnChain q = q < length t.nexts.now → chain_in h t.meetings q ≡ chain_of h k.first

  pub nexts_long : length t.nexts.now ≡ length met / 5
  nexts_long = ap length t.nexts_are ∙ length_each (length met / 5) (next_at h es met which)

  key_first : chain_of h (key (edge_of k)).0 ≡ chain_of h k.first
  key_first = ap (λ (g : Edge). chain_of h g.0) (sorted_key k)

  module _ (c : ℕ) (c-is : c ≡ chain_of h k.first) where
    head : get_or t.heads.now c 0 ≡ head_at h es met which (chain_of h (key (edge_of k)).0)
    head =
        let f : ℕ → ℕ = head_at h es met which in
        ap (λ (l : List ℕ). get_or l c 0) t.heads_are ∙ get_or_each h f c 0 (omega (arith, c-is, t.some)) ∙ ap f (c-is ∙ sym key_first)

    pub starts_on : OnChain (get_or t.heads.now c 0)
    starts_on b = (walk_start h es met which (edge_of k) _ head).0 (omega (arith, b, nexts_long)) ∙ key_first

    pub starts_with_all : concat (left (get_or t.heads.now c 0)) ≡ under_in t.meetings (edge_of k)
    starts_with_all = (walk_start h es met which (edge_of k) _ head).1

  module _ (q : ℕ) (way : OnChain q) (b : q < length t.nexts.now) where
    link : get_or t.nexts.now q 0 ≡ next_at h es met which q
    link = ap (λ (l : List ℕ). get_or l q 0) t.nexts_are ∙ get_or_each (length met / 5) (next_at h es met which) q 0 (omega (arith, b, nexts_long))

    turn : OnIt h es met which (edge_of k) (get_or t.nexts.now q 0) × (left q ≡ under_at es met which (edge_of k) q ∷ left (get_or t.nexts.now q 0))
    turn = walk_turn h es met which (edge_of k) q (get_or t.nexts.now q 0) (λ l. way b ∙ sym key_first) (omega (arith, b, nexts_long)) link

    pub stays_on : OnChain (get_or t.nexts.now q 0)
    stays_on l = turn.0 (omega (arith, l, nexts_long)) ∙ key_first

    pub one_given : (part : List ℕ) → part ≡ under_at es met which (edge_of k) q → left q ≡ part ∷ left (get_or t.nexts.now q 0)
    one_given part e = turn.1 ∙ ap (λ (x : List ℕ). x ∷ left (get_or t.nexts.now q 0)) (sym e)

  pub chain_end : (q : ℕ) → length t.nexts.now ≤ q → left q ≡ []
  chain_end q b = walk_end h es met which (edge_of k) q (omega (arith, b, nexts_long))
