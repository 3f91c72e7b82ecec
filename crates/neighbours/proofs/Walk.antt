-- The walk along a chain, read from the lists. Assumes nothing.
use mathlib.Core.Path.{◌≡◌, refl, sym, ap, ap₂, ◌∙◌}
use mathlib.Core.List.{List, [], ◌∷◌}
use Prim.Native.Nat.{ℕ, suc, ◌+◌, ◌*◌, ◌-◌, ◌/◌, ◌≤◌, ◌<◌}
use native.Mathlib.Omega.{arith}
use lib.ListN.{length, get_or, take}
use lib.Seq.{get_or-take, length-take-le}
use borrow.Author.Tests.{eq-eqb}
use Rattle.std.specs.List.{list_any}
use Rattle.std.specs.Simd.{first_chunks}
use Rattle.std.proofs.lemmas.List.{get_or_default}
use Rattle.lists.specs.Search.{has}
use Rattle.cutting.specs.Edges.{Edge, edge_at, same_key}
use Rattle.cutting.specs.Lent.{pairs}
use Rattle.cutting.proofs.Pairs.{pairs_at}
use Rattle.cutting.proofs.Chunks.{chunk_at}
use Rattle.keys.specs.Chains.{chain_of, edge_chain}
use Rattle.keys.specs.declared.SortedKey.{SortedKey}
use Rattle.neighbours.specs.declared.EdgeLists.{EdgeLists}
use Rattle.neighbours.specs.Chains.{last_below, on_chain, edges_below}
use Rattle.neighbours.specs.Held.{edges_in}
use Rattle.neighbours.specs.Chain.{on_key_chain}
use Rattle.neighbours.proofs.Chains.{last_le, one_on, from_last, search_chain}
use Rattle.neighbours.proofs.Holding.{count, own_key}

module _ (l : EdgeLists) where
  abbrev es : List Edge
  es = edges_in l

  abbrev h : ℕ
  h = length l.heads.now

  -- an edge is a pair of numbers
  pub edge_read : (i : ℕ) (chunks : List (List ℕ)) → chunks ≡ first_chunks 2 (length l.edges.now / 2) l.edges.now → length chunks ≡ length l.edges.now / 2 → i < l.count
      → ◌≡◌ {A = Edge} (get_or (get_or chunks i []) 0 0, get_or (get_or chunks i []) 1 0) (edge_at es i)
  edge_read i chunks e m b =
      let n : ℕ = 2 * l.count in
      let long : length (take n l.edges.now) ≡ n = length-take-le n l.edges.now l.fits in
      let whole : edge_at (pairs l.edges.now) i ≡ (get_or l.edges.now (2 * i) 0, get_or l.edges.now (2 * i + 1) 0) = pairs_at l.edges.now i (omega (arith, b, l.fits)) in
      let front : edge_at es i ≡ (get_or l.edges.now (2 * i) 0, get_or l.edges.now (2 * i + 1) 0) = pairs_at (take n l.edges.now) i (omega (arith, b, long))
      ∙ ap₂ (λ (x y : ℕ). (x, y)) (get_or-take n l.edges.now (2 * i) 0 (omega (arith, b))) (get_or-take n l.edges.now (2 * i + 1) 0 (omega (arith, b))) in
      chunk_at l.edges.now chunks i (get_or chunks i []) e (get_or_default chunks i [] (0 ∷ 0 ∷ []) (omega (arith, m, b, l.fits))) ∙ whole ∙ sym front

  -- ---- the first of them

  module _ (c : ℕ) (low : c < h) where
    head : get_or l.heads.now c 0 ≡ last_below (on_chain h es c) (length es)
    head = l.chained.head c low

    pub starts_within : get_or l.heads.now c 0 ≤ l.count
    starts_within = omega (arith, head, last_le (on_chain h es c) (length es), count l)

    pub starts_with_all : (k : SortedKey) → c ≡ chain_of h k.first
        → let at : ℕ = get_or l.heads.now c 0 in edges_below h es (edge_chain h (edge_at es (at - 1))) at ≡ on_key_chain l k
    starts_with_all k e = from_last h es c (get_or l.heads.now c 0) (length es) head ∙ ap (λ (d : ℕ). edges_below h es d (length es)) e

  -- a search along a key's chain finds what a search of all would
  pub search_along : (k : SortedKey) → let f : Edge = (k.first, k.second) in
      list_any (λ e. same_key e f) (on_key_chain l k) ≡ has (λ i. same_key (edge_at es i) f) (length es)
  search_along k =
      let f : Edge = (k.first, k.second) in
      ap (λ (x : Edge). list_any (λ e. same_key e f) (edges_below h es (chain_of h x.0) (length es))) (own_key k) ∙ search_chain h es f (length es)

  -- ---- from one to the next

  module _ (i : ℕ) (low : i < l.count) where
    link : get_or l.nexts.now i 0 ≡ last_below (on_chain h es (edge_chain h (edge_at es i))) i
    link = l.chained.next i (omega (arith, low, count l))

    pub link_within : get_or l.nexts.now i 0 ≤ l.count
    link_within = omega (arith, low, link, last_le (on_chain h es (edge_chain h (edge_at es i))) i)

    pub one_given : let at : ℕ = get_or l.nexts.now i 0 in edges_below h es (edge_chain h (edge_at es i)) (i + 1)
        ≡ edge_at es i ∷ edges_below h es (edge_chain h (edge_at es (at - 1))) at
    one_given =
        let d : ℕ = edge_chain h (edge_at es i) in
        let one : i + 1 ≡ suc i = omega arith in
        ap (edges_below h es d) one ∙ one_on h es d i (eq-eqb d d refl) ∙ ap (λ (r : List Edge). edge_at es i ∷ r) (sym (from_last h es d (get_or l.nexts.now i 0) i link))
