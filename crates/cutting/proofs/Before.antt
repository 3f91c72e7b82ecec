-- W14: where a cell's table as built before names no neighbour twice, its table is the one of before, and so is what it comes to. Assumes nothing.
use mathlib.Core.Path.{◌≡◌, refl, sym, ap, ap₂, ◌∙◌}
use mathlib.Core.Bool.{Bool, true, false, cond, not, ◌&&◌}
use mathlib.Core.List.{List, [], ◌∷◌, ◌++◌}
use Prim.Native.Nat.{ℕ, ◌+◌, ◌≤◌}
use native.Mathlib.Omega.{arith}
use lib.ListN.{length}
use lib.Ieee.{Float}
use borrow.Author.Tests.{eq-eqb, ne_eqb}
use Rattle.lists.specs.Search.{bit}
use Rattle.lists.specs.Gather.{tally, passing, joined}
use Rattle.lists.specs.Sort.{sorted}
use Rattle.cutting.specs.Edition.{Edition}
use Rattle.cutting.specs.Edges.{Edge, key, hops, ring, hit, times}
use Rattle.cutting.specs.Cell.{Laid, near_darts, among, repeats, edge_slots, table, names, is_new, new_to, unless_outline, inner, inner_with}
use Rattle.cutting.specs.declared.Slot.{Slot}
use Rattle.cutting.specs.Cell.{stands_before, cell_table, cell_table_with, copied_table, doubled}
use Rattle.cutting.specs.Walk.{walk_with}
use Rattle.cutting.specs.Outcome.{Outcome, refusal, pieces, of_walk, after_walk, too_many, cut_outcome_with, copied_outcome_with}
use Rattle.cutting.proofs.EdgeLaws.{hit_self}
use Rattle.cutting.proofs.Tables.{single}
use Rattle.cutting.proofs.CellLaws.{sorted_table}
use Rattle.cutting.proofs.Repeats.{none_among, once_not}
use Rattle.cutting.proofs.Once.{new_is, one_named, table_named, outline_named}

-- ---- the same edges

-- adding these edges to the table names no neighbour twice
abbrev OnceWith : List Slot → List Edge → Type 0
OnceWith t es = (a b : ℕ) → tally (names a b) t + (times a b es + times b a es) ≤ 1

-- then the first of them is new
first_new : (t : List Slot) (e : Edge) (es : List Edge) → OnceWith t (e ∷ es) → is_new t e ≡ true
unfolding is_new times
first_new t e es once =
    let k = once e.0 e.1 in
    let s = hit_self e.0 e.1 in
    let apart : e.0 ≡ e.1 → ⊥ = λ q. omega (arith, k, s, ap₂ (λ (u v : ℕ). hit u v e.0 e.1) (sym q) q) in
    ap₂ (λ (x y : Bool). not x && y) (ne_eqb e.0 e.1 apart) (eq-eqb (tally (names e.0 e.1) t) 0 (omega (arith, k, s)))

next_once : (t : List Slot) (e : Edge) (es : List Edge) → OnceWith t (e ∷ es) → OnceWith (edge_slots false (e ∷ []) ++ t) es
unfolding times
next_once t e es once a b = omega (arith, once a b, one_named false a b e t)

module _ (outline : List Edge) where
  -- a table that has the outline
  abbrev Has : List Slot → Type 0
  Has t = (a b : ℕ) → tally (names a b) (table outline []) ≤ tally (names a b) t

  has_more : (t : List Slot) (e : Edge) → Has t → Has (edge_slots false (e ∷ []) ++ t)
  has_more t e h a b = omega (arith, h a b, one_named false a b e t)

  -- of some edges those that pass q, then others
  module _ (q : Edge → Bool) (passes : (t : List Slot) → Has t → (e : Edge) → is_new t e ≡ true → q e ≡ true) (fs gs : List Edge)
      (rest : (t : List Slot) → Has t → OnceWith t gs → new_to t fs ≡ gs) where
    some_same : (es : List Edge) (t : List Slot) → Has t → OnceWith t (passing q es ++ gs) → new_to t (es ++ fs) ≡ passing q es ++ gs
    unfolding passing new_to
    some_same [] t h once = rest t h once
    some_same (e ∷ es) t h once =
        go (q e) refl once (λ o. some_same es (edge_slots false (e ∷ []) ++ t) (has_more t e h) o) (λ o. some_same es t h o)
      where
        go : (x : Bool) → q e ≡ x → (let l : List Edge = elim x [ true ↦ e ∷ passing q es | false ↦ passing q es ] in OnceWith t (l ++ gs))
            → (OnceWith (edge_slots false (e ∷ []) ++ t) (passing q es ++ gs) → new_to (edge_slots false (e ∷ []) ++ t) (es ++ fs) ≡ passing q es ++ gs)
            → (OnceWith t (passing q es ++ gs) → new_to t (es ++ fs) ≡ passing q es ++ gs)
            → let l : List Edge = elim x [ true ↦ e ∷ passing q es | false ↦ passing q es ] in new_to t (e ∷ (es ++ fs)) ≡ l ++ gs
        go true p o ih ih' =
            ap (λ (y : Bool). elim y [ true ↦ e ∷ new_to (edge_slots false (e ∷ []) ++ t) (es ++ fs) | false ↦ new_to t (es ++ fs) ]) (first_new t e (passing q es ++ gs) o)
            ∙ ap (λ (l : List Edge). e ∷ l) (ih (next_once t e (passing q es ++ gs) o))
        go false p o ih ih' = ap (λ (y : Bool). elim y [ true ↦ e ∷ new_to (edge_slots false (e ∷ []) ++ t) (es ++ fs) | false ↦ new_to t (es ++ fs) ]) (old (is_new t e) refl) ∙ ih' o
          where
            old : (y : Bool) → is_new t e ≡ y → is_new t e ≡ false
            old true n = let z : ◌≡◌ {A = ℕ} 1 0 = ap bit (sym (passes t h e n) ∙ p) in absurd (omega arith)
            old false n = n

  passes_window : (t : List Slot) → Has t → (e : Edge) → is_new t e ≡ true → not (among e outline) ≡ true
  passes_window t h e n = ap not (none_among e outline (omega (arith, (new_is t e n).1, h e.0 e.1, outline_named outline e.0 e.1)))

  all_same : (near : List Laid) (t : List Slot) → Has t → OnceWith t (inner_with false outline near) → new_to t (joined near_darts near) ≡ inner_with false outline near
  unfolding inner_with joined near_darts new_to passing
  all_same [] t h once = refl
  all_same (l ∷ near) t h once = go l.nodes once (λ u k o. all_same near u k o)
    where
      gs : List Edge
      gs = joined (λ l. unless_outline outline l.edge l.nodes) near

      fs : List Edge
      fs = joined near_darts near

      go : (ns : List ℕ) → OnceWith t (unless_outline outline l.edge ns ++ gs) → ((u : List Slot) → Has u → OnceWith u gs → new_to u fs ≡ gs)
          → new_to t (near_darts (record { edge = l.edge; nodes = ns }) ++ fs) ≡ unless_outline outline l.edge ns ++ gs
      go [] o rest = some_same (λ e. true) (λ u k e n. refl) fs gs rest (key l.edge ∷ []) t h o
      go (n ∷ ns) o rest = some_same (λ f. not (among f outline)) passes_window fs gs rest (hops n ns) t h o

module _ (coords : List Float) (outline : List Edge) (near : List Laid) (clean : doubled (cell_table_with false coords outline near) ≡ false) where
  once_each : (a b : ℕ) → times a b outline + times b a outline + (times a b (inner_with false outline near) + times b a (inner_with false outline near)) ≤ 1
  once_each a b = omega (
    arith,
    single (cell_table_with false coords outline near) clean a b,
    sorted_table false coords outline near (names a b),
    table_named outline (inner_with false outline near) a b,
  )

  -- its outline doesn't repeat
  pub outline_once : repeats outline ≡ false
  outline_once = once_not outline (λ a b. omega (arith, once_each a b))

  inner_kept : inner outline near ≡ inner_with false outline near
  unfolding inner_with
  inner_kept = all_same outline near (table outline []) (λ a b. omega arith) (λ a b. omega (arith, once_each a b, outline_named outline a b))

  -- its table is the same, slot by slot
  pub table_kept : cell_table coords outline near ≡ cell_table_with false coords outline near
  unfolding cell_table_with
  table_kept = ap (λ (es : List Edge). sorted (stands_before coords) (table outline es)) inner_kept

  -- and so are its pieces, or its refusal, whether a walk may turn back or not
  pub outcome_kept : (turning grids layers : Bool) → let by : Bool → Edition = λ once. record { turning = turning; once = once; grids = grids; layers = layers } in
      cut_outcome_with (by true) outline (cell_table coords outline near) ≡ cut_outcome_with (by false) outline (cell_table_with false coords outline near)
  unfolding cut_outcome_with
  outcome_kept turning grids layers =
      let t = cell_table_with false coords outline near in
      let walked : Bool → Outcome = λ unasked. cond (too_many (length t)) (refusal 10) (after_walk outline unasked (of_walk (walk_with turning outline t))) in
      ap (cut_outcome_with (record { turning = turning; once = true; grids = grids; layers = layers }) outline) table_kept
      ∙ ap (λ (b : Bool). cond b (refusal 19) (walked false)) outline_once ∙ sym (ap walked clean)

-- a copied cell too
pub copy_kept : (cell : List ℕ) → doubled (copied_table cell) ≡ false → copied_outcome_with true cell ≡ copied_outcome_with false cell
unfolding copied_table
copy_kept cell clean =
    let once : repeats (ring cell) ≡ false = once_not (ring cell) (λ a b. omega (arith, single (table (ring cell) []) clean a b, outline_named (ring cell) a b)) in
    ap (λ (b : Bool). cond b (refusal 19) (pieces (cell ∷ []))) once
