-- An edge is added to a table once: a table whose outline doesn't repeat names no neighbour twice. Assumes nothing.
use mathlib.Core.Path.{◌≡◌, refl, sym, ap, ap₂, ◌∙◌}
use mathlib.Core.Bool.{Bool, true, false, not, ◌&&◌}
use mathlib.Core.List.{List, [], ◌∷◌, ◌++◌}
use Prim.Native.Nat.{ℕ, ◌+◌, ◌≤◌}
use native.Mathlib.Omega.{arith}
use lib.Dec.{eqb}
use lib.Ieee.{Float}
use borrow.Author.Tests.{eqb-true, eq-eqb}
use Rattle.lists.specs.Search.{bit}
use Rattle.lists.specs.Gather.{tally, joined}
use Rattle.lists.proofs.Search.{and_true}
use Rattle.lists.proofs.Gather.{tally_append}
use Rattle.cutting.specs.Edges.{Edge, ring, hit, times}
use Rattle.cutting.specs.Cell.{Laid, near_darts, edge_slots, reverse_mark, table, names, is_new, new_to, inner_with, cell_table, cell_table_with, copied_table, doubled, repeats}
use Rattle.cutting.specs.declared.Slot.{Slot}
use Rattle.cutting.proofs.EdgeLaws.{both}
use Rattle.cutting.proofs.Tables.{names_edges, not_twice}
use Rattle.cutting.proofs.Repeats.{repeats_not}
use Rattle.cutting.proofs.CellLaws.{sorted_table}

-- what is known of a new edge
pub new_is : (t : List Slot) (e : Edge) → is_new t e ≡ true → (e.0 ≡ e.1 → ⊥) × (tally (names e.0 e.1) t ≡ 0)
unfolding is_new
new_is t e h =
    let x = and_true (not (eqb e.0 e.1)) (eqb (tally (names e.0 e.1) t) 0) h in
    (λ q. let y : ◌≡◌ {A = ℕ} 0 1 = ap bit (sym (ap not (eq-eqb e.0 e.1 q)) ∙ x.0) in omega arith, eqb-true (tally (names e.0 e.1) t) 0 x.1)

-- both slots of an edge
pub one_named : (back : Bool) (a b : ℕ) (e : Edge) (t : List Slot) → tally (names a b) (edge_slots back (e ∷ []) ++ t) ≡ hit a b e.0 e.1 + hit b a e.0 e.1 + tally (names a b) t
unfolding times
one_named back a b e t = omega (arith, tally_append (names a b) (edge_slots back (e ∷ [])) t, names_edges back a b (e ∷ []))

abbrev Sym : List Slot → Type 0
Sym t = (a b : ℕ) → tally (names a b) t ≡ tally (names b a) t

abbrev Single : List Slot → Type 0
Single t = (a b : ℕ) → tally (names a b) t ≤ 1

module _ (t : List Slot) (e : Edge) (even : Sym t) where
  more_even : Sym (edge_slots false (e ∷ []) ++ t)
  more_even a b = omega (arith, one_named false a b e t, one_named false b a e t, even a b)

  more_single : Single t → is_new t e ≡ true → Single (edge_slots false (e ∷ []) ++ t)
  more_single once new a b = go (eqb e.0 a && eqb e.1 b) (eqb e.0 b && eqb e.1 a) refl refl (one_named false a b e t)
    where
      n : (e.0 ≡ e.1 → ⊥) × (tally (names e.0 e.1) t ≡ 0)
      n = new_is t e new

      go : (x y : Bool) → eqb e.0 a && eqb e.1 b ≡ x → eqb e.0 b && eqb e.1 a ≡ y
          → tally (names a b) (edge_slots false (e ∷ []) ++ t) ≡ bit x + bit y + tally (names a b) t → tally (names a b) (edge_slots false (e ∷ []) ++ t) ≤ 1
      go true true p q k =
          let f = both e.0 a e.1 b p in
          let g = both e.0 b e.1 a q in
          absurd (n.0 (f.0 ∙ sym g.1))
      go true false p q k =
          let f = both e.0 a e.1 b p in
          omega (arith, k, n.1, ap₂ (λ (u v : ℕ). tally (names u v) t) f.0 f.1)
      go false true p q k =
          let g = both e.0 b e.1 a q in
          omega (arith, k, n.1, ap₂ (λ (u v : ℕ). tally (names u v) t) g.0 g.1, even a b)
      go false false p q k = omega (arith, k, once a b)

new_single : (t : List Slot) (es : List Edge) → Sym t → Single t → (a b : ℕ) → tally (names a b) t + (times a b (new_to t es) + times b a (new_to t es)) ≤ 1
unfolding new_to times
new_single t [] even once a b = omega (arith, once a b)
new_single t (e ∷ es) even once a b =
    go (is_new t e) refl (new_single t es even once a b) (λ new. new_single (edge_slots false (e ∷ []) ++ t) es (more_even t e even) (more_single t e even once new) a b)
  where
    go : (x : Bool) → is_new t e ≡ x → tally (names a b) t + (times a b (new_to t es) + times b a (new_to t es)) ≤ 1
        → (is_new t e ≡ true → tally (names a b) (edge_slots false (e ∷ []) ++ t) +
        (times a b (new_to (edge_slots false (e ∷ []) ++ t) es) + times b a (new_to (edge_slots false (e ∷ []) ++ t) es)) ≤ 1)
        → let fs : List Edge = elim x [ true ↦ e ∷ new_to (edge_slots false (e ∷ []) ++ t) es | false ↦ new_to t es ] in tally (names a b) t + (times a b fs + times b a fs) ≤ 1
    go true h same more = omega (arith, more h, one_named false a b e t)
    go false h same more = same

-- ---- the table of a cell

pub table_named : (outline inside : List Edge) (a b : ℕ) → tally (names a b) (table outline inside) ≡ times a b outline + times b a outline + (times a b inside + times b a inside)
unfolding table
table_named outline inside a b = omega (
  arith,
  tally_append (names a b) (edge_slots reverse_mark outline) (edge_slots false inside),
  names_edges reverse_mark a b outline,
  names_edges false a b inside,
)

pub outline_named : (outline : List Edge) (a b : ℕ) → tally (names a b) (table outline []) ≡ times a b outline + times b a outline
unfolding times
outline_named outline a b = omega (arith, table_named outline [] a b)

-- no cell's table names a neighbour twice, where its outline doesn't repeat
pub never_doubled : (coords : List Float) (outline : List Edge) (near : List Laid) → repeats outline ≡ false → doubled (cell_table coords outline near) ≡ false
unfolding cell_table_with inner_with
never_doubled coords outline near h = not_twice (cell_table coords outline near) (λ a b.
    let even : Sym (table outline []) = λ x y. omega (arith, outline_named outline x y, outline_named outline y x) in
    let once : Single (table outline []) = λ x y. omega (arith, repeats_not outline h x y, outline_named outline x y) in
    omega (
      arith,
      sorted_table true coords outline near (names a b),
      table_named outline (new_to (table outline []) (joined near_darts near)) a b,
      new_single (table outline []) (joined near_darts near) even once a b,
      outline_named outline a b,
    ))

pub copy_never_doubled : (cell : List ℕ) → repeats (ring cell) ≡ false → doubled (copied_table cell) ≡ false
unfolding copied_table
copy_never_doubled cell h = not_twice (table (ring cell) []) (λ a b. omega (arith, repeats_not (ring cell) h a b, outline_named (ring cell) a b))
