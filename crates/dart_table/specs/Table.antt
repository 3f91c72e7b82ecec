-- A cell's table and outline, and how they grow. Assumes nothing.
use Rattle.std.specs.Prelude.{Bool, false, cond, List, [], ◌∷◌, ◌++◌, ℕ, ◌+◌, ◌*◌, length, Float, Result, Ok, Err, is_err}
use Rattle.lists.specs.Sort.{sort_onto}
use Rattle.dart_table.specs.declared.Full.{Full}
use Rattle.cutting.specs.declared.Slot.{Slot}
use Rattle.cutting.specs.Edges.{Edge}
use Rattle.cutting.specs.Cell.{edge_slots, is_new, stands_before}
use Rattle.cutting.specs.Outcome.{too_many}
use Rattle.cutting.specs.Lent.{flat_edges}

-- a table's slots in their order, and its outline's darts, a flat list of pairs
pub record Darts : Type 0 where
  pub slots : List Slot
  pub outline : List ℕ

abbrev pub darts : List Slot → List ℕ → Darts
darts slots outline = record { slots = slots; outline = outline }

-- a table's slots, after an answer
pub record Table : Type 0 where
  pub answer : Result (Unit {0}) Full
  pub slots : List Slot

-- the answer where there would be so many slots
abbrev pub full : ℕ → Result (Unit {0}) Full
full n = Err (record { slots = n })

abbrev pub table_in : Result (Unit {0}) Full → List Slot → Table
table_in r t = record { answer = r; slots = t }

-- The table with more darts, each with a slot at both its ends, the second one marked if `back` is true: all slots in the table's order. Over 1,024
-- slots are refused (10), with their number, and the table stays as it was.
unfoldable pub with_darts : List Float → Bool → List Edge → List Slot → Table
with_darts coords back more t = cond (too_many (length t + 2 * length more)) (table_in (full (length t + 2 * length more)) t)
    (table_in (Ok tt) (sort_onto (stands_before coords) t (edge_slots back more)))

-- the table with an edge near the cell, if that is new to it
unfoldable pub with_edge : List Float → Edge → List Slot → Table
with_edge coords e t = cond (is_new t e) (with_darts coords false (e ∷ []) t) (table_in (Ok tt) t)

-- with edges one after the other, until one is refused
unfoldable pub with_edges : List Float → List Edge → List Slot → Table
with_edges coords [] t = table_in (Ok tt) t
with_edges coords (e ∷ es) t =
    let u = with_edge coords e t in cond (is_err u.answer) u (with_edges coords es u.slots)

-- the outline of a table of n slots with more darts, or as it was where over 1,024 slots are refused
unfoldable pub outline_with : List Edge → ℕ → List ℕ → List ℕ
outline_with more n outline = cond (too_many (n + 2 * length more)) outline (outline ++ flat_edges more)
