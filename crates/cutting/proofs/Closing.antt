-- The theorem: the pieces of a cell close up to its outline as cut. Assumes nothing.
use mathlib.Core.Path.{◌≡◌}
use mathlib.Core.Logic.{◌⊎◌}
use mathlib.Core.Bool.{true, false, cond}
use mathlib.Core.List.{List}
use Prim.Native.Nat.{ℕ}
use lib.ListN.{length}
use lib.Ieee.{Float}
use Rattle.cutting.specs.Edges.{Edge, ring, rings}
use Rattle.cutting.specs.Cell.{Laid, cell_table, copied_table, doubled, repeats}
use Rattle.cutting.specs.declared.Slot.{Slot}
use Rattle.cutting.specs.Walk.{closed, stuck, walk}
use Rattle.cutting.specs.Outcome.{pieces, refusal, of_walk, closes_up, too_many, cut_outcome, copied_outcome}
use Rattle.cutting.specs.Areas.{ClosesUp, Round}
use Rattle.cutting.proofs.Cells as cells
use Rattle.cutting.proofs.Once as once

-- for any coordinates, any outline and any near edges
module _ (coords : List Float) (outline : List Edge) (near : List Laid) where
  -- The walk of a cell ends: with pieces, or with refusal 11.
  pub walk_ends : ((ps : List (List ℕ)) × (walk outline (cell_table coords outline near) ≡ closed ps)) ⊎ (walk outline (cell_table coords outline near) ≡ stuck)
  walk_ends = cells.walk_ends true coords outline near

  -- It ends with pieces wherever the outline has as many darts into each node as out of it: refusal 11 is left for an outline that doesn't close.
  pub round_closes : Round outline → (ps : List (List ℕ)) × (walk outline (cell_table coords outline near) ≡ closed ps)
  round_closes = cells.round_closes coords outline near

  -- In a cell whose outline as cut doesn't repeat and whose walk closes pieces, these use each outline dart exactly once, its reverse never, and any other
  -- edge exactly once each way or not at all; and their exact doubled signed areas add up to that of the outline.
  pub closes_up_lem : repeats outline ≡ false → (ps : List (List ℕ)) → walk outline (cell_table coords outline near) ≡ closed ps → ClosesUp coords outline ps
  closes_up_lem = cells.closes_up_lem true coords outline near

  -- The same of the pieces of a cell that gives no refusal, with no condition on its table.
  pub accepted_closes_up : (ps : List (List ℕ)) → cut_outcome outline (cell_table coords outline near) ≡ pieces ps → ClosesUp coords outline ps
  accepted_closes_up = cells.accepted_closes_up true coords outline near

  -- So the part of refusal 11 after the walk never fires.
  pub test_passes : repeats outline ≡ false → (ps : List (List ℕ)) → walk outline (cell_table coords outline near) ≡ closed ps → closes_up outline (rings ps) ≡ true
  test_passes = cells.test_passes true coords outline near

  -- A cut cell's outcome is the same without it.
  pub without_test : cut_outcome outline (cell_table coords outline near)
      ≡ cond (repeats outline) (refusal 19) (cond (too_many (length (cell_table coords outline near))) (refusal 10) (of_walk (walk outline (cell_table coords outline near))))
  without_test = cells.without_test true coords outline near

  -- And its table names no neighbour twice, where its outline doesn't repeat.
  pub never_doubled : repeats outline ≡ false → doubled (cell_table coords outline near) ≡ false
  never_doubled = once.never_doubled coords outline near

-- Nor does that of a copied cell.
pub copy_never_doubled : (cell : List ℕ) → repeats (ring cell) ≡ false → doubled (copied_table cell) ≡ false
copy_never_doubled = once.copy_never_doubled

-- An outline that gives pieces, whatever its table, doesn't repeat; nor does a copied cell that is its one piece.
pub accepted_once : (outline : List Edge) (t : List Slot) (ps : List (List ℕ)) → cut_outcome outline t ≡ pieces ps → repeats outline ≡ false
accepted_once = cells.accepted_once true

pub copy_once : (cell : List ℕ) (ps : List (List ℕ)) → copied_outcome cell ≡ pieces ps → repeats (ring cell) ≡ false
copy_once = cells.copy_once

-- A copied cell that gives no refusal is its own one piece, and closes up to its own edges.
pub copy_closes_up : (coords : List Float) (cell : List ℕ) (ps : List (List ℕ)) → copied_outcome cell ≡ pieces ps → ClosesUp coords (ring cell) ps
copy_closes_up = cells.copy_closes_up
