-- The edges of the first corners stand in front. Assumes nothing.
use Rattle.cutting_cells.proofs.Copy.{Sided}
use Rattle.cutting_cells.proofs.Cell.repeats.Given as goal

abbrev pub invariant-loop-i : goal.invariant-loop-i
invariant-loop-i l = Sided l.corners l.sides l.i
