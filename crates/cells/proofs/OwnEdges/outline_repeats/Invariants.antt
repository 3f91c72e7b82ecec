-- `OwnEdges::outline_repeats` meets its contract: the own edges from `i` on say what all say. Assumes nothing.
use mathlib.Core.Path.{◌≡◌}
use Rattle.cutting.specs.Cell.{repeats}
use Rattle.cells.specs.Near.{outline_of, outline_from}
use Rattle.cells.proofs.OwnEdges.outline_repeats.Given as goal

abbrev pub invariant-loop-i : goal.invariant-loop-i
invariant-loop-i l = repeats (outline_from l.self l.i) ≡ repeats (outline_of l.self)
