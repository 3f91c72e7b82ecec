-- `outlines::edges_repeat` meets its contract: the edges that are left say what all say. Assumes nothing.
use mathlib.Core.Path.{◌≡◌}
use mathlib.Core.List.{map}
use lib.ListN.{length}
use Rattle.cutting.specs.Cell.{repeats}
use Rattle.cutting.specs.Lent.{pairs}
use Rattle.cutting.specs.Lent.{pair_of}
use Rattle.outlines.proofs.edges_repeat.Given as goal

abbrev pub invariant-loop-a : goal.invariant-loop-a
invariant-loop-a l = repeats (map pair_of l.rest) ≡ repeats (pairs l.edges)

abbrev pub decreases-loop-a : goal.decreases-loop-a
decreases-loop-a l = length l.rest
