-- `OwnEdges::meets_later` meets its contract: the own edges from `j` on say what those from `k` on say. Assumes nothing.
use mathlib.Core.Path.{◌≡◌}
use Rattle.cutting.specs.Lent.{pairs}
use Rattle.outlines.specs.Meets.{edges_meet}
use Rattle.cells.specs.Near.{outline_from}
use Rattle.cells.proofs.OwnEdges.meets_later.Given as goal

abbrev pub invariant-loop-j : goal.invariant-loop-j
invariant-loop-j l = edges_meet (pairs l.darts) (outline_from l.self l.j) ≡ edges_meet (pairs l.darts) (outline_from l.self l.k)
