-- What the cells passed yield is placed. Assumes nothing.
use Rattle.lists.specs.Runs.{runs_left}
use Rattle.cutting_cells.proofs.Loop.{Going}
use Rattle.cutting_cells.proofs.Treatment.cut_cells.Given as goal

abbrev pub invariant-loop-i : goal.invariant-loop-i
invariant-loop-i l = Going l.self l.own l.stops l.first l.initial.lists l.lists l.i-iterator.count (runs_left l.i-iterator.iter)
