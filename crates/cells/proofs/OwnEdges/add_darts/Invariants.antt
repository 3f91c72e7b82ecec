-- `OwnEdges::add_darts` meets its contract: what the own edges so far come to. Assumes nothing.
use Rattle.cells.proofs.Own.{Outlining}
use Rattle.cells.proofs.OwnEdges.add_darts.Given as goal

abbrev pub invariant-loop-i : goal.invariant-loop-i
invariant-loop-i l = Outlining l.self l.table l.i
