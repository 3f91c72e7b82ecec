use Rattle.neighbours.proofs.Holding.{InCell}
use Rattle.neighbours.proofs.EdgeLists.add_cell.Given as goal

abbrev pub invariant-loop-i : goal.invariant-loop-i
invariant-loop-i l = InCell l.cell l.initial.self l.self l.i
