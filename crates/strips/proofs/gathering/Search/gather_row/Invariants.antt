use Rattle.strips.proofs.Rows.{InRow}
use Rattle.strips.proofs.gathering.Search.gather_row.Given as goal

abbrev pub invariant-loop-x : goal.invariant-loop-x
invariant-loop-x l = InRow l.self l.s l.y l.k l.initial.found l.x l.r l.found
