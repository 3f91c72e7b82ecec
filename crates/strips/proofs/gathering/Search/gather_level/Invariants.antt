use Rattle.strips.proofs.Rows.{InLevel}
use Rattle.strips.proofs.gathering.Search.gather_level.Given as goal

abbrev pub invariant-loop-y : goal.invariant-loop-y
invariant-loop-y l = InLevel l.self l.s l.k l.initial.found l.y l.r l.found
