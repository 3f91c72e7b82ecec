use Rattle.strips.proofs.Rows.{InLevels}
use Rattle.strips.proofs.gathering.Search.gather_levels.Given as goal

abbrev pub invariant-loop-l : goal.invariant-loop-l
invariant-loop-l l = InLevels l.self l.initial.s l.most l.initial.found l.r l.s l._l l.found
