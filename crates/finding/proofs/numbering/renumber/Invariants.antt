-- `finding::numbering::renumber` meets its contract. Assumes nothing.
use Rattle.finding.proofs.Welded.{Renumbered}
use Rattle.finding.proofs.numbering.renumber.Given as goal

abbrev pub invariant-loop-i : goal.invariant-loop-i
invariant-loop-i l = Renumbered l.initial.w l.cn l.at l.w l.i
