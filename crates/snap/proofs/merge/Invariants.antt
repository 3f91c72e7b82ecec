-- `snap::merge` meets its contract. The loop's invariant: the first `end` of s and the first j nodes of `order` are left, the others stand behind. Assumes nothing.
use Rattle.snap.proofs.Moves.{Half}
use Rattle.snap.proofs.merge.Given as goal

abbrev pub invariant-loop-j : goal.invariant-loop-j
invariant-loop-j l = Half l.more.coords.now l.initial.s l.k l.more.order.now l.s l.end l.j
