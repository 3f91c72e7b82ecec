use Rattle.strips.proofs.Strips.{Halving}
use Rattle.strips.proofs.squares.strip.Given as goal

abbrev pub invariant-loop-n : goal.invariant-loop-n
invariant-loop-n l = Halving l.coords l.bounds l.axis l.v l.lo l.n

abbrev pub decreases-loop-n : goal.decreases-loop-n
decreases-loop-n l = l.n
