use Rattle.strips.proofs.Samples.{Sorting}
use Rattle.strips.proofs.things.Things.sort_samples.Given as goal

abbrev pub invariant-loop-i : goal.invariant-loop-i
invariant-loop-i l = Sorting l.self.coords.now l.self.nodes.now l.self.ends.now l.axis l.k l.i l.order
