use Rattle.strips.proofs.Samples.{Picking}
use Rattle.strips.proofs.building.pick.Given as goal

abbrev pub invariant-loop-t : goal.invariant-loop-t
invariant-loop-t l = Picking l.initial.bounds l.order l.side l.k l.t l.bounds
