use Rattle.strips.proofs.Samples.{picking_end}
use mathlib.Core.Path.{refl}
use Rattle.strips.proofs.building.pick.Goals as goal

pub returns : goal.returns
returns c = picking_end _ _ _ _ _ _ c.loop-t.invariant c.loop-t.auto.t-end c.loop-t-test.false refl
