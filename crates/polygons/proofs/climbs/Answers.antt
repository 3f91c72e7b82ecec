use Rattle.polygons.proofs.Steps.{at_top}
use Rattle.polygons.proofs.climbs.Goals as goal

pub returns : goal.returns
returns c = at_top _ _ _ _ c.above.ensures c.in_default.is c.loop-y.invariant
