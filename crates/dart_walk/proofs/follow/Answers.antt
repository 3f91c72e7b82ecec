use Rattle.dart_walk.proofs.Heaps.{at_end}
use Rattle.dart_walk.proofs.Slots.{followed}
use Rattle.dart_walk.proofs.follow.Goals as goal

pub returns : goal.returns
returns c = followed c.args.slots.now c.args.i _ c.requires.0 _ _ _ c.in_ok-back.ensures.within c.in_ok-back.ensures.found (at_end _ _ _ c.push.ensures.items)
