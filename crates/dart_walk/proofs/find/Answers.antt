use Rattle.dart_walk.proofs.Slots.{slot_found}
use Rattle.dart_walk.proofs.find.Goals as goal

pub returns-clause-found : goal.returns-clause-found
returns-clause-found c = (slot_found c.args.a c.args.b c.args.slots.now _ c.find_slot.ensures).1
