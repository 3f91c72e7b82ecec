-- `overlay::Call::run` meets its contract. Assumes nothing.
use Rattle.overlay.proofs.Whole.{answer_is}
use Rattle.overlay.proofs.Call.run.Goals as goal

pub returns-clause-answer : goal.returns-clause-answer
returns-clause-answer c =
    answer_is _ _ _ _ _ _ c.point_room-points.ensures c.piece_room-room.ensures _ _ _ _ _ _ c.in_ok-counts.ensures.placed c.place.auto.coords c.place.auto.layers _ _ _ _
    c.write_kinds.ensures c.write_families.ensures c.write_parents.ensures
