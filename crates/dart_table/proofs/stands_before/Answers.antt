-- `dart_table::stands_before` meets its contract. Assumes nothing.
use Rattle.cutting.proofs.Orders.{stands_apart, stands_meet}
use Rattle.dart_table.proofs.stands_before.Goals as goal

pub returns-then-slot-other : goal.returns-then-slot-other
returns-then-slot-other c = stands_apart _ _ _ _ _ c.if-slot-other.true

pub returns : goal.returns
returns c =
    let s = c.args.slot in
    let o = c.args.other in
    stands_meet c.args.coords.now s.src s.dst o.src o.dst _ _ _ _ _ c.if-slot-other.false c.point_at-p.ensures
    c.point_at-q.ensures c.point_at-s.ensures c.compare_around.ensures.value c.is_lt.ensures
