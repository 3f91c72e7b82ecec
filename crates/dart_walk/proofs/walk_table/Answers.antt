use Rattle.std.proofs.Common.{rules}
use Rattle.dart_walk.proofs.Answers.{all_copied, room_for, walked_as}
use Rattle.dart_walk.proofs.walk_table.Goals as goal

pub walk_on-requires : goal.walk_on-requires
walk_on-requires c =
    let a = c.args in
    let own = c.copy_at in
    room_for a.slots.now own.new.dst (all_copied _ _ _ (search rules) own.ensures.after) a.outline.now _ c.fill_heap.ensures _ _ c.requires.0 c.requires.1 c.requires.2 c.requires.3

pub returns : goal.returns
returns c =
    let a = c.args in
    let own = c.copy_at in
    walked_as a.slots.now own.new.dst (all_copied _ _ _ (search rules) own.ensures.after) a.outline.now _ c.fill_heap.ensures _ _ _ _ _ c.walk_on.ensures
