use mathlib.Core.Path.{◌∙◌}
use native.Mathlib.Omega.{arith}
use lib.ListN.{length}
use Rattle.cutting.specs.Walk.{srcs, dsts}
use Rattle.dart_walk.proofs.Heaps.{start_turn, start_end}
use Rattle.dart_walk.proofs.fill_heap.Goals as goal

pub loop-dart-preserved : goal.loop-dart-preserved
loop-dart-preserved c =
    let t = c.args.slots.now in (
      omega (arith, c.push.ensures.len, c.loop-dart.invariant.0),
      start_turn (length t) (srcs t) (dsts t) _ c.loop-dart.dart-index c.loop-dart.heap.items c.loop-dart.invariant.1 _ _ c.loop-dart-test.true
          (c.unwrap_or.ensures ∙ c.find.ensures.found) c.push.ensures.items,
    )

pub returns : goal.returns
returns c =
    let t = c.args.slots.now in
    start_end (length t) (srcs t) (dsts t) _ c.loop-dart.dart-index c.loop-dart.heap.items c.loop-dart.invariant.1 c.loop-dart-test.false
