-- `dart_walk::fill_heap` meets its contract: the darts left, put on the heap as it stands, make the same heap. Assumes nothing.
use mathlib.Core.Path.{◌≡◌}
use mathlib.Core.List.{[], map, reverse}
use lib.ListN.{length, drop}
use Rattle.cutting.specs.Walk.{starts, srcs, dsts}
use Rattle.cutting.specs.Lent.{pairs, pair_of}
use Rattle.dart_walk.proofs.fill_heap.Given as goal

abbrev pub invariant-loop-dart : goal.invariant-loop-dart
invariant-loop-dart l =
    (length l.heap.items ≡ l.dart-index)
    × (starts (length l.slots) (srcs l.slots) (dsts l.slots) (map pair_of (drop l.dart-index l.dart-items)) (reverse l.heap.items)
    ≡ starts (length l.slots) (srcs l.slots) (dsts l.slots) (pairs l.outline) [])
