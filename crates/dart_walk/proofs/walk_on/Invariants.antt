-- `dart_walk::walk_on` meets its contract. A turn of a loop is a step of the definition, and the invariants tie the lists to the definition's state
-- (`Turns`). The measure: twice the unmarked slots and the heap. Assumes nothing.
use mathlib.Core.Bool.{true}
use mathlib.Core.List.{reverse}
use Prim.Native.Nat.{◌+◌, ◌*◌, ◌≤◌}
use lib.ListN.{length}
use Rattle.cutting.specs.Walk.{resting, walk_from, srcs, dsts, marks_of}
use Rattle.cutting.proofs.Rounds.{unmarked}
use Rattle.dart_walk.proofs.Turns.{Inv, Inside}
use Rattle.dart_walk.proofs.walk_on.Given as goal

abbrev pub invariant-loop-first : goal.invariant-loop-first
invariant-loop-first l =
    Inv (length l.fn.slots) (srcs l.fn.slots) (dsts l.fn.slots) (walk_from true (length l.fn.slots) (srcs l.fn.slots) (dsts l.fn.slots) (marks_of l.fn.slots) (reverse l.fn.heap.items))
    (reverse l.fn.heap.items) l.fn.nodes l.fn.stops l.slots (reverse l.heap.items) l.nodes l.stops l.entries l.pieces resting

abbrev pub decreases-loop-first : goal.decreases-loop-first
decreases-loop-first l = 2 * unmarked (length l.fn.slots) (marks_of l.slots) + length (reverse l.heap.items)

abbrev pub invariant-loop-y : goal.invariant-loop-y
invariant-loop-y l =
    Inside (length l.fn.slots) (srcs l.fn.slots) (dsts l.fn.slots) (walk_from true (length l.fn.slots) (srcs l.fn.slots) (dsts l.fn.slots) (marks_of l.fn.slots) (reverse l.fn.heap.items))
    (reverse l.fn.heap.items) l.fn.nodes l.fn.stops l.slots (reverse l.heap.items) l.nodes l.stops l.entries l.pieces l.start l.at
    × (2 * unmarked (length l.fn.slots) (marks_of l.slots) + length (reverse l.heap.items) ≤ 2 * unmarked (length l.fn.slots) (marks_of l.initial.slots) + length (reverse l.initial.heap.items))

abbrev pub decreases-loop-y : goal.decreases-loop-y
decreases-loop-y l = 2 * unmarked (length l.fn.slots) (marks_of l.slots) + length (reverse l.heap.items)
