use Prim.Native.Nat.{◌+◌}
use Rattle.strips.proofs.Spans.{OnWay}
use Rattle.strips.proofs.squares.Span.narrowed.Given as goal

abbrev pub invariant-loop-r : goal.invariant-loop-r
invariant-loop-r l = OnWay l.initial.r l.r

abbrev pub decreases-loop-r : goal.decreases-loop-r
decreases-loop-r l = l.r.x1 + l.r.y1
