-- What is left to exchange leads to what all the exchanges lead to.
use Rattle.std.proofs.Common.{◌≡◌, drop}
use Rattle.segments.specs.Scans.{sweep, swept}
use Rattle.segments.proofs.in_order.Given as goal

abbrev pub invariant-loop-i : goal.invariant-loop-i
invariant-loop-i l = sweep (drop l.i-index l.i-items) l.ends.ts l.ends.ids ≡ swept l.fn.ts
