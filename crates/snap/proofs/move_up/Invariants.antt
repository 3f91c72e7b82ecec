-- `snap::move_up` meets its contract. The loop's invariant: the entries from i on are moved. Assumes nothing.
use mathlib.Core.Path.{◌≡◌}
use Prim.Native.Nat.{◌+◌, ◌-◌, ◌≤◌}
use lib.ListN.{length}
use Rattle.lists.specs.Regions.{run, put}
use Rattle.snap.proofs.move_up.Given as goal

abbrev pub invariant-loop-i : goal.invariant-loop-i
invariant-loop-i l = (l.from ≤ l.i) × (length l.s ≡ length l.initial.s) × (l.s ≡ put l.initial.s (l.i + l.by) (run l.initial.s l.i (l.end - l.i)))
