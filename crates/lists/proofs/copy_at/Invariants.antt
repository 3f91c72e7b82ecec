-- `lists::copy_at` meets its contract. The invariant: dst is the list lent, with the first i of src from `at` on. Assumes nothing.
use mathlib.Core.Path.{◌≡◌}
use Prim.Native.Nat.{◌≤◌}
use lib.ListN.{length, take}
use Rattle.lists.specs.Regions.{put}
use Rattle.lists.proofs.copy_at.Given as goal

abbrev pub invariant-loop-i : goal.invariant-loop-i
invariant-loop-i g l = (l.i ≤ length l.src) × (length l.dst ≡ length l.initial.dst) × (l.dst ≡ put l.initial.dst l.at (take l.i l.src))
