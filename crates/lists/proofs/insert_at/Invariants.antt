-- `lists::insert_at` meets its contract. The invariant: the list is the one lent with its place n given up and some entry in place i. Assumes nothing.
use mathlib.Core.Path.{◌≡◌}
use Prim.Native.Nat.{◌≤◌}
use lib.ListN.{length}
use Rattle.lists.proofs.Insert.{shifted}
use Rattle.lists.proofs.insert_at.Given as goal

abbrev pub invariant-loop-i : goal.invariant-loop-i
invariant-loop-i g l = (l.k ≤ l.i) × (l.i ≤ l.n) × (length l.xs ≡ length l.initial.xs) × ((v : _) × (l.xs ≡ shifted l.initial.xs l.n l.i v))

abbrev pub decreases-loop-i : goal.decreases-loop-i
decreases-loop-i g l = l.i
