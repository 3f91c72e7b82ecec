-- `lists::marks::mark_named` meets its contract. The loop's invariant: the marks are those of the entries so far. Assumes nothing.
use mathlib.Core.Path.{◌≡◌}
use lib.ListN.{length}
use Rattle.lists.proofs.Marking.{marks_to}
use Rattle.lists.proofs.marks.mark_named.Given as goal

abbrev pub invariant-loop-v : goal.invariant-loop-v
invariant-loop-v l = l.marks ≡ marks_to l.nodes l.first (length l.initial.marks) l.v-index
