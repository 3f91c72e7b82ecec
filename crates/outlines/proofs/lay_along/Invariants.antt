-- `outlines::lay_along` meets its contract: what the first windows come to; the iterator has those of the other nodes left. Assumes nothing.
use mathlib.Core.Path.{◌≡◌}
use Rattle.outlines.proofs.Flat.{Laying}
use Rattle.outlines.proofs.lay_along.Given as goal

abbrev pub invariant-loop-pair : goal.invariant-loop-pair
invariant-loop-pair l =
    (goal.iterator-loop-pair).can_next l.pair-iterator
    × (goal.iterator-loop-pair).is_finite l.pair-iterator
    × (l.pair-iterator.size ≡ 2)
    × Laying l.inv l.nodes l.initial.darts l.darts l.pair-iterator.rest.now l.k
