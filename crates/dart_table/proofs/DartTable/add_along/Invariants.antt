-- `DartTable::add_along` meets its contract: what the windows so far come to. Assumes nothing.
use mathlib.Core.Path.{◌≡◌}
use Rattle.std.specs.Slice.Iter.{windows_rest, windows_size}
use Rattle.dart_table.proofs.Adds.{Laying}
use Rattle.dart_table.proofs.DartTable.add_along.Given as goal

abbrev pub invariant-loop-pair : goal.invariant-loop-pair
invariant-loop-pair l =
    (goal.iterator-loop-pair).can_next l.pair-iterator × (goal.iterator-loop-pair).is_finite l.pair-iterator
    × (windows_size l.pair-iterator ≡ 2) × Laying l.coords l.inv l.nodes l.initial.self (windows_rest l.pair-iterator) l.self
