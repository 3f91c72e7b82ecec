-- `DartTable::add_new` meets its contract: the windows left, added to the table as it stands, make the same table. Assumes nothing.
use mathlib.Core.Path.{◌≡◌}
use Rattle.std.specs.Slice.Iter.{windows_rest, windows_size}
use Rattle.cutting.specs.Cell.{windows}
use Rattle.dart_table.specs.Table.{with_edges}
use Rattle.dart_table.proofs.DartTable.add_new.Given as goal

abbrev pub invariant-loop-pair : goal.invariant-loop-pair
invariant-loop-pair l =
    (goal.iterator-loop-pair).can_next l.pair-iterator × (goal.iterator-loop-pair).is_finite l.pair-iterator
    × (windows_size l.pair-iterator ≡ 2)
    × (with_edges l.coords (windows (windows_rest l.pair-iterator)) l.self.slots ≡ with_edges l.coords (windows l.nodes) l.initial.self.slots)
    × (l.self.outline ≡ l.initial.self.outline)
