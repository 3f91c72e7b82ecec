-- `DartTable::add_edge` meets its contract. Assumes nothing.
use mathlib.Core.Path.{sym, ap, ◌∙◌}
use mathlib.Core.Bool.{false}
use mathlib.Core.List.{[], ◌∷◌}
use lib.ListN.{length}
use Rattle.std.specs.List.{position}
use native.Mathlib.Omega.{arith}
use Rattle.cutting.specs.Cell.{names}
use Rattle.dart_table.proofs.Slots.{found_not}
use Rattle.dart_table.proofs.Adds.{darts_full, darts_fit, edge_new}
use Rattle.dart_table.specs.Table.{Darts}
use Rattle.dart_table.proofs.DartTable.add_edge.Goals as goal

pub returns-then-slots-gt1024-clause-table : goal.returns-then-slots-gt1024-clause-table
returns-then-slots-gt1024-clause-table c =
    let a = c.args in
    let is = c.find_slot.ensures ∙ ap (position (names a.a a.b)) c.slots.ensures.slots in
    darts_full a.coords.now false ((a.a, a.b) ∷ []) a.self.now.slots _ (omega (arith, ap length c.slots-2.ensures.slots)) c.if-slots-gt1024.true
    ∙ edge_new a.coords.now a.a a.b a.self.now.slots c.if-a-b.false (found_not (names a.a a.b) a.self.now.slots _ is (sym c.is_some.ensures ∙ c.if-is_some.false))

pub returns-clause-table : goal.returns-clause-table
returns-clause-table c =
    let a = c.args in
    let is = c.find_slot.ensures ∙ ap (position (names a.a a.b)) c.slots.ensures.slots in
    darts_fit a.coords.now false ((a.a, a.b) ∷ []) a.self.now.slots _ (omega (arith, ap length c.slots-2.ensures.slots)) (ap (λ (d : Darts). d.slots) c.add_dart.ensures)
    ∙ edge_new a.coords.now a.a a.b a.self.now.slots c.if-a-b.false (found_not (names a.a a.b) a.self.now.slots _ is (sym c.is_some.ensures ∙ c.if-is_some.false))
