-- `DartTable::add_own_edge` meets its contract. Assumes nothing.
use mathlib.Core.Path.{sym, ap, ◌∙◌}
use borrow.Author.Tests.{eqb-true}
use lib.ListN.{length}
use Rattle.cutting.specs.Cell.{reverse_mark}
use Rattle.dart_table.specs.Table.{with_darts, outline_with}
use Rattle.dart_table.proofs.Adds.{some_of, own_whole, own_along}
use Rattle.dart_table.proofs.DartTable.add_own_edge.Goals as goal

pub returns-then-is_empty : goal.returns-then-is_empty
returns-then-is_empty c =
    let a = c.args in
    let is = own_whole a.a a.b a.nodes.now (eqb-true (length a.nodes.now) 0 (sym c.is_empty.ensures ∙ c.if-is_empty.true)) in
    record {
      table = c.add_darts.ensures.table ∙ ap (λ es. with_darts a.coords.now reverse_mark es a.self.now.slots) is;
      outline = c.add_darts.ensures.outline ∙ ap (λ es. outline_with es (length a.self.now.slots) a.self.now.outline) is;
    }

pub returns : goal.returns
returns c =
    let a = c.args in
    let is = own_along a.a a.b a.nodes.now (some_of a.nodes.now (sym c.is_empty.ensures ∙ c.if-is_empty.false)) in
    record {
      table = c.add_darts-2.ensures.table ∙ ap (λ es. with_darts a.coords.now reverse_mark es a.self.now.slots) is;
      outline = c.add_darts-2.ensures.outline ∙ ap (λ es. outline_with es (length a.self.now.slots) a.self.now.outline) is;
    }
