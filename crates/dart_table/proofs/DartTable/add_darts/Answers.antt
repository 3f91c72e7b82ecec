-- `DartTable::add_darts` meets its contract. Assumes nothing.
use mathlib.Core.Path.{ap, ◌∙◌}
use native.Mathlib.Omega.{arith}
use lib.ListN.{length}
use Rattle.cutting.specs.Cell.{reverse_mark, darts_along}
use Rattle.dart_table.proofs.Adds.{darts_length, darts_full, darts_fit, outline_full, outline_fit}
use Rattle.dart_table.specs.Table.{Darts}
use Rattle.dart_table.proofs.DartTable.add_darts.Goals as goal

pub returns-then-slots-gt1024 : goal.returns-then-slots-gt1024
returns-then-slots-gt1024 c =
    let a = c.args in
    let count = darts_length a.second a.nodes.now c.requires in
    let slots = ap length c.slots.ensures.slots in
    record {
      table = darts_full a.coords.now reverse_mark (darts_along a.second a.nodes.now) a.self.now.slots _ (omega (arith, slots, count)) c.if-slots-gt1024.true;
      outline = outline_full (darts_along a.second a.nodes.now) (length a.self.now.slots) a.self.now.outline (omega (arith, slots, count, c.if-slots-gt1024.true));
    }

pub returns : goal.returns
unfolding darts_along
returns c =
    let a = c.args in
    let count = darts_length a.second a.nodes.now c.requires in
    let slots = ap length c.slots.ensures.slots in
    record {
      table = darts_fit a.coords.now reverse_mark (darts_along a.second a.nodes.now) a.self.now.slots _ (omega (arith, slots, count)) (ap (λ (d : Darts). d.slots) c.add_along.ensures);
      outline = ap (λ (d : Darts). d.outline) c.add_along.ensures
          ∙ outline_fit (darts_along a.second a.nodes.now) (length a.self.now.slots) a.self.now.outline (omega (arith, slots, count));
    }
