use mathlib.Core.Path.{refl, sym, ◌∙◌}
use Rattle.refusals.proofs.Residual.{passed_on}
use Rattle.cutting_cells.proofs.Meshes.{asks_first, first_refused, first_only, asks_second, both_placed}
use Rattle.cutting_cells.proofs.cut_both.Goals as goal

pub cut_cells-requires : goal.cut_cells-requires
cut_cells-requires c =
    let a = c.args in
    asks_first a.lists.now c.requires.0 c.requires.1 _ refl refl _ c.part-own.ensures

pub returns-in_err-cut_cells-clause-placed : goal.returns-in_err-cut_cells-clause-placed
returns-in_err-cut_cells-clause-placed c =
    let a = c.args in
    rw (passed_on c.from_residual.result _ c.from_residual.ensures.1)
    (first_refused a.scene.grid a.lists.now c.requires.0 c.requires.1 c.keep_of.ensures c.part-own.ensures c.cut_cells.new.lists _ c.in_err-cut_cells.ensures.placed)

pub returns-then-not-cuts_both-clause-placed : goal.returns-then-not-cuts_both-clause-placed
returns-then-not-cuts_both-clause-placed c =
    let a = c.args in
    first_only a.scene.grid a.lists.now c.requires.0 c.requires.1 c.keep_of.ensures c.part-own.ensures c.cut_cells.new.lists c.in_ok-cut_cells.ensures.placed
    (sym c.cuts_both.ensures ∙ c.if-not-cuts_both.true)

pub cut_cells-requires-2 : goal.cut_cells-requires-2
cut_cells-requires-2 c =
    let a = c.args in
    let e = c.in_ok-cut_cells.ensures in
    asks_second a.scene.grid a.lists.now c.requires.0 c.requires.1 c.keep_of.ensures c.part-own.ensures c.cut_cells.new.lists e.placed
    (sym c.cuts_both.ensures ∙ c.if-not-cuts_both.false) c.part-own-2.ensures e.few _ refl refl

pub returns-clause-placed : goal.returns-clause-placed
returns-clause-placed c =
    let a = c.args in
    both_placed a.scene.grid a.lists.now c.requires.0 c.requires.1 c.keep_of.ensures c.part-own.ensures c.cut_cells.new.lists c.in_ok-cut_cells.ensures.placed
    (sym c.cuts_both.ensures ∙ c.if-not-cuts_both.false) c.part-own-2.ensures c.keep_of-2.ensures _ c.cut_cells-2.new.lists c.cut_cells-2.ensures.placed
