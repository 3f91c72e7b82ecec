use mathlib.Core.Path.{◌∙◌}
use Rattle.refusals.specs.Numbers.{number}
use Rattle.cutting_cells.proofs.Outcomes.{cell_refused, pieces_few}
use Rattle.cutting_cells.proofs.Treatment.overlay_cell.Goals as goal

pub returns-in-Ok-clause-few : goal.returns-in-Ok-clause-few
returns-in-Ok-clause-few c =
    pieces_few c.in-Ok.counts _ _ c.in-Ok.ensures.readable c.outcome.array_long c.outcome.array_long2 _ c.tag-tag.result c.place_pieces.result c.args.lists.now _
    c.place_pieces.ensures.placed

pub returns-in-Err-clause-placed : goal.returns-in-Err-clause-placed
returns-in-Err-clause-placed c =
    let a = c.args in
    let n = c.near-n in
    c.clear.ensures.cleared (number c.in-Err.why) ∙ cell_refused a.self.now a.cell.corners.now _ n.ensures.held _ _ _ _ c.in-Err.why c.in-Err.ensures.comes_to a.cell.number a.lists.now.placed _ _ _
