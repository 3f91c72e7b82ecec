use mathlib.Core.Path.{ap, ◌∙◌}
use Rattle.lists.specs.Runs.{runs_left}
use Rattle.neighbours.proofs.Holding.{cells_start, next_room, cells_turn, cells_end}
use Rattle.neighbours.proofs.EdgeLists.add_cells.Goals as goal

pub loop-cell-init : goal.loop-cell-init
loop-cell-init c =
    let a = c.args in
    (tt, tt, cells_start a.nodes.now a.cells.now a.self.now c.requires.room c.requires.rising _ (ap runs_left c.into_iter-cell-iterator.ensures.into_iter_gives ∙ c.new-cell-items.ensures))

pub add_cell-requires : goal.add_cell-requires
add_cell-requires c = next_room _ _ c.loop-cell.self c.in-Some.cell.now _ _ c.in-Some.ensures.steps c.loop-cell.invariant.2

pub loop-cell-preserved : goal.loop-cell-preserved
loop-cell-preserved c = (tt, tt, cells_turn _ _ c.loop-cell.self c.in-Some.cell.now _ _ c.in-Some.ensures.steps c.loop-cell.invariant.2 c.add_cell.new.self c.add_cell.ensures)

pub returns : goal.returns
returns c = cells_end _ _ _ _ _ c.in-None.ensures.steps.0 c.requires.none c.loop-cell.invariant.2
