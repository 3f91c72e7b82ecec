use Rattle.lists.specs.Runs.{runs, runs_left}
use Rattle.neighbours.proofs.Holding.{InCells}
use Rattle.neighbours.proofs.EdgeLists.add_cells.Given as goal

abbrev pub invariant-loop-cell : goal.invariant-loop-cell
invariant-loop-cell l =
    (goal.iterator-loop-cell).can_next l.cell-iterator × (goal.iterator-loop-cell).is_finite l.cell-iterator
    × InCells (runs l.nodes l.cells) (runs_left l.cell-iterator) l.initial.self l.self
