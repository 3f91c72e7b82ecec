use Rattle.neighbours.proofs.Holding.{cell_start, cell_turn, cell_end_lem}
use Rattle.neighbours.proofs.EdgeLists.add_cell.Goals as goal

pub loop-i-init : goal.loop-i-init
loop-i-init c = cell_start c.args.cell.now c.args.self.now c.requires

pub loop-i-preserved : goal.loop-i-preserved
loop-i-preserved c = cell_turn _ _ c.loop-i.self c.loop-i.i c.loop-i.invariant c.loop-i-test.true _ c.next_corner.ensures _ c.add_edge.ensures

pub returns : goal.returns
returns c = cell_end_lem _ _ c.loop-i.self c.loop-i.i c.loop-i.invariant c.loop-i-test.false
