-- `printing::writer::Writer::put_nodes` meets its contract. Assumes nothing.
use mathlib.Core.Path.{◌∙◌}
use native.Mathlib.Omega.{arith}
use Rattle.printing.proofs.Pages.{turn}
use Rattle.printing.proofs.Rests.{nodes_next}
use Rattle.printing.proofs.writer.Writer.put_nodes.Goals as goal

pub loop-node-preserved : goal.loop-node-preserved
loop-node-preserved c =
    let i = c.in-Some in
    let ((size, _, _), _) = i.ensures.steps in
    let (_, _, two, left) = c.loop-node.invariant in
    let next = nodes_next c.loop-node.node-iterator c.next.new.self two i.node i.layer i.ensures.steps in
    ((omega (arith, size, two), tt), tt, size ∙ two, turn left next c.put_node.ensures)
