-- `printing::writer::Writer::put_pieces` meets its contract. Assumes nothing.
use Rattle.printing.proofs.Pages.{turn}
use Rattle.printing.proofs.Rests.{pieces_next}
use Rattle.printing.proofs.writer.Writer.put_pieces.Goals as goal

pub loop-nodes-preserved : goal.loop-nodes-preserved
loop-nodes-preserved c =
    let i = c.in-Some in
    let next = pieces_next c.loop-nodes.nodes-iterator c.next.new.self i.nodes i.kind i.family i.mesh i.cell i.ensures.steps in
    ((tt, ((tt, tt), (tt, tt))), tt, turn c.loop-nodes.invariant.2 next c.put_piece.ensures)
