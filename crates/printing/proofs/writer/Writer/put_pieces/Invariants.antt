-- `printing::writer::Writer::put_pieces` meets its contract. Assumes nothing.
use Rattle.text.specs.Text.{pieces_text}
use Rattle.printing.specs.Told.{lines_of}
use Rattle.printing.proofs.Pages.{Left}
use Rattle.printing.proofs.Rests.{lines_left}
use Rattle.printing.proofs.writer.Writer.put_pieces.Given as goal

abbrev pub invariant-loop-nodes : goal.invariant-loop-nodes
invariant-loop-nodes l =
    (goal.iterator-loop-nodes).can_next l.nodes-iterator ×
    (goal.iterator-loop-nodes).is_finite l.nodes-iterator ×
    Left l.initial.self l.self (pieces_text (lines_left l.nodes-iterator)) (pieces_text (lines_of l.lists))
