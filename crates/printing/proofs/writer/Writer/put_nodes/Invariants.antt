-- `printing::writer::Writer::put_nodes` meets its contract. Assumes nothing.
use mathlib.Core.Path.{◌≡◌}
use Rattle.std.specs.Slice.Iter.{chunks_exact_size}
use Rattle.std.specs.Iterator.Adapters.{zip_first}
use Rattle.text.specs.Text.{nodes_text}
use Rattle.printing.specs.Told.{bits}
use Rattle.printing.proofs.Pages.{Left}
use Rattle.printing.proofs.Rests.{nodes_left}
use Rattle.printing.proofs.writer.Writer.put_nodes.Given as goal

abbrev pub invariant-loop-node : goal.invariant-loop-node
invariant-loop-node l =
    (goal.iterator-loop-node).can_next l.node-iterator ×
    (goal.iterator-loop-node).is_finite l.node-iterator ×
    (chunks_exact_size (zip_first l.node-iterator) ≡ 2) ×
    Left l.initial.self l.self (nodes_left l.node-iterator) (nodes_text (bits l.coords) l.layers)
