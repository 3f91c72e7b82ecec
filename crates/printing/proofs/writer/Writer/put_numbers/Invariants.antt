-- `printing::writer::Writer::put_numbers` meets its contract. Assumes nothing.
use lib.ListN.{drop}
use Rattle.text.specs.Text.{numbers_text}
use Rattle.printing.proofs.Pages.{Left}
use Rattle.printing.proofs.writer.Writer.put_numbers.Given as goal

abbrev pub invariant-loop-n : goal.invariant-loop-n
invariant-loop-n l = Left l.initial.self l.self (numbers_text (drop l.n-index l.numbers)) (numbers_text l.numbers)
