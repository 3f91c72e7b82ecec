-- Document 01's sample K1, from the bytes that are read to the bytes that are written. Assumes nothing.
use mathlib.Core.Path.{◌≡◌, refl, ap, ◌∙◌}
use mathlib.Core.List.{[]}
use Rattle.rules.proofs.Tables.{right_by}
use Rattle.text.specs.Text.{
  answer_text,
  listing_text,
  count_text,
  nodes_text,
  node_text,
  hex,
  hex_to,
  glyph,
  decimal,
  decimal_to,
  pieces_text,
  piece_text,
  piece_lines,
  cell_text,
  numbers_text,
}
use Rattle.text.specs.Given.{Parsed, Given}
use Rattle.std.specs.Prelude.{Some}
use Rattle.text.specs.Inputs.{given, read}
use Rattle.text.proofs.Samples.{k1, k1_text, k1_printed, k1_read}
use Rattle.printing.specs.Told.{bits}
use Rattle.program.specs.Answered.{blank, result_told, overlay_told, answer_given, answer_to}

-- what is printed for K1 as it was read, by computation through `overlay_of`
k1_printed_lem : answer_text (answer_given (Some (given k1, []))) ≡ k1_printed
unfolding answer_given overlay_told result_told blank bits read right_by answer_text listing_text count_text nodes_text node_text hex hex_to glyph decimal decimal_to pieces_text
    piece_text piece_lines cell_text numbers_text
k1_printed_lem = refl

-- "K1's input" and "It prints": the program's answer to the one is the other
pub k1_bytes : answer_to k1_text ≡ k1_printed
unfolding answer_to
k1_bytes = ap (λ (p : Parsed Given). answer_text (answer_given p)) k1_read ∙ k1_printed_lem
