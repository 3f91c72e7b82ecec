-- Document 01's sample K1, and texts that are and are not read. Assumes nothing.
use mathlib.Core.Path.{◌≡◌, refl}
use mathlib.Core.Bool.{Bool, true, false, ◌&&◌, not}
use mathlib.Core.List.{List, [], ◌∷◌, ◌++◌}
use Prim.Native.Nat.{ℕ}
use Prim.Native.String.{String}
use lib.Dec.{T}
use Rattle.std.specs.Prelude.{None, Some}
use Rattle.text.specs.Text.{
  bytes,
  Bits,
  overlay,
  answer_text,
  body_text,
  cell_text,
  cells_text,
  count_text,
  decimal,
  decimal_to,
  first_text,
  grid_text,
  glyph,
  hex,
  hex_to,
  input_text,
  listing_text,
  mesh_text,
  node_text,
  nodes_text,
  numbers_text,
  PieceLine,
  piece_text,
  pieces_text,
  piece_lines,
}
use Rattle.text.specs.Read.{input_from, first_from, grid_from, mesh_from, nodes_from, no_nodes, cells_from, repeated, add_node, node_step, node_from, entry_step, entries_from, head_from, cell_from}
use Rattle.text.specs.Read.{add_cell, cell_step, decimal_from, more_from, hex_from, digit_val, hex_val, word_from, after_word, and_then, if_word}
use Rattle.text.specs.Given.{Limits, at_most, limits}
use Rattle.text.specs.Inputs.{Input, text_of, given, read}
use Rattle.text.proofs.Lines.{nodes_given}

abbrev pub texts : List String → List ℕ
texts [] = []
texts (l ∷ ls) = bytes l ++ texts ls

abbrev pub k1_subject : Bits
k1_subject =
    record {
      coords = 0x0000000000000000 ∷ 0x0000000000000000 ∷ 0x4000000000000000 ∷ 0x0000000000000000 ∷ 0x4000000000000000 ∷ 0x4000000000000000 ∷
          0x0000000000000000 ∷ 0x4000000000000000 ∷ [];
      layers = 0 ∷ 0 ∷ 0 ∷ 0 ∷ [];
      nodes = 0 ∷ 1 ∷ 2 ∷ 3 ∷ [];
      ends = 4 ∷ [];
      kinds = 8 ∷ [];
      families = 7 ∷ [];
    }

abbrev pub k1_cutter : Bits
k1_cutter =
    record {
      coords = 0x3ff0000000000000 ∷ 0xbff0000000000000 ∷ 0x4008000000000000 ∷ 0xbff0000000000000 ∷ 0x4008000000000000 ∷ 0x4008000000000000 ∷
          0x3ff0000000000000 ∷ 0x4008000000000000 ∷ [];
      layers = 0 ∷ 0 ∷ 0 ∷ 0 ∷ [];
      nodes = 0 ∷ 1 ∷ 2 ∷ 3 ∷ [];
      ends = 4 ∷ [];
      kinds = 11 ∷ [];
      families = 0 ∷ [];
    }

abbrev pub k1 : Input
k1 = record { settings = record { op = 0; m = 9; grid = None }; subject = k1_subject; cutter = k1_cutter }

abbrev pub k1_text : List ℕ
k1_text =
    texts
    ("(overlay 0 9\n" ∷
    "(mesh\n" ∷
    "(node 0000000000000000 0000000000000000 0)\n" ∷
    "(node 4000000000000000 0000000000000000 0)\n" ∷
    "(node 4000000000000000 4000000000000000 0)\n" ∷
    "(node 0000000000000000 4000000000000000 0)\n" ∷
    "(cell 8 7 0 1 2 3)\n" ∷
    ")\n" ∷
    "(mesh\n" ∷
    "(node 3ff0000000000000 bff0000000000000 0)\n" ∷
    "(node 4008000000000000 bff0000000000000 0)\n" ∷
    "(node 4008000000000000 4008000000000000 0)\n" ∷
    "(node 3ff0000000000000 4008000000000000 0)\n" ∷
    "(cell 11 0 0 1 2 3)\n" ∷
    ")\n" ∷
    ")\n" ∷
    [])

abbrev most : Limits
most = at_most 512 512 2048

-- no more than 512 nodes, 512 cells and 2,048 entries, however long the lists are
document_limits : (limits 1024 512 2048 512 512 512 ≡ most) × (limits 4096 2048 8192 2048 2048 2048 ≡ most)
unfolding limits
document_limits = (refl, refl)

k1_text_lem : text_of k1 ≡ k1_text
unfolding input_text first_text grid_text mesh_text body_text nodes_text node_text hex hex_to glyph decimal decimal_to cells_text cell_text numbers_text
k1_text_lem = refl

pub k1_read : input_from most most k1_text ≡ Some (given k1, [])
unfolding input_from first_from grid_from mesh_from nodes_from cells_from repeated add_node node_step node_from entry_step entries_from head_from cell_from add_cell cell_step decimal_from more_from
    hex_from digit_val hex_val word_from after_word and_then if_word read
k1_read = refl

abbrev k1_coords : List ℕ
k1_coords =
    0x0000000000000000 ∷ 0x0000000000000000 ∷ 0x4000000000000000 ∷ 0x0000000000000000 ∷ 0x4000000000000000 ∷ 0x4000000000000000 ∷
    0x0000000000000000 ∷ 0x4000000000000000 ∷ 0x3ff0000000000000 ∷ 0xbff0000000000000 ∷ 0x4008000000000000 ∷ 0xbff0000000000000 ∷ 0x4008000000000000 ∷
    0x4008000000000000 ∷ 0x3ff0000000000000 ∷ 0x4008000000000000 ∷ 0x3ff0000000000000 ∷ 0x0000000000000000 ∷ 0x3ff0000000000000 ∷ 0x4000000000000000 ∷ []

abbrev k1_layers : List ℕ
k1_layers = 0 ∷ 0 ∷ 0 ∷ 0 ∷ 0 ∷ 0 ∷ 0 ∷ 0 ∷ 0 ∷ 0 ∷ []

abbrev k1_pieces : List PieceLine
k1_pieces =
    piece_lines 0 (3 ∷ 0 ∷ 8 ∷ 9 ∷ 9 ∷ 8 ∷ 1 ∷ 2 ∷ []) (4 ∷ 8 ∷ []) (11 ∷ 11 ∷ []) (7 ∷ 7 ∷ []) (0 ∷ 0 ∷ []) (0 ∷ 0 ∷ [])

abbrev pub k1_printed : List ℕ
k1_printed =
    texts
    ("(overlay\n" ∷
    "(node 0000000000000000 0000000000000000 0)\n" ∷
    "(node 4000000000000000 0000000000000000 0)\n" ∷
    "(node 4000000000000000 4000000000000000 0)\n" ∷
    "(node 0000000000000000 4000000000000000 0)\n" ∷
    "(node 3ff0000000000000 bff0000000000000 0)\n" ∷
    "(node 4008000000000000 bff0000000000000 0)\n" ∷
    "(node 4008000000000000 4008000000000000 0)\n" ∷
    "(node 3ff0000000000000 4008000000000000 0)\n" ∷
    "(node 3ff0000000000000 0000000000000000 0)\n" ∷
    "(node 3ff0000000000000 4000000000000000 0)\n" ∷
    "(cell 11 7 0 0 3 0 8 9)\n" ∷
    "(cell 11 7 0 0 9 8 1 2)\n" ∷
    "(count 2 2 0)\n" ∷
    ")\n" ∷
    [])

k1_answer : answer_text (overlay k1_coords k1_layers k1_pieces 2 2 0) ≡ k1_printed
unfolding answer_text listing_text count_text nodes_text node_text hex hex_to glyph decimal decimal_to pieces_text piece_text piece_lines cell_text numbers_text
k1_answer = refl

-- W2: cell 5 of the cutter has given this piece
parent_printed : piece_text (record { kind = 11; family = 7; mesh = 1; cell = 5; nodes = 3 ∷ 0 ∷ 8 ∷ [] }) ≡ bytes "(cell 11 7 1 5 3 0 8)\n"
unfolding piece_text cell_text numbers_text decimal decimal_to
parent_printed = refl

-- W7: the layer after y
layer_printed : node_text 0 10 4294967295 ≡ bytes "(node 0000000000000000 000000000000000a 4294967295)\n"
unfolding node_text hex hex_to glyph decimal decimal_to
layer_printed = refl

layers_read : nodes_from 3 no_nodes (texts
    ("(node 0000000000000000 000000000000000a 0)\n" ∷
    "(node 0000000000000000 000000000000000b 4294967295)\n" ∷
    "(node 0000000000000000 000000000000000c 1)\n" ∷
    [])) ≡ Some (nodes_given (0 ∷ 10 ∷ 0 ∷ 11 ∷ 0 ∷ 12 ∷ []) (0 ∷ 4294967295 ∷ 1 ∷ []), [])
unfolding nodes_from repeated add_node node_step node_from decimal_from more_from hex_from digit_val hex_val word_from after_word and_then if_word
layers_read = refl

-- W6: k after M where a grid is set
grid_printed : first_text (record { op = 0; m = 9; grid = Some 10 }) ≡ bytes "(overlay 0 9 10\n"
unfolding first_text grid_text decimal decimal_to
grid_printed = refl

grid_read : first_from (bytes "(overlay 0 9 10\n") ≡ Some (record { op = 0; m = 9; grid = Some 10 }, [])
unfolding first_from grid_from decimal_from more_from digit_val word_from after_word and_then if_word
grid_read = refl

-- ---- read or not
abbrev is_read : List ℕ → Bool
is_read t = elim (input_from most most t) [ None ↦ false | Some (g, u) ↦ true ]

abbrev every : (String → Bool) → List String → Bool
every p [] = true
every p (s ∷ ss) = p s && every p ss

read_samples : T (every (λ s. is_read (bytes s))
    ("(overlay 0 9\n(mesh\n(node 0000000000000000 000000000000000a 0)\n(cell 8 7 0 1)\n)\n(mesh\n)\n)\n" ∷
    "(overlay 4294967295 0\n(mesh\n(node 0000000000000000 000000000000000a 0)\n(cell 8 7 0 1)\n)\n(mesh\n)\n)\n" ∷
    "(overlay 0 9\n(mesh\n(node 0000000000000000 000000000000000a 0)\n(cell 255 4294967295)\n)\n(mesh\n)\n)\n" ∷
    "(overlay 0 9\n(mesh\n(node 7ff8000000000000 fff0000000000001 0)\n(cell 8 7 0 1)\n)\n(mesh\n)\n)\n" ∷
    "(overlay 0 9\n(mesh\n(node 0000000000000000 000000000000000a 1)\n(node 0000000000000000 000000000000000b 4294967295)\n)\n(mesh\n)\n)\n" ∷
    "(overlay 5 1\n(mesh\n)\n(mesh\n)\n)\n" ∷
    "(overlay 5 1 0\n(mesh\n)\n(mesh\n)\n)\n" ∷
    "(overlay 5 1 10\n(mesh\n)\n(mesh\n)\n)\n" ∷
    "(overlay 5 1 11\n(mesh\n)\n(mesh\n)\n)\n" ∷
    "(overlay 5 1 4294967295\n(mesh\n)\n(mesh\n)\n)\n" ∷
    []))
unfolding input_from first_from grid_from mesh_from nodes_from cells_from repeated add_node node_step node_from entry_step entries_from head_from cell_from add_cell cell_step decimal_from more_from
    hex_from digit_val hex_val word_from after_word and_then if_word
read_samples = tt

unread_samples : T (every (λ s. not (is_read (bytes s)))
    ("(overlay 00 9\n(mesh\n(node 0000000000000000 000000000000000a 0)\n(cell 8 7 0 1)\n)\n(mesh\n)\n)\n" ∷
    "(overlay 0 09\n(mesh\n(node 0000000000000000 000000000000000a 0)\n(cell 8 7 0 1)\n)\n(mesh\n)\n)\n" ∷
    "(overlay +0 9\n(mesh\n(node 0000000000000000 000000000000000a 0)\n(cell 8 7 0 1)\n)\n(mesh\n)\n)\n" ∷
    "(overlay 0  9\n(mesh\n(node 0000000000000000 000000000000000a 0)\n(cell 8 7 0 1)\n)\n(mesh\n)\n)\n" ∷
    " (overlay 0 9\n(mesh\n(node 0000000000000000 000000000000000a 0)\n(cell 8 7 0 1)\n)\n(mesh\n)\n)\n" ∷
    "(overlay 0 9 \n(mesh\n(node 0000000000000000 000000000000000a 0)\n(cell 8 7 0 1)\n)\n(mesh\n)\n)\n" ∷
    "(overlay 0 9\r\n(mesh\n(node 0000000000000000 000000000000000a 0)\n(cell 8 7 0 1)\n)\n(mesh\n)\n)\n" ∷
    "(overlay 5 1  3\n(mesh\n)\n(mesh\n)\n)\n" ∷
    "(overlay 5  1 3\n(mesh\n)\n(mesh\n)\n)\n" ∷
    "(overlay 5 1 00\n(mesh\n)\n(mesh\n)\n)\n" ∷
    "(overlay 5 1 03\n(mesh\n)\n(mesh\n)\n)\n" ∷
    "(overlay 5 1 3 \n(mesh\n)\n(mesh\n)\n)\n" ∷
    "(overlay 5 1 3 0\n(mesh\n)\n(mesh\n)\n)\n" ∷
    "(overlay 5 1 4294967296\n(mesh\n)\n(mesh\n)\n)\n" ∷
    "(overlay 0\n(mesh\n(node 0000000000000000 000000000000000a 0)\n(cell 8 7 0 1)\n)\n(mesh\n)\n)\n" ∷
    "(overlay 4294967296 9\n(mesh\n(node 0000000000000000 000000000000000a 0)\n(cell 8 7 0 1)\n)\n(mesh\n)\n)\n" ∷
    "(overlay 0 9\n(mesh\n(node 0000000000000000 000000000000000A 0)\n(cell 8 7 0 1)\n)\n(mesh\n)\n)\n" ∷
    "(overlay 0 9\n(mesh\n(node 0000000000000000 00000000000000a 0)\n(cell 8 7 0 1)\n)\n(mesh\n)\n)\n" ∷
    "(overlay 0 9\n(mesh\n(node 0000000000000000 0000000000000000a 0)\n(cell 8 7 0 1)\n)\n(mesh\n)\n)\n" ∷
    "(overlay 0 9\n(mesh\n(node 0000000000000000\t000000000000000a 0)\n(cell 8 7 0 1)\n)\n(mesh\n)\n)\n" ∷
    "(overlay 0 9\n(mesh\n(node 0000000000000000 000000000000000a)\n)\n(mesh\n)\n)\n" ∷
    "(overlay 0 9\n(mesh\n(node 0000000000000000 000000000000000a )\n)\n(mesh\n)\n)\n" ∷
    "(overlay 0 9\n(mesh\n(node 0000000000000000 000000000000000a  0)\n)\n(mesh\n)\n)\n" ∷
    "(overlay 0 9\n(mesh\n(node 0000000000000000 000000000000000a 0 0)\n)\n(mesh\n)\n)\n" ∷
    "(overlay 0 9\n(mesh\n(node 0000000000000000 000000000000000a 01)\n)\n(mesh\n)\n)\n" ∷
    "(overlay 0 9\n(mesh\n(node 0000000000000000 000000000000000a 4294967296)\n)\n(mesh\n)\n)\n" ∷
    "(overlay 0 9\n(mesh\n(node 0000000000000000 000000000000000a 0)\n(cell 8)\n)\n(mesh\n)\n)\n" ∷
    "(overlay 0 9\n(mesh\n(node 0000000000000000 000000000000000a 0)\n(cell 256 7 0 1)\n)\n(mesh\n)\n)\n" ∷
    "(overlay 0 9\n(mesh\n(node 0000000000000000 000000000000000a 0)\n(cell 8 7 0 1 )\n)\n(mesh\n)\n)\n" ∷
    "(overlay 0 9\n(mesh\n(node 0000000000000000 000000000000000a 0)\n(cell 8 7 0 1)\n\n)\n(mesh\n)\n)\n" ∷
    "(overlay 0 9\n(mesh\n(node 0000000000000000 000000000000000a 0)\n(cell 8 7 0 1)\n(node 0000000000000000 0000000000000000 0)\n)\n(mesh\n)\n)\n" ∷
    "(overlay 0 9\n(mesh\n(node 0000000000000000 000000000000000a 0)\n(cell 8 7 0 1)\n)\n(mesh\n)\n)" ∷
    "(overlay 0 9\n(mesh\n(node 0000000000000000 000000000000000a 0)\n(cell 8 7 0 1)\n)\n(mesh\n)\n)\n\n" ∷
    "(overlay 0 9\n(mesh\n(node 0000000000000000 000000000000000a 0)\n(cell 8 7 0 1)\n)\n)\n" ∷
    "" ∷
    []))
unfolding input_from first_from grid_from mesh_from nodes_from cells_from repeated add_node node_step node_from entry_step entries_from head_from cell_from add_cell cell_step decimal_from more_from
    hex_from digit_val hex_val word_from after_word and_then if_word
unread_samples = tt
