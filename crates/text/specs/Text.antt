-- The text, as printing gives it: lists of bytes. Assumes nothing.
use Rattle.std.specs.Prelude.{ℕ, zero, suc, ◌+◌, ◌-◌, ◌/◌, ◌%◌, cond, List, [], ◌∷◌, ◌++◌, take, drop, ltb, Option, None, Some}
use Prim.Native.Char.{code}
use Prim.Native.String.{String, [] as nil, ◌∷◌ as ◌and◌}
use Rattle.settings.specs.declared.Settings.{Settings}

-- ---- fixed words
-- the bytes of a quoted text
abbrev pub bytes : String → List ℕ
bytes nil = []
bytes (c and s) = code c ∷ bytes s

abbrev pub overlay_word : List ℕ
overlay_word = bytes "(overlay "

abbrev pub listing_word : List ℕ
listing_word = bytes "(overlay\n"

abbrev pub mesh_word : List ℕ
mesh_word = bytes "(mesh\n"

abbrev pub node_word : List ℕ
node_word = bytes "(node "

abbrev pub cell_word : List ℕ
cell_word = bytes "(cell "

abbrev pub count_word : List ℕ
count_word = bytes "(count "

abbrev pub refused_word : List ℕ
refused_word = bytes "(refused "

abbrev pub unread_text : List ℕ
unread_text = bytes "(unread)\n"

abbrev pub space : List ℕ
space = bytes " "

abbrev pub newline : List ℕ
newline = bytes "\n"

abbrev pub close : List ℕ
close = bytes ")\n"

-- ---- numbers
-- a decimal without leading zeros, of at most k digits
unfoldable pub decimal_to : ℕ → ℕ → List ℕ
decimal_to zero n = []
decimal_to (suc k) n = cond (ltb n 10) ((48 + n) ∷ []) (decimal_to k (n / 10) ++ ((48 + n % 10) ∷ []))

unfoldable pub decimal : ℕ → List ℕ
decimal n = decimal_to 10 n

-- the code of a digit below 16
unfoldable pub glyph : ℕ → ℕ
glyph d = cond (ltb d 10) (48 + d) (87 + d)

-- the last k hexadecimal digits of n
unfoldable pub hex_to : ℕ → ℕ → List ℕ
hex_to zero n = []
hex_to (suc k) n = hex_to k (n / 16) ++ (glyph (n % 16) ∷ [])

unfoldable pub hex : ℕ → List ℕ
hex n = hex_to 16 n

-- ---- lines
-- W7: "node lines, read and printed, carry it in decimal after y", the layer
unfoldable pub node_text : ℕ → ℕ → ℕ → List ℕ
node_text x y l = node_word ++ (hex x ++ (space ++ (hex y ++ (space ++ (decimal l ++ close)))))

-- the node lines of coordinates' bits and of layers, as many as both have
unfoldable pub nodes_text : (bs ls : List ℕ) → List ℕ
nodes_text [] ls = []
nodes_text (x ∷ []) ls = []
nodes_text (x ∷ y ∷ bs) [] = []
nodes_text (x ∷ y ∷ bs) (l ∷ ls) = node_text x y l ++ nodes_text bs ls

unfoldable pub numbers_text : List ℕ → List ℕ
numbers_text [] = []
numbers_text (n ∷ ns) = space ++ (decimal n ++ numbers_text ns)

unfoldable pub cell_text : ℕ → ℕ → List ℕ → List ℕ
cell_text k f ns = cell_word ++ (decimal k ++ (space ++ (decimal f ++ (numbers_text ns ++ close))))

-- the cell lines, of cells whose corners are nodes' elements from `start` on
unfoldable pub cells_text : ℕ → List ℕ → List ℕ → List ℕ → List ℕ → List ℕ
cells_text start ns [] ks fs = []
cells_text start ns (e ∷ es) [] fs = []
cells_text start ns (e ∷ es) (k ∷ ks) [] = []
cells_text start ns (e ∷ es) (k ∷ ks) (f ∷ fs) = cell_text k f (take (e - start) (drop start ns)) ++ cells_text e ns es ks fs

-- ---- a mesh and an input
pub record Bits : Type 0 where
  pub coords : List ℕ
  pub layers : List ℕ
  pub nodes : List ℕ
  pub ends : List ℕ
  pub kinds : List ℕ
  pub families : List ℕ

unfoldable pub body_text : Bits → List ℕ
body_text m = nodes_text m.coords m.layers ++ cells_text 0 m.nodes m.ends m.kinds m.families

unfoldable pub mesh_text : Bits → List ℕ
mesh_text m = mesh_word ++ (body_text m ++ close)

-- W6: "the program's first line carries k after M where a grid is set"
unfoldable pub grid_text : Option ℕ → List ℕ
grid_text None = []
grid_text (Some k) = space ++ decimal k

-- the first line
unfoldable pub first_text : Settings → List ℕ
first_text s = overlay_word ++ (decimal s.op ++ (space ++ (decimal s.m ++ (grid_text s.grid ++ newline))))

unfoldable pub input_text : Settings → Bits → Bits → List ℕ
input_text settings s c = first_text settings ++ (mesh_text s ++ (mesh_text c ++ close))

-- ---- answers
-- a piece as it is printed: its kind, family, parent (the mesh, 0 the subject or 1 the cutter, and the cell there) and corners
pub record PieceLine : Type 0 where
  pub kind : ℕ
  pub family : ℕ
  pub mesh : ℕ
  pub cell : ℕ
  pub nodes : List ℕ

-- W2: "The printed cell line carries them after the family"
unfoldable pub piece_text : PieceLine → List ℕ
piece_text p = cell_text p.kind p.family (p.mesh ∷ p.cell ∷ p.nodes)

unfoldable pub pieces_text : List PieceLine → List ℕ
pieces_text [] = []
pieces_text (p ∷ ps) = piece_text p ++ pieces_text ps

-- the pieces that lists hold, as many as every one of es, ks, fs, ms and is has; their corners are ns' elements from `start` on
unfoldable pub piece_lines : ℕ → (ns es ks fs ms is : List ℕ) → List PieceLine
piece_lines start ns [] ks fs ms is = []
piece_lines start ns (e ∷ es) [] fs ms is = []
piece_lines start ns (e ∷ es) (k ∷ ks) [] ms is = []
piece_lines start ns (e ∷ es) (k ∷ ks) (f ∷ fs) [] is = []
piece_lines start ns (e ∷ es) (k ∷ ks) (f ∷ fs) (m ∷ ms) [] = []
piece_lines start ns (e ∷ es) (k ∷ ks) (f ∷ fs) (m ∷ ms) (i ∷ is) =
    record { kind = k; family = f; mesh = m; cell = i; nodes = take (e - start) (drop start ns) } ∷ piece_lines e ns es ks fs ms is

unfoldable pub count_text : ℕ → ℕ → ℕ → List ℕ
count_text pieces points doubled = count_word ++ (decimal pieces ++ (space ++ (decimal points ++ (space ++ (decimal doubled ++ close)))))

-- the bits of all coordinates and the layers, the pieces, the counts
unfoldable pub listing_text : (bs ls : List ℕ) → List PieceLine → ℕ → ℕ → ℕ → List ℕ
listing_text bs ls ps pieces points doubled = listing_word ++ (nodes_text bs ls ++ (pieces_text ps ++ (count_text pieces points doubled ++ close)))

unfoldable pub refused_text : ℕ → List ℕ
refused_text n = refused_word ++ (decimal n ++ close)

-- what the program answers: an overlay with its pieces, the new points that they name (W5) and doubled cells counted
pub data Answer : Type 0 where
  unread : Answer
  refused : ℕ → Answer
  overlay : (bs ls : List ℕ) → List PieceLine → ℕ → ℕ → ℕ → Answer

unfoldable pub answer_text : Answer → List ℕ
answer_text unread = unread_text
answer_text (refused n) = refused_text n
answer_text (overlay bs ls ps pieces points doubled) = listing_text bs ls ps pieces points doubled
