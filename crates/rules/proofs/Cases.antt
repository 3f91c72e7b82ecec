-- The cases K1 to K10 of document 01, the limits named behind them, and what it is tempting to get wrong, as one table and one theorem. Assumes nothing.
use mathlib.Core.Bool.{Bool, true, false}
use mathlib.Core.List.{List, [], ◌∷◌, ◌++◌, map}
use Prim.Native.Nat.{ℕ, ◌+◌, ◌*◌, ◌/◌, ◌^◌}
use lib.Dec.{T, eqb}
use lib.ListN.{replicate}
use lib.IntN.{ℤ, pos, negsuc}
use lib.Ieee.{binary64, of_bits}
use Rattle.lists.specs.Search.{bit}
use Rattle.lists.specs.Gather.{each, joined}
use Rattle.lists.specs.Sort.{sorted}
use Rattle.segments.specs.Meet.{meeting}
use Rattle.polygons.specs.Interior.{strict_interior_point}
use Rattle.segments.specs.Code.{meeting_code}
use Rattle.polygons.specs.Code.{inner_code}
use Rattle.cutting.specs.Edges.{Edge, ring}
use Rattle.cutting.specs.Cell.{Laid, stands_before, cell_table}
use Rattle.cutting.specs.declared.Slot.{Slot}
use Rattle.cutting.specs.Edition.{Edition, base}
use Rattle.cutting.specs.Outcome.{Outcome, refusal, pieces, cut_outcome, flat, stops}
use Rattle.cutting.specs.Areas.{doubled_area}
use Rattle.std.specs.Prelude.{None, Some}
use Rattle.grid.specs.Grid.{Grid}
use Rattle.entry.specs.Mesh.{Mesh}
use Rattle.entry.specs.ByMesh.{mesh_refusal}
use Rattle.rules.specs.Mesh.{Side, the_subject, the_cutter}
use Rattle.rules.specs.Snap.{weld}
use Rattle.rules.specs.Neighbours.{Net}
use Rattle.rules.specs.SpatialIndex.{edge_box, candidates}
use Rattle.rules.specs.Meetings.{Met, Scene, scene_of}
use Rattle.rules.specs.Nodes.{along_edge, crowded}
use Rattle.rules.specs.Cell.{outline_of}
use Rattle.rules.specs.Operations.{pieces_of}
use Rattle.rules.specs.Overlay.{Lists, Result, result_of, overlay_with, overlay_of}
use Rattle.rules.specs.Forward.{forward_on, forward_cell}
use Rattle.rules.specs.Demand3.{set_on}
use Rattle.rules.proofs.Tables.{Case, asked, case, lent, on_lists, layered, with_layers, floats, both, same, right_by}
use Rattle.plane.specs.declared.Point.{Point}
use Rattle.segments.specs.declared.Segment.{Segment}

-- ---- what is asked, and last the answer

data Row : Type 0 where
  overlay : Case → Row  -- an overlay, lists and all
  set_to : Edition → Case → Row  -- an overlay by another edition
  meeting_of : Segment → Segment → List ℕ → Row  -- two segments: the number and values of their meeting
  order_of : List ℕ → List ℕ → List ℕ → Row  -- coordinates, and slots at node 0 by their neighbours: the neighbours in order
  inner_of : List ℕ → List ℕ → List ℕ → Row  -- coordinates and a polygon: the number and values of its inner point
  pieces_of_lem : List ℕ → List Edge → List ℕ → List ℕ → Row  -- coordinates and outline darts: the pieces' corners and their ends
  slots : ℕ → List ℕ → Row  -- so many slots in a table: the refusal
  corners : ℕ → ℕ → Row  -- a mesh of one PGON of so many corners: what it is refused for
  nodes_along : Grid → List ℕ → Edge → List ℕ → List ℕ → Row  -- a grid or none, coordinates, a key, the nodes collected: the sorted nodes
  weld_of : Mesh → Mesh → List ℕ → Row  -- two meshes: the numbers of the cutter's nodes
  near_box : List ℕ → Edge → Edge → List ℕ → Row  -- coordinates, an edge, another: it as a candidate
  areas_of_lem : Mesh → Mesh → List ℕ → Row  -- two meshes: the exact doubled areas of the subject's first outline as cut and of its pieces, a sign and a size each
  crowded_by_lem : ℕ → Bool → Row  -- so many nodes collected under an edge: whether they are too many
  forward_of : Grid → Mesh → Mesh → Side → Bool → Row  -- a grid or none, two meshes and one of them: whether its first cell's edges are all forward

-- ---- numbers, meshes and lists of the rows

-- coordinates by their bits: 0, 1, 2, 3, 4, 5, -1, 3/2, the next above 1, 1/2, 1/4
abbrev o : ℕ
o = 0

abbrev i : ℕ
i = 0x3ff0_0000_0000_0000

abbrev ii : ℕ
ii = 0x4000_0000_0000_0000

abbrev iii : ℕ
iii = 0x4008_0000_0000_0000

abbrev iv : ℕ
iv = 0x4010_0000_0000_0000

abbrev v : ℕ
v = 0x4014_0000_0000_0000

abbrev -i : ℕ
-i = 0xbff0_0000_0000_0000

abbrev i_half : ℕ
i_half = 0x3ff8_0000_0000_0000

abbrev i_next : ℕ
i_next = 0x3ff0_0000_0000_0001

abbrev half : ℕ
half = 0x3fe0_0000_0000_0000

abbrev quarter : ℕ
quarter = 0x3fd0_0000_0000_0000

abbrev point : ℕ → ℕ → Point
point x y = record { x = of_bits binary64 x; y = of_bits binary64 y }

abbrev seg : ℕ → ℕ → ℕ → ℕ → Segment
seg ax ay bx by = record { a = point ax ay; b = point bx by }

-- K1's subject and cutter, and K10's line
abbrev square : Mesh
square = lent (o ∷ o ∷ ii ∷ o ∷ ii ∷ ii ∷ o ∷ ii ∷ []) (0 ∷ 1 ∷ 2 ∷ 3 ∷ []) (4 ∷ []) (8 ∷ []) (7 ∷ [])

-- the same corners the other way round
abbrev clockwise : Mesh
clockwise = lent (o ∷ o ∷ o ∷ ii ∷ ii ∷ ii ∷ ii ∷ o ∷ []) (0 ∷ 1 ∷ 2 ∷ 3 ∷ []) (4 ∷ []) (8 ∷ []) (7 ∷ [])

abbrev strip : Mesh
strip = lent (i ∷ -i ∷ iii ∷ -i ∷ iii ∷ iii ∷ i ∷ iii ∷ []) (0 ∷ 1 ∷ 2 ∷ 3 ∷ []) (4 ∷ []) (11 ∷ []) (0 ∷ [])

abbrev line : Mesh
line = lent (i ∷ -i ∷ i ∷ i ∷ []) (0 ∷ 1 ∷ []) (2 ∷ []) (1 ∷ []) (0 ∷ [])

-- K10's line with a bend and another end, and with a fork there and two ends; a line inside the square that reaches no side
abbrev bent : Mesh
bent = lent (i ∷ -i ∷ i ∷ i ∷ half ∷ i ∷ []) (0 ∷ 1 ∷ 1 ∷ 2 ∷ []) (2 ∷ 4 ∷ []) (1 ∷ 1 ∷ []) (0 ∷ 0 ∷ [])

abbrev forked : Mesh
forked = lent (i ∷ -i ∷ i ∷ i ∷ half ∷ i ∷ i_half ∷ i ∷ []) (0 ∷ 1 ∷ 1 ∷ 2 ∷ 1 ∷ 3 ∷ []) (2 ∷ 4 ∷ 6 ∷ []) (1 ∷ 1 ∷ 1 ∷ []) (0 ∷ 0 ∷ 0 ∷ [])

abbrev inner_line : Mesh
inner_line = lent (half ∷ i ∷ i ∷ i ∷ []) (0 ∷ 1 ∷ []) (2 ∷ []) (1 ∷ []) (0 ∷ [])

-- two squares side by side; a triangle away from the square; a line through the square, twice
abbrev squares : Mesh
squares = lent (o ∷ o ∷ ii ∷ o ∷ iv ∷ o ∷ iv ∷ ii ∷ ii ∷ ii ∷ o ∷ ii ∷ []) (0 ∷ 1 ∷ 4 ∷ 5 ∷ 1 ∷ 2 ∷ 3 ∷ 4 ∷ []) (4 ∷ 8 ∷ []) (8 ∷ 8 ∷ []) (7 ∷ 9 ∷ [])

abbrev away : Mesh
away = lent (iii ∷ iii ∷ iv ∷ iii ∷ iv ∷ iv ∷ []) (0 ∷ 1 ∷ 2 ∷ []) (3 ∷ []) (5 ∷ []) (3 ∷ [])

abbrev twice : Mesh
twice = lent (i ∷ -i ∷ i ∷ iii ∷ []) (0 ∷ 1 ∷ 0 ∷ 1 ∷ []) (2 ∷ 4 ∷ []) (1 ∷ 1 ∷ []) (0 ∷ 0 ∷ [])

-- two cells that cover the square's left three quarters, whose common side cuts it too
abbrev wall : Mesh
wall =
    lent (-i ∷ -i ∷ i ∷ -i ∷ i_half ∷ -i ∷ i_half ∷ iii ∷ i ∷ iii ∷ -i ∷ iii ∷ []) (0 ∷ 1 ∷ 4 ∷ 5 ∷ 1 ∷ 2 ∷ 3 ∷ 4 ∷ []) (4 ∷ 8 ∷ []) (8 ∷ 8 ∷ []) (1 ∷ 2 ∷ [])

-- a strip across the square as thin as can be
abbrev hair : Mesh
hair = lent (-i ∷ i ∷ iii ∷ i ∷ iii ∷ i_next ∷ []) (0 ∷ 1 ∷ 2 ∷ []) (3 ∷ []) (5 ∷ []) (0 ∷ [])

-- lines through the square whose points stand at x = 3/4 and 5/4, and at y = 1/2 and 1; one through the strip at y = -1/4
abbrev steep : Mesh
steep = lent (half ∷ -i ∷ i_half ∷ iii ∷ []) (0 ∷ 1 ∷ []) (2 ∷ []) (1 ∷ []) (0 ∷ [])

abbrev flat_line : Mesh
flat_line = lent (-i ∷ quarter ∷ iii ∷ 0x3ff4_0000_0000_0000 ∷ []) (0 ∷ 1 ∷ []) (2 ∷ []) (1 ∷ []) (0 ∷ [])

abbrev low_line : Mesh
low_line = lent (o ∷ 0xbfd0_0000_0000_0000 ∷ iv ∷ 0xbfd0_0000_0000_0000 ∷ []) (0 ∷ 1 ∷ []) (2 ∷ []) (1 ∷ []) (0 ∷ [])

-- A triangle with a node 2^-27 before the first of another, on whose third edge it is collected: there it stands before that edge's first node, so
-- the other's outline as cut doesn't close.
abbrev corner : Mesh
corner = lent (0xbe40_0000_0000_0000 ∷ o ∷ i ∷ o ∷ o ∷ i ∷ []) (0 ∷ 1 ∷ 2 ∷ []) (3 ∷ []) (5 ∷ []) (7 ∷ [])

abbrev wedge : Mesh
wedge = lent (o ∷ o ∷ ii ∷ o ∷ ii ∷ ii ∷ []) (0 ∷ 1 ∷ 2 ∷ []) (3 ∷ []) (5 ∷ []) (3 ∷ [])

-- nodes at 1e-12 and 5e-13 from the square's first
abbrev nearby : Mesh
nearby = lent (0x3d71_9799_812d_ea11 ∷ o ∷ 0x3d61_9799_812d_ea11 ∷ o ∷ i ∷ i ∷ []) (0 ∷ 1 ∷ 2 ∷ []) (3 ∷ []) (5 ∷ []) (0 ∷ [])

-- a triangle with two nodes at 5e-13 from it
abbrev welded : Mesh
welded = lent (0x3d61_9799_812d_ea11 ∷ o ∷ o ∷ 0x3d61_9799_812d_ea11 ∷ i ∷ i ∷ []) (0 ∷ 1 ∷ 2 ∷ []) (3 ∷ []) (5 ∷ []) (3 ∷ [])

-- a triangle with two nodes at one place
abbrev stacked : Mesh
stacked = lent (o ∷ o ∷ o ∷ o ∷ i ∷ i ∷ []) (0 ∷ 1 ∷ 2 ∷ []) (3 ∷ []) (5 ∷ []) (0 ∷ [])

-- the two squares, the right one first; a line across both, with a node that it doesn't name
abbrev right_first : Mesh
right_first = lent (o ∷ o ∷ ii ∷ o ∷ iv ∷ o ∷ iv ∷ ii ∷ ii ∷ ii ∷ o ∷ ii ∷ []) (1 ∷ 2 ∷ 3 ∷ 4 ∷ 0 ∷ 1 ∷ 4 ∷ 5 ∷ []) (4 ∷ 8 ∷ []) (8 ∷ 8 ∷ []) (7 ∷ 9 ∷ [])

abbrev level : Mesh
level = lent (-i ∷ i ∷ v ∷ i ∷ o ∷ o ∷ []) (0 ∷ 1 ∷ []) (2 ∷ []) (1 ∷ []) (0 ∷ [])

-- a triangle, and a node that it doesn't name, at the square's first
abbrev unnamed : Mesh
unnamed = lent (i ∷ i ∷ iii ∷ i ∷ i ∷ iii ∷ o ∷ o ∷ []) (0 ∷ 1 ∷ 2 ∷ []) (3 ∷ []) (5 ∷ []) (0 ∷ [])

-- a triangle behind the one away from it; and lines: 42 along its first edge, each of which brings six entries under that edge's key, and k across it,
-- each of which brings one
abbrev triangles : Mesh
triangles = lent (iii ∷ iii ∷ iv ∷ iii ∷ iv ∷ iv ∷ o ∷ o ∷ ii ∷ o ∷ o ∷ ii ∷ []) (0 ∷ 1 ∷ 2 ∷ 3 ∷ 4 ∷ 5 ∷ []) (3 ∷ 6 ∷ []) (5 ∷ 5 ∷ []) (1 ∷ 2 ∷ [])

abbrev lines : ℕ → Mesh
lines k =
    let n = 42 + k in
    lent (o ∷ o ∷ ii ∷ o ∷ i ∷ -i ∷ i ∷ quarter ∷ []) (joined {A = ℕ} (λ j. 0 ∷ 1 ∷ []) (replicate 42 0) ++ joined {A = ℕ} (λ j. 2 ∷ 3 ∷ []) (replicate k 0))
    (each n (λ j. 2 * j + 2)) (replicate n 1) (replicate n 0)

-- lists with 5 in each place and 2.0 for each coordinate; and all zero
abbrev fives : ℕ → ℕ → ℕ → ℕ → ℕ → ℕ → ℕ → ℕ → Lists
fives c n e k f m j w =
    with_layers (replicate (c / 2) 5) (on_lists (replicate c ii) (replicate n 5) (replicate e 5) (replicate k 5) (replicate f 5) (replicate m 5) (replicate j 5) (replicate w 5))

abbrev noughts : ℕ → ℕ → ℕ → ℕ → ℕ → ℕ → ℕ → ℕ → Lists
noughts c n e k f m j w =
    on_lists (replicate c 0) (replicate n 0) (replicate e 0) (replicate k 0) (replicate f 0) (replicate m 0) (replicate j 0) (replicate w 0)

abbrev refused : ℕ → Lists → Result
refused r l = result_of r 0 0 0 0 l

-- the square's coordinates, and those of K1's answer
abbrev square_coords : List ℕ
square_coords = o ∷ o ∷ ii ∷ o ∷ ii ∷ ii ∷ o ∷ ii ∷ []

abbrev cut_coords : List ℕ
cut_coords = square_coords ++ i ∷ -i ∷ iii ∷ -i ∷ iii ∷ iii ∷ i ∷ iii ∷ i ∷ o ∷ i ∷ ii ∷ []

-- The test ends at the first row that doesn't hold, so a change of a rule is refused the sooner the earlier its row: what takes long stands last.
rows : List Row
rows =
    -- K1, with one place more in each list than its answer takes
    overlay (case 0 9 square strip (fives 21 9 3 3 3 3 3 500) (result_of 0 2 2 0 2
    (on_lists (cut_coords ++ ii ∷ []) (3 ∷ 0 ∷ 8 ∷ 9 ∷ 9 ∷ 8 ∷ 1 ∷ 2 ∷ 5 ∷ []) (4 ∷ 8 ∷ 5 ∷ []) (11 ∷ 11 ∷ 5 ∷ []) (7 ∷ 7 ∷ 5 ∷ []) (0 ∷ 0 ∷ 5 ∷ []) (0 ∷ 0 ∷ 5 ∷ []) (replicate 500 0))))
    -- its areas, in units of 2^-2148: the outline's is 8, each piece's 4; clockwise they are below 0
    ∷ areas_of_lem square strip (0 ∷ (8 * 2 ^ 2148) ∷ 0 ∷ (4 * 2 ^ 2148) ∷ 0 ∷ (4 * 2 ^ 2148) ∷ [])
    ∷ areas_of_lem clockwise away (1 ∷ (8 * 2 ^ 2148) ∷ 1 ∷ (8 * 2 ^ 2148) ∷ [])
    -- K2 to K7
    ∷ meeting_of (seg o o ii o) (seg i iii i -i) (2 ∷ i ∷ o ∷ [])
    ∷ meeting_of (seg o o ii o) (seg i o iii o) (3 ∷ 3 ∷ 2 ∷ [])
    ∷ meeting_of (seg o o i o) (seg i o ii o) (0 ∷ [])
    ∷ meeting_of (seg i o ii o) (seg o o i o) (3 ∷ 1 ∷ 4 ∷ [])
    ∷ meeting_of (seg i i i i) (seg ii o ii o) (0 ∷ [])
    ∷ meeting_of (seg o o ii o) (seg i o i ii) (1 ∷ 3 ∷ [])
    -- K8, and the same directions put in the other way round
    ∷ order_of (o ∷ o ∷ -i ∷ o ∷ o ∷ i ∷ i ∷ o ∷ o ∷ -i ∷ []) (1 ∷ 2 ∷ 3 ∷ 4 ∷ []) (1 ∷ 2 ∷ 3 ∷ 4 ∷ [])
    ∷ order_of (o ∷ o ∷ -i ∷ o ∷ o ∷ i ∷ i ∷ o ∷ o ∷ -i ∷ []) (4 ∷ 3 ∷ 2 ∷ 1 ∷ []) (1 ∷ 2 ∷ 3 ∷ 4 ∷ [])
    -- K9
    ∷ inner_of (o ∷ ii ∷ o ∷ o ∷ i ∷ o ∷ i ∷ ii ∷ []) (0 ∷ 1 ∷ 2 ∷ 3 ∷ []) (1 ∷ half ∷ i ∷ [])
    -- K10: the walk turns back at the line's end; by document 01 alone, refusal 11
    ∷ overlay (case 5 9 square line (fives 15 8 2 2 2 2 2 500) (result_of 0 1 1 0 1 (on_lists
    (square_coords ++ i ∷ -i ∷ i ∷ i ∷ i ∷ o ∷ ii ∷ []) (3 ∷ 0 ∷ 6 ∷ 5 ∷ 6 ∷ 1 ∷ 2 ∷ 5 ∷ []) (7 ∷ 5 ∷ []) (11 ∷ 5 ∷ []) (7 ∷ 5 ∷ []) (0 ∷ 5 ∷ []) (0 ∷ 5 ∷ []) (replicate 500 0))))
    ∷ set_to base (case 5 9 square line (fives 15 8 2 2 2 2 2 500) (refused 11 (noughts 15 8 2 2 2 2 2 500)))
    -- W6: on a grid of 1/2 both are halfway and go to the even multiple, 1; on whole metres 1/2 goes to 0, a corner's place, and stays a node of its own;
    -- -1/4 goes to +0
    ∷ overlay (asked (set_on (Some 1) 5 9) square steep (fives 16 8 2 2 2 2 2 500) (result_of 0 2 2 0 2 (on_lists
    (square_coords ++ half ∷ -i ∷ i_half ∷ iii ∷ i ∷ o ∷ i ∷ ii ∷ []) (3 ∷ 0 ∷ 6 ∷ 7 ∷ 7 ∷ 6 ∷ 1 ∷ 2 ∷ []) (4 ∷ 8 ∷ []) (11 ∷ 11 ∷ []) (7 ∷ 7 ∷ [])
    (0 ∷ 0 ∷ []) (0 ∷ 0 ∷ []) (replicate 500 0))))
    ∷ overlay (asked (set_on (Some 0) 5 9) square flat_line (fives 16 8 2 2 2 2 2 500) (result_of 0 2 2 0 2 (on_lists
    (square_coords ++ -i ∷ quarter ∷ iii ∷ 0x3ff4_0000_0000_0000 ∷ ii ∷ i ∷ o ∷ o ∷ []) (3 ∷ 7 ∷ 6 ∷ 2 ∷ 6 ∷ 7 ∷ 0 ∷ 1 ∷ []) (4 ∷ 8 ∷ []) (11 ∷ 11 ∷ []) (7 ∷ 7 ∷ [])
    (0 ∷ 0 ∷ []) (0 ∷ 0 ∷ []) (replicate 500 0))))
    ∷ overlay (asked (set_on (Some 0) 5 9) strip low_line (fives 16 8 2 2 2 2 2 500) (result_of 0 2 2 0 2 (on_lists
    (i ∷ -i ∷ iii ∷ -i ∷ iii ∷ iii ∷ i ∷ iii ∷ o ∷ 0xbfd0_0000_0000_0000 ∷ iv ∷ 0xbfd0_0000_0000_0000 ∷ iii ∷ o ∷ i ∷ o ∷ [])
    (3 ∷ 7 ∷ 6 ∷ 2 ∷ 6 ∷ 7 ∷ 0 ∷ 1 ∷ []) (4 ∷ 8 ∷ []) (11 ∷ 11 ∷ []) (0 ∷ 0 ∷ []) (0 ∷ 0 ∷ []) (0 ∷ 0 ∷ []) (replicate 500 0))))
    -- a grid finer than 1/1,024 is refused; before W6 no overlay had one
    ∷ overlay (asked (set_on (Some 11) 0 2) square strip (fives 20 8 2 2 2 2 2 352) (refused 13 (fives 20 8 2 2 2 2 2 352)))
    ∷ set_to (record { turning = true; once = true; grids = false; layers = true }) (asked (set_on (Some 11) 0 2) square strip (fives 20 8 2 2 2 2 2 352) (result_of 0 2 2 0 2
    (on_lists cut_coords (3 ∷ 0 ∷ 8 ∷ 9 ∷ 9 ∷ 8 ∷ 1 ∷ 2 ∷ []) (4 ∷ 8 ∷ []) (11 ∷ 11 ∷ []) (7 ∷ 7 ∷ []) (0 ∷ 0 ∷ []) (0 ∷ 0 ∷ []) (replicate 352 0))))
    -- with a grid a key's first node is put first and its other entries are dropped, as its second node's are
    ∷ nodes_along None (o ∷ o ∷ ii ∷ o ∷ -i ∷ o ∷ i ∷ o ∷ []) (0, 1) (1 ∷ 2 ∷ 0 ∷ 3 ∷ []) (2 ∷ 0 ∷ 3 ∷ 1 ∷ [])
    ∷ nodes_along (Some 0) (o ∷ o ∷ ii ∷ o ∷ -i ∷ o ∷ i ∷ o ∷ iii ∷ o ∷ []) (0, 1) (1 ∷ 2 ∷ 0 ∷ 3 ∷ 4 ∷ []) (0 ∷ 2 ∷ 3 ∷ 4 ∷ 1 ∷ [])
    -- there too equal projections stay as collected, and only adjacent equals go
    ∷ nodes_along (Some 0) (o ∷ o ∷ ii ∷ o ∷ i ∷ i ∷ i ∷ -i ∷ []) (0, 1) (3 ∷ 2 ∷ 3 ∷ []) (0 ∷ 3 ∷ 2 ∷ 3 ∷ 1 ∷ [])
    -- tempting: a piece closes when its first node returns, not its first dart
    ∷ pieces_of_lem (o ∷ o ∷ i ∷ -i ∷ i ∷ i ∷ -i ∷ i ∷ -i ∷ -i ∷ []) ((1, 2) ∷ (2, 0) ∷ (0, 3) ∷ (3, 4) ∷ (4, 0) ∷ (0, 1) ∷ []) (0 ∷ 1 ∷ 2 ∷ 4 ∷ 0 ∷ 3 ∷ []) (3 ∷ 6 ∷ [])
    -- the key's second node isn't sorted with the others
    ∷ nodes_along None (o ∷ o ∷ i ∷ o ∷ ii ∷ o ∷ []) (0, 1) (2 ∷ []) (0 ∷ 2 ∷ 1 ∷ [])
    -- at equal projections nodes stay as collected, and -0 stands before 0
    ∷ nodes_along None (o ∷ o ∷ ii ∷ o ∷ i ∷ i ∷ i ∷ -i ∷ []) (0, 1) (3 ∷ 2 ∷ []) (0 ∷ 3 ∷ 2 ∷ 1 ∷ [])
    ∷ nodes_along None (i ∷ i ∷ o ∷ o ∷ ii ∷ o ∷ i ∷ i ∷ []) (0, 1) (2 ∷ 3 ∷ []) (0 ∷ 3 ∷ 2 ∷ 1 ∷ [])
    -- a node at the weld distance itself isn't near; a node that no cell names isn't welded, and none is welded to it
    ∷ weld_of square nearby (4 ∷ 0 ∷ 6 ∷ [])
    ∷ weld_of square unnamed (4 ∷ 5 ∷ 6 ∷ 7 ∷ [])
    ∷ weld_of unnamed square (4 ∷ 5 ∷ 6 ∷ 7 ∷ [])
    -- W7: a node is welded to one of its own layer alone, though one of another is nearer, or at its place
    ∷ weld_of (layered (3 ∷ 0 ∷ 0 ∷ 0 ∷ []) square) nearby (4 ∷ 5 ∷ 6 ∷ [])
    ∷ weld_of (layered (3 ∷ 0 ∷ 0 ∷ 0 ∷ []) square) (layered (3 ∷ 3 ∷ 3 ∷ []) nearby) (4 ∷ 0 ∷ 6 ∷ [])
    ∷ weld_of nearby nearby (0 ∷ 1 ∷ 2 ∷ [])
    ∷ weld_of (layered (1 ∷ 0 ∷ 0 ∷ []) nearby) nearby (1 ∷ 1 ∷ 2 ∷ [])
    -- nodes above one another are each welded to that of their layer
    ∷ weld_of (layered (1 ∷ 2 ∷ 1 ∷ []) stacked) (layered (2 ∷ 1 ∷ 3 ∷ []) stacked) (1 ∷ 0 ∷ 5 ∷ [])
    -- edges of different layers meet; a new point takes the layer of the subject edge's first node, and each node's layer is listed
    ∷ overlay (case 0 2 (layered (7 ∷ 8 ∷ 9 ∷ 6 ∷ []) square) (layered (1 ∷ 2 ∷ 3 ∷ 4294967295 ∷ []) strip) (with_layers (replicate 11 5) (fives 20 8 2 2 2 2 2 352))
    (result_of 0 2 2 0 2 (with_layers (7 ∷ 8 ∷ 9 ∷ 6 ∷ 1 ∷ 2 ∷ 3 ∷ 4294967295 ∷ 7 ∷ 9 ∷ 5 ∷ [])
    (on_lists cut_coords (3 ∷ 0 ∷ 8 ∷ 9 ∷ 9 ∷ 8 ∷ 1 ∷ 2 ∷ []) (4 ∷ 8 ∷ []) (11 ∷ 11 ∷ []) (7 ∷ 7 ∷ []) (0 ∷ 0 ∷ []) (0 ∷ 0 ∷ []) (replicate 352 0)))))
    -- the first node isn't that of the lower number, nor that of the side's second cell
    ∷ overlay (case 5 3 (layered (1 ∷ 2 ∷ 3 ∷ 4 ∷ 5 ∷ 4294967295 ∷ []) right_first) (layered (6 ∷ 7 ∷ 8 ∷ []) level) (fives 24 16 4 4 4 4 4 416) (result_of 0 4 3 0 3
    (with_layers (1 ∷ 2 ∷ 3 ∷ 4 ∷ 5 ∷ 4294967295 ∷ 6 ∷ 7 ∷ 8 ∷ 3 ∷ 5 ∷ 4294967295 ∷ []) (on_lists
    (o ∷ o ∷ ii ∷ o ∷ iv ∷ o ∷ iv ∷ ii ∷ ii ∷ ii ∷ o ∷ ii ∷ -i ∷ i ∷ v ∷ i ∷ o ∷ o ∷ iv ∷ i ∷ ii ∷ i ∷ o ∷ i ∷ [])
    (4 ∷ 10 ∷ 9 ∷ 3 ∷ 9 ∷ 10 ∷ 1 ∷ 2 ∷ 5 ∷ 11 ∷ 10 ∷ 4 ∷ 10 ∷ 11 ∷ 0 ∷ 1 ∷ []) (4 ∷ 8 ∷ 12 ∷ 16 ∷ []) (11 ∷ 11 ∷ 11 ∷ 11 ∷ []) (7 ∷ 7 ∷ 9 ∷ 9 ∷ [])
    (0 ∷ 0 ∷ 0 ∷ 0 ∷ []) (0 ∷ 0 ∷ 1 ∷ 1 ∷ []) (replicate 416 0)))))
    -- a layer less than there are nodes is refused, and so is an output with a place less; before W7 there were no layers
    ∷ overlay (case 0 2 (layered (0 ∷ 0 ∷ 0 ∷ []) square) strip (fives 20 8 2 2 2 2 2 352) (refused 2 (fives 20 8 2 2 2 2 2 352)))
    ∷ overlay (case 0 2 square strip (with_layers (replicate 9 5) (fives 20 8 2 2 2 2 2 352)) (refused 12 (with_layers (replicate 9 0) (noughts 20 8 2 2 2 2 2 352))))
    ∷ set_to base (case 0 2 (layered (7 ∷ 8 ∷ 9 ∷ []) square) strip (with_layers [] (fives 20 8 2 2 2 2 2 352)) (result_of 0 2 2 0 2
    (on_lists cut_coords (3 ∷ 0 ∷ 8 ∷ 9 ∷ 9 ∷ 8 ∷ 1 ∷ 2 ∷ []) (4 ∷ 8 ∷ []) (11 ∷ 11 ∷ []) (7 ∷ 7 ∷ []) (0 ∷ 0 ∷ []) (0 ∷ 0 ∷ []) (replicate 352 0))))
    -- boxes that only touch meet
    ∷ near_box (o ∷ o ∷ i ∷ i ∷ i ∷ i ∷ ii ∷ ii ∷ []) (0, 1) (2, 3) (0 ∷ [])
    -- 256 nodes collected under an edge aren't too many, 257 are; overlays of so many stand below
    ∷ crowded_by_lem 256 false
    ∷ crowded_by_lem 257 true
    -- K1 with a working list too short
    ∷ overlay (case 0 2 square strip (fives 20 8 2 2 2 2 2 351) (refused 7 (fives 20 8 2 2 2 2 2 351)))
    -- the order of refusals: a meeting beyond M comes before its point that has no place
    ∷ overlay (case 0 1 square strip (fives 18 0 0 0 0 0 0 352) (refused 8 (noughts 18 0 0 0 0 0 0 352)))
    -- K1 with room for it and no more
    ∷ overlay (case 0 2 square strip (fives 20 8 2 2 2 2 2 352) (result_of 0 2 2 0 2
    (on_lists cut_coords (3 ∷ 0 ∷ 8 ∷ 9 ∷ 9 ∷ 8 ∷ 1 ∷ 2 ∷ []) (4 ∷ 8 ∷ []) (11 ∷ 11 ∷ []) (7 ∷ 7 ∷ []) (0 ∷ 0 ∷ []) (0 ∷ 0 ∷ []) (replicate 352 0))))
    -- a line twice: lines aren't made unique, but an edge is in a table once; by document 01 alone the cell is doubled
    ∷ overlay (case 5 9 square twice (fives 20 8 1 1 1 1 1 500) (result_of 0 1 4 0 4 (on_lists
    (square_coords ++ i ∷ -i ∷ i ∷ iii ∷ i ∷ o ∷ i ∷ o ∷ i ∷ ii ∷ i ∷ ii ∷ []) (3 ∷ 0 ∷ 6 ∷ 7 ∷ 1 ∷ 2 ∷ 8 ∷ 9 ∷ []) (8 ∷ []) (11 ∷ []) (7 ∷ []) (0 ∷ []) (0 ∷ []) (replicate 500 0))))
    ∷ set_to base (case 5 9 square twice (fives 20 8 1 1 1 1 1 500) (result_of 0 1 4 1 4 (on_lists
    (square_coords ++ i ∷ -i ∷ i ∷ iii ∷ i ∷ o ∷ i ∷ o ∷ i ∷ ii ∷ i ∷ ii ∷ []) (3 ∷ 0 ∷ 6 ∷ 7 ∷ 1 ∷ 2 ∷ 8 ∷ 9 ∷ []) (8 ∷ []) (11 ∷ []) (7 ∷ []) (0 ∷ []) (0 ∷ []) (replicate 500 0))))
    -- two cells, both cut
    ∷ overlay (case 0 9 squares strip (fives 28 16 4 4 4 4 4 572) (result_of 0 4 4 0 4 (on_lists
    (o ∷ o ∷ ii ∷ o ∷ iv ∷ o ∷ iv ∷ ii ∷ ii ∷ ii ∷ o ∷ ii ∷ i ∷ -i ∷ iii ∷ -i ∷ iii ∷ iii ∷ i ∷ iii ∷ i ∷ o ∷ i ∷ ii ∷ iii ∷ o ∷ iii ∷ ii ∷ [])
    (5 ∷ 0 ∷ 10 ∷ 11 ∷ 11 ∷ 10 ∷ 1 ∷ 4 ∷ 4 ∷ 1 ∷ 12 ∷ 13 ∷ 13 ∷ 12 ∷ 2 ∷ 3 ∷ []) (4 ∷ 8 ∷ 12 ∷ 16 ∷ []) (11 ∷ 11 ∷ 11 ∷ 11 ∷ []) (7 ∷ 7 ∷ 9 ∷ 9 ∷ [])
    (0 ∷ 0 ∷ 0 ∷ 0 ∷ []) (0 ∷ 0 ∷ 1 ∷ 1 ∷ []) (replicate 572 0))))
    -- K1's meshes under Union, Difference, Intersection and SymmetricDifference
    ∷ overlay (case 1 9 square strip (fives 20 16 3 3 3 3 3 500) (result_of 0 3 2 0 2
    (on_lists cut_coords (3 ∷ 0 ∷ 8 ∷ 9 ∷ 9 ∷ 8 ∷ 1 ∷ 2 ∷ 7 ∷ 9 ∷ 2 ∷ 1 ∷ 8 ∷ 4 ∷ 5 ∷ 6 ∷ []) (4 ∷ 8 ∷ 16 ∷ []) (11 ∷ 11 ∷ 11 ∷ []) (7 ∷ 7 ∷ 0 ∷ [])
    (0 ∷ 0 ∷ 1 ∷ []) (0 ∷ 0 ∷ 0 ∷ []) (replicate 500 0))))
    ∷ overlay (case 3 9 square strip (fives 20 4 1 1 1 1 1 500) (result_of 0 1 2 0 2 (on_lists cut_coords (3 ∷ 0 ∷ 8 ∷ 9 ∷ []) (4 ∷ []) (11 ∷ []) (7 ∷ []) (0 ∷ []) (0 ∷ []) (replicate 500 0))))
    ∷ overlay (case 2 9 square strip (fives 20 4 1 1 1 1 1 500) (result_of 0 1 2 0 2 (on_lists cut_coords (9 ∷ 8 ∷ 1 ∷ 2 ∷ []) (4 ∷ []) (11 ∷ []) (7 ∷ []) (0 ∷ []) (0 ∷ []) (replicate 500 0))))
    ∷ overlay (case 4 9 square strip (fives 20 12 2 2 2 2 2 500) (result_of 0 2 2 0 2
    (on_lists cut_coords (3 ∷ 0 ∷ 8 ∷ 9 ∷ 7 ∷ 9 ∷ 2 ∷ 1 ∷ 8 ∷ 4 ∷ 5 ∷ 6 ∷ []) (4 ∷ 12 ∷ []) (11 ∷ 11 ∷ []) (7 ∷ 0 ∷ []) (0 ∷ 1 ∷ []) (0 ∷ 0 ∷ []) (replicate 500 0))))
    -- W5: of four new points Intersection's two pieces name all, Difference's one names two: the two where the cutter's cells meet belong to dropped pieces only
    ∷ overlay (case 2 9 square wall (fives 28 8 2 2 2 2 2 560) (result_of 0 2 4 0 4 (on_lists
    (square_coords ++ -i ∷ -i ∷ i ∷ -i ∷ i_half ∷ -i ∷ i_half ∷ iii ∷ i ∷ iii ∷ -i ∷ iii ∷ i ∷ o ∷ i_half ∷ o ∷ i ∷ ii ∷ i_half ∷ ii ∷ [])
    (3 ∷ 0 ∷ 10 ∷ 12 ∷ 12 ∷ 10 ∷ 11 ∷ 13 ∷ []) (4 ∷ 8 ∷ []) (11 ∷ 11 ∷ []) (7 ∷ 7 ∷ []) (0 ∷ 0 ∷ []) (0 ∷ 0 ∷ []) (replicate 560 0))))
    ∷ overlay (case 3 9 square wall (fives 28 4 1 1 1 1 1 560) (result_of 0 1 2 0 4 (on_lists
    (square_coords ++ -i ∷ -i ∷ i ∷ -i ∷ i_half ∷ -i ∷ i_half ∷ iii ∷ i ∷ iii ∷ -i ∷ iii ∷ i ∷ o ∷ i_half ∷ o ∷ i ∷ ii ∷ i_half ∷ ii ∷ [])
    (13 ∷ 11 ∷ 1 ∷ 2 ∷ []) (4 ∷ []) (11 ∷ []) (7 ∷ []) (0 ∷ []) (0 ∷ []) (replicate 560 0))))
    -- and of four Intersection names none, where it lists no piece: a strip so thin that no point is found inside the piece that it cuts out
    ∷ overlay (case 2 9 square hair (fives 22 0 0 0 0 0 0 500) (result_of 0 0 0 0 4 (on_lists
    (square_coords ++ -i ∷ i ∷ iii ∷ i ∷ iii ∷ i_next ∷ ii ∷ i ∷ ii ∷ i_next ∷ o ∷ i ∷ o ∷ i ∷ []) [] [] [] [] [] [] (replicate 500 0))))
    -- a cell copied
    ∷ overlay (case 1 9 square away (fives 14 7 2 2 2 2 2 500) (result_of 0 2 0 0 0
    (on_lists (o ∷ o ∷ ii ∷ o ∷ ii ∷ ii ∷ o ∷ ii ∷ iii ∷ iii ∷ iv ∷ iii ∷ iv ∷ iv ∷ []) (0 ∷ 1 ∷ 2 ∷ 3 ∷ 4 ∷ 5 ∷ 6 ∷ []) (4 ∷ 7 ∷ []) (8 ∷ 5 ∷ [])
    (7 ∷ 3 ∷ []) (0 ∷ 1 ∷ []) (0 ∷ 0 ∷ []) (replicate 500 0))))
    -- the cutter's cells are counted in their own mesh
    ∷ overlay (case 1 9 away squares (fives 18 11 3 3 3 3 3 528) (result_of 0 3 0 0 0 (on_lists
    (iii ∷ iii ∷ iv ∷ iii ∷ iv ∷ iv ∷ o ∷ o ∷ ii ∷ o ∷ iv ∷ o ∷ iv ∷ ii ∷ ii ∷ ii ∷ o ∷ ii ∷ []) (0 ∷ 1 ∷ 2 ∷ 3 ∷ 4 ∷ 7 ∷ 8 ∷ 4 ∷ 5 ∷ 6 ∷ 7 ∷ [])
    (3 ∷ 7 ∷ 11 ∷ []) (5 ∷ 8 ∷ 8 ∷ []) (3 ∷ 7 ∷ 9 ∷ []) (0 ∷ 1 ∷ 1 ∷ []) (0 ∷ 0 ∷ 1 ∷ []) (replicate 528 0))))
    -- K1 with one number, one node entry, or one place for a piece less than its answer takes
    ∷ overlay (case 0 2 square strip (fives 19 8 2 2 2 2 2 352) (refused 12 (noughts 19 8 2 2 2 2 2 352)))
    ∷ overlay (case 0 2 square strip (fives 20 7 2 2 2 2 2 352) (refused 12 (noughts 20 7 2 2 2 2 2 352)))
    ∷ overlay (case 0 2 square strip (fives 20 8 1 2 2 2 2 352) (refused 12 (noughts 20 8 1 2 2 2 2 352)))
    ∷ overlay (case 0 2 square strip (fives 20 8 2 2 2 1 2 352) (refused 12 (noughts 20 8 2 2 2 1 2 352)))
    ∷ overlay (case 0 2 square strip (fives 20 8 2 2 2 2 1 352) (refused 12 (noughts 20 8 2 2 2 2 1 352)))
    -- the order of refusals again: a piece of the first cell comes before what the second cell's walk comes to, and that before a place for another piece
    ∷ overlay (case 1 9 corner wedge (fives 14 7 1 1 1 1 1 500) (refused 12 (noughts 14 7 1 1 1 1 1 500)))
    ∷ overlay (case 1 9 corner wedge (fives 14 7 2 2 2 2 2 500) (refused 11 (noughts 14 7 2 2 2 2 2 500)))
    ∷ overlay (case 4 9 corner wedge (fives 14 7 2 2 2 2 2 500) (refused 11 (noughts 14 7 2 2 2 2 2 500)))
    -- of these the wedge isn't forward, but on a grid; both meshes of K1 are
    ∷ forward_of None corner wedge the_subject true
    ∷ forward_of None corner wedge the_cutter false
    ∷ forward_of (Some 10) corner wedge the_cutter true
    ∷ forward_of None square strip the_subject true
    ∷ forward_of None square strip the_cutter true
    -- a ditch with a bend and an end; one with a fork, where the walk turns back twice; one that reaches no side is never walked
    ∷ overlay (case 5 9 square bent (fives 16 9 1 1 1 1 1 500) (result_of 0 1 1 0 1 (on_lists
    (square_coords ++ i ∷ -i ∷ i ∷ i ∷ half ∷ i ∷ i ∷ o ∷ []) (3 ∷ 0 ∷ 7 ∷ 5 ∷ 6 ∷ 5 ∷ 7 ∷ 1 ∷ 2 ∷ []) (9 ∷ []) (11 ∷ []) (7 ∷ []) (0 ∷ []) (0 ∷ []) (replicate 500 0))))
    ∷ overlay (case 5 9 square forked (fives 18 11 1 1 1 1 1 500) (result_of 0 1 1 0 1 (on_lists
    (square_coords ++ i ∷ -i ∷ i ∷ i ∷ half ∷ i ∷ i_half ∷ i ∷ i ∷ o ∷ []) (3 ∷ 0 ∷ 8 ∷ 5 ∷ 6 ∷ 5 ∷ 7 ∷ 5 ∷ 8 ∷ 1 ∷ 2 ∷ []) (11 ∷ []) (11 ∷ []) (7 ∷ []) (0 ∷ []) (0 ∷ []) (replicate 500 0))))
    ∷ overlay (case 5 9 square inner_line (fives 12 4 1 1 1 1 1 500) (result_of 0 1 0 0 0 (on_lists
    (square_coords ++ half ∷ i ∷ i ∷ i ∷ []) (3 ∷ 0 ∷ 1 ∷ 2 ∷ []) (4 ∷ []) (11 ∷ []) (7 ∷ []) (0 ∷ []) (0 ∷ []) (replicate 500 0))))
    -- a triangle whose first edge welding left from a node to itself: it isn't added to the square's table; as an outline it gives 19, and gave pieces of
    -- one and two corners before W14
    ∷ overlay (case 0 9 square welded (fives 14 6 1 1 1 1 1 500) (result_of 0 1 0 0 0 (on_lists
    (square_coords ++ 0x3d61_9799_812d_ea11 ∷ o ∷ o ∷ 0x3d61_9799_812d_ea11 ∷ i ∷ i ∷ []) (3 ∷ 0 ∷ 6 ∷ 0 ∷ 1 ∷ 2 ∷ []) (6 ∷ []) (11 ∷ []) (7 ∷ []) (0 ∷ []) (0 ∷ []) (replicate 500 0))))
    ∷ overlay (case 1 9 square welded (fives 14 6 1 1 1 1 1 500) (refused 19 (noughts 14 6 1 1 1 1 1 500)))
    ∷ set_to (record { turning = true; once = false; grids = false; layers = true }) (case 1 9 square welded (fives 14 9 3 3 3 3 3 500) (result_of 0 3 0 2 0 (on_lists
    (square_coords ++ 0x3d61_9799_812d_ea11 ∷ o ∷ o ∷ 0x3d61_9799_812d_ea11 ∷ i ∷ i ∷ [])
    (3 ∷ 0 ∷ 6 ∷ 0 ∷ 1 ∷ 2 ∷ 0 ∷ 6 ∷ 0 ∷ []) (6 ∷ 8 ∷ 9 ∷ []) (11 ∷ 11 ∷ 11 ∷ []) (7 ∷ 3 ∷ 3 ∷ []) (0 ∷ 1 ∷ 1 ∷ []) (0 ∷ 0 ∷ 0 ∷ []) (replicate 500 0))))
    -- the limits, last since they take longest: 256 nodes on an edge pass, so that the next thing is that the first triangle has no place; 257 give 9
    ∷ overlay (case 5 130 triangles (lines 4) (fives 28 0 0 0 0 0 0 3872) (refused 12 (noughts 28 0 0 0 0 0 0 3872)))
    ∷ overlay (case 5 131 triangles (lines 5) (fives 30 0 0 0 0 0 0 3920) (refused 9 (noughts 30 0 0 0 0 0 0 3920)))
    -- 1,024 slots pass, 1,026 give 10
    ∷ slots 1024 []
    ∷ slots 1026 (10 ∷ [])
    -- a PGON of 256 passes, one of 257 gives 4
    ∷ corners 256 0
    ∷ corners 257 4
    ∷ []

-- ---- the test

-- a table of so many slots, and nothing to walk
abbrev filled : ℕ → List Slot
filled n = replicate n (record { src = 0; dst = 0; marked = true })

abbrev slot_to : ℕ → Slot
slot_to n = record { src = 0; dst = n; marked = false }

abbrev net_of_lem : List Edge → Net
net_of_lem es = record { cells = []; kinds = []; families = []; edges = es }

abbrev one_met : Met
one_met = record { subject_edge = 0; cutter_edge = 0; nodes = 2 ∷ []; point = [] }

-- one edge, and n meetings on it with a node each
abbrev met_often : ℕ → Scene
met_often n = record { grid = None; coords = []; subject = net_of_lem ((0, 1) ∷ []); cutter = net_of_lem []; met = replicate n one_met }

-- nodes 0 to n - 1, all of them at (0, 0)
abbrev pgon : ℕ → Mesh
pgon n = lent (replicate (2 * n) 0) (each n (λ j. j)) (n ∷ []) (11 ∷ []) (0 ∷ [])

abbrev refusal_of : Outcome → List ℕ
refusal_of (refusal r) = r ∷ []
refusal_of (pieces ps) = []

abbrev cut_into : Outcome → List ℕ → List ℕ → Bool
cut_into (refusal r) ns es = false
cut_into (pieces ps) ns es = both (same (flat ps) ns) (same (stops 0 ps) es)

abbrev no_edges : List Laid
no_edges = []

-- whether it is below 0, and its size
abbrev sign_size : ℤ → List ℕ
sign_size (pos n) = 0 ∷ n ∷ []
sign_size (negsuc n) = 1 ∷ (n + 1) ∷ []

-- the outline's, then the pieces'
abbrev areas_of : Scene → List ℤ
areas_of sc = map (doubled_area sc.coords) (outline_of sc the_subject 0 ∷ map ring (pieces_of sc the_subject 0))

holds : Row → Bool
unfolding right_by meeting_code inner_code doubled_area forward_on forward_cell
holds (overlay c) = right_by overlay_of (c ∷ [])
holds (set_to v c) = right_by (overlay_with v) (c ∷ [])
holds (meeting_of s t m) = same (meeting_code (meeting s t)) m
holds (order_of coords ns order) = same (map (λ s. s.dst) (sorted (stands_before (floats coords)) (map slot_to ns))) order
holds (inner_of coords ps p) = same (inner_code (strict_interior_point (floats coords) ps)) p
holds (pieces_of_lem coords es ns ends) = cut_into (cut_outcome es (cell_table (floats coords) es no_edges)) ns ends
holds (slots n r) = same (refusal_of (cut_outcome [] (filled n))) r
holds (corners n r) = eqb (mesh_refusal false (pgon n)) r
holds (nodes_along g coords k ns ms) = same (along_edge g (floats coords) k ns) ms
holds (weld_of s c ns) = same (weld s c) ns
holds (near_box coords e f js) = same (candidates (floats coords) (f ∷ []) (edge_box (floats coords) e)) js
holds (areas_of_lem s c ns) = same (joined sign_size (areas_of (scene_of None false s c))) ns
holds (crowded_by_lem n t) = eqb (bit (crowded (met_often n))) (bit t)
holds (forward_of g s c w t) = eqb (bit (forward_cell (scene_of g false s c) w 0)) (bit t)

all_hold : List Row → Bool
unfolding both holds
all_hold [] = true
all_hold (r ∷ rs) = both (holds r) (all_hold rs)

cases : T (all_hold rows)
unfolding rows all_hold
cases = tt
