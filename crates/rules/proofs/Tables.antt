-- A table of overlays and their answers, lists and all, and the test that the definitions give them. Assumes nothing.
use mathlib.Core.Bool.{Bool, true, false}
use mathlib.Core.List.{List, [], ◌∷◌, map}
use Prim.Native.Nat.{ℕ, ◌/◌}
use lib.ListN.{length}
use lib.Dec.{eqb}
use lib.Ieee.{Float, binary64, add, sub, mul, div, neg, lt, le, eq, of_bits, to_bits}
use Rattle.lists.specs.Search.{seek, first, every}
use Rattle.lists.specs.Gather.{gathered, all, passing, tally, slim_after, slim, joined}
use Rattle.lists.specs.Sort.{insert, sort_onto}
use Rattle.lists.specs.Regions.{zeros}
use Rattle.lists.specs.Regions as Regions
use Rattle.exact.specs.Exact.{coord, mag, sign, ordered}
use Rattle.exact.specs.Angle.{angles, orientation}
use Rattle.plane.specs.Plane.{magnitude, larger, scale, between, along, tolerance, point_at}
use Rattle.segments.specs.Colinear.{parameters, in_order, first_then_second, of_order, colinear}
use Rattle.segments.specs.Meet.{near, settled, crossing, meeting_or}
use Rattle.corners.specs.Corners as Corners
use Rattle.insides.specs.Inside as Polygon
use Rattle.polygons.specs.Interior.{heights, passed, climb, widest, widest_in, crossed, crossings, lowest, strict_interior_point}
use Rattle.cutting.specs.Edges.{hops, ring, rings, times}
use Rattle.cutting.specs.Cell.{
  darts_along,
  own_darts,
  outline_darts,
  near_darts,
  among,
  repeats,
  is_new,
  new_to,
  inner_with,
  edge_slots,
  table,
  stands,
  cell_table_with,
  copied_table,
  doubled,
}
use Rattle.cutting.specs.Walk.{slot, next_open, begin, rest, onward, arrive, follow, step, walk_steps, starts, walk_from, walk_with}
use Rattle.cutting.specs.Outcome.{closes_up, cut_outcome_with, flat, stops}
use Rattle.std.specs.Prelude.{None}
use Rattle.grid.specs.Grid.{steps, grid_number, on_grid, booked}
use Rattle.settings.specs.declared.Settings.{Settings}
use Rattle.entry.specs.Mesh.{Mesh, mesh, prior}
use Rattle.entry.specs.Refused.{ends_ok, coord_ok, coords_ok, kind_ok, kinds_ok, nodes_ok, absent, cell_ok, cells_ok, shape_ok, call_ok, grid_ok, work_ok, entry_of}
use Rattle.entry.specs.ByMesh.{mesh_refusal, lower_refusal}
use Rattle.rules.specs.Mesh.{cell_at, cells_of}
use Rattle.rules.specs.Snap.{used_nodes, sorted_indices_for, nearest_to, closest_within, weld}
use Rattle.rules.specs.Neighbours.{added, added_all, descending_to, subject_net, cutter_net}
use Rattle.rules.specs.SpatialIndex.{box_to, boxes_meet, box_holds, candidates}
use Rattle.rules.specs.Meetings.{meeting_on, met_pair, met_all, meetings_to, meetings, scene_of}
use Rattle.rules.specs.Layers.{layers_of}
use Rattle.rules.specs.Nodes.{collected, crowded, before_last, along_edge, sorted_nodes}
use Rattle.rules.specs.Cell.{darts_of, near_of, treated}
use Rattle.rules.specs.Inside.{some_holds, point_inside}
use Rattle.rules.specs.Operations.{piece_with, lies_inside, kept_with, listing_with, doubled_cells}
use Rattle.rules.specs.Refusals.{course_with, first_refusal}
use Rattle.rules.specs.Overlay.{Lists, Result, lent_lists, cleared, written, named_points, answered_with, state_with, overlay_with}
use Rattle.rules.specs.Demand3.{set_on}

abbrev pub floats : List ℕ → List Float
floats bits = map (of_bits binary64) bits

-- coordinates by their bits; all nodes are of layer 0
abbrev pub lent : (c n e k f : List ℕ) → Mesh
lent c n e k f = mesh (floats c) (zeros (length c / 2)) n e k f

abbrev pub on_lists : (c n e k f m i w : List ℕ) → Lists
on_lists c n e k f m i w = lent_lists (floats c) (zeros (length c / 2)) n e k f m i w

-- nodes of these layers
abbrev pub layered : List ℕ → Mesh → Mesh
layered ls m = mesh m.coords ls m.nodes m.ends m.kinds m.families

abbrev pub with_layers : List ℕ → Lists → Lists
with_layers ls l = lent_lists l.coords ls l.nodes l.ends l.kinds l.families l.meshes l.cells l.work

-- what is set, meshes, the lists at entry, and the result with the lists at exit
pub data Case : Type 0 where
  asked : Settings → Mesh → Mesh → Lists → Result → Case

-- without a grid: operation and meeting limit
abbrev pub case : ℕ → ℕ → Mesh → Mesh → Lists → Result → Case
case op m s c l r = asked (set_on None op m) s c l r

-- Bool tests that match on their arguments, so that no branch is computed that is not taken
unfoldable pub both : Bool → Bool → Bool
both true b = b
both false b = false

unfoldable pub same : List ℕ → List ℕ → Bool
same [] [] = true
same [] (y ∷ ys) = false
same (x ∷ xs) [] = false
same (x ∷ xs) (y ∷ ys) = both (eqb x y) (same xs ys)

unfoldable pub same_lists : Lists → Lists → Bool
same_lists l l' =
    both (same (map (to_bits binary64) l.coords) (map (to_bits binary64) l'.coords))
    (both (same l.layers l'.layers) (both (same l.nodes l'.nodes) (both (same l.ends l'.ends)
    (both (same l.kinds l'.kinds) (both (same l.families l'.families)
    (both (same l.meshes l'.meshes) (both (same l.cells l'.cells) (same l.work l'.work))))))))

unfoldable pub same_result : Result → Result → Bool
same_result r r' =
    both (same (r.code ∷ r.pieces ∷ r.points ∷ r.doubled ∷ r.added ∷ []) (r'.code ∷ r'.pieces ∷ r'.points ∷ r'.doubled ∷ r'.added ∷ []))
    (same_lists r.lists r'.lists)

-- an overlay gives the answers of the cases
unfoldable pub right_by : (Settings → Mesh → Mesh → Lists → Result) → List Case → Bool
unfolding both same same_lists same_result add sub mul div neg lt le eq of_bits to_bits seek first gathered all passing tally slim_after slim joined insert sort_onto
    Regions.run Regions.front coord mag sign ordered angles orientation magnitude larger scale between along tolerance point_at parameters in_order first_then_second of_order
    colinear near settled crossing meeting_or Corners.corner_at Corners.corner_after Corners.corner_before Corners.oriented Corners.area_term Corners.doubled_to Corners.doubled_sum
    Corners.signed_area2 Corners.turned Corners.into_ccw2 Polygon.orient2d2 Polygon.clamped Polygon.ortho_dist2 Polygon.settle Polygon.nearer_edge Polygon.nearest_among
    Polygon.nearest Polygon.left_of Polygon.reflex Polygon.at_corner Polygon.contains_stable Polygon.inside heights passed climb widest widest_in crossed crossings
    lowest strict_interior_point hops ring rings times darts_along own_darts outline_darts near_darts among repeats is_new new_to inner_with edge_slots table stands
    cell_table_with copied_table doubled slot next_open begin rest onward arrive follow step walk_steps starts walk_from walk_with closes_up cut_outcome_with flat stops
    every prior ends_ok coord_ok coords_ok kind_ok kinds_ok nodes_ok absent cell_ok cells_ok shape_ok call_ok grid_ok work_ok mesh_refusal lower_refusal entry_of cell_at cells_of used_nodes
    sorted_indices_for nearest_to closest_within weld added added_all descending_to subject_net cutter_net box_to boxes_meet box_holds candidates steps grid_number on_grid booked meeting_on met_pair
    met_all meetings_to meetings scene_of layers_of collected crowded before_last along_edge sorted_nodes darts_of near_of treated some_holds point_inside piece_with
    lies_inside kept_with listing_with doubled_cells course_with first_refusal cleared written named_points answered_with state_with overlay_with
right_by overlay [] = true
right_by overlay (asked o s c l r ∷ cs) = both (same_result (overlay o s c l) r) (right_by overlay cs)
