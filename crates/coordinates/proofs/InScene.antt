-- Once the entry passes, the corners of outlines and of pieces are nodes of the scene, lent or new. Assumes nothing.
use mathlib.Core.Path.{◌≡◌, sym, subst}
use mathlib.Core.Bool.{false}
use mathlib.Core.List.{List, [], ◌++◌, Memᴰ}
use Prim.Native.Nat.{ℕ, ◌+◌, ◌*◌, ◌/◌, ◌<◌}
use native.Mathlib.Nat.{le_of_eq}
use native.Mathlib.Omega.{arith}
use lib.Dec.{eqb}
use lib.ListN.{length, get_or, length-append}
use lib.Ieee.{Float, nan}
use Rattle.lists.proofs.Regions.{front_in}
use Rattle.lists.proofs.Gather.{length_each, get_or_each}
use Rattle.cutting.specs.Edges.{Edge}
use Rattle.settings.specs.declared.Settings.{Settings}
use Rattle.entry.specs.Mesh.{Mesh, node_count}
use Rattle.entry.specs.Refused.{entry_of}
use Rattle.entry.proofs.Passed.{passed, cell_some, corner_below}
use Rattle.rules.specs.Mesh.{Side, the_subject, the_cutter, other, cell_at, cells_of}
use Rattle.rules.specs.Neighbours.{subject_net, cutter_net}
use Rattle.rules.specs.Meetings.{Met, net_of, added_by, scene_of}
use Rattle.rules.specs.Operations.{scene_for, pieces_of}
use Rattle.rules.specs.Overlay.{Lists, written, answered, answered_with}
use Rattle.rules.specs.Cell.{cell_of, outline_of}
use Rattle.coordinates.specs.Finite.{NodeOf}
use Rattle.coordinates.proofs.Nodes.{many_cells, cells_under, cutter_under, meetings_stand, outline_under}
use Rattle.coordinates.proofs.Pieces.{pieces_under}
use Rattle.coordinates.proofs.Points.{Each, Both, corners_under, edges_under}

pub scene_length : (o : Settings) (s c : Mesh) → length (scene_for o s c).coords ≡ length s.coords + length c.coords + length (added_by (scene_for o s c).met)
unfolding scene_of
scene_length o s c = omega (arith, length-append s.coords c.coords, length-append (s.coords ++ c.coords) (added_by (scene_for o s c).met))

-- an answer has the scene's coordinates
pub answer_coord : (o : Settings) (s c : Mesh) (l : Lists) (i : ℕ) → i < length (scene_for o s c).coords
    → get_or (answered o s c l).lists.coords i nan ≡ get_or (scene_for o s c).coords i nan
unfolding answered_with written
answer_coord o s c l i h = front_in l.coords (scene_for o s c).coords i nan h

-- What every theorem below takes: the entry passes.
module _ (o : Settings) (s c : Mesh) (w : ℕ) (pass : entry_of o s c w ≡ 0) where
  abbrev lent : List Float
  lent = s.coords ++ c.coords

  pub lent_even : length (s.coords ++ c.coords) ≡ 2 * (node_count s + node_count c)
  lent_even = let p = passed o s c w pass in omega (arith, length-append s.coords c.coords, p.subject.even, p.cutter.even)

  lent_node : (n : ℕ) → n < node_count s + node_count c → NodeOf (scene_for o s c) n
  lent_node n h = omega (arith, h, scene_length o s c, lent_even, length-append s.coords c.coords)

  pub subject_all : Each (Both (node_count s + node_count c)) (subject_net s).edges
  subject_all e h = let b = edges_under false s (passed o s c w pass).subject e h in (omega (arith, b.0), omega (arith, b.1))

  pub cutter_all : Each (Both (node_count s + node_count c)) (cutter_net (eqb o.op 5) s c).edges
  cutter_all = cutter_under s c (eqb o.op 5) (passed o s c w pass).cutter

  -- those that meetings name are nodes of the scene
  pub met_nodes_lem : (mt : Met) → Memᴰ mt (scene_for o s c).met → Each (NodeOf (scene_for o s c)) mt.nodes
  unfolding scene_of
  met_nodes_lem mt h n k =
      let a : 2 * n + 1 < length lent + length (added_by (scene_for o s c).met) =
      meetings_stand o.grid lent (subject_net s) (cutter_net (eqb o.op 5) s c) (node_count s + node_count c) (le_of_eq (sym lent_even)) subject_all cutter_all mt h n k in
      omega (arith, a, scene_length o s c, length-append s.coords c.coords)

  -- so are the ends of edges
  pub edge_nodes : (v : Side) → Each (Both (length (scene_for o s c).coords / 2)) (net_of (scene_for o s c) v).edges
  unfolding scene_of
  edge_nodes the_subject e h = let b = subject_all e h in (lent_node e.0 b.0, lent_node e.1 b.1)
  edge_nodes the_cutter e h = let b = cutter_all e h in (lent_node e.0 b.0, lent_node e.1 b.1)

  -- and the corners of cells
  cell_nodes : (v : Side) (i : ℕ) → i < length (net_of (scene_for o s c) v).cells → Each (NodeOf (scene_for o s c)) (cell_of (scene_for o s c) v i)
  unfolding scene_of subject_net cutter_net cells_of
  cell_nodes the_subject i h x k =
      let n = length_each (length s.ends) (cell_at s) in
      let l : i < length s.ends = omega (arith, n, h) in
      lent_node x (let b = corners_under false s (passed o s c w pass).subject i l x
      (subst (Memᴰ x) (get_or_each (length s.ends) (cell_at s) i [] l) k) in omega (arith, b))
  cell_nodes the_cutter i h x k = lent_node x (cells_under s c (eqb o.op 5) (passed o s c w pass).cutter i h x k)

  scene_some : (v : Side) (i : ℕ) → i < length (net_of (scene_for o s c) v).cells → NodeOf (scene_for o s c) 0
  unfolding scene_of subject_net cutter_net cells_of
  scene_some the_subject i h =
      let ok = (passed o s c w pass).subject in
      let l : i < length s.ends = omega (arith, length_each (length s.ends) (cell_at s), h) in
      lent_node 0 (omega (arith, corner_below false s ok i l 0 (cell_some false s ok i l)))
  scene_some the_cutter i h =
      let ok = (passed o s c w pass).cutter in
      let l : i < length c.ends = omega (arith, many_cells s c (eqb o.op 5) ok, h) in
      lent_node 0 (omega (arith, corner_below (eqb o.op 5) c ok i l 0 (cell_some (eqb o.op 5) c ok i l)))

  -- An outline as cut leads from node to node of the scene: its area is a sum of products of exact coordinates.
  pub outline_nodes : (v : Side) (i : ℕ) → i < length (net_of (scene_for o s c) v).cells → (e : Edge) → Memᴰ e (outline_of (scene_for o s c) v i)
      → NodeOf (scene_for o s c) e.0 × NodeOf (scene_for o s c) e.1
  outline_nodes v i h = outline_under (scene_for o s c) (length (scene_for o s c).coords / 2) met_nodes_lem v i (cell_nodes v i h)

  -- So do the pieces of a cell before any are dropped.
  pub piece_nodes : (v : Side) (i : ℕ) → i < length (net_of (scene_for o s c) v).cells → (p : List ℕ) → Memᴰ p (pieces_of (scene_for o s c) v i)
      → (n : ℕ) → Memᴰ n p → NodeOf (scene_for o s c) n
  piece_nodes v i h p k n l =
      pieces_under (length (scene_for o s c).coords / 2) (scene_some v i h) (scene_for o s c) met_nodes_lem v (edge_nodes (other v)) i (cell_nodes v i h) p k n l
