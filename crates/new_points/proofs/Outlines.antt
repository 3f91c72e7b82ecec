-- Once the entry passes, every new point stands on the outline as cut of a subject cell. Assumes nothing.
use mathlib.Core.Path.{◌≡◌, refl, sym, ap₂, ◌∙◌, subst}
use mathlib.Core.Bool.{true, false}
use mathlib.Core.List.{List, [], ◌++◌, Memᴰ}
use Prim.Native.Nat.{ℕ, ◌+◌, ◌*◌, ◌/◌, ◌≤◌, ◌<◌}
use native.Mathlib.Omega.{arith}
use lib.Dec.{eqb}
use lib.ListN.{length, get_or}
use lib.Ieee.{Float, nan}
use Rattle.lists.proofs.Gather.{get_or_each, in_list}
use Rattle.plane.specs.Plane.{is_number, point_at}
use Rattle.cutting.specs.Edges.{Edge, edge_at, key, ring}
use Rattle.settings.specs.declared.Settings.{Settings}
use Rattle.entry.specs.Mesh.{Mesh, node_count}
use Rattle.entry.specs.Passed.{Sound}
use Rattle.entry.specs.Refused.{entry_of}
use Rattle.entry.proofs.Passed.{placed_finite, passed, node_within}
use Rattle.rules.specs.Mesh.{the_subject, cell_at, cells_of}
use Rattle.rules.specs.Neighbours.{Net, subject_net, cutter_net}
use Rattle.rules.specs.SpatialIndex.{edge_box, boxes_meet}
use Rattle.rules.specs.Meetings.{Met, Scene, added_by, scene_of}
use Rattle.rules.specs.Cell.{cell_of, outline_of}
use Rattle.rules.specs.Operations.{scene_for}
use Rattle.rules.proofs.EdgePairs.{Close}
use Rattle.rules.proofs.Closing.{cells_lent}
use Rattle.plane.proofs.FloatOrder.{finite_number}
use Rattle.coordinates.proofs.Points.{Both, corners_under, edges_under}
use Rattle.coordinates.proofs.InScene.{lent_even, cutter_all}
use Rattle.coordinates.proofs.Meetings.{Source, same_point, origin_close, meetings_origin, new_points_met}
use Rattle.new_points.proofs.Boxes.{Numbers}
use Rattle.new_points.proofs.Rings.{descending_in}
use Rattle.new_points.proofs.Sorted.{met_sorted}
use Rattle.new_points.proofs.Darts.{Touched, outline_touches}
use Rattle.new_points.proofs.Near.{same_box, near_cut}

-- the coordinates of a mesh are numbers
coord_number : (m : Mesh) → Sound false m → (i : ℕ) → i < length m.coords → is_number (get_or m.coords i nan) ≡ true
coord_number m ok i h = finite_number (get_or m.coords i nan) (placed_finite (get_or m.coords i nan) (ok.placed i h))

node_numbers : (m : Mesh) → Sound false m → (n : ℕ) → n < node_count m → Numbers (point_at m.coords n)
unfolding point_at
node_numbers m ok n h = record { x = coord_number m ok (2 * n) (omega arith); y = coord_number m ok (2 * n + 1) (node_within false m ok n h) }

module _ (o : Settings) (s c : Mesh) (w : ℕ) (pass : entry_of o s c w ≡ 0) where
  abbrev sc : Scene
  sc = scene_for o s c

  abbrev lent : List Float
  lent = s.coords ++ c.coords

  abbrev cutting : Net
  cutting = cutter_net (eqb o.op 5) s c

  -- the number of a new point comes from a meeting
  point_met : (n : ℕ) → node_count s + node_count c ≤ n → n < length sc.coords / 2 → Source o.grid lent (subject_net s) cutting sc.met n
  unfolding scene_of
  point_met = new_points_met o.grid lent (subject_net s) cutting (node_count s + node_count c) (lent_even o s c w pass)

  -- which is of two edges whose boxes meet
  edges_met : (mt : Met) → Memᴰ mt sc.met → Close o.grid lent (subject_net s) cutting mt.subject_edge mt.cutter_edge
  unfolding scene_of
  edges_met mt k = origin_close o.grid lent (subject_net s) cutting mt (meetings_origin o.grid lent (subject_net s) cutting mt k)

  -- a lent node is where it was
  lent_point : (n : ℕ) → n < node_count s + node_count c → point_at sc.coords n ≡ point_at lent n
  unfolding scene_of
  lent_point n h = same_point lent (added_by sc.met) n (omega (arith, h, lent_even o s c w pass))

  lent_box : (e : Edge) → Both (node_count s + node_count c) e → edge_box sc.coords e ≡ edge_box lent e
  unfolding scene_of
  lent_box e h = same_box lent (added_by sc.met) e (omega (arith, h.0, lent_even o s c w pass)) (omega (arith, h.1, lent_even o s c w pass))

  -- those of the subject have numbers for coordinates
  subject_numbers : (n : ℕ) → n < node_count s → Numbers (point_at sc.coords n)
  subject_numbers n h =
      let ok = (passed o s c w pass).subject in
      subst Numbers (sym (lent_point n (omega (arith, h)) ∙ same_point s.coords c.coords n (node_within false s ok n h))) (node_numbers s ok n h)

  -- the corners of a subject cell
  cell_is : (i : ℕ) → i < length s.ends → cell_of sc the_subject i ≡ cell_at s i
  unfolding scene_of subject_net cells_of
  cell_is i h = get_or_each (length s.ends) (cell_at s) i [] h

  corner_numbers : (i : ℕ) → i < length s.ends → (n : ℕ) → Memᴰ n (cell_of sc the_subject i) → Numbers (point_at sc.coords n)
  corner_numbers i h n k = subject_numbers n (corners_under false s (passed o s c w pass).subject i h n (subst (Memᴰ n) (cell_is i h) k))

  -- an edge of the subject is an edge of one of its cells
  own_cell : (e : Edge) → Memᴰ e sc.subject.edges → (i : ℕ) × (i < length s.ends) × Memᴰ e (ring (cell_of sc the_subject i))
  unfolding scene_of subject_net
  own_cell e k = let r = descending_in (cells_of s) e k in (r.0, omega (arith, r.1, cells_lent o.grid (eqb o.op 5) s c the_subject), r.2)

  -- the ends of the subject's edges
  subject_ends : (e : Edge) → Memᴰ e sc.subject.edges → Both (node_count s) e
  unfolding scene_of
  subject_ends = edges_under false s (passed o s c w pass).subject

  -- where boxes of edges meet over the lent coordinates, they meet over all
  close_boxes : (i j : ℕ) → Close o.grid lent (subject_net s) cutting i j
      → boxes_meet (edge_box sc.coords (edge_at sc.cutter.edges j)) (edge_box sc.coords (edge_at sc.subject.edges i)) ≡ true
  unfolding scene_of
  close_boxes i j k =
      let e = edge_at (subject_net s).edges i in
      let f = edge_at cutting.edges j in
      let a = subject_ends e (in_list (subject_net s).edges i k.subject (0, 0)) in
      let b = cutter_all o s c w pass f (in_list cutting.edges j k.cutter (0, 0)) in
      ap₂ boxes_meet (lent_box f b) (lent_box e (omega (arith, a.0), omega (arith, a.1))) ∙ k.boxes

  -- Every new point is an end of an outline dart of some subject cell.
  pub point_on_outline : (n : ℕ) → node_count s + node_count c ≤ n → n < length (scene_for o s c).coords / 2
      → (i : ℕ) × (i < length s.ends) × Touched n (outline_of (scene_for o s c) the_subject i)
  unfolding scene_of
  point_on_outline n low high =
      let f = point_met n low high in
      let close = edges_met f.met f.found in
      let es = (subject_net s).edges in
      let e = edge_at es f.met.subject_edge in
      let at : Memᴰ e es = in_list es f.met.subject_edge close.subject (0, 0) in
      let cell = own_cell e at in
      let ends = subject_ends e at in
      let apart : n ≡ (key e).1 → ⊥ = λ q. omega (arith, q, low, ends.0, ends.1) in
      let sorted = met_sorted sc f.met f.found n (subst (Memᴰ n) (sym f.node) (Memᴰ.head refl)) in
      let darts = outline_touches sc (cell_of sc the_subject cell.0) e n (key e).1 cell.2 apart sorted.0 sorted.1 in
      let cut = near_cut sc the_subject cell.0 (corner_numbers cell.0 cell.1) e cell.2 f.met.cutter_edge close.cutter (close_boxes f.met.subject_edge f.met.cutter_edge close) in
      (cell.0, cell.1, subst (Touched n) (sym cut) darts)
