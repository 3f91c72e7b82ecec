-- Once the entry passes, every coordinate of the scene, lent or new, is finite and at most 2^42 in size. So each is its exact coordinate, areas are exact,
-- the order along an edge is total, and no answer holds a NaN. Assumes nothing.
use mathlib.Core.Path.{◌≡◌, sym, subst}
use mathlib.Core.Bool.{true, false}
use mathlib.Core.List.{List, ◌∷◌, ◌++◌, Memᴰ}
use Prim.Native.Nat.{ℕ, ◌+◌, ◌*◌, ◌/◌, ◌^◌, ◌<◌}
use native.Mathlib.Omega.{arith}
use lib.Dec.{eqb}
use lib.ListN.{length, get_or}
use lib.Ieee.{Float, nan, binary64, fits}
use lib.Ieee.Bits.{is_true}
use lib.Ieee.Exact.{HasValue}
use Rattle.lists.proofs.Gather.{in_list}
use Rattle.exact.specs.Exact.{mag, minus}
use Rattle.exact.proofs.ExactUnits.{exact_units}
use Rattle.cutting.specs.Edges.{Edge, key}
use Rattle.cutting.specs.Edition.{ours}
use Rattle.plane.specs.Plane.{is_number, point_at}
use Rattle.plane.proofs.FloatOrder.{finite_number}
use Rattle.grid.specs.Grid.{Grid, on_grid, booked}
use Rattle.grid.proofs.OnGrid.{still_fits, still_finite, bounded_42, by_grid}
use Rattle.settings.specs.declared.Settings.{Settings}
use Rattle.entry.specs.Mesh.{Mesh}
use Rattle.entry.specs.Refused.{entry_of}
use Rattle.entry.proofs.Passed.{passed}
use Rattle.rules.specs.Mesh.{Side}
use Rattle.rules.specs.Meetings.{net_of, added_by, scene_of}
use Rattle.rules.specs.Operations.{scene_for}
use Rattle.rules.specs.Nodes.{projected, collected}
use Rattle.rules.specs.Overlay.{Lists, Result, answered, answered_with, overlay_of}
use Rattle.rules.specs.Demand3.{Accepted}
use Rattle.rules.proofs.Accepts.{accepted}
use Rattle.coordinates.specs.Points.{Doubles}
use Rattle.coordinates.specs.Finite.{Bounded, NodeOf, Ordered}
use Rattle.coordinates.proofs.Booked.{allowed_bounded}
use Rattle.coordinates.proofs.Added.{each_added}
use Rattle.coordinates.proofs.Nodes.{collected_under, key_under}
use Rattle.coordinates.proofs.InScene.{scene_length, answer_coord, met_nodes_lem, edge_nodes}
use Rattle.coordinates.proofs.Projections.{BoundedPoint, projection_finite, numbers_ordered}
use Rattle.coordinates.proofs.Points.{Each, each_join, each_cons, Both, mesh_allowed}

-- where a coordinate is put on a grid, it is still finite and at most 2^42 in size
booked_bounded : (g : Grid) (x : Float) → Bounded x → Bounded (booked g x)
booked_bounded g x b =
    by_grid Bounded g x b (λ k h. record {
      fit = is_true (fits binary64 (on_grid k x)) (still_fits k x h b.fit b.end);
      end = still_finite k x h b.fit b.end;
      size = bounded_42 k x h b.fit b.end b.size;
    })

-- What every theorem below takes: the entry passes, and the coordinates are f64, as in every list of f64 that a caller lends.
module _ (o : Settings) (s c : Mesh) (w : ℕ) (pass : entry_of o s c w ≡ 0) (subject : Doubles s.coords) (cutter : Doubles c.coords) where
  abbrev lent : List Float
  lent = s.coords ++ c.coords

  abbrev scene : List Float
  scene = (scene_for o s c).coords

  lent_bounded : Each Bounded lent
  lent_bounded =
      let p = passed o s c w pass in
      each_join s.coords c.coords (λ x h. allowed_bounded x (mesh_allowed false s p.subject subject x h))
      (λ x h. allowed_bounded x (mesh_allowed (eqb o.op 5) c p.cutter cutter x h))

  scene_each : Each Bounded scene
  unfolding scene_of
  scene_each = each_join lent (added_by (scene_for o s c).met) lent_bounded (each_added o s c w pass subject Bounded (booked_bounded o.grid))

  -- Every coordinate of the scene, lent or new, is finite and at most 2^42 in size.
  pub scene_finite : (i : ℕ) → i < length (scene_for o s c).coords → Bounded (get_or (scene_for o s c).coords i nan)
  scene_finite i h = scene_each (get_or scene i nan) (in_list scene i h nan)

  -- Its exact coordinate is the number itself: nothing is lost at new points either.
  pub exact_at_new : (i : ℕ) → i < length (scene_for o s c).coords → let x = get_or (scene_for o s c).coords i nan in HasValue x (minus x) (mag x) (2 ^ 1074)
  exact_at_new i h = let b = scene_finite i h in exact_units (get_or scene i nan) b.fit b.end

  -- Both coordinates of a node are numbers, and the exact ones are these themselves.
  pub exact_node : (n : ℕ) → NodeOf (scene_for o s c) n → let p = point_at (scene_for o s c).coords n in
      HasValue p.x (minus p.x) (mag p.x) (2 ^ 1074) × HasValue p.y (minus p.y) (mag p.y) (2 ^ 1074)
  unfolding point_at
  exact_node n h = (exact_at_new (2 * n) (omega arith), exact_at_new (2 * n + 1) (omega arith))

  -- ---- the order along an edge

  node_bounded : (n : ℕ) → NodeOf (scene_for o s c) n → BoundedPoint (point_at (scene_for o s c).coords n)
  unfolding point_at
  node_bounded n h = record { x = scene_finite (2 * n) (omega arith); y = scene_finite (2 * n + 1) (omega arith) }

  nodes_ordered : (k : Edge) (a b : ℕ) → NodeOf (scene_for o s c) k.0 → NodeOf (scene_for o s c) k.1 → NodeOf (scene_for o s c) a → NodeOf (scene_for o s c) b
      → let x = (projected (scene_for o s c).coords k a).projection in let y = (projected (scene_for o s c).coords k b).projection in
      (is_number x ≡ true) × (is_number y ≡ true) × Ordered x y
  nodes_ordered k a b f g h i =
      let at = node_bounded in
      let x = finite_number _ (projection_finite _ _ _ (at k.0 f) (at k.1 g) (at a h)) in
      let y = finite_number _ (projection_finite _ _ _ (at k.0 f) (at k.1 g) (at b i)) in
      (x, y, numbers_ordered _ _ x y)

  -- What `sorted_nodes` sorts, the projections of an edge's first node and of those collected, are numbers, and of two one is before the other, or they are
  -- equal by value and sign.
  pub projections_ordered : (v : Side) (e : Edge) → Memᴰ e (net_of (scene_for o s c) v).edges
      → (a b : ℕ) → Memᴰ a ((key e).0 ∷ collected (scene_for o s c) e) → Memᴰ b ((key e).0 ∷ collected (scene_for o s c) e)
      → let x = (projected (scene_for o s c).coords (key e) a).projection in let y = (projected (scene_for o s c).coords (key e) b).projection in
      (is_number x ≡ true) × (is_number y ≡ true) × Ordered x y
  projections_ordered v e h a b i j =
      let n = length (scene_for o s c).coords / 2 in
      let met = met_nodes_lem o s c w pass in
      let k : Both n (key e) = key_under (scene_for o s c) n met e (edge_nodes o s c w pass v e h) in
      let all : Each (NodeOf (scene_for o s c)) ((key e).0 ∷ collected (scene_for o s c) e) =
      each_cons (key e).0 (collected (scene_for o s c) e) k.0 (collected_under (scene_for o s c) n met e) in
      nodes_ordered (key e) a b k.0 k.1 (all a i) (all b j)

  -- ---- the answer

  answer_bounded : (l : Lists) (i : ℕ) → i < length s.coords + length c.coords + 2 * (answered o s c l).added → Bounded (get_or (answered o s c l).lists.coords i nan)
  unfolding answered_with
  answer_bounded l i h =
      let within : i < length (scene_for o s c).coords = omega (arith, h, scene_length o s c) in
      subst Bounded (sym (answer_coord o s c l i within)) (scene_finite i within)

-- No answer holds a NaN: the coordinates of an accepted overlay, lent nodes' and new points', are finite and at most 2^42 in size.
pub no_nan : (o : Settings) (s c : Mesh) (l : Lists) → Accepted o s c l → Doubles s.coords → Doubles c.coords
    → (i : ℕ) → i < length s.coords + length c.coords + 2 * (overlay_of o s c l).added → Bounded (get_or (overlay_of o s c l).lists.coords i nan)
no_nan o s c l h subject cutter i =
    let t = accepted ours o s c l h in
    subst (λ (r : Result). i < length s.coords + length c.coords + 2 * r.added → Bounded (get_or r.lists.coords i nan)) (sym t.answer)
    (answer_bounded o s c (length l.work) t.entry subject cutter l i)
