-- Document 02, W11, of an overlay: each new point that an accepted overlay's answer lists is within the allowance of its meeting's subject edge. Assumes nothing.
use mathlib.Core.Path.{◌≡◌, sym, ap, ap₂, ◌∙◌}
use mathlib.Core.Bool.{true}
use mathlib.Core.List.{List, [], ◌∷◌, ◌++◌}
use Prim.Native.Nat.{ℕ, ◌+◌, ◌*◌, ◌≤◌, ◌<◌}
use native.Mathlib.Omega.{arith}
use lib.Dec.{eqb}
use lib.ListN.{length, length-append}
use lib.Ieee.{Float}
use Rattle.plane.specs.Plane.{point_at, in_unit}
use Rattle.plane.specs.declared.Point.{Point}
use Rattle.segments.specs.declared.Meeting.TheVariants.{New}
use Rattle.cutting.specs.Edition.{ours}
use Rattle.settings.specs.declared.Settings.{Settings}
use Rattle.entry.specs.Mesh.{Mesh, node_count}
use Rattle.rules.specs.Neighbours.{Net, subject_net, cutter_net}
use Rattle.rules.specs.Meetings.{Met, meeting_on, scene_of}
use Rattle.rules.specs.Operations.{scene_for}
use Rattle.rules.specs.Overlay.{Lists, Result, answered, answered_with, overlay_of}
use Rattle.rules.specs.Demand3.{Accepted}
use Rattle.rules.proofs.Accepts.{Taken, accepted}
use Rattle.coordinates.specs.Points.{Doubles}
use Rattle.coordinates.specs.Booked.{parameter, PointWithin}
use Rattle.coordinates.specs.Stakes.{subject_segment, cutter_segment, Stake}
use Rattle.coordinates.proofs.Within.{on_grid_within, on_edge}
use Rattle.coordinates.proofs.InScene.{scene_length, answer_coord, lent_even}
use Rattle.coordinates.proofs.Added.{edge_allowed}
use Rattle.coordinates.proofs.Meetings.{Origin, bare, new, Source, meetings_origin, new_points_met}

-- a node of an answer stands where it does in the scene
answer_point : (o : Settings) (s c : Mesh) (l : Lists) (i : ℕ) → 2 * i + 1 < length (scene_for o s c).coords
    → point_at (answered o s c l).lists.coords i ≡ point_at (scene_for o s c).coords i
unfolding point_at
answer_point o s c l i h =
    ap₂ {C = Point} (λ (x y : Float). record { x = x; y = y }) (answer_coord o s c l (2 * i) (omega (arith, h))) (answer_coord o s c l (2 * i + 1) h)

module _ (o : Settings) (s c : Mesh) (l : Lists) (h : Accepted o s c l) (subject : Doubles s.coords) where
  abbrev lent : List Float
  lent = s.coords ++ c.coords

  abbrev cutting : Net
  cutting = cutter_net (eqb o.op 5) s c

  t : Taken ours o s c l
  t = accepted ours o s c l h

  -- the point p of a meeting: its t is in 0..1, and how far it is off
  origin_stake : (m : Met) (p : Point) → Origin o.grid lent (subject_net s) cutting m → m.point ≡ p.x ∷ p.y ∷ []
      → (in_unit (parameter (subject_segment o s c m) (cutter_segment o s c m)) ≡ true) × PointWithin o.grid (subject_segment o s c m) (cutter_segment o s c m) p.x p.y
  unfolding scene_of
  origin_stake m p (bare k e) q = absurd cc
  origin_stake m p (new k x y e r) q =
      let S = subject_segment o s c m in
      let C = cutter_segment o s c m in
      let at : meeting_on o.grid S C ≡ New p.x p.y = cc in
      (on_edge o.grid S C p.x p.y at, on_grid_within o.grid S C (edge_allowed o s c (length l.work) t.entry subject m.subject_edge k.subject) p.x p.y at)

  -- a meeting that a node comes from
  source_stake : (i : ℕ) → point_at (overlay_of o s c l).lists.coords i ≡ point_at (scene_for o s c).coords i
      → Source o.grid lent (subject_net s) cutting (scene_for o s c).met i → Stake o s c l i
  unfolding scene_of
  source_stake i same f =
      let n = origin_stake f.met (point_at (overlay_of o s c l).lists.coords i) (meetings_origin o.grid lent (subject_net s) cutting f.met f.found)
      (f.point ∙ ap (λ (p : Point). p.x ∷ p.y ∷ []) (sym same)) in
      record { met = f.met; found = f.found; node = f.node; inside = n.0; off = n.1 }

  -- Every new point that an accepted overlay's answer lists.
  pub stakes : (i : ℕ) → node_count s + node_count c ≤ i → i < node_count s + node_count c + (overlay_of o s c l).added → Stake o s c l i
  unfolding answered_with scene_of
  stakes i low high =
      let even = lent_even o s c (length l.work) t.entry in
      let within : 2 * i + 1 < length (scene_for o s c).coords =
      omega (arith, high, ap (λ (r : Result). r.added) t.answer, scene_length o s c, length-append s.coords c.coords, even) in
      source_stake i (ap (λ (r : Result). point_at r.lists.coords i) t.answer ∙ answer_point o s c l i within)
      (new_points_met o.grid lent (subject_net s) cutting (node_count s + node_count c) even i low (omega (arith, within)))
