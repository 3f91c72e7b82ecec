-- The coordinates that the meetings of an overlay add, once the entry passes: each is that of a new point of a subject edge, put on the grid. Assumes nothing.
use mathlib.Core.Path.{◌≡◌, sym, subst}
use mathlib.Core.Bool.{false}
use mathlib.Core.List.{List, [], ◌∷◌, ◌++◌}
use Prim.Native.Nat.{ℕ, ◌<◌}
use lib.Dec.{eqb}
use lib.ListN.{length}
use lib.Ieee.{Float}
use Rattle.lists.proofs.Gather.{in_list}
use Rattle.grid.specs.Grid.{booked}
use Rattle.cutting.specs.Edges.{edge_at}
use Rattle.settings.specs.declared.Settings.{Settings}
use Rattle.entry.specs.Mesh.{Mesh}
use Rattle.entry.specs.Refused.{entry_of}
use Rattle.entry.proofs.Passed.{passed}
use Rattle.rules.specs.Neighbours.{subject_net, cutter_net}
use Rattle.rules.specs.Meetings.{Met, segment_of, added_by, scene_of}
use Rattle.rules.specs.Operations.{scene_for}
use Rattle.coordinates.specs.Points.{Doubles}
use Rattle.coordinates.specs.Booked.{AllowedEnds}
use Rattle.coordinates.specs.Finite.{Bounded}
use Rattle.coordinates.proofs.Booked.{new_point_lem}
use Rattle.coordinates.proofs.Nodes.{each_joined}
use Rattle.coordinates.proofs.Meetings.{Origin, bare, new, meetings_origin}
use Rattle.coordinates.proofs.Points.{Each, each_none, each_cons, edges_under, allowed_ends, before_moved}

module _ (o : Settings) (s c : Mesh) (w : ℕ) (pass : entry_of o s c w ≡ 0) (subject : Doubles s.coords) where
  abbrev lent : List Float
  lent = s.coords ++ c.coords

  -- the ends of a subject's edge are lent
  pub edge_allowed : (i : ℕ) → i < length (subject_net s).edges → AllowedEnds (segment_of lent (edge_at (subject_net s).edges i))
  edge_allowed i h =
      let ok = (passed o s c w pass).subject in
      let e = edge_at (subject_net s).edges i in
      allowed_ends s c ok subject e (edges_under false s ok e (in_list (subject_net s).edges i h (0, 0)))

  -- what holds of each finite number of at most 2^42 in size where it goes on the grid
  module _ (Q : Float → Type 0) (h : (x : Float) → Bounded x → Q (booked o.grid x)) where
    point_each : (m : Met) → Origin o.grid lent (subject_net s) (cutter_net (eqb o.op 5) s c) m → Each Q m.point
    point_each m (bare k e) = subst (Each Q) (sym e) (each_none Q)
    point_each m (new k x y p e) =
        let b = before_moved o.grid _ _ x y e in
        let n = new_point_lem _ _ (edge_allowed m.subject_edge k.subject) b.0 b.1 b.2 in
        subst (Each Q) (sym p) (each_cons x (y ∷ []) (subst Q b.3 (h b.0 n.0.bounded)) (each_cons y [] (subst Q b.4 (h b.1 n.1.bounded)) (each_none Q)))

    pub each_added : Each Q (added_by (scene_for o s c).met)
    unfolding scene_of
    each_added =
        each_joined Q (λ (m : Met). m.point) (scene_for o s c).met
        (λ m i. point_each m (meetings_origin o.grid lent (subject_net s) (cutter_net (eqb o.op 5) s c) m i))
