-- Document 02, W11, of an overlay: "for every new point .. each coordinate is to be shown within". Each stake of an answer, with its meeting. Assumes nothing.
use Rattle.std.specs.Prelude.{◌≡◌, true, [], ◌∷◌, ◌++◌, ℕ}
use mathlib.Core.List.{Memᴰ}
use Rattle.plane.specs.Plane.{point_at, in_unit}
use Rattle.segments.specs.declared.Segment.{Segment}
use Rattle.settings.specs.declared.Settings.{Settings}
use Rattle.cutting.specs.Edges.{edge_at}
use Rattle.entry.specs.Mesh.{Mesh}
use Rattle.rules.specs.Meetings.{Met, segment_of}
use Rattle.rules.specs.Operations.{scene_for}
use Rattle.rules.specs.Overlay.{Lists, overlay_of}
use Rattle.coordinates.specs.Booked.{parameter, PointWithin}

module _ (o : Settings) (s c : Mesh) where
  -- P1 and P2 of a meeting: the subject edge's nodes, as lent
  abbrev pub subject_segment : Met → Segment
  subject_segment m = segment_of (s.coords ++ c.coords) (edge_at (scene_for o s c).subject.edges m.subject_edge)

  -- P3 and P4: the cutter edge's
  abbrev pub cutter_segment : Met → Segment
  cutter_segment m = segment_of (s.coords ++ c.coords) (edge_at (scene_for o s c).cutter.edges m.cutter_edge)

  -- The answer's node i is the one node of a meeting, t is in 0..1, so that the exact point is on that meeting's subject edge, and the node no farther off it than W11 says.
  pub record Stake (l : Lists) (i : ℕ) : Type 0 where
    pub met : Met
    pub found : Memᴰ met (scene_for o s c).met
    pub node : met.nodes ≡ i ∷ []
    pub inside : in_unit (parameter (subject_segment met) (cutter_segment met)) ≡ true
    pub off : PointWithin o.grid (subject_segment met) (cutter_segment met) (point_at (overlay_of o s c l).lists.coords i).x (point_at (overlay_of o s c l).lists.coords i).y
