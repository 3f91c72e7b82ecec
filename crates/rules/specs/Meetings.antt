-- Document 01, module 7 (overlay.rs, `compute_intersections`): where edges of the two meshes meet. Assumes nothing.
use Rattle.std.specs.Prelude.{Bool, List, [], ◌∷◌, ◌++◌, ℕ, zero, suc, ◌+◌, ◌/◌, length, Float}
use Rattle.lists.specs.Gather.{joined}
use Rattle.plane.specs.Plane.{point_at}
use Rattle.grid.specs.Grid.{Grid, booked, OnGrid}
use Rattle.segments.specs.Meet.{meeting}
use Rattle.cutting.specs.Edges.{Edge, edge_at}
use Rattle.entry.specs.Mesh.{Mesh}
use Rattle.rules.specs.Mesh.{Side, the_subject, the_cutter}
use Rattle.rules.specs.Neighbours.{Net, subject_net, cutter_net}
use Rattle.rules.specs.SpatialIndex.{edge_box, candidates}
use Rattle.segments.specs.declared.Segment.{Segment}
use Rattle.segments.specs.declared.PointId.{PointId}
use Rattle.segments.specs.declared.PointId.TheVariants.{P1, P2, P3, P4}
use Rattle.segments.specs.declared.Meeting.{Meeting}
use Rattle.segments.specs.declared.Meeting.TheVariants.{Apart, Existing, New, Overlap}

-- a meeting: its two edges, the one or two nodes there, and the two coordinates of a new point
pub record Met : Type 0 where
  pub subject_edge : ℕ
  pub cutter_edge : ℕ
  pub nodes : List ℕ
  pub point : List Float

abbrev pub segment_of : List Float → Edge → Segment
segment_of coords e = record { a = point_at coords e.0; b = point_at coords e.1 }

-- P1 and P2 are the subject edge's nodes, P3 and P4 the cutter edge's
abbrev pub node_of : Edge → Edge → PointId → ℕ
node_of e f P1 = e.0
node_of e f P2 = e.1
node_of e f P3 = f.0
node_of e f P4 = f.1

-- W6, the meeting rule where an overlay has a grid: "A new point's coordinates go to the nearest grid number". "The tests against P1 to P4 are made on the
-- point before rounding", by the geometry layer.
abbrev pub moved_to : Grid → Meeting → Meeting
moved_to g Apart = Apart
moved_to g (Existing p) = Existing p
moved_to g (New x y) = New (booked g x) (booked g y)
moved_to g (Overlap p q) = Overlap p q

unfoldable pub meeting_on : Grid → Segment → Segment → Meeting
meeting_on g s o = moved_to g (meeting s o)

-- what the meeting rule promises, and "every caller .. relies on": a new point is on the grid
abbrev pub NewOnGrid : Grid → Meeting → Type 0
NewOnGrid g Apart = Unit {0}
NewOnGrid g (Existing p) = Unit {0}
NewOnGrid g (New x y) = OnGrid g x × OnGrid g y
NewOnGrid g (Overlap p q) = Unit {0}

-- the coordinates that meetings add
abbrev pub added_by : List Met → List Float
added_by ms = joined (λ m. m.point) ms

-- an edge pair is a meeting where its answer isn't none; a new point takes the number `next`
abbrev pub recorded : ℕ → ℕ → ℕ → Edge → Edge → Meeting → List Met
recorded i j next e f Apart = []
recorded i j next e f (Existing p) = record { subject_edge = i; cutter_edge = j; nodes = node_of e f p ∷ []; point = [] } ∷ []
recorded i j next e f (New x y) = record { subject_edge = i; cutter_edge = j; nodes = next ∷ []; point = x ∷ y ∷ [] } ∷ []
recorded i j next e f (Overlap p q) = record { subject_edge = i; cutter_edge = j; nodes = node_of e f p ∷ node_of e f q ∷ []; point = [] } ∷ []

-- "meetings by subject edge, then candidate; new points numbered as found", on a grid or none, over both meshes' coordinates and their nets
module _ (g : Grid) (coords : List Float) (s c : Net) where
  -- behind the meetings ms: that of the subject's edge i with the cutter's edge j
  unfoldable pub met_pair : ℕ → ℕ → List Met → List Met
  met_pair i j ms =
      let e = edge_at s.edges i in
      let f = edge_at c.edges j in
      ms ++ recorded i j ((length coords + length (added_by ms)) / 2) e f (meeting_on g (segment_of coords e) (segment_of coords f))

  -- those of edge i with the cutter's edges js
  unfoldable pub met_all : ℕ → List ℕ → List Met → List Met
  met_all i [] ms = ms
  met_all i (j ∷ js) ms = met_all i js (met_pair i j ms)

  -- the meetings of the first i subject edges, each with its candidates
  unfoldable pub meetings_to : ℕ → List Met
  meetings_to zero = []
  meetings_to (suc i) = met_all i (candidates coords c.edges (edge_box coords (edge_at s.edges i))) (meetings_to i)

  unfoldable pub meetings : List Met
  meetings = meetings_to (length s.edges)

-- ---- what the cells are cut by

-- the grid, all coordinates ("subject first", the new points last), both nets, and the meetings
pub record Scene : Type 0 where
  pub grid : Grid
  pub coords : List Float
  pub subject : Net
  pub cutter : Net
  pub met : List Met

abbrev pub net_of : Scene → Side → Net
net_of sc the_subject = sc.subject
net_of sc the_cutter = sc.cutter

abbrev pub scene_on : Grid → List Float → Net → Net → List Met → Scene
scene_on g coords s c ms = record { grid = g; coords = coords ++ added_by ms; subject = s; cutter = c; met = ms }

-- that of two meshes as lent, on a grid or none; whether the cutter's cells are lines
unfoldable pub scene_of : Grid → Bool → Mesh → Mesh → Scene
scene_of g lines s c =
    let coords = s.coords ++ c.coords in
    scene_on g coords (subject_net s) (cutter_net lines s c) (meetings g coords (subject_net s) (cutter_net lines s c))
