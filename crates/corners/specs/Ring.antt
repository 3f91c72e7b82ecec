-- The corners of a ring as they are read, and what its iterators have left. Assumes nothing.
use Rattle.std.specs.Prelude.{List, ℕ, length, drop, Float}
use Rattle.lists.specs.Gather.{each}
use Rattle.plane.specs.declared.Point.{Point}
use Rattle.corners.specs.Corners.{corner_at, corner_after, oriented}
use Rattle.corners.specs.declared.Ring.{Ring}
use Rattle.corners.specs.declared.Points.{Points}
use Rattle.corners.specs.declared.Edges.{Edges}

-- the corners as they stand, or backwards
abbrev pub as_read : Ring → List ℕ
as_read r = oriented r.back r.corners.now

-- what f says of coordinates and corners, of those of a ring
abbrev pub of_ring : {B : Type 0} → (List Float → List ℕ → B) → Ring → B
of_ring f r = f r.coords.now (as_read r)

-- the points of the corners, in turn
abbrev pub points : Ring → List Point
points r = each (length (as_read r)) (corner_at r.coords.now (as_read r))

abbrev pub points_left : Points → List Point
points_left s = drop s.at (points s.ring)

-- the edges in turn, each from a corner to the one after it
abbrev pub edge_at : Ring → ℕ → Point × Point
edge_at r i =
    let n = length (as_read r) in
    (corner_at r.coords.now (as_read r) i, corner_at r.coords.now (as_read r) (corner_after n i))

abbrev pub edges : Ring → List (Point × Point)
edges r = each (length (as_read r)) (edge_at r)

abbrev pub edges_left : Edges → List (Point × Point)
edges_left s = drop s.at (edges s.ring)
