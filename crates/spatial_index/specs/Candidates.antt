-- The candidates of a box from a place on: what contracts above this crate cite. Assumes nothing.
use Rattle.std.specs.Prelude.{Bool, cond, List, [], ◌∷◌, ◌++◌, ℕ, zero, suc, ◌-◌, Float}
use Rattle.plane.specs.declared.Point.{Point}
use Rattle.cutting.specs.Edges.{Edge, edge_at}
use Rattle.rules.specs.declared.Bounds.{Bounds}
use Rattle.rules.specs.SpatialIndex.{edge_box, boxes_meet}

-- of the m numbers k, k + 1, .. those that pass p
unfoldable pub places_among : (ℕ → Bool) → ℕ → ℕ → List ℕ
places_among p k zero = []
places_among p k (suc m) = cond (p k) (k ∷ []) [] ++ places_among p (suc k) m

-- the numbers from k on, below n, that pass p, rising
abbrev pub places_from : (ℕ → Bool) → ℕ → ℕ → List ℕ
places_from p k n = places_among p k (n - k)

-- edge j's box meets the box b
abbrev pub meets : List Float → List Edge → Bounds → ℕ → Bool
meets coords es b j = boxes_meet (edge_box coords (edge_at es j)) b

-- the box of a point: the boxes that it meets are those that hold the point
abbrev pub point_box : Point → Bounds
point_box p = record { left = p.x; low = p.y; right = p.x; high = p.y }
