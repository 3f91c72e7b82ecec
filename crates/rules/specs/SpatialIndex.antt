-- Document 01, the stand-in for `SpatialIndex`: every element whose closed f64 box meets the given box, or holds the point, in rising index.
-- Assumes nothing.
use Rattle.std.specs.Prelude.{Bool, true, false, cond, ◌&&◌, List, [], ◌∷◌, ℕ, zero, suc, length, get_or, Float}
use Rattle.std.specs.Float.Ieee as Ieee
use Rattle.std.specs.Float.{inf}
use Rattle.lists.specs.Gather.{places}
use Rattle.plane.specs.Plane.{larger, point_at}
use Rattle.cutting.specs.Edges.{Edge, edge_at}
use Rattle.plane.specs.declared.Point.{Point}
use Rattle.rules.specs.declared.Bounds.{Bounds}

-- the smaller of the two; x where one is no number
abbrev pub smaller : Float → Float → Float
smaller x y = cond (Ieee.lt y x) y x

abbrev pub stretched : Bounds → Point → Bounds
stretched b p = record { left = smaller b.left p.x; low = smaller b.low p.y; right = larger b.right p.x; high = larger b.high p.y }

-- the box of the first i nodes
unfoldable pub box_to : ℕ → List Float → List ℕ → Bounds
box_to zero coords ns = record { left = inf false; low = inf false; right = inf true; high = inf true }
box_to (suc i) coords ns = stretched (box_to i coords ns) (point_at coords (get_or ns i 0))

abbrev pub box_of : List Float → List ℕ → Bounds
box_of coords ns = box_to (length ns) coords ns

abbrev pub edge_box : List Float → Edge → Bounds
edge_box coords e = box_of coords (e.0 ∷ e.1 ∷ [])

-- closed boxes meet where they only touch
unfoldable pub boxes_meet : Bounds → Bounds → Bool
boxes_meet a b = Ieee.le a.left b.right && Ieee.le b.left a.right && Ieee.le a.low b.high && Ieee.le b.low a.high

unfoldable pub box_holds : Bounds → Point → Bool
box_holds b p = Ieee.le b.left p.x && Ieee.le p.x b.right && Ieee.le b.low p.y && Ieee.le p.y b.high

-- `in_bounds`: the edges whose box meets the given box, in rising index
unfoldable pub candidates : List Float → List Edge → Bounds → List ℕ
candidates coords es b = places (λ j. boxes_meet (edge_box coords (edge_at es j)) b) (length es)
