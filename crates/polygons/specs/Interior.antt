-- A point strictly inside a polygon: document 01, module 2. Assumes nothing.
use Rattle.std.specs.Prelude.{cond, Option, None, Some, List, [], ◌∷◌, ℕ, ltb, length, Float}
use Rattle.std.specs.Float.Ieee.{lt, eq, unlike, of_bits}
use Rattle.std.specs.Float.{binary64}
use Rattle.lists.specs.Gather.{gathered, each, all, slim}
use Rattle.lists.specs.Sort.{sorted}
use Rattle.plane.specs.Plane.{◌⊕◌, ◌⊖◌, ◌⊗◌, ◌⊘◌, zero_f, two_f, is_number, magnitude}
use Rattle.corners.specs.Corners.{corner_at, corner_after, doubled_sum}
use Rattle.plane.specs.declared.Point.{Point}
use Rattle.polygons.specs.declared.Climb.{Climb}
use Rattle.polygons.specs.declared.Lowest.{Lowest}
use Rattle.polygons.specs.declared.Lowest.TheVariants.{Empty, One, Two}

-- ---- the widest gap between heights

abbrev pub height_at : List Float → List ℕ → ℕ → Float
height_at cs ps i = (corner_at cs ps i).y

-- the second coordinate of each corner
unfoldable pub heights : List Float → List ℕ → List Float
heights cs ps = each (length ps) (height_at cs ps)

-- the next height up is y: the gap to it becomes the widest where it is strictly wider
abbrev pub passed_from : Option Float → Climb → Float → Climb
passed_from None c y = record { at = Some y; widest = c.widest; middle = c.middle }
passed_from (Some l) c y =
    let wider = lt c.widest (y ⊖ l) in
    record { at = Some y; widest = cond wider (y ⊖ l) c.widest; middle = cond wider (Some ((l ⊕ y) ⊘ two_f)) c.middle }

unfoldable pub passed : Climb → Float → Climb
passed c y = passed_from c.at c y

unfoldable pub climb : Climb → List Float → Climb
climb c [] = c
climb c (y ∷ ys) = climb (passed c y) ys

abbrev pub foot : Climb
foot = record { at = None; widest = zero_f; middle = None }

-- the middle of the first widest gap above 0 between the heights in order by value, adjacent equals dropped
unfoldable pub widest : List Float → Option Float
widest ys = (climb foot (slim eq (sorted lt ys))).middle

-- nothing where a height is no number, at which the Rust panics
unfoldable pub widest_in : List Float → List ℕ → Option Float
widest_in cs ps = cond (all is_number (heights cs ps)) (widest (heights cs ps)) None

-- ---- the crossings of a height

-- where the edge from a to b crosses the height m
abbrev pub crossing_at : Point → Point → Float → Float
crossing_at a b m = a.x ⊕ (((m ⊖ a.y) ⊗ (b.x ⊖ a.x)) ⊘ (b.y ⊖ a.y))

-- the crossing of the edge from corner i, where one of its ends is below m and the other is not
unfoldable pub crossed : List Float → List ℕ → Float → ℕ → List Float
crossed cs ps m i =
    let a = corner_at cs ps i in
    let b = corner_at cs ps (corner_after (length ps) i) in
    cond (unlike (lt a.y m) (lt b.y m)) (crossing_at a b m ∷ []) []

unfoldable pub crossings : List Float → List ℕ → Float → List Float
crossings cs ps m = gathered (length ps) (crossed cs ps m)

-- the first two
abbrev pub first_two : List Float → Lowest
first_two [] = Empty
first_two (x ∷ []) = One x
first_two (x ∷ y ∷ ys) = Two x y

-- the two lowest; there is no order where one is no number, at which the Rust panics
unfoldable pub lowest : List Float → Option Lowest
lowest xs = cond (all is_number xs) (Some (first_two (sorted lt xs))) None

-- ---- the point

abbrev pub point_on : Option Lowest → Float → Option Point
point_on None m = None
point_on (Some Empty) m = None
point_on (Some (One x)) m = None
point_on (Some (Two x y)) m = Some (record { x = (x ⊕ y) ⊘ two_f; y = m })

abbrev pub at_height : List Float → List ℕ → Option Float → Option Point
at_height cs ps None = None
at_height cs ps (Some m) = point_on (lowest (crossings cs ps m)) m

-- 1e-30
abbrev pub least_area : Float
least_area = of_bits binary64 0x39b4_484b_feeb_c2a0

-- none under 3 points, at |double area| < 1e-30, without a gap above 0 between heights, or with fewer than two crossings;
-- nor where a height or a crossing is no number
unfoldable pub strict_interior_point : List Float → List ℕ → Option Point
strict_interior_point cs ps =
    cond (ltb (length ps) 3) None
    (cond (lt (magnitude (doubled_sum cs ps)) least_area) None
    (at_height cs ps (widest_in cs ps)))
