-- What only the contracts of inner functions cite: the next height and the two lowest crossings by scans.
-- proofs/ shows them equal to the definitions of the other files. Assumes nothing.
use Rattle.std.specs.Prelude.{Bool, true, cond, Option, None, Some, List, [], ◌∷◌, ℕ, zero, suc, Float}
use Rattle.std.specs.Float.Ieee.{lt, unlike}
use Rattle.plane.specs.Plane.{is_number}
use Rattle.plane.specs.declared.Point.{Point}
use Rattle.polygons.specs.Interior.{passed, foot, crossing_at}
use Rattle.polygons.specs.declared.Climb.{Climb}
use Rattle.polygons.specs.declared.Lowest.{Lowest}
use Rattle.polygons.specs.declared.Lowest.TheVariants.{Empty, One, Two}

-- ---- heights

-- y is above h; all are above nothing
abbrev pub exceeds : Option Float → Float → Bool
exceeds None y = true
exceeds (Some h) y = lt h y

-- the first that is above h
unfoldable pub first_above : Option Float → List Float → Option Float
first_above h [] = None
first_above h (y ∷ ys) = cond (exceeds h y) (Some y) (first_above h ys)

-- y where it is below b
abbrev pub lower : Option Float → Float → Option Float
lower None y = Some y
lower (Some b) y = cond (lt y b) (Some y) (Some b)

-- y where it is above h and below b
unfoldable pub closer : Option Float → Option Float → Float → Option Float
closer h b y = cond (exceeds h y) (lower b y) b

abbrev pub up_to : Option Float → Climb → Climb
up_to None c = c
up_to (Some y) c = passed c y

-- one step up, among the heights ys
unfoldable pub climbed : List Float → Climb → Climb
climbed ys c = up_to (first_above c.at ys) c

-- n steps up
unfoldable pub climb_to : ℕ → List Float → Climb
climb_to zero ys = foot
climb_to (suc n) ys = climbed ys (climb_to n ys)

-- ---- crossings

-- x among the two lowest
abbrev pub taken_of : Lowest → Float → Lowest
taken_of Empty x = One x
taken_of (One a) x = cond (lt x a) (Two x a) (Two a x)
taken_of (Two a b) x = cond (lt x a) (Two x a) (cond (lt x b) (Two a x) (Two a b))

-- none where x is no number
unfoldable pub taken : Lowest → Float → Option Lowest
taken l x = cond (is_number x) (Some (taken_of l x)) None

-- with the crossing of the edge from a to b, where one of its ends is below m and the other is not
unfoldable pub with_crossing : Float → Point → Point → Lowest → Option Lowest
with_crossing m a b l = cond (unlike (lt a.y m) (lt b.y m)) (taken l (crossing_at a b m)) (Some l)
