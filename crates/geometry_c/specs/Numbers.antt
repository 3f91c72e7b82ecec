-- Answers as a number and a point in a lent list, for C. Assumes nothing.
use Rattle.std.specs.Prelude.{Option, None, Some, List, cond, ℕ, ltb, Float, length, set}
use Rattle.std.specs.declared.cmp.Ordering.{Ordering}
use Rattle.std.specs.declared.cmp.Ordering.TheVariants.{Less, Equal, Greater}
use Rattle.plane.specs.declared.Point.{Point}
use Rattle.segments.specs.Code.{meeting_number}
use Rattle.segments.specs.declared.Segment.{Segment}
use Rattle.segments.specs.declared.Meeting.{Meeting}
use Rattle.segments.specs.declared.Meeting.TheVariants.{Apart, Existing, New, Overlap}

-- 0 below, 1 zero, 2 above
abbrev pub side_number : Ordering → ℕ
side_number Less = 0
side_number Equal = 1
side_number Greater = 2

-- 0 none, 1 to 4 one of P1 to P4, 5 a new point, 10 p + q two of P1 to P4
abbrev pub meet_number : Meeting → ℕ
meet_number = meeting_number

-- a point in the first two places, where there are two
unfoldable pub new_point : Float → Float → List Float → List Float
new_point x y l = cond (ltb 1 (length l)) (set (set l 0 x) 1 y) l

abbrev pub meet_point : Meeting → List Float → List Float
meet_point Apart l = l
meet_point (Existing p) l = l
meet_point (New x y) l = new_point x y l
meet_point (Overlap p q) l = l

abbrev pub inner_number : Option Point → ℕ
inner_number None = 0
inner_number (Some p) = 1

abbrev pub inner_point : Option Point → List Float → List Float
inner_point None l = l
inner_point (Some p) l = new_point p.x p.y l

abbrev pub point_of : Float → Float → Point
point_of x y = record { x = x; y = y }

unfoldable pub segment_from : Float → Float → Float → Float → Segment
segment_from x y u v = record { a = point_of x y; b = point_of u v }
