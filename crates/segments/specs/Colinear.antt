-- The meeting of two segments on one line, by the order of their four ends: document 01, module 1. Assumes nothing.
use Rattle.std.specs.Prelude.{Bool, true, false, cond, ◌&&◌, ◌||◌, List, [], ◌∷◌, ℕ, get_or, Float}
use Rattle.std.specs.Float.{nan}
use Rattle.std.specs.Float.Ieee.{lt}
use Rattle.lists.specs.Sort.{sorted}
use Rattle.plane.specs.Plane.{◌⊕◌, ◌⊖◌, ◌⊘◌, four_f, is_number, between, magnitude}
use Rattle.segments.specs.declared.Segment.{Segment}
use Rattle.segments.specs.declared.PointId.{PointId}
use Rattle.segments.specs.declared.PointId.TheVariants.{P1, P2, P3, P4}
use Rattle.segments.specs.declared.Meeting.{Meeting}
use Rattle.segments.specs.declared.Meeting.TheVariants.{Apart, Overlap}

-- the centre of the four: the mean of a coordinate
abbrev pub mean : Float → Float → Float → Float → Float
mean p q r s = (p ⊕ q ⊕ r ⊕ s) ⊘ four_f

-- the parameters of the four ends from their centre, by one coordinate of each
abbrev pub spread : Float → Float → Float → Float → List Float
spread p q r s =
    let m = mean p q r s in
    let d = q ⊖ p in
    ((p ⊖ m) ⊘ d) ∷ ((q ⊖ m) ⊘ d) ∷ ((r ⊖ m) ⊘ d) ∷ ((s ⊖ m) ⊘ d) ∷ []

-- by the larger component of P2 - P1, y at equality
unfoldable pub parameters : Segment → Segment → List Float
parameters s o =
    let v = between s.a s.b in
    cond (lt (magnitude v.y) (magnitude v.x))
    (spread s.a.x s.b.x o.a.x o.b.x)
    (spread s.a.y s.b.y o.a.y o.b.y)

-- each of the four is a number
abbrev pub orderable : List Float → Bool
orderable ts =
    let ok : ℕ → Bool = λ i. is_number (get_or ts i nan) in
    ok 0 && ok 1 && ok 2 && ok 3

-- the parameter of an end
abbrev pub parameter_of : List Float → PointId → Float
parameter_of ts P1 = get_or ts 0 nan
parameter_of ts P2 = get_or ts 1 nan
parameter_of ts P3 = get_or ts 2 nan
parameter_of ts P4 = get_or ts 3 nan

-- the four put in order by value, equal ones as P1 to P4
unfoldable pub in_order : List Float → List PointId
in_order ts = sorted (λ p q. lt (parameter_of ts p) (parameter_of ts q)) (P1 ∷ P2 ∷ P3 ∷ P4 ∷ [])

abbrev pub is_first : PointId → Bool
is_first P1 = true
is_first P2 = false
is_first P3 = false
is_first P4 = false

abbrev pub is_second : PointId → Bool
is_second P1 = false
is_second P2 = true
is_second P3 = false
is_second P4 = false

-- p is P1 and q is P2
unfoldable pub first_then_second : PointId → PointId → Bool
first_then_second p q = is_first p && is_second q

-- P1 P2 first or last: none. In each of the other four arms the answer is the two in the middle.
-- Where P1 does not stand before P2 the Rust panics. What the answer is there is `stop`: `meeting` (Meet.antt) says none.
unfoldable pub of_order : Meeting → List PointId → Meeting
of_order stop ids =
    let p = get_or ids 0 P1 in
    let q = get_or ids 1 P1 in
    let r = get_or ids 2 P1 in
    let s = get_or ids 3 P1 in
    cond (first_then_second p q || first_then_second r s) Apart (cond (first_then_second p r || first_then_second p s || first_then_second q s || first_then_second q r) (Overlap q r) stop)

-- Where a parameter is no number, at which the Rust panics too, it is `stop` as well.
unfoldable pub colinear : Meeting → Segment → Segment → Meeting
colinear stop s o =
    let ts = parameters s o in
    cond (orderable ts) (of_order stop (in_order ts)) stop
