-- Whether a point lies inside a polygon, by the closest corner or edge: document 01, module 2. Assumes nothing.
use Rattle.std.specs.Prelude.{Bool, false, cond, ◌&&◌, ◌||◌, List, ℕ, zero, suc, ltb, length, Float}
use Rattle.std.specs.Float.{inf}
use Rattle.std.specs.Float.Ieee.{lt, eq}
use Rattle.std.specs.Float.Ieee.Scale.{finite}
use Rattle.exact.specs.Exact.{is_less, is_greater}
use Rattle.exact.specs.Angle.{orientation}
use Rattle.std.specs.declared.cmp.Ordering.{Ordering}
use Rattle.std.specs.declared.cmp.Ordering.TheVariants.{Equal}
use Rattle.plane.specs.Plane.{◌⊘◌, zero_f, one_f, between, dot, along}
use Rattle.corners.specs.Corners.{corner_at, corner_after, corner_before, into_ccw2}
use Rattle.plane.specs.declared.Point.{Point}
use Rattle.insides.specs.declared.Reached.{Reached}
use Rattle.insides.specs.declared.Place.{Place}
use Rattle.insides.specs.declared.Place.TheVariants.{Corner, Edge}
use Rattle.insides.specs.declared.Near.{Near}

-- The exact sign of (ax−cx)(by−cy) − (ay−cy)(bx−cx). With a coordinate that is not finite there is no such number, and c is neither left nor right.
unfoldable pub orient2d2 : Point → Point → Point → Ordering
orient2d2 a b c =
    cond ((finite a.x && finite a.y) && (finite b.x && finite b.y) && (finite c.x && finite c.y))
    (orientation a.x a.y b.x b.y c.x c.y) Equal

-- t, kept in 0..1; NaN stays NaN, and -0 stays -0
unfoldable pub clamped : Float → Float
clamped t = cond (lt t zero_f) zero_f (cond (lt one_f t) one_f t)

-- the clamped parameter of p's projection on the line from a to b, and the squared distance of p from that point; NaN where a and b are one point
unfoldable pub ortho_dist2 : Point → Point → Point → Reached
ortho_dist2 p a b =
    let ab = between a b in
    let t = clamped (dot ab (between a p) ⊘ dot ab ab) in
    let v = between p (along a t ab) in
    record { t = t; d = dot v v }

-- Edge i, where it is strictly closer than what was closest: its first corner at the parameter 0, its second at 1, itself between.
-- A NaN distance is closer than nothing.
unfoldable pub settle : ℕ → ℕ → Reached → Near → Near
settle n i r b =
    cond (lt r.d b.d)
    (record { d = r.d; place = cond (eq r.t zero_f) (Corner i) (cond (eq r.t one_f) (Corner (corner_after n i)) (Edge i)) })
    b

unfoldable pub nearer_edge : List Float → List ℕ → Point → ℕ → Near → Near
nearer_edge cs ps p i b = settle (length ps) i (ortho_dist2 p (corner_at cs ps i) (corner_at cs ps (corner_after (length ps) i))) b

-- the closest of the first n edges and their corners; corner 0 where none is closer than infinity
unfoldable pub nearest_among : ℕ → List Float → List ℕ → Point → Near
nearest_among zero cs ps p = record { d = inf false; place = Corner 0 }
nearest_among (suc n) cs ps p = nearer_edge cs ps p n (nearest_among n cs ps p)

unfoldable pub nearest : List Float → List ℕ → Point → Near
nearest cs ps p = nearest_among (length ps) cs ps p

-- p lies strictly to the left of the line from corner i to corner j
unfoldable pub left_of : List Float → List ℕ → ℕ → ℕ → Point → Bool
left_of cs ps i j p = is_greater (orient2d2 (corner_at cs ps i) (corner_at cs ps j) p)

-- the way from corner i over j to k turns to the right
unfoldable pub reflex : List Float → List ℕ → ℕ → ℕ → ℕ → Bool
reflex cs ps i j k = is_less (orient2d2 (corner_at cs ps i) (corner_at cs ps j) (corner_at cs ps k))

-- p's side at corner i: left of one of its two edges where it is reflex, else left of both
unfoldable pub at_corner : List Float → List ℕ → ℕ → Point → Bool
at_corner cs ps i p =
    let h = corner_before (length ps) i in
    let j = corner_after (length ps) i in
    cond (reflex cs ps h i j) (left_of cs ps h i p || left_of cs ps i j p) (left_of cs ps h i p && left_of cs ps i j p)

-- p's side where the closest place is this one
abbrev pub at_place : List Float → List ℕ → Place → Point → Bool
at_place cs ps (Corner i) p = at_corner cs ps i p
at_place cs ps (Edge i) p = left_of cs ps i (corner_after (length ps) i) p

-- the corners go counter-clockwise; under 3 of them nothing is inside
unfoldable pub contains_stable : List Float → List ℕ → Point → Bool
contains_stable cs ps p = cond (ltb (length ps) 3) false (at_place cs ps (nearest cs ps p).place p)

-- the corners go either way round
unfoldable pub inside : List Float → List ℕ → Point → Bool
inside cs ps p = contains_stable cs (into_ccw2 cs ps) p
