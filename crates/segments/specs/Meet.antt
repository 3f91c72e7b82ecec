-- Where two segments meet: document 01, module 1. Assumes nothing.
use Rattle.std.specs.Prelude.{Bool, cond, ◌&&◌, ◌||◌, Float}
use Rattle.std.specs.Float.Ieee.{lt}
use Rattle.plane.specs.Plane.{◌⊘◌, between, dot, cross, along, magnitude, tolerance, in_unit}
use Rattle.segments.specs.Colinear.{colinear}
use Rattle.plane.specs.declared.Point.{Point}
use Rattle.segments.specs.declared.Segment.{Segment}
use Rattle.segments.specs.declared.PointId.TheVariants.{P1, P2, P3, P4}
use Rattle.segments.specs.declared.Meeting.{Meeting}
use Rattle.segments.specs.declared.Meeting.TheVariants.{Apart, Existing, New}

-- the squared distance from q to p is below eps
unfoldable pub near : Point → Point → Float → Bool
near p q eps =
    let v = between q p in
    lt (dot v v) eps

-- the first of P1 to P4 that is near the point, else the point is new
unfoldable pub settled : Segment → Segment → Point → Float → Meeting
settled s o p eps =
    cond (near s.a p eps) (Existing P1)
    (cond (near s.b p eps) (Existing P2)
    (cond (near o.a p eps) (Existing P3)
    (cond (near o.b p eps) (Existing P4)
    (New p.x p.y))))

-- none unless both parameters lie in 0..1, which no NaN does
unfoldable pub crossing : Segment → Segment → Point → Point → Point → Float → Meeting
crossing s o v1 v2 v3 eps =
    let t = cross v3 v2 ⊘ cross v1 v2 in
    let u = cross v3 v1 ⊘ cross v1 v2 in
    cond (in_unit t && in_unit u) (settled s o (along s.a t v1) eps) Apart

-- A squared length below eps: none. |cross12| < eps: none if |cross31| > eps, else colinear, also at equality.
-- `stop` is the answer where the Rust panics.
unfoldable pub meeting_or : Meeting → Segment → Segment → Meeting
meeting_or stop s o =
    let v1 = between s.a s.b in
    let v2 = between o.a o.b in
    let v3 = between s.a o.a in
    let eps = tolerance v1 v2 in
    cond (lt (dot v2 v2) eps || lt (dot v1 v1) eps) Apart
    (cond (lt (magnitude (cross v1 v2)) eps)
    (cond (lt eps (magnitude (cross v3 v1))) Apart (colinear stop s o))
    (crossing s o v1 v2 v3 eps))

-- Here there is none, and a stop is never reached: any other answer in its place gives the same (proofs/Stops.antt).
abbrev pub meeting : Segment → Segment → Meeting
meeting s o = meeting_or Apart s o
