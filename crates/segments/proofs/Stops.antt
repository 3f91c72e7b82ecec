-- The places at which `colinear_seg_intersection` of the Rust would panic are never come to, whatever the coordinates are. Assumes nothing.
use mathlib.Core.Path.{◌≡◌, refl, ap, fun_ext}
use mathlib.Core.Bool.{Bool, true, false, cond, ◌||◌}
use Prim.Native.Nat.{ℕ}
use lib.Ieee.{Float, binary64, of_bits, add, sub, mul, div, neg, lt, le, eq}
use Rattle.plane.specs.Plane.{between, dot, cross, magnitude, scale, larger, tolerance}
use Rattle.plane.specs.declared.Point.{Point}
use Rattle.segments.specs.Colinear.{parameters, parameter_of, orderable, in_order, first_then_second, of_order, colinear}
use Rattle.segments.specs.Meet.{crossing, meeting_or, meeting}
use Rattle.segments.specs.declared.Segment.{Segment}
use Rattle.segments.specs.declared.PointId.TheVariants.{P1, P2}
use Rattle.segments.specs.declared.Meeting.{Meeting}
use Rattle.segments.specs.declared.Meeting.TheVariants.{Apart}
use Rattle.segments.proofs.Reached.{reached_orderable}
use Rattle.segments.proofs.Before.{EachOrder, second_not_below, twelve_ways}

-- in each of the twelve orders one of the arms before the stop is taken
order_never_stops : (stop : Meeting) (s o : Segment) → of_order stop (in_order (parameters s o)) ≡ of_order Apart (in_order (parameters s o))
unfolding of_order first_then_second
order_never_stops stop s o =
    twelve_ways (parameters s o) (λ ids. of_order stop ids ≡ of_order Apart ids) (second_not_below s o) ((refl, refl, refl, refl), (refl, refl, refl, refl), (refl, refl, refl, refl))

colinear_never_stops : (stop : Meeting) (s o : Segment) → orderable (parameters s o) ≡ true → colinear stop s o ≡ colinear Apart s o
unfolding colinear
colinear_never_stops stop s o h = rw h (order_never_stops stop s o)

-- Any answer in the place of the stop gives the same meeting.
pub never_stops : (stop : Meeting) (s o : Segment) → meeting_or stop s o ≡ meeting s o
unfolding meeting_or
never_stops stop s o =
    go (lt (dot v2 v2) eps) (lt (dot v1 v1) eps) refl (lt (magnitude (cross v1 v2)) eps) refl (lt eps (magnitude (cross v3 v1)))
  where
    v1 : Point
    v1 = between s.a s.b

    v2 : Point
    v2 = between o.a o.b

    v3 : Point
    v3 = between s.a o.a

    eps : Float
    eps = tolerance v1 v2

    go : (a b : Bool) → lt (dot v1 v1) eps ≡ b → (c : Bool) → lt (magnitude (cross v1 v2)) eps ≡ c → (d : Bool)
        → cond (a || b) Apart (cond c (cond d Apart (colinear stop s o)) (crossing s o v1 v2 v3 eps))
        ≡ cond (a || b) Apart (cond c (cond d Apart (colinear Apart s o)) (crossing s o v1 v2 v3 eps))
    go true b e c f d = refl
    go false true e c f d = refl
    go false false e false f d = refl
    go false false e true f true = refl
    go false false e true f false = colinear_never_stops stop s o (reached_orderable s o eps e f)

-- So nothing that is worked out by meetings depends on it.
pub no_answer_depends : {A : Type 0} (f : (Segment → Segment → Meeting) → A) (stop : Meeting) → f (meeting_or stop) ≡ f meeting
no_answer_depends f stop = ap f (fun_ext (λ s. fun_ext (λ o. never_stops stop s o)))

-- ---- but the stops are there

-- with P2 before P1, `of_order` comes to its stop
others_stop : (stop : Meeting) → EachOrder (λ ids. of_order stop ids ≡ stop) P2 P1
unfolding of_order first_then_second
others_stop stop = ((refl, refl, refl, refl), (refl, refl, refl, refl), (refl, refl, refl, refl))

abbrev on_x : ℕ → ℕ → Segment
on_x p q = record { a = record { x = of_bits binary64 p; y = of_bits binary64 0 }; b = record { x = of_bits binary64 q; y = of_bits binary64 0 } }

-- from ∞ to 1, with 0 to 2, `colinear` comes to its stop: the parameters are no numbers. The tests before it find no meeting.
infinite_stops : (stop : Meeting) → let s = on_x 0x7ff0_0000_0000_0000 0x3ff0_0000_0000_0000 in let o = on_x 0 0x4000_0000_0000_0000 in
    (colinear stop s o ≡ stop) × (meeting s o ≡ Apart)
unfolding colinear parameters meeting_or crossing between magnitude tolerance scale larger of_bits add sub mul div neg lt le eq
infinite_stops stop = (refl, refl)

-- from 0 to 1, with 2^60 to 2^61, the parameters of P1 and P2 are equal: that of P2 isn't always above
far_equal : let ts = parameters (on_x 0 0x3ff0_0000_0000_0000) (on_x 0x43b0_0000_0000_0000 0x43c0_0000_0000_0000) in
    eq (parameter_of ts P1) (parameter_of ts P2) ≡ true
unfolding parameters between magnitude of_bits add sub mul div neg lt eq
far_equal = refl
