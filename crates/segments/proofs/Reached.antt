-- In the colinear case no parameter is a NaN, whatever the coordinates are: the tests before it let only finite ones through, and the larger component of
-- P2 - P1 is no zero. Assumes nothing.
use mathlib.Core.Path.{◌≡◌, refl, sym, ◌∙◌}
use mathlib.Core.Bool.{Bool, true, false, cond, true≢false}
use native.Mathlib.Omega.{arith}
use lib.Dec.{T}
use lib.Ieee.{Float, nan, inf, fin, lt, of_bits}
use lib.Ieee.Scale.{finite}
use Rattle.plane.specs.Plane.{◌⊕◌, ◌⊖◌, ◌⊗◌, ◌⊘◌, zero_f, four_f, is_number, magnitude, between, dot, cross}
use Rattle.plane.specs.declared.Point.{Point}
use Rattle.plane.proofs.FloatOrder.{finite_number, not_lt_trans}
use Rattle.rounding.proofs.Signs.{Nil, nils_level}
use Rattle.rounding.proofs.Numbers.{add_number, sub_number, Divisor, div_number, nil_number, mul_nil, add_nil, nil_zero}
use Rattle.rounding.proofs.Numbers.{size_not_below, size_nil, not_above_zero, size_finite, both_subtracted, both_multiplied}
use Rattle.segments.specs.Colinear.{mean, spread, parameters, orderable}
use Rattle.segments.specs.declared.Segment.{Segment}

-- ---- the four parameters

four_divides : Divisor four_f
unfolding of_bits
four_divides e = omega arith

module _ (p q r s : Float) (P : T (finite p)) (Q : T (finite q)) (R : T (finite r)) (S : T (finite s)) (D : Divisor (q ⊖ p)) where
  mean_number : is_number (mean p q r s) ≡ true
  mean_number = div_number (p ⊕ q ⊕ r ⊕ s) four_f (add_number (p ⊕ q ⊕ r) s (add_number (p ⊕ q) r (add_number p q (finite_number p P) Q) R) S) four_divides

  one_number : (x : Float) → T (finite x) → is_number ((x ⊖ mean p q r s) ⊘ (q ⊖ p)) ≡ true
  one_number x h = div_number (x ⊖ mean p q r s) (q ⊖ p) (sub_number x (mean p q r s) h mean_number) D

  spread_orderable : orderable (spread p q r s) ≡ true
  spread_orderable = rw (one_number p P, one_number q Q, one_number r R, one_number s S) refl

-- ---- the larger component of a direction with a length is a divisor

divides : (x : Float) → T (finite x) → (Nil x → ⊥) → Divisor x
divides nan f h = f
divides (inf s) f h = f
divides (fin s m e) f h = h

module _ (v : Point) (c eps : Float) (X : T (finite v.x)) (Y : T (finite v.y)) (long : lt (dot v v) eps ≡ false) (short : lt (magnitude c) eps ≡ true) where
  not_both : Nil v.x → Nil v.y → ⊥
  not_both h k =
      let n : Nil (dot v v) = add_nil (v.x ⊗ v.x) (v.y ⊗ v.y) (mul_nil v.x v.x h h) (mul_nil v.y v.y k k) in
      true≢false (sym short ∙ not_lt_trans (magnitude c) (dot v v) eps (nil_number (dot v v) n) (size_not_below c (dot v v) n) long)

  by_x : lt (magnitude v.y) (magnitude v.x) ≡ true → Divisor v.x
  by_x h = divides v.x X (λ n. true≢false (sym h ∙ size_not_below v.y (magnitude v.x) (size_nil v.x n)))

  by_y : lt (magnitude v.y) (magnitude v.x) ≡ false → Divisor v.y
  by_y h = divides v.y Y (λ n.
      let k : Nil (magnitude v.y) = size_nil v.y n in
      let z : lt zero_f (magnitude v.x) ≡ false =
      not_lt_trans zero_f (magnitude v.y) (magnitude v.x) (nil_number (magnitude v.y) k) (nils_level zero_f (magnitude v.y) nil_zero k) h in
      not_both (not_above_zero v.x X z) n)

-- ---- the colinear case

-- |v1 × v2| is below a tolerance, which v1's squared length is not: the four parameters are numbers
pub reached_orderable : (s o : Segment) (eps : Float)
    → lt (dot (between s.a s.b) (between s.a s.b)) eps ≡ false → lt (magnitude (cross (between s.a s.b) (between o.a o.b))) eps ≡ true → orderable (parameters s o) ≡ true
unfolding parameters between
reached_orderable s o eps long short = go (lt (magnitude v.y) (magnitude v.x)) refl
  where
    v : Point
    v = between s.a s.b

    w : Point
    w = between o.a o.b

    parts : T (finite (v.x ⊗ w.y)) × T (finite (v.y ⊗ w.x))
    parts = both_subtracted (v.x ⊗ w.y) (v.y ⊗ w.x) (size_finite (cross v w) eps short)

    xy : T (finite v.x) × T (finite w.y)
    xy = both_multiplied v.x w.y parts.0

    yx : T (finite v.y) × T (finite w.x)
    yx = both_multiplied v.y w.x parts.1

    go : (b : Bool) → lt (magnitude v.y) (magnitude v.x) ≡ b
        → orderable (cond b (spread s.a.x s.b.x o.a.x o.b.x) (spread s.a.y s.b.y o.a.y o.b.y)) ≡ true
    go true e =
        let p = both_subtracted s.b.x s.a.x xy.0 in
        let q = both_subtracted o.b.x o.a.x yx.1 in
        spread_orderable s.a.x s.b.x o.a.x o.b.x p.1 p.0 q.1 q.0 (by_x v (cross v w) eps xy.0 yx.0 long short e)
    go false e =
        let p = both_subtracted s.b.y s.a.y yx.0 in
        let q = both_subtracted o.b.y o.a.y xy.1 in
        spread_orderable s.a.y s.b.y o.a.y o.b.y p.1 p.0 q.1 q.0 (by_y v (cross v w) eps xy.0 yx.0 long short e)
