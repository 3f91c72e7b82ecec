-- Document 02, W11: each coordinate of a new point is within the allowance of p1 + t (p2 - p1). Assumes nothing.
use mathlib.Core.Path.{◌≡◌, refl, sym, ap, ◌∙◌, subst}
use mathlib.Core.Bool.{true}
use mathlib.Core.Logic.{inl, inr}
use Prim.Native.Nat.{ℕ, suc, ◌+◌, ◌-◌, ◌*◌, ◌^◌, ◌≤◌}
use native.Mathlib.Nat.{le_trans, le_of_eq, pow-suc, mul-le-mul_right}
use native.Mathlib.Omega.{arith}
use lib.Pow.{pow-add}
use lib.IntN.{pos, nat_abs, ◌+ℤ◌, ◌-ℤ◌, ◌*ℤ◌}
use lib.Ieee.{Float}
use borrow.Author.Tests.{le-leb}
use Rattle.std.specs.Prelude.{None, Some}
use Rattle.std.proofs.lemmas.Bool.{cases_lt}
use Rattle.exact.specs.Exact.{coord}
use Rattle.plane.specs.Plane.{in_unit}
use Rattle.rounding.proofs.Sizes.{abs_apart}
use Rattle.grid.specs.Grid.{Grid, grid_step, on_grid, booked}
use Rattle.grid.proofs.GridNumbers.{no_grid}
use Rattle.grid.proofs.OnGrid.{half_step}
use Rattle.segments.specs.Meet.{meeting}
use Rattle.segments.specs.declared.Segment.{Segment}
use Rattle.segments.specs.declared.Meeting.TheVariants.{New}
use Rattle.rules.specs.Meetings.{meeting_on}
use Rattle.coordinates.specs.Booked.{AllowedEnds, parameter, largest, off_by, half_a_step, allowance, is_within, PointWithin}
use Rattle.coordinates.specs.Finite.{Bounded}
use Rattle.coordinates.proofs.Booked.{Coordinate, meeting_new, new_point_lem}
use Rattle.rounding.proofs.Errors.{moved_adds}
use Rattle.coordinates.proofs.Points.{before_moved}

-- ---- on a grid

-- half a step of 2^-1074, and of 2^-2148
halved : (k d : ℕ) → k ≤ 10 → 2 * d ≤ grid_step k → d * 2 ^ 1074 ≤ half_a_step (Some k)
halved k d h i =
    let e : 2 ^ (1074 - k) * 2 ^ 1074 ≡ 2 ^ (2147 - k) * 2 =
    sym (pow-add 2 (1074 - k) 1074) ∙ ap (λ (n : ℕ). 2 ^ n) (next k h) ∙ pow-suc 2 (2147 - k) in
    half (d * 2 ^ 1074) (2 ^ (2147 - k)) (le_trans (le_of_eq (twice d (2 ^ 1074))) (le_trans (mul-le-mul_right (2 ^ 1074) i) (le_of_eq e)))
  where
    next : (k : ℕ) → k ≤ 10 → 1074 - k + 1074 ≡ suc (2147 - k)
    next k h = omega arith

    twice : (d l : ℕ) → 2 * (d * l) ≡ 2 * d * l
    twice d l = omega arith

    half : (a b : ℕ) → 2 * a ≤ b * 2 → a ≤ b
    half a b h = omega arith

-- where x goes on a grid it is off by half a step more
booked_off : (g : Grid) (m : ℕ) (x p q t : Float) → Bounded x → off_by x p q t ≤ allowance None m → off_by (booked g x) p q t ≤ allowance g m
unfolding booked
booked_off None m x p q t b h = h
booked_off (Some k) m x p q t b h = elim (cases_lt 10 k) [
  | inl i ↦ subst (λ (v : Float). off_by v p q t ≤ allowance (Some k) m) (no_grid k x i) (wider (m * 2 ^ 1024 + 2 ^ 1074) (half_a_step (Some k)) (off_by x p q t) h)
  | inr i ↦
      let y = coord p *ℤ pos (2 ^ 1074) +ℤ coord t *ℤ (coord q -ℤ coord p) in
      let d = nat_abs (coord x -ℤ coord (on_grid k x)) in
      let near : d * 2 ^ 1074 ≤ half_a_step (Some k) = halved k d i (half_step k x i b.fit b.end) in
      both (m * 2 ^ 1024 + 2 ^ 1074) (half_a_step (Some k)) (d * 2 ^ 1074) (off_by x p q t) near h
      (le_trans (moved_adds (coord (on_grid k x)) (coord x) (pos (2 ^ 1074)) y)
      (le_of_eq (ap (λ (n : ℕ). n * 2 ^ 1074 + off_by x p q t) (abs_apart (coord (on_grid k x)) (coord x)))))
]
  where
    wider : (a b n : ℕ) → n ≤ a + 0 → n ≤ a + b
    wider a b n h = omega arith

    both : (a b c n : ℕ) {z : ℕ} → c ≤ b → n ≤ a + 0 → z ≤ c + n → z ≤ a + b
    both a b c n h k l = omega arith

coordinate_within : (g : Grid) (m : ℕ) (x z p q t : Float) → booked g x ≡ z → Coordinate m x p q t → is_within g m z p q t ≡ true
unfolding is_within
coordinate_within g m x z p q t e c =
    le-leb (off_by z p q t) (allowance g m) (subst (λ (v : Float). off_by v p q t ≤ allowance g m) e (booked_off g m x p q t c.bounded c.off))

-- Each coordinate of a new point is within M × 2^-50 + 2^-1074, and half a step of the grid if there is one, whatever P3 and P4 are.
pub on_grid_within : (g : Grid) (s o : Segment) → AllowedEnds s → (x y : Float) → meeting_on g s o ≡ New x y → PointWithin g s o x y
on_grid_within g s o h x y e =
    let p = before_moved g s o x y e in
    let n = new_point_lem s o h p.0 p.1 p.2 in
    record {
      first = coordinate_within g (largest s) p.0 x s.a.x s.b.x (parameter s o) p.3 n.0;
      second = coordinate_within g (largest s) p.1 y s.a.y s.b.y (parameter s o) p.4 n.1;
    }

-- And t is in 0..1: the exact point lies between P1 and P2.
pub on_edge : (g : Grid) (s o : Segment) (x y : Float) → meeting_on g s o ≡ New x y → in_unit (parameter s o) ≡ true
on_edge g s o x y e = let p = before_moved g s o x y e in (meeting_new s o p.0 p.1 p.2).inside

-- the same without a grid, as the meeting rule stands
pub booked_within : (s o : Segment) → AllowedEnds s → (x y : Float) → meeting s o ≡ New x y → PointWithin None s o x y
unfolding booked
booked_within s o h x y e =
    let n = new_point_lem s o h x y e in
    record {
      first = coordinate_within None (largest s) x x s.a.x s.b.x (parameter s o) refl n.0;
      second = coordinate_within None (largest s) y y s.a.y s.b.y (parameter s o) refl n.1;
    }
