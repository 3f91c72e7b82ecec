-- p + t (q - p) as computed is finite, and off by M × 2^-50 + 2^-1074 at most, where p and q are M in size and t is 1. Assumes nothing.
use mathlib.Core.Path.{◌≡◌, refl, sym, ap, ◌∙◌}
use Prim.Native.Nat.{ℕ, ◌+◌, ◌*◌, ◌^◌, ◌≤◌, ◌<◌}
use native.Mathlib.Nat.{le_trans, le_of_eq, mul_comm, mul-le-mul_right, le_of_mul-le-mul_right}
use native.Mathlib.Omega.{arith}
use lib.Dec.{lit≤}
use lib.Pow.{pow_pos}
use lib.IntN.{pos, nat_abs, ◌+ℤ◌, ◌-ℤ◌, ◌*ℤ◌}
use lib.Ieee.{Float, binary64}
use lib.Ieee.Bits.{is_true}
use lib.Ieee.Fits.{add-fits, sub-fits, mul-fits}
use Rattle.std.specs.Prelude.{None}
use Rattle.std.proofs.lemmas.Int.{unsigned_abs-mul}
use Rattle.exact.specs.Exact.{coord}
use Rattle.plane.specs.Plane.{◌⊕◌, ◌⊖◌, ◌⊗◌}
use Rattle.coordinates.specs.Booked.{off_by, allowance}
use Rattle.rounding.proofs.Errors.{errors_add}
use Rattle.rounding.proofs.Sizes.{abs_add, abs_back, sub_most}
use Rattle.rounding.proofs.Operations.{Number, Near, NearProduct, add_rounds, sub_rounds, rounds_near, mul_near}

-- ---- the numbers, for a unit l. d, v, w: the sizes of the difference and of the rounded difference and product; e1, e2, e3: their errors and the sum's

v_size : (m d e1 v : ℕ) → d ≤ 2 * m → 2 ^ 53 * e1 ≤ d → v ≤ e1 + d → 4 * v ≤ 9 * m
v_size m d e1 v h k l = omega arith

w_size : (l v e2 tv w : ℕ) → 0 < l → tv ≤ v * l → 2 ^ 53 * e2 ≤ tv + 2 ^ 52 * l → w * l ≤ e2 + tv → 8 * w ≤ 9 * v + 4
w_size l v e2 tv w h i j k = le_of_mul-le-mul_right {m = 8 * w} {n = 9 * v + 4} {k = l} (omega arith) h

error_sum : (l m d e1 e2 e3 v w tv te : ℕ) → d ≤ 2 * m → 2 ^ 53 * e1 ≤ d → te ≤ e1 * l → tv ≤ v * l → 2 ^ 53 * e2 ≤ tv + 2 ^ 52 * l → 2 ^ 53 * e3 ≤ m + w
    → 2 ^ 53 * (e3 * l + (e2 + te)) ≤ (m + w + v + 2 ^ 52 + 2 * m) * l
error_sum l m d e1 e2 e3 v w tv te h i j k a b =
    let x : 2 ^ 53 * e3 * l ≤ (m + w) * l = mul-le-mul_right l b in
    let y : 2 ^ 53 * e1 * l ≤ 2 * m * l = mul-le-mul_right l (le_trans i h) in
    omega arith

all_sizes : (m v w : ℕ) → 4 * v ≤ 9 * m → 8 * w ≤ 9 * v + 4 → m + w + v + 2 ^ 52 + 2 * m ≤ 8 * m + 2 ^ 53
all_sizes m v w h k = omega arith

-- eight times m, and 2^53 times less
in_allowance : (l k m e : ℕ) → l ≡ 2 ^ 50 * k → 2 ^ 53 * e ≤ (8 * m + 2 ^ 53) * l → e ≤ m * k + l + 0
in_allowance l k m e h i =
    let g : 8 * m * l ≡ 2 ^ 53 * (m * k) = ap (λ (n : ℕ). 8 * m * n) h ∙ omega arith in
    let j : 2 ^ 53 * e ≤ 2 ^ 53 * (m * k + l) = omega arith in
    omega arith

-- ---- the floats

room : (a m : ℕ) → a ≤ 16 * m + 16 → m ≤ 2 ^ 1114 → a ≤ 2 ^ 2000
room a m h k = le_trans h (le_trans (grown m (2 ^ 1114) k) (lit≤ tt))
  where
    grown : (m b : ℕ) → m ≤ b → 16 * m + 16 ≤ 16 * b + 16
    grown m b k = omega arith

at_most : (a b l : ℕ) → a ≤ l → a * b ≤ b * l
at_most a b l h = le_trans (mul-le-mul_right b h) (le_of_eq (mul_comm l b))

module _ (p q t : Float) (m : ℕ) (P : Number p) (Q : Number q) (U : Number t)
    (hp : nat_abs (coord p) ≤ m) (hq : nat_abs (coord q) ≤ m) (ht : nat_abs (coord t) ≤ 2 ^ 1074) (small : m ≤ 2 ^ 1114) where
  abbrev v : Float
  v = q ⊖ p

  abbrev w : Float
  w = t ⊗ v

  abbrev x : Float
  x = p ⊕ w

  difference : nat_abs (coord q -ℤ coord p) ≤ 2 * m
  difference = sub_most (coord q) (coord p) m hq hp

  near_v : Near v (coord q -ℤ coord p)
  near_v = rounds_near (sub_rounds q p Q P) (room _ m (le_trans difference (omega arith)) small)

  number_v : Number v
  number_v = record { fit = is_true _ (sub-fits binary64 q p); end = near_v.end }

  size_v : 4 * nat_abs (coord v) ≤ 9 * m
  size_v = v_size m (nat_abs (coord q -ℤ coord p)) (nat_abs (coord v -ℤ (coord q -ℤ coord p))) (nat_abs (coord v)) difference near_v.off (abs_back (coord v) (coord q -ℤ coord p))

  product : nat_abs (coord t *ℤ coord v) ≤ nat_abs (coord v) * 2 ^ 1074
  product = le_trans (le_of_eq (unsigned_abs-mul (coord t) (coord v))) (at_most (nat_abs (coord t)) (nat_abs (coord v)) (2 ^ 1074) ht)

  near_w : NearProduct w (coord t *ℤ coord v)
  near_w = mul_near t v U number_v (le_trans product (mul-le-mul_right (2 ^ 1074) (room (nat_abs (coord v)) m (in_room (nat_abs (coord v)) m size_v) small)))
    where
      in_room : (v m : ℕ) → 4 * v ≤ 9 * m → v ≤ 16 * m + 16
      in_room v m h = omega arith

  number_w : Number w
  number_w = record { fit = is_true _ (mul-fits binary64 t v); end = near_w.end }

  size_w : 8 * nat_abs (coord w) ≤ 9 * nat_abs (coord v) + 4
  size_w =
      w_size (2 ^ 1074) (nat_abs (coord v)) (nat_abs (coord w *ℤ pos (2 ^ 1074) -ℤ coord t *ℤ coord v)) (nat_abs (coord t *ℤ coord v)) (nat_abs (coord w)) (pow_pos 1074) product near_w.off
      (le_trans (le_of_eq (sym (unsigned_abs-mul (coord w) (pos (2 ^ 1074))))) (abs_back (coord w *ℤ pos (2 ^ 1074)) (coord t *ℤ coord v)))

  near_x : Near x (coord p +ℤ coord w)
  near_x = rounds_near (add_rounds p w P number_w) (room _ m (in_room _ (nat_abs (coord p)) m (nat_abs (coord v)) (nat_abs (coord w)) (abs_add (coord p) (coord w)) hp size_v size_w) small)
    where
      in_room : (a p m v w : ℕ) → a ≤ p + w → p ≤ m → 4 * v ≤ 9 * m → 8 * w ≤ 9 * v + 4 → a ≤ 16 * m + 16
      in_room a p m v w h i j k = omega arith

  pub along_number : Number x
  along_number = record { fit = is_true _ (add-fits binary64 p w); end = near_x.end }

  -- how far it is off
  pub along_near : off_by x p q t ≤ allowance None m
  along_near =
      let e1 = nat_abs (coord v -ℤ (coord q -ℤ coord p)) in
      let e2 = nat_abs (coord w *ℤ pos (2 ^ 1074) -ℤ coord t *ℤ coord v) in
      let e3 = nat_abs (coord x -ℤ (coord p +ℤ coord w)) in
      let sum : 2 ^ 53 * e3 ≤ m + nat_abs (coord w) = le_trans near_x.off (le_trans (abs_add (coord p) (coord w)) (add_left (nat_abs (coord p)) m (nat_abs (coord w)) hp)) in
      le_trans (errors_add (coord x) (coord p) (coord w) (pos (2 ^ 1074)) (coord t) (coord v) (coord q -ℤ coord p))
      (in_allowance (2 ^ 1074) (2 ^ 1024) m (e3 * 2 ^ 1074 + (e2 + nat_abs (coord t) * e1)) refl
      (le_trans (error_sum (2 ^ 1074) m (nat_abs (coord q -ℤ coord p)) e1 e2 e3 (nat_abs (coord v)) (nat_abs (coord w)) (nat_abs (coord t *ℤ coord v)) (nat_abs (coord t) * e1)
      difference near_v.off (at_most (nat_abs (coord t)) e1 (2 ^ 1074) ht) product near_w.off sum)
      (mul-le-mul_right (2 ^ 1074) (all_sizes m (nat_abs (coord v)) (nat_abs (coord w)) size_v size_w))))
    where
      add_left : (a b c : ℕ) → a ≤ b → a + c ≤ b + c
      add_left a b c h = omega arith

  -- it is not far beyond its ends
  pub along_size : nat_abs (coord x) ≤ 4 * m
  along_size =
      at_end_lem m (nat_abs (coord v)) (nat_abs (coord w)) (nat_abs (coord p)) (nat_abs (coord p +ℤ coord w)) (nat_abs (coord x -ℤ (coord p +ℤ coord w))) (nat_abs (coord x))
      size_v size_w hp (abs_add (coord p) (coord w)) near_x.off (abs_back (coord x) (coord p +ℤ coord w))
    where
      at_end_lem : (m v w p z e x : ℕ) → 4 * v ≤ 9 * m → 8 * w ≤ 9 * v + 4 → p ≤ m → z ≤ p + w → 2 ^ 53 * e ≤ z → x ≤ e + z → x ≤ 4 * m
      at_end_lem m v w p z e x h i j k a b =
          let f : 8 * e ≤ z = omega arith in
          less_end m v w p z e x h i j k f b
        where
          less_end : (m v w p z e x : ℕ) → 4 * v ≤ 9 * m → 8 * w ≤ 9 * v + 4 → p ≤ m → z ≤ p + w → 8 * e ≤ z → x ≤ e + z → x ≤ 4 * m
          less_end m v w p z e x h i j k f b = omega arith
