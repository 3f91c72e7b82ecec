-- The size of a whole number: of a sum, a difference, a negative; how far apart two are. Assumes nothing.
use mathlib.Core.Path.{◌≡◌, sym, ap, ◌∙◌}
use mathlib.Core.Bool.{Bool, true, false, not, cond}
use Prim.Native.Nat.{ℕ, ◌+◌, ◌*◌, ◌^◌, ◌≤◌}
use native.Mathlib.Nat.{le_trans, le_of_eq, mul-le-mul}
use native.Mathlib.Omega.{arith}
use lib.IntN.{ℤ, neg_ℤ, nat_abs, ◌+ℤ◌, ◌-ℤ◌, ◌*ℤ◌, -ℤ-+ℤ_cancel}
use Rattle.std.proofs.lemmas.Int.{unsigned_abs-mul}
use Rattle.exact.specs.Exact.{signed}
use Rattle.exact.proofs.Integers.{diff, diff_neg, diff_add, every, every₂, minus_signed, abs_diff}
use Rattle.rounding.proofs.Whole.{gap}
use Rattle.rounding.proofs.Nearest.{Close}

-- ±a and ±b
apart : (s t : Bool) (a b : ℕ) → nat_abs (signed s a -ℤ signed t b) ≡ gap (cond s 0 a + cond t b 0) (cond s a 0 + cond t 0 b)
apart s t a b = ap nat_abs (minus_signed s t a b) ∙ abs_diff (cond s 0 a + cond t b 0) (cond s a 0 + cond t 0 b)

pub one_side : (s : Bool) (a b : ℕ) → nat_abs (signed s a -ℤ signed s b) ≡ gap a b
one_side true a b = apart true true a b ∙ omega arith
one_side false a b = apart false false a b ∙ omega arith

pub two_sides : (s : Bool) (a b : ℕ) → nat_abs (signed s a -ℤ signed (not s) b) ≡ a + b
two_sides true a b = apart true false a b ∙ omega arith
two_sides false a b = apart false true a b ∙ omega arith

-- numbers of one sign are as far apart as their sizes
pub apart_signed : (s : Bool) (a b c : ℕ) → Close (2 ^ 53 * a) (2 ^ 53 * b) c → 2 ^ 53 * nat_abs (signed s a -ℤ signed s b) ≤ c
apart_signed s a b c h = simp (one_side s a b) (omega (arith, h.over, h.under))

pub abs_add : (x y : ℤ) → nat_abs (x +ℤ y) ≤ nat_abs x + nat_abs y
abs_add x y =
    every (λ (x : ℤ). nat_abs (x +ℤ y) ≤ nat_abs x + nat_abs y) (λ a a'.
    every (λ (y : ℤ). nat_abs (diff a a' +ℤ y) ≤ nat_abs (diff a a') + nat_abs y) (λ b b'.
    simp (diff_add, abs_diff) (omega arith)) y) x

pub abs_neg : (x : ℤ) → nat_abs (neg_ℤ x) ≡ nat_abs x
abs_neg x = every (λ (x : ℤ). nat_abs (neg_ℤ x) ≡ nat_abs x) (λ a a'. simp (diff_neg, abs_diff) (omega arith)) x

pub abs_sub : (x y : ℤ) → nat_abs (x -ℤ y) ≤ nat_abs x + nat_abs y
abs_sub x y = le_trans (abs_add x (neg_ℤ y)) (le_of_eq (ap (λ (n : ℕ). nat_abs x + n) (abs_neg y)))

-- either way round
pub abs_apart : (x y : ℤ) → nat_abs (x -ℤ y) ≡ nat_abs (y -ℤ x)
abs_apart x y = every₂ (λ (x y : ℤ). nat_abs (x -ℤ y) ≡ nat_abs (y -ℤ x)) (λ a a' b b'. simp (diff_neg, diff_add, abs_diff) (omega arith)) x y

-- x by how far it is from z
pub abs_back : (x z : ℤ) → nat_abs x ≤ nat_abs (x -ℤ z) + nat_abs z
abs_back x z = le_trans (le_of_eq (ap nat_abs (sym (-ℤ-+ℤ_cancel x z)))) (abs_add (x -ℤ z) z)

-- ---- at most so much

doubled : (a b c n : ℕ) → a ≤ b + c → b ≤ n → c ≤ n → a ≤ 2 * n
doubled a b c n h i j = omega arith

pub add_most : (x y : ℤ) (n : ℕ) → nat_abs x ≤ n → nat_abs y ≤ n → nat_abs (x +ℤ y) ≤ 2 * n
add_most x y n h k = doubled (nat_abs (x +ℤ y)) (nat_abs x) (nat_abs y) n (abs_add x y) h k

pub sub_most : (x y : ℤ) (n : ℕ) → nat_abs x ≤ n → nat_abs y ≤ n → nat_abs (x -ℤ y) ≤ 2 * n
sub_most x y n h k = doubled (nat_abs (x -ℤ y)) (nat_abs x) (nat_abs y) n (abs_sub x y) h k

pub mul_most : (x y : ℤ) (m n : ℕ) → nat_abs x ≤ m → nat_abs y ≤ n → nat_abs (x *ℤ y) ≤ m * n
mul_most x y m n h k = le_trans (le_of_eq (unsigned_abs-mul x y)) (mul-le-mul h k)
