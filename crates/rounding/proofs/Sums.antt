-- A sum of floats is (u - v) / c, rounded, u what of both stands above 0 and v what below; it is the same the other way round. Assumes nothing.
use mathlib.Core.Path.{◌≡◌, refl, sym, ap, ◌∙◌}
use mathlib.Core.Bool.{Bool, true, false, cond}
use Prim.Native.Nat.{ℕ, ◌+◌, ◌-◌, ◌*◌}
use native.Mathlib.Nat.{add_comm, mul_comm}
use native.Mathlib.Omega.{arith}
use lib.Dec.{ltb}
use lib.IntN.{ℤ}
use lib.Ieee.{Float, nan, inf, fin, binary64, up, down, round, sum, add}
use borrow.Author.Tests.{ltb-true, ltb-false}
use Rattle.rounding.proofs.Order.{above, under}

-- x is (u - v) / c, rounded
pub record Fraction (x : Float) (u v c : ℕ) : Type 0 where
  pub sign : Bool
  pub size : ℕ
  pub same : x ≡ round binary64 sign size c
  pub value : above sign size + v ≡ u + under sign size

-- ±a / c ± b / c
pub sum_fraction : (s t : Bool) (a b c : ℕ) → Fraction (sum binary64 s a t b c) (above s a + above t b) (under s a + under t b) c
unfolding sum
sum_fraction false false a b c = record { sign = false; size = a + b; same = refl; value = omega arith }
sum_fraction true true a b c = record { sign = true; size = a + b; same = refl; value = omega arith }
sum_fraction false true a b c = go (ltb a b) refl
  where
    go : (p : Bool) → ltb a b ≡ p → Fraction (cond p (round binary64 true (b - a) c) (round binary64 false (a - b) c)) (a + 0) (0 + b) c
    go true e = record { sign = true; size = b - a; same = refl; value = omega (arith, ltb-true a b e) }
    go false e = record { sign = false; size = a - b; same = refl; value = omega (arith, ltb-false a b e) }
sum_fraction true false a b c = go (ltb a b) refl (ltb b a) refl
  where
    go : (p : Bool) → ltb a b ≡ p → (q : Bool) → ltb b a ≡ q → Fraction (cond p (round binary64 false (b - a) c) (round binary64 q (a - b) c)) (0 + b) (a + 0) c
    go true e q f = record { sign = false; size = b - a; same = refl; value = omega (arith, ltb-true a b e) }
    go false e true f = record { sign = true; size = a - b; same = refl; value = omega (arith, ltb-true b a f) }
    go false e false f = record { sign = false; size = a - b; same = refl; value = omega (arith, ltb-false a b e, ltb-false b a f) }

pub add_fraction : (s t : Bool) (m n : ℕ) (e d : ℤ) → let a = m * up e * down d in let b = n * up d * down e in
    Fraction (add binary64 (fin s m e) (fin t n d)) (above s a + above t b) (under s a + under t b) (down e * down d)
unfolding add
add_fraction s t m n e d = sum_fraction s t (m * up e * down d) (n * up d * down e) (down e * down d)

-- ---- the other way round

opposite : (a b c : ℕ) → sum binary64 false a true b c ≡ sum binary64 true b false a c
unfolding sum
opposite a b c = go (ltb a b) refl (ltb b a) refl
  where
    go : (p : Bool) → ltb a b ≡ p → (q : Bool) → ltb b a ≡ q
        → cond p (round binary64 true (b - a) c) (round binary64 false (a - b) c) ≡ cond q (round binary64 false (a - b) c) (round binary64 p (b - a) c)
    go true e true f = absurd (omega (arith, ltb-true a b e, ltb-true b a f))
    go true e false f = refl
    go false e true f = refl
    go false e false f = ap (λ (n : ℕ). round binary64 false n c) (omega (arith, ltb-false a b e, ltb-false b a f))

sum_turned : (s t : Bool) (a b c : ℕ) → sum binary64 s a t b c ≡ sum binary64 t b s a c
unfolding sum
sum_turned false false a b c = ap (λ (n : ℕ). round binary64 false n c) (add_comm a b)
sum_turned true true a b c = ap (λ (n : ℕ). round binary64 true n c) (add_comm a b)
sum_turned false true a b c = opposite a b c
sum_turned true false a b c = sym (opposite b a c)

pub add_turned : (x y : Float) → add binary64 x y ≡ add binary64 y x
unfolding add
add_turned nan nan = refl
add_turned nan (inf t) = refl
add_turned nan (fin t n d) = refl
add_turned (inf s) nan = refl
add_turned (inf true) (inf true) = refl
add_turned (inf true) (inf false) = refl
add_turned (inf false) (inf true) = refl
add_turned (inf false) (inf false) = refl
add_turned (inf s) (fin t n d) = refl
add_turned (fin s m e) nan = refl
add_turned (fin s m e) (inf t) = refl
add_turned (fin s m e) (fin t n d) =
    sum_turned s t (m * up e * down d) (n * up d * down e) (down e * down d)
    ∙ ap (sum binary64 t (n * up d * down e) s (m * up e * down d)) (mul_comm (down e) (down d))
