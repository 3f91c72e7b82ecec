-- How the errors of a difference, of its product and of a sum add up. Assumes nothing.
use mathlib.Core.Path.{◌≡◌, ap, ◌∙◌}
use Prim.Native.Nat.{◌+◌, ◌*◌, ◌≤◌}
use native.Mathlib.Omega.{arith}
use lib.IntN.{ℤ, nat_abs, ◌+ℤ◌, ◌-ℤ◌, ◌*ℤ◌}
use Rattle.std.proofs.lemmas.Int.{unsigned_abs-mul}
use Rattle.exact.proofs.Integers.{diff, diff_same, diff_neg, diff_add, diff_mul, every₂}
use Rattle.rounding.proofs.Sizes.{abs_add}

-- how far g times l is from y, by way of x
pub moved : (g x l y : ℤ) → g *ℤ l -ℤ y ≡ (g -ℤ x) *ℤ l +ℤ (x *ℤ l -ℤ y)
moved g x l y =
    every₂ (λ (g x : ℤ). g *ℤ l -ℤ y ≡ (g -ℤ x) *ℤ l +ℤ (x *ℤ l -ℤ y)) (λ a a' b b'.
    every₂ (λ (l y : ℤ). diff a a' *ℤ l -ℤ y ≡ (diff a a' -ℤ diff b b') *ℤ l +ℤ (diff b b' *ℤ l -ℤ y)) (λ c c' d d'.
    simp (diff_neg, diff_add, diff_mul) (diff_same _ _ _ _ (omega arith))) l y) g x

-- the same of t times d, by way of v
product_parted : (y t v d : ℤ) → y -ℤ t *ℤ d ≡ (y -ℤ t *ℤ v) +ℤ t *ℤ (v -ℤ d)
product_parted y t v d =
    every₂ (λ (y t : ℤ). y -ℤ t *ℤ d ≡ (y -ℤ t *ℤ v) +ℤ t *ℤ (v -ℤ d)) (λ a a' b b'.
    every₂ (λ (v d : ℤ). diff a a' -ℤ diff b b' *ℤ d ≡ (diff a a' -ℤ diff b b' *ℤ v) +ℤ diff b b' *ℤ (v -ℤ d)) (λ c c' d d'.
    simp (diff_neg, diff_add, diff_mul) (diff_same _ _ _ _ (omega arith))) v d) y t

-- the same term in both
shared : (p w l y : ℤ) → (p +ℤ w) *ℤ l -ℤ (p *ℤ l +ℤ y) ≡ w *ℤ l -ℤ y
shared p w l y =
    every₂ (λ (p w : ℤ). (p +ℤ w) *ℤ l -ℤ (p *ℤ l +ℤ y) ≡ w *ℤ l -ℤ y) (λ a a' b b'.
    every₂ (λ (l y : ℤ). (diff a a' +ℤ diff b b') *ℤ l -ℤ (diff a a' *ℤ l +ℤ y) ≡ diff b b' *ℤ l -ℤ y) (λ c c' d d'.
    simp (diff_neg, diff_add, diff_mul) (diff_same _ _ _ _ (omega arith))) l y) p w

sum_parted : (x p w l y : ℤ) → x *ℤ l -ℤ (p *ℤ l +ℤ y) ≡ (x -ℤ (p +ℤ w)) *ℤ l +ℤ (w *ℤ l -ℤ y)
sum_parted x p w l y = moved x (p +ℤ w) l (p *ℤ l +ℤ y) ∙ ap (λ (z : ℤ). (x -ℤ (p +ℤ w)) *ℤ l +ℤ z) (shared p w l y)

-- g times l is as far from y as x times l is, and l times as far as g is from x
pub moved_adds : (g x l y : ℤ) → nat_abs (g *ℤ l -ℤ y) ≤ nat_abs (g -ℤ x) * nat_abs l + nat_abs (x *ℤ l -ℤ y)
moved_adds g x l y = omega (arith, ap nat_abs (moved g x l y), abs_add ((g -ℤ x) *ℤ l) (x *ℤ l -ℤ y), unsigned_abs-mul (g -ℤ x) l)

-- p + t d: of t d it is v that is multiplied, for t v it is w that is added, and x stands for the sum
pub errors_add : (x p w l t v d : ℤ)
    → nat_abs (x *ℤ l -ℤ (p *ℤ l +ℤ t *ℤ d)) ≤ nat_abs (x -ℤ (p +ℤ w)) * nat_abs l + (nat_abs (w *ℤ l -ℤ t *ℤ v) + nat_abs t * nat_abs (v -ℤ d))
errors_add x p w l t v d =
    let a = abs_add ((x -ℤ (p +ℤ w)) *ℤ l) (w *ℤ l -ℤ t *ℤ d) in
    let b = abs_add (w *ℤ l -ℤ t *ℤ v) (t *ℤ (v -ℤ d)) in
    let e = ap nat_abs (sum_parted x p w l (t *ℤ d)) in
    let f = ap nat_abs (product_parted (w *ℤ l) t v d) in
    omega (arith, unsigned_abs-mul (x -ℤ (p +ℤ w)) l, unsigned_abs-mul t (v -ℤ d))
