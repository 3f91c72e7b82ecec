-- The steps from corner to corner go by one and start again at the end; the published code's go by a remainder. Both are the same. Assumes nothing.
use mathlib.Core.Path.{◌≡◌, refl, sym, ap, ◌∙◌}
use mathlib.Core.Bool.{Bool, true, false, cond}
use Prim.Native.Nat.{ℕ, ◌+◌, ◌-◌, ◌%◌, ◌<◌}
use native.Mathlib.Nat.{mod-eq_of_lt, mod-lt, mod_self, add-mod_right}
use native.Mathlib.Omega.{arith}
use lib.Dec.{ltb, eqb}
use borrow.Author.Tests.{ltb-true, ltb-false, eqb-true, eqb-false}
use Rattle.corners.specs.Corners.{corner_after, corner_before}

pub after_remainder : (n i : ℕ) → i < n → corner_after n i ≡ (i + 1) % n
unfolding corner_after
after_remainder n i h = go (ltb (i + 1) n) refl
  where
    go : (b : Bool) → ltb (i + 1) n ≡ b → cond b (i + 1) 0 ≡ (i + 1) % n
    go true e = sym (mod-eq_of_lt (ltb-true (i + 1) n e))
    go false e =
        let whole : i + 1 ≡ n = omega (arith, ltb-false (i + 1) n e) in
        sym (ap (λ (k : ℕ). k % n) whole ∙ mod_self n)

-- so the corner after one that there is is there
pub after_inside : (n i j : ℕ) → i < n → j ≡ corner_after n i → j < n
after_inside n i j h at = omega (arith, at ∙ after_remainder n i h, mod-lt (i + 1) {m = n} (omega (arith, h)))

pub before_remainder : (n i : ℕ) → i < n → corner_before n i ≡ (i + n - 1) % n
unfolding corner_before
before_remainder n i h = go (eqb i 0) refl
  where
    go : (b : Bool) → eqb i 0 ≡ b → cond b (n - 1) (i - 1) ≡ (i + n - 1) % n
    go true e =
        let none : i ≡ 0 = eqb-true i 0 e in
        let last : i + n - 1 ≡ n - 1 = omega (arith, none) in
        sym (ap (λ (k : ℕ). k % n) last ∙ mod-eq_of_lt (omega arith))
    go false e =
        let whole : i + n - 1 ≡ i - 1 + n = omega (arith, eqb-false i 0 e) in
        sym (ap (λ (k : ℕ). k % n) whole ∙ add-mod_right (i - 1) n ∙ mod-eq_of_lt (omega (arith, h)))
