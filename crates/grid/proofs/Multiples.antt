-- Whether x, which is m * 2 ^ e units of 2 ^ -1074 or as many below 0, is a whole number of steps. Assumes nothing.
use mathlib.Core.Path.{◌≡◌, refl, sym, ap, ◌∙◌}
use mathlib.Core.Bool.{Bool, true, false, ◌&&◌}
use Prim.Native.Nat.{ℕ, zero, suc, ◌+◌, ◌-◌, ◌*◌, ◌/◌, ◌%◌, ◌^◌, ◌≤◌, ◌<◌}
use native.Mathlib.Nat.{add-zero, one-mul, zero-mul, mul-pos, mul_assoc, mul-mod_left, mod-eq_of_lt, lt_of_lt_of_le}
use native.Mathlib.Omega.{arith}
use lib.Dec.{eqb, eqb-suc-zero}
use lib.IntN.{nat_abs}
use lib.Pow.{pow-add, pow_pos, pow-lt, pow_mono, shl-shr, mod-pow-add}
use lib.Ieee.{Float}
use lib.Ieee.Scale.{finite}
use borrow.Author.Tests.{eq-eqb, ne_eqb}
use Rattle.exact.specs.Exact.{mag, coord}
use Rattle.exact.specs.Inner.{signed_size}
use Rattle.exact.specs.declared.parts.Parts.{Parts}
use Rattle.exact.proofs.Integers.{abs_signed}
use Rattle.exact.proofs.ExactUnits.{size_coord}
use Rattle.grid.specs.Grid.{grid_step, is_on_grid}

pub steps_none : (n g : ℕ) → 0 < g → eqb (n * g) 0 ≡ eqb n 0
steps_none zero g G = eq-eqb (0 * g) 0 (zero-mul g)
steps_none (suc n) g G = let p : 0 < suc n * g = mul-pos (omega arith) G in ne_eqb (suc n * g) 0 (λ z. omega arith) ∙ sym (eqb-suc-zero n)

scaled_mod : (m e d : ℕ) → m * 2 ^ e % 2 ^ (d + e) ≡ m % 2 ^ d * 2 ^ e
scaled_mod m e d =
    mod-pow-add (m * 2 ^ e) d e ∙ ap (λ (r : ℕ). m * 2 ^ e / 2 ^ e % 2 ^ d * 2 ^ e + r) (mul-mod_left m (2 ^ e)) ∙ add-zero (m * 2 ^ e / 2 ^ e % 2 ^ d * 2 ^ e)
    ∙ ap (λ (n : ℕ). n % 2 ^ d * 2 ^ e) (shl-shr m e)

pub no_number : (k : ℕ) (x : Float) → finite x ≡ false → false ≡ is_on_grid k x
unfolding is_on_grid
no_number k x n = rw n refl

module _ (k : ℕ) (x : Float) (p : Parts) (t : finite x ≡ true) (c : signed_size p ≡ coord x) where
  by_parts : {b : Bool} → b ≡ eqb (p.m * 2 ^ p.e % grid_step k) 0 → b ≡ is_on_grid k x
  unfolding is_on_grid
  by_parts e =
      let same : p.m * 2 ^ p.e ≡ mag x = sym (abs_signed p.neg (p.m * 2 ^ p.e)) ∙ ap nat_abs c ∙ size_coord x in
      e ∙ ap (λ (n : ℕ). eqb (n % grid_step k) 0) same ∙ sym (ap (λ (b : Bool). b && eqb (mag x % grid_step k) 0) t)

  -- a step is no more than 2 ^ e units
  pub coarse : 1074 - k ≤ p.e → true ≡ is_on_grid k x
  coarse l =
      let i = p.e - (1074 - k) in
      let s : i + (1074 - k) ≡ p.e = omega arith in
      let n : p.m * 2 ^ p.e ≡ p.m * 2 ^ i * grid_step k = ap (λ (n : ℕ). p.m * 2 ^ n) (sym s) ∙ ap (λ (n : ℕ). p.m * n) (pow-add 2 i (1074 - k)) ∙ sym (mul_assoc p.m (2 ^ i) (grid_step k)) in
      by_parts (sym (eq-eqb _ 0 (ap (λ (n : ℕ). n % grid_step k) n ∙ mul-mod_left (p.m * 2 ^ i) (grid_step k))))

  -- a step is 2 ^ d times as much
  places : p.e < 1074 - k → eqb (p.m % 2 ^ (1074 - k - p.e)) 0 ≡ eqb (p.m * 2 ^ p.e % grid_step k) 0
  places l =
      let d = 1074 - k - p.e in
      let s : d + p.e ≡ 1074 - k = omega arith in
      sym (ap (λ (n : ℕ). eqb (p.m * 2 ^ p.e % 2 ^ n) 0) (sym s) ∙ ap (λ (n : ℕ). eqb n 0) (scaled_mod p.m p.e d) ∙ steps_none (p.m % 2 ^ d) (2 ^ p.e) (pow_pos p.e))

  pub fine : p.e < 1074 - k → 1074 - k - p.e < 53 → eqb (p.m % (1 * 2 ^ (1074 - k - p.e) % 2 ^ 64)) 0 ≡ is_on_grid k x
  fine l s =
      let d = 1074 - k - p.e in
      let w : 1 * 2 ^ d % 2 ^ 64 ≡ 2 ^ d = ap (λ (n : ℕ). n % 2 ^ 64) (one-mul (2 ^ d)) ∙ mod-eq_of_lt (pow-lt {i = d} {j = 64} (omega arith)) in
      by_parts (ap (λ (n : ℕ). eqb (p.m % n) 0) w ∙ places l)

  -- m has fewer digits
  pub finest : p.e < 1074 - k → 53 ≤ 1074 - k - p.e → p.m < 2 ^ 53 → eqb p.m 0 ≡ is_on_grid k x
  finest l s u = by_parts (ap (λ (n : ℕ). eqb n 0) (sym (mod-eq_of_lt (lt_of_lt_of_le u (pow_mono s)))) ∙ places l)
