-- `coord_ok`'s two answers are `coord_ok`'s. Assumes nothing.
use mathlib.Core.Path.{◌≡◌, refl, sym, ◌∙◌}
use mathlib.Core.Bool.{Bool, true, false, not, ◌&&◌, ◌||◌}
use Prim.Native.Nat.{ℕ, zero, suc, ◌*◌, ◌^◌, ◌<◌}
use native.Mathlib.Nat.{mul-one, zero-mul, mul-pos, suc-ne-zero}
use native.Mathlib.Omega.{arith}
use lib.IntN.{ℤ, pos}
use lib.Dec.{eqb, leb, ltb, leb-zero}
use Rattle.std.proofs.lemmas.Bool.Decides.{nat_tests}
use lib.Ieee.{Float, nan, inf, fin, up, down, lt, le, eq, of_bits, binary64}
use lib.Ieee.Fits.{up_pos}
use Rattle.std.specs.Float.{is_sign_negative, float_with_sign}
use borrow.Author.Tests.{eqb-true, ne_eqb}
use Rattle.lists.proofs.Search.{and_true}
use Rattle.entry.specs.Refused.{coord_ok}

abbrev limit : Float
limit = fin false 1 (pos 40)

no : ◌≡◌ {A = Bool} false true → ⊥
no e = let z : ◌≡◌ {A = ℕ} 0 1 = cc in omega arith

-- a number that is not 0 is not 0 as a fraction
positive : (m : ℕ) (e : ℤ) (z : ℕ) → z ≡ 0 → eqb (suc m * up e * 1) z ≡ true → ⊥
positive m e z n h =
    let p : 0 < suc m * up e = mul-pos (omega arith) (up_pos e) in
    let q : suc m * up e * 1 ≡ z = eqb-true (suc m * up e * 1) z h in
    let r : suc m * up e * 1 ≡ suc m * up e = mul-one (suc m * up e) in
    omega arith

pub zero_sign : (x : Float) → eq x (of_bits binary64 0) ≡ true → not (is_sign_negative x) ≡ coord_ok x
unfolding eq of_bits coord_ok is_sign_negative
zero_sign nan h = absurd (no h)
zero_sign (inf false) h = absurd (no h)
zero_sign (inf true) h = absurd (no h)
zero_sign (fin false zero e) h = rw (zero-mul, leb-zero)
zero_sign (fin true zero e) h = rw (zero-mul, leb-zero)
zero_sign (fin false (suc m) e) h = absurd (positive m e (0 * down e) (zero-mul (down e)) (and_true _ _ h).0)
zero_sign (fin true (suc m) e) h = absurd (positive m e (0 * down e) (zero-mul (down e)) (and_true _ _ h).0)

at_most : (a b : ℕ) → ltb a b || (eqb a b && true) ≡ leb a b && true
at_most a b = grind (arith, nat_tests)

pub within : (x : Float) → eq x (of_bits binary64 0) ≡ false → le (float_with_sign false x) (of_bits binary64 0x4270_0000_0000_0000) ≡ coord_ok x
unfolding le lt eq of_bits coord_ok float_with_sign
within nan z = refl
within (inf s) z = refl
within (fin false zero e) z = let t : eq (fin false 0 e) (of_bits binary64 0) ≡ true = simp zero-mul in absurd (no (sym z ∙ t))
within (fin true zero e) z = let t : eq (fin true 0 e) (of_bits binary64 0) ≡ true = simp zero-mul in absurd (no (sym z ∙ t))
within (fin false (suc m) e) z = rw mul-one (at_most (suc m * up e) (2 ^ 40 * down e))
within (fin true (suc m) e) z = rw (mul-one, ne_eqb (suc m) 0 (suc-ne-zero m)) (at_most (suc m * up e) (2 ^ 40 * down e))
