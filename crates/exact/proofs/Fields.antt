-- What the bit pattern of a finite f64 says: its sign, its significand and its exponent, in units of 2^-1074. Assumes nothing.
use mathlib.Core.Path.{◌≡◌, refl, sym, ap, ap₂, ◌∙◌, subst}
use mathlib.Core.Bool.{Bool, true, false, not, cond, true≢false}
use Prim.Native.Nat.{ℕ, zero, suc, ◌+◌, ◌-◌, ◌*◌, ◌/◌, ◌%◌, ◌^◌, ◌≤◌, ◌<◌}
use native.Mathlib.Nat.{mul-div_cancel, le_trans, le_of_eq, lt_of_lt_of_le, lt_of_not-le, not-le_of_lt, mul-le-mul_right}
use native.Mathlib.Numerals.{sub-one}
use native.Mathlib.Omega.{arith}
use lib.Dec.{T, leb, eqb}
use lib.Pow.{pow-add, pow_pos, pow_mono, shl_lt}
use lib.Ieee.{Float, nan, inf, fin, binary64, down, odd, fits, is_nan, of_fields, of_bits, to_bits}
use lib.Ieee.{size as binaryDigits}
use lib.Ieee.Exact.{HasValue, odd_sign}
use lib.Ieee.Fits.{down_pos}
use lib.Ieee.Bits.{of_bits-to_bits}
use lib.Ieee.Digits.{size-lt, size-le}
use lib.Ieee.Scale.{finite}
use Rattle.std.specs.Float.{float_is_finite}
use Rattle.exact.specs.Exact.{mag, minus, signed, coord, take_apart}
use Rattle.exact.specs.Inner.{Taken}

pub finite_not_nan : (x : Float) → T (finite x) → T (not (is_nan x))
unfolding is_nan
finite_not_nan nan h = h
finite_not_nan (inf s) h = tt
finite_not_nan (fin s m e) h = tt

-- std's word
pub finite_is : (x : Float) → float_is_finite x ≡ finite x
unfolding float_is_finite
finite_is nan = refl
finite_is (inf s) = refl
finite_is (fin s m e) = refl

-- ---- parts with the value of x

exponent_is : (m e : ℕ) → m < 2 ^ 53 → ((e ≡ 0 → ⊥) → 2 ^ 52 ≤ m) → binaryDigits (m * 2 ^ e) - 53 ≡ e
exponent_is m zero h k = omega (arith, size-le (m * 2 ^ 0) 53 (omega arith))
exponent_is m (suc e) h k =
    let most = size-le (m * 2 ^ suc e) (53 + suc e) (shl_lt 53 (suc e) h) in
    let full : 2 ^ (52 + suc e) ≤ m * 2 ^ suc e = le_trans (le_of_eq (pow-add 2 52 (suc e))) (mul-le-mul_right (2 ^ suc e) (k (λ q. omega arith))) in
    let least : 52 + suc e < binaryDigits (m * 2 ^ suc e) =
    lt_of_not-le (λ (g : binaryDigits (m * 2 ^ suc e) ≤ 52 + suc e). not-le_of_lt (lt_of_lt_of_le (size-lt (m * 2 ^ suc e)) (pow_mono g)) full) in
    omega arith

pub settled : {x : Float} {s : Bool} (m e : ℕ) → Taken x s m e → (s, m, e) ≡ take_apart x
unfolding take_apart
settled {x} m e t =
    let same : e ≡ binaryDigits (mag x) - 53 = sym (ap (λ (n : ℕ). binaryDigits n - 53) (sym t.value) ∙ exponent_is m e t.digits t.full) in
    let cut : m ≡ mag x / 2 ^ (binaryDigits (mag x) - 53) = sym (mul-div_cancel m (pow_pos e)) ∙ ap₂ (λ (n d : ℕ). n / 2 ^ d) t.value same in
    λ i. (t.sign i, cut i, same i)

pub coord_of : {x : Float} {s : Bool} (m e : ℕ) → Taken x s m e → signed s (m * 2 ^ e) ≡ coord x
unfolding coord
coord_of m e t = λ i. signed (t.sign i) (t.value i)

not_finite : (x : Float) → finite x ≡ false → Taken x false 0 0
unfolding mag
not_finite nan h = record { sign = refl; value = refl; digits = omega arith; range = omega arith; full = λ k. absurd (k refl) }
not_finite (inf s) h = record { sign = refl; value = refl; digits = omega arith; range = omega arith; full = λ k. absurd (k refl) }
not_finite (fin s m e) h = absurd (true≢false h)

-- what is not finite counts as 0
pub none_apart : (x : Float) → finite x ≡ false → (false, 0, 0) ≡ take_apart x
none_apart x h = settled 0 0 (not_finite x h)

pub none_coord : (x : Float) → finite x ≡ false → signed false (0 * 2 ^ 0) ≡ coord x
none_coord x h = coord_of 0 0 (not_finite x h)

-- ---- significand and exponent by the fields of the bit pattern: exponent field f, digits t

abbrev pub significand : ℕ → ℕ → ℕ
significand zero t = t
significand (suc f) t = 2 ^ 52 + t

abbrev pub exponent : ℕ → ℕ
exponent zero = 0
exponent (suc f) = f

pub small : {x : Float} {s : Bool} (f t : ℕ) → f ≡ 0 → Taken x s (significand f t) (exponent f) → Taken x s t 0
small zero t h r = r
small (suc f) t h r = absurd (omega arith)

pub large : {x : Float} {s : Bool} (f t : ℕ) → (f ≡ 0 → ⊥) → Taken x s (significand f t) (exponent f) → Taken x s (2 ^ 52 + t) (f - 1)
large zero t h r = absurd (h refl)
large {x} {s} (suc f) t h r = subst (λ (n : ℕ). Taken x s (2 ^ 52 + t) n) (sym (sub-one (suc f))) r

-- what has the value a / 2 ^ 1074 has the size a
pub value_mag : (v : Float) (s : Bool) (a : ℕ) → HasValue v s a (2 ^ 1074) → (minus v ≡ s) × (mag v ≡ a) × T (finite v)
unfolding mag
value_mag nan s a h = absurd h
value_mag (inf t) s a h = absurd h
value_mag (fin t m e) s a h = (h.0, ap (λ (n : ℕ). n / down e) h.1 ∙ mul-div_cancel a (down_pos e), tt)

pub record Read (v : Float) (s : Bool) (m e : ℕ) : Type 0 where
  pub taken : Taken v s m e
  pub exact : HasValue v s (m * 2 ^ e) (2 ^ 1074)

reads : (v : Float) (s : Bool) (m e : ℕ) → HasValue v s (m * 2 ^ e) (2 ^ 1074) → m < 2 ^ 53 → e ≤ 2045 → ((e ≡ 0 → ⊥) → 2 ^ 52 ≤ m) → Read v s m e
reads v s m e h d k f =
    let w = value_mag v s (m * 2 ^ e) h in
    record { taken = record { sign = sym w.0; value = sym w.1; digits = d; range = k; full = f }; exact = h }

fields : (s : Bool) (f t : ℕ) → f < 2 ^ 11 → t < 2 ^ 52 → T (finite (of_fields binary64 s f t)) → Read (of_fields binary64 s f t) s (significand f t) (exponent f)
unfolding of_fields
fields s zero t l d h = reads (odd 53 s t 0 1074) s t 0 (odd_sign 53 s t 0 1074) (omega arith) (omega arith) (λ k. absurd (k refl))
fields s (suc f) t l d h = go (eqb (suc f) 2047) refl h
  where
    inner : (b : Bool) → T (finite (cond b (inf s) nan)) → ⊥
    inner true k = k
    inner false k = k

    go : (b : Bool) → eqb (suc f) 2047 ≡ b → T (finite (cond b (cond (eqb t 0) (inf s) nan) (odd 53 s (2 ^ 52 + t) f 1074)))
        → Read (cond b (cond (eqb t 0) (inf s) nan) (odd 53 s (2 ^ 52 + t) f 1074)) s (2 ^ 52 + t) f
    go true e k = absurd (inner (eqb t 0) k)
    go false e k =
        let inside : suc f ≡ 2047 → ⊥ = λ q. subst T e (subst (λ (n : ℕ). T (eqb n 2047)) (sym q) tt) in
        reads (odd 53 s (2 ^ 52 + t) f 1074) s (2 ^ 52 + t) f (odd_sign 53 s (2 ^ 52 + t) f 1074) (omega arith) (omega arith) (λ z. omega arith)

pub read : (x : Float) → fits binary64 x ≡ true → T (finite x)
    → Read x (leb (2 ^ 63) (to_bits binary64 x)) (significand (to_bits binary64 x % 2 ^ 63 / 2 ^ 52) (to_bits binary64 x % 2 ^ 52)) (exponent (to_bits binary64 x % 2 ^ 63 / 2 ^ 52))
unfolding of_bits
read x h k =
    let b = to_bits binary64 x in
    let same : of_fields binary64 (leb (2 ^ 63) b) (b % 2 ^ 63 / 2 ^ 52) (b % 2 ^ 52) ≡ x = of_bits-to_bits binary64 x (subst T (sym h) tt) in
    subst (λ (v : Float). Read v (leb (2 ^ 63) b) (significand (b % 2 ^ 63 / 2 ^ 52) (b % 2 ^ 52)) (exponent (b % 2 ^ 63 / 2 ^ 52))) same
    (fields (leb (2 ^ 63) b) (b % 2 ^ 63 / 2 ^ 52) (b % 2 ^ 52) (omega arith) (omega arith) (subst (λ (v : Float). T (finite v)) (sym same) k))

-- the parts of a finite float by its bits
pub small_read : (x : Float) → fits binary64 x ≡ true → T (finite x) → to_bits binary64 x % 2 ^ 63 / 2 ^ 52 ≡ 0
    → Taken x (leb (2 ^ 63) (to_bits binary64 x)) (to_bits binary64 x % 2 ^ 52) 0
small_read x h k z = small _ _ z (read x h k).taken

pub large_read : (x : Float) → fits binary64 x ≡ true → T (finite x) → (to_bits binary64 x % 2 ^ 63 / 2 ^ 52 ≡ 0 → ⊥)
    → Taken x (leb (2 ^ 63) (to_bits binary64 x)) (2 ^ 52 + to_bits binary64 x % 2 ^ 52) (to_bits binary64 x % 2 ^ 63 / 2 ^ 52 - 1)
large_read x h k z = large _ _ z (read x h k).taken
