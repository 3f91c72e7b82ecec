-- When the result of an operation is a number, when a zero, and of what it is finite. Assumes nothing.
use mathlib.Core.Path.{◌≡◌, refl, sym, ap, ap₂, ◌∙◌}
use mathlib.Core.Bool.{Bool, true, false, cond, not, ◌&&◌, beq, false≢true}
use Prim.Native.Nat.{ℕ, ◌+◌, ◌-◌, ◌*◌, ◌≤◌, ◌<◌}
use native.Mathlib.Nat.{zero-mul, mul-pos}
use native.Mathlib.Omega.{arith}
use lib.Dec.{T, ltb, eqb}
use lib.IntN.{ℤ}
use lib.Ieee.{Float, nan, inf, fin, binary64, unlike, up, down, lt, eq, round, sum, add, sub, mul, div, neg, of_bits}
use lib.Ieee.Fits.{down_pos, up_pos}
use lib.Ieee.Scale.{finite}
use borrow.Author.Tests.{ltb-true, ltb-false, le-ltb, ne_eqb}
use Rattle.plane.specs.Plane.{◌⊕◌, ◌⊖◌, ◌⊗◌, ◌⊘◌, zero_f, is_number, magnitude}
use Rattle.plane.proofs.FloatOrder.{finite_number, not_lt_trans}
use Rattle.rounding.proofs.Signs.{round_sided, sided_number, top_not_below, nothing, Nil, round_nil, nils_level}
use Rattle.rounding.proofs.Sums.{add_fraction, add_turned}

-- ---- numbers

inf_number : (s : Bool) → is_number (inf s) ≡ true
unfolding eq
inf_number true = refl
inf_number false = refl

round_number : (s : Bool) (a c : ℕ) → is_number (round binary64 s a c) ≡ true
round_number s a c = sided_number s (round binary64 s a c) (round_sided s a c)

neg_number : (x : Float) → is_number x ≡ true → is_number (neg x) ≡ true
unfolding neg
neg_number nan h = h
neg_number (inf s) h = inf_number (not s)
neg_number (fin s m e) h = finite_number (fin (not s) m e) tt

pub add_number : (x y : Float) → is_number x ≡ true → T (finite y) → is_number (x ⊕ y) ≡ true
unfolding add
add_number nan y h k = h
add_number (inf s) nan h k = absurd k
add_number (inf s) (inf t) h k = absurd k
add_number (inf s) (fin t n d) h k = h
add_number (fin s m e) nan h k = absurd k
add_number (fin s m e) (inf t) h k = absurd k
add_number (fin s m e) (fin t n d) h k = let f = add_fraction s t m n e d in ap₂ eq f.same f.same ∙ round_number f.sign f.size (down e * down d)

pub sub_number : (x y : Float) → T (finite x) → is_number y ≡ true → is_number (x ⊖ y) ≡ true
unfolding sub
sub_number x y h k = ap₂ eq (add_turned x (neg y)) (add_turned x (neg y)) ∙ add_number (neg y) x (neg_number y k) h

-- finite, and no zero
abbrev pub Divisor : Float → Type 0
Divisor nan = ⊥
Divisor (inf s) = ⊥
Divisor (fin s n d) = n ≡ 0 → ⊥

pub div_number : (x y : Float) → is_number x ≡ true → Divisor y → is_number (x ⊘ y) ≡ true
unfolding div
div_number nan y h k = h
div_number (inf s) nan h k = absurd k
div_number (inf s) (inf t) h k = absurd k
div_number (inf s) (fin t n d) h k = inf_number (unlike s t)
div_number (fin s m e) nan h k = absurd k
div_number (fin s m e) (inf t) h k = absurd k
div_number (fin s m e) (fin t n d) h k = rw (ne_eqb n 0 k) (round_number (unlike s t) (m * up e * down d) (n * up d * down e))

-- ---- zeros

pub nil_number : (x : Float) → Nil x → is_number x ≡ true
nil_number nan h = absurd h
nil_number (inf s) h = absurd h
nil_number (fin s m e) h = finite_number (fin s m e) tt

neg_nil : (x : Float) → Nil x → Nil (neg x)
unfolding neg
neg_nil nan h = h
neg_nil (inf s) h = h
neg_nil (fin s m e) h = h

pub mul_nil : (x y : Float) → Nil x → Nil y → Nil (x ⊗ y)
unfolding mul
mul_nil nan y h k = absurd h
mul_nil (inf s) y h k = absurd h
mul_nil (fin s m e) nan h k = absurd k
mul_nil (fin s m e) (inf t) h k = absurd k
mul_nil (fin s m e) (fin t n d) h k =
    round_nil (unlike s t) (m * up e * (n * up d)) (down e * down d) (mul-pos (down_pos e) (down_pos d)) (ap (λ (a : ℕ). a * up e * (n * up d)) h ∙ rw (zero-mul, zero-mul) refl)

sum_nil : (s t : Bool) (a b c : ℕ) → 0 < c → a ≡ 0 → b ≡ 0 → Nil (sum binary64 s a t b c)
unfolding sum
sum_nil s t a b c C h k = go (beq s t) (ltb a b)
  where
    go : (x y : Bool) → Nil (cond x (round binary64 s (a + b) c) (cond y (round binary64 t (b - a) c) (round binary64 (s && ltb b a) (a - b) c)))
    go true y = round_nil s (a + b) c C (omega arith)
    go false true = round_nil t (b - a) c C (omega arith)
    go false false = round_nil (s && ltb b a) (a - b) c C (omega arith)

pub add_nil : (x y : Float) → Nil x → Nil y → Nil (x ⊕ y)
unfolding add
add_nil nan y h k = absurd h
add_nil (inf s) y h k = absurd h
add_nil (fin s m e) nan h k = absurd k
add_nil (fin s m e) (inf t) h k = absurd k
add_nil (fin s m e) (fin t n d) h k =
    sum_nil s t (m * up e * down d) (n * up d * down e) (down e * down d) (mul-pos (down_pos e) (down_pos d)) (gone m (up e) (down d) h) (gone n (up d) (down e) k)
  where
    gone : (m u d : ℕ) → m ≡ 0 → m * u * d ≡ 0
    gone m u d e = ap (λ (a : ℕ). a * u * d) e ∙ rw (zero-mul, zero-mul) refl

-- ---- sizes

pub nil_zero : Nil zero_f
unfolding of_bits
nil_zero = refl

neg_not_below : (x : Float) → lt x zero_f ≡ true → lt (neg x) zero_f ≡ false
unfolding lt neg of_bits
neg_not_below nan h = absurd (false≢true h)
neg_not_below (inf true) h = refl
neg_not_below (inf false) h = absurd (false≢true h)
neg_not_below (fin true m e) h = le-ltb (m * up e * 1) (0 * 1 * down e) (omega arith)
neg_not_below (fin false m e) h = absurd (omega (arith, ltb-true (m * up e * 1) (0 * 1 * down e) h))

-- a size is not below a zero
pub size_not_below : (x z : Float) → Nil z → lt (magnitude x) z ≡ false
unfolding magnitude
size_not_below x z h = not_lt_trans (magnitude x) zero_f z (nil_number zero_f nil_zero) (go (lt x zero_f) refl) (nils_level zero_f z nil_zero h)
  where
    go : (b : Bool) → lt x zero_f ≡ b → lt (cond b (neg x) x) zero_f ≡ false
    go true e = neg_not_below x e
    go false e = e

pub size_nil : (x : Float) → Nil x → Nil (magnitude x)
unfolding magnitude
size_nil x h = go (lt x zero_f)
  where
    go : (b : Bool) → Nil (cond b (neg x) x)
    go true = neg_nil x h
    go false = h

no_size : (m : ℕ) (e : ℤ) → m * up e ≤ 0 → m ≡ 0
no_size m e h = nothing m (up e) (up_pos e) h

-- what has a size that is not above zero is a zero
pub not_above_zero : (x : Float) → T (finite x) → lt zero_f (magnitude x) ≡ false → Nil x
unfolding lt neg of_bits magnitude
not_above_zero nan f h = f
not_above_zero (inf s) f h = f
not_above_zero (fin s m e) f h = go s (lt (fin s m e) zero_f) refl h
  where
    go : (s b : Bool) → lt (fin s m e) zero_f ≡ b → lt zero_f (cond b (neg (fin s m e)) (fin s m e)) ≡ false → m ≡ 0
    go true true i h = no_size m e (omega (arith, ltb-false (0 * 1 * down e) (m * up e * 1) h))
    go false true i h = absurd (omega (arith, ltb-true (m * up e * 1) (0 * 1 * down e) i))
    go false false i h = no_size m e (omega (arith, ltb-false (0 * 1 * down e) (m * up e * 1) h))
    go true false i h = no_size m e (omega (arith, ltb-false 0 (m * up e * 1 + 0 * 1 * down e) i))

-- ---- what is computed from an infinity or a NaN is not finite, and such a size is below nothing

pub size_finite : (x y : Float) → lt (magnitude x) y ≡ true → T (finite x)
unfolding lt neg of_bits magnitude
size_finite nan y h = absurd (false≢true h)
size_finite (inf true) y h = absurd (false≢true (sym (top_not_below y) ∙ h))
size_finite (inf false) y h = absurd (false≢true (sym (top_not_below y) ∙ h))
size_finite (fin s m e) y h = tt

pub both_subtracted : (x y : Float) → T (finite (x ⊖ y)) → T (finite x) × T (finite y)
unfolding sub
both_subtracted nan y h = absurd h
both_subtracted (inf s) nan h = absurd h
both_subtracted (inf true) (inf true) h = absurd h
both_subtracted (inf true) (inf false) h = absurd h
both_subtracted (inf false) (inf true) h = absurd h
both_subtracted (inf false) (inf false) h = absurd h
both_subtracted (inf s) (fin t n d) h = absurd h
both_subtracted (fin s m e) nan h = absurd h
both_subtracted (fin s m e) (inf t) h = absurd h
both_subtracted (fin s m e) (fin t n d) h = (tt, tt)

not_finite : (b s : Bool) → T (finite (cond b nan (inf s))) → ⊥
not_finite true s h = h
not_finite false s h = h

pub both_multiplied : (x y : Float) → T (finite (x ⊗ y)) → T (finite x) × T (finite y)
unfolding mul
both_multiplied nan y h = absurd h
both_multiplied (inf s) nan h = absurd h
both_multiplied (inf s) (inf t) h = absurd h
both_multiplied (inf s) (fin t n d) h = absurd (not_finite (eqb n 0) (unlike s t) h)
both_multiplied (fin s m e) nan h = absurd h
both_multiplied (fin s m e) (inf t) h = absurd (not_finite (eqb m 0) (unlike s t) h)
both_multiplied (fin s m e) (fin t n d) h = (tt, tt)
