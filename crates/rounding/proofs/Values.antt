-- Floats by their value: two of one sign and one size are the same, and how tests and sums go by values. Assumes nothing.
use mathlib.Core.Path.{◌≡◌, refl, sym, ap, ap₂, ◌∙◌}
use mathlib.Core.Bool.{Bool, true, false, not, cond, ◌&&◌, true≢false}
use mathlib.Core.Logic.{inl, inr}
use Prim.Native.Nat.{ℕ, zero, suc, ◌+◌, ◌-◌, ◌*◌, ◌/◌, ◌^◌, ◌≤◌, ◌<◌}
use native.Mathlib.Nat.{le_trans, le_of_eq, lt_of_lt_of_le, lt_of_le_of_lt, zero-mul, mul-pos, mul-le-mul_right}
use native.Mathlib.Nat.{le_of_mul-le-mul_right, lt_of_mul-lt-mul_right, mul-lt-mul_of_pos_right, eq_of_mul-eq-mul_right}
use native.Mathlib.Omega.{arith}
use lib.Dec.{T, ltb, eqb, eqb-suc-zero}
use lib.IntN.{pos}
use lib.Ieee.{Float, nan, inf, fin, binary64, up, down, size, round, sum, add, sub, neg, lt, fits, of_bits, to_bits}
use lib.Ieee.Bits.{of_bits-to_bits}
use lib.Ieee.Exact.{HasValue}
use lib.Ieee.Fits.{down_pos}
use lib.Ieee.Scale.{finite, round_same}
use borrow.Author.Tests.{lt-ltb, le-ltb}
use Rattle.std.proofs.lemmas.Bool.{cases_lt}
use Rattle.exact.specs.Exact.{mag, minus}

-- ---- one sign and one size

-- the bit pattern of a finite f64, by its sign and its size
pattern : Bool → ℕ → ℕ
pattern s a = cond s (2 ^ 63) 0 + (size a - 53) * 2 ^ 52 + a / 2 ^ (size a - 53)

bits_are : (x : Float) → T (finite x) → to_bits binary64 x ≡ pattern (minus x) (mag x)
unfolding pattern to_bits mag
bits_are nan t = absurd t
bits_are (inf s) t = absurd t
bits_are (fin s m e) t = refl

-- so two of one sign and one size are the same
pub one_float : (x y : Float) → T (fits binary64 x) → T (fits binary64 y) → T (finite x) → T (finite y) → minus x ≡ minus y → mag x ≡ mag y → x ≡ y
one_float x y p q t u s a =
    sym (of_bits-to_bits binary64 x p) ∙ ap (of_bits binary64) (bits_are x t ∙ ap₂ pattern s a ∙ sym (bits_are y u)) ∙ of_bits-to_bits binary64 y q

-- ---- tests and sums of values with the denominator c

module _ (c : ℕ) (C : 0 < c) where
  -- m / d and n / d are a / c and b / c
  less_same : (m n a b d : ℕ) → 0 < d → m * c ≡ a * d → n * c ≡ b * d → ltb m n ≡ ltb a b
  less_same m n a b d D e f = elim (cases_lt a b) [
    | inl l ↦ lt-ltb m n (lt_of_mul-lt-mul_right c (lt_of_le_of_lt (le_of_eq e) (lt_of_lt_of_le (mul-lt-mul_of_pos_right l D) (le_of_eq (sym f))))) ∙ sym (lt-ltb a b l)
    | inr l ↦ le-ltb m n (le_of_mul-le-mul_right (le_trans (le_of_eq f) (le_trans (mul-le-mul_right d l) (le_of_eq (sym e)))) C) ∙ sym (le-ltb a b l)
  ]

  pub lt_at : (x y : Float) (a b : ℕ) → HasValue x false a c → HasValue y false b c → lt x y ≡ ltb a b
  unfolding lt
  lt_at nan y a b v w = absurd v
  lt_at (inf s) y a b v w = absurd v
  lt_at (fin s m e) nan a b v w = absurd w
  lt_at (fin s m e) (inf t) a b v w = absurd w
  lt_at (fin true m e) (fin t n d) a b v w = absurd (true≢false v.0)
  lt_at (fin false m e) (fin true n d) a b v w = absurd (true≢false w.0)
  lt_at (fin false m e) (fin false n d) a b v w =
      less_same (m * up e * down d) (n * up d * down e) a b (down e * down d) (mul-pos (down_pos e) (down_pos d))
      (omega (arith, ap (λ (i : ℕ). i * down d) v.1)) (omega (arith, ap (λ (i : ℕ). i * down e) w.1))

  -- the sum of x and y is that of m / d and n / d, which are a / c and b / c
  pub record Terms (x y : Float) (s t : Bool) (a b : ℕ) : Type 0 where
    pub m : ℕ
    pub n : ℕ
    pub d : ℕ
    pub above : 0 < d
    pub first : m * c ≡ a * d
    pub second : n * c ≡ b * d
    pub same : add binary64 x y ≡ sum binary64 s m t n d

  pub terms : (x y : Float) (s t : Bool) (a b : ℕ) → HasValue x s a c → HasValue y t b c → Terms x y s t a b
  unfolding add
  terms nan y s t a b v w = absurd v
  terms (inf r) y s t a b v w = absurd v
  terms (fin r m e) nan s t a b v w = absurd w
  terms (fin r m e) (inf u) s t a b v w = absurd w
  terms (fin r m e) (fin u n d) s t a b v w = record {
    m = m * up e * down d;
    n = n * up d * down e;
    d = down e * down d;
    above = mul-pos (down_pos e) (down_pos d);
    first = omega (arith, ap (λ (i : ℕ). i * down d) v.1);
    second = omega (arith, ap (λ (i : ℕ). i * down e) w.1);
    same = λ i. sum binary64 (v.0 i) (m * up e * down d) (w.0 i) (n * up d * down e) (down e * down d);
  }

  pub add_at : (x y : Float) (a b : ℕ) → HasValue x false a c → HasValue y false b c → add binary64 x y ≡ round binary64 false (a + b) c
  unfolding sum
  add_at x y a b v w =
      let r = terms x y false false a b v w in
      r.same ∙ round_same binary64 false (r.m + r.n) r.d (a + b) c r.above C (omega (arith, r.first, r.second))

  negated : (x : Float) (a : ℕ) → HasValue x false a c → HasValue (neg x) true a c
  unfolding neg
  negated nan a v = absurd v
  negated (inf s) a v = absurd v
  negated (fin s m e) a v = (ap not v.0, v.1)

  pub sub_at : (x y : Float) (a b : ℕ) → HasValue x false (b + a) c → HasValue y false b c → sub binary64 x y ≡ round binary64 false a c
  unfolding sub sum
  sub_at x y a b v w =
      let r = terms x (neg y) false true (b + a) b v (negated y b w) in
      let h : r.n ≤ r.m = le_of_mul-le-mul_right (le_trans (le_of_eq r.second) (le_trans (mul-le-mul_right r.d (more b a)) (le_of_eq (sym r.first)))) C in
      let p : r.m - r.n + r.n ≡ r.m = omega arith in
      r.same ∙ rw (le-ltb r.m r.n h) (round_same binary64 false (r.m - r.n) r.d a c r.above C (omega (arith, r.first, r.second, ap (λ (i : ℕ). i * c) p)))
    where
      more : (b a : ℕ) → b ≤ b + a
      more b a = omega arith

  -- with +0 added a zero is +0
  pub add_zero_at : (x : Float) (s : Bool) (a : ℕ) → HasValue x s a c → add binary64 x (fin false 0 (pos 0)) ≡ round binary64 (s && not (eqb a 0)) a c
  unfolding sum
  add_zero_at x s a v =
      let r = terms x (fin false 0 (pos 0)) s false a 0 v (refl, zero-mul c) in
      let z : r.n ≡ 0 = eq_of_mul-eq-mul_right c C r.n 0 (r.second ∙ zero-mul r.d ∙ sym (zero-mul c)) in
      r.same ∙ ap (λ (n : ℕ). sum binary64 s r.m false n r.d) z ∙ go s r.m r.d r.above r.first
    where
      some : (n : ℕ) → ltb 0 n ≡ not (eqb n 0)
      some zero = refl
      some (suc n) = lt-ltb 0 (suc n) (omega arith) ∙ sym (ap not (eqb-suc-zero n))

      go : (s : Bool) (m d : ℕ) → 0 < d → m * c ≡ a * d → sum binary64 s m false 0 d ≡ round binary64 (s && not (eqb a 0)) a c
      go false m d D e = round_same binary64 false (m + 0) d a c D C (omega (arith, e))
      go true m d D e =
          let o : m - 0 ≡ m = omega arith in
          rw (le-ltb m 0 (omega arith), less_same 0 m 0 a d D (zero-mul c ∙ sym (zero-mul d)) e, some a)
          (round_same binary64 (not (eqb a 0)) (m - 0) d a c D C (ap (λ (i : ℕ). i * c) o ∙ e))
