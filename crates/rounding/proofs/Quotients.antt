-- Quotients by one number are in the order of what is divided, or in the other order where that number is negative. Assumes nothing.
use mathlib.Core.Path.{◌≡◌, refl, sym, ap, ap₂, ◌∙◌}
use mathlib.Core.Bool.{Bool, true, false, cond, true≢false}
use Prim.Native.Nat.{ℕ, ◌+◌, ◌*◌, ◌<◌, zero-le}
use native.Mathlib.Nat.{le_of_eq, mul_comm, mul-pos, mul_left_comm, mul_assoc}
use native.Mathlib.Omega.{arith}
use lib.Dec.{eqb}
use lib.IntN.{ℤ}
use lib.Ieee.{Float, nan, inf, fin, binary64, unlike, up, down, round, neg, div, below, lt}
use lib.Ieee.Fits.{up_pos, down_pos}
use borrow.Author.Tests.{ltb-false, eqb-false}
use Rattle.rounding.proofs.Signs.{lt_neg, neg_neg, round_neg, side, nothing, none_below, lt_nan, top_not_below, none_below_bottom}
use Rattle.rounding.proofs.Order.{round_order, scale_below}

-- ---- by a number that is not negative

-- the quotient by +0 of what is not zero goes by the signs
infinities : (s t : Bool) (m n a b : ℕ) → (m ≡ 0 → ⊥) → 0 < a → below s (m * a) t (n * b) ≡ false → lt (inf (unlike s false)) (inf (unlike t false)) ≡ false
unfolding lt
infinities false t m n a b h A k = refl
infinities true true m n a b h A k = refl
infinities true false m n a b h A k = absurd (h (nothing m a A (omega (arith, ltb-false 0 (m * a + n * b) k))))

reorder : (m d n i : ℕ) → m * i * (d * n) ≡ m * d * (n * i)
reorder m d n i = simp (mul_assoc, mul_comm, mul_left_comm)

same_side : (s : Bool) → unlike s false ≡ s
same_side true = refl
same_side false = refl

module _ (s : Bool) (m : ℕ) (e : ℤ) (t : Bool) (k : ℕ) (i : ℤ) (n : ℕ) (d : ℤ) (h : below s (m * up e * down i) t (k * up i * down e) ≡ false) where
  by_zero : lt (cond (eqb m 0) nan (inf (unlike s false))) (cond (eqb k 0) nan (inf (unlike t false))) ≡ false
  by_zero = go (eqb m 0) refl (eqb k 0)
    where
      go : (a : Bool) → eqb m 0 ≡ a → (b : Bool) → lt (cond a nan (inf (unlike s false))) (cond b nan (inf (unlike t false))) ≡ false
      go true f b = unfold lt in refl
      go false f true = lt_nan (inf (unlike s false))
      go false f false = infinities s t (m * up e) (k * up i) (down i) (down e) (λ z. eqb-false m 0 f (nothing m (up e) (up_pos e) (le_of_eq z))) (down_pos i) h

  by_more : 0 < n → lt (round binary64 (unlike s false) (m * up e * down d) (n * up d * down e)) (round binary64 (unlike t false) (k * up i * down d) (n * up d * down i)) ≡ false
  by_more N =
      let some : 0 < n * up d = mul-pos N (up_pos d) in
      let scaled : below s (m * up e * down d * (n * up d * down i)) t (k * up i * down d * (n * up d * down e)) ≡ false =
      sym (ap₂ (λ (a b : ℕ). below s a t b) (reorder (m * up e) (down d) (n * up d) (down i)) (reorder (k * up i) (down d) (n * up d) (down e)))
      ∙ scale_below s t (m * up e * down i) (k * up i * down e) (down d * (n * up d)) h in
      ap₂ (λ (u v : Bool). lt (round binary64 u (m * up e * down d) (n * up d * down e)) (round binary64 v (k * up i * down d) (n * up d * down i))) (same_side s) (same_side t)
      ∙ round_order s t (m * up e * down d) (n * up d * down e) (k * up i * down d) (n * up d * down i) (mul-pos some (down_pos e)) (mul-pos some (down_pos i)) scaled

  by_any : lt (div binary64 (fin s m e) (fin false n d)) (div binary64 (fin t k i) (fin false n d)) ≡ false
  unfolding div
  by_any = go (eqb n 0) refl
    where
      go : (z : Bool) → eqb n 0 ≡ z
          → lt (cond z (cond (eqb m 0) nan (inf (unlike s false))) (round binary64 (unlike s false) (m * up e * down d) (n * up d * down e)))
          (cond z (cond (eqb k 0) nan (inf (unlike t false))) (round binary64 (unlike t false) (k * up i * down d) (n * up d * down i))) ≡ false
      go true f = by_zero
      go false f = by_more (let u = eqb-false n 0 f in omega arith)

div_order : (x y : Float) (n : ℕ) (d : ℤ) → lt x y ≡ false → lt (div binary64 x (fin false n d)) (div binary64 y (fin false n d)) ≡ false
unfolding lt div
div_order nan y n d h = refl
div_order (inf s) nan n d h = refl
div_order (inf false) (inf t) n d h = refl
div_order (inf true) (inf true) n d h = refl
div_order (inf true) (inf false) n d h = absurd (true≢false h)
div_order (inf false) (fin t k i) n d h = top_not_below (div binary64 (fin t k i) (fin false n d))
div_order (inf true) (fin t k i) n d h = absurd (true≢false h)
div_order (fin s m e) nan n d h = lt_nan (div binary64 (fin s m e) (fin false n d))
div_order (fin s m e) (inf true) n d h = none_below_bottom (div binary64 (fin s m e) (fin false n d))
div_order (fin s m e) (inf false) n d h = absurd (true≢false h)
div_order (fin s m e) (fin t k i) n d h = by_any s m e t k i n d h

-- a negative divisor turns the quotient round
div_neg : (x : Float) (n : ℕ) (d : ℤ) → div binary64 x (fin true n d) ≡ neg (div binary64 x (fin false n d))
unfolding div neg
div_neg nan n d = refl
div_neg (inf true) n d = refl
div_neg (inf false) n d = refl
div_neg (fin s m e) n d = go (eqb n 0) (eqb m 0) s
  where
    go : (a b s : Bool) → cond a (cond b nan (inf (unlike s true))) (round binary64 (unlike s true) (m * up e * down d) (n * up d * down e))
        ≡ neg (cond a (cond b nan (inf (unlike s false))) (round binary64 (unlike s false) (m * up e * down d) (n * up d * down e)))
    go true true s = refl
    go true false true = refl
    go true false false = refl
    go false b false = round_neg (m * up e * down d) (n * up d * down e)
    go false b true = sym (ap neg (round_neg (m * up e * down d) (n * up d * down e)) ∙ neg_neg (round binary64 false (m * up e * down d) (n * up d * down e)))

no_quotient : (x y : Float) → lt (div binary64 x nan) y ≡ false
unfolding lt div
no_quotient nan y = refl
no_quotient (inf s) y = refl
no_quotient (fin s m e) y = refl

by_infinity : (x y : Float) (t : Bool) → lt (div binary64 x (inf t)) (div binary64 y (inf t)) ≡ false
unfolding lt div
by_infinity nan y t = refl
by_infinity (inf s) y t = refl
by_infinity (fin s m e) nan t = refl
by_infinity (fin s m e) (inf u) t = refl
by_infinity (fin s m e) (fin u k i) t = none_below (unlike s t) (unlike u t) 0 0 zero-le zero-le

-- x is not below y, or not above it where the divisor is negative: the quotient of x is not below that of y
pub quotient_order : (x y d : Float) → (side d ≡ false → lt x y ≡ false) → (side d ≡ true → lt y x ≡ false) → lt (div binary64 x d) (div binary64 y d) ≡ false
quotient_order x y nan h k = no_quotient x (div binary64 y nan)
quotient_order x y (inf t) h k = by_infinity x y t
quotient_order x y (fin false n d) h k = div_order x y n d (h refl)
quotient_order x y (fin true n d) h k = ap₂ lt (div_neg x n d) (div_neg y n d) ∙ lt_neg _ _ ∙ div_order y x n d (k refl)
