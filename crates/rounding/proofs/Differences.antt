-- A difference, rounded, rises with what it is taken from and falls with what is taken away; its sign says which of the two is larger. Assumes nothing.
use mathlib.Core.Path.{◌≡◌, refl, sym, ap, ap₂, ◌∙◌}
use mathlib.Core.Logic.{◌⊎◌, inl, inr}
use mathlib.Core.Bool.{Bool, true, false, false≢true, true≢false}
use Prim.Native.Nat.{ℕ, ◌+◌, ◌*◌, ◌≤◌, ◌<◌}
use native.Mathlib.Nat.{mul-pos, mul-le-mul_right}
use native.Mathlib.Omega.{arith}
use lib.Dec.{T}
use lib.IntN.{ℤ}
use lib.Ieee.{Float, nan, inf, fin, binary64, up, down, neg, add, sub, below, lt}
use lib.Ieee.Fits.{down_pos}
use lib.Ieee.Scale.{finite}
use Rattle.plane.specs.Plane.{◌⊖◌, is_number}
use Rattle.plane.proofs.FloatOrder.{finite_number, lt_irrefl, not_lt_trans}
use Rattle.rounding.proofs.Signs.{lt_neg, lt_nan, top_not_below, none_below_bottom, side, round_side}
use Rattle.rounding.proofs.Order.{above, under, InOrder, not_below, in_order, round_order}
use Rattle.rounding.proofs.Sums.{Fraction, add_fraction, add_turned}
use Rattle.rounding.proofs.Numbers.{sub_number}

-- ---- fractions in order, rounded

sizes_order : (s t : Bool) (a b u v c r w d : ℕ) → above s a + v ≡ u + under s a → above t b + w ≡ r + under t b
    → r * c + v * d ≤ u * d + w * c → InOrder s (a * d) t (b * c)
sizes_order false false a b u v c r w d e f h = omega (arith, ap (λ (n : ℕ). n * d) e, ap (λ (n : ℕ). n * c) f)
sizes_order false true a b u v c r w d e f h = omega (arith, ap (λ (n : ℕ). n * d) e, ap (λ (n : ℕ). n * c) f)
sizes_order true false a b u v c r w d e f h = omega (arith, ap (λ (n : ℕ). n * d) e, ap (λ (n : ℕ). n * c) f)
sizes_order true true a b u v c r w d e f h = omega (arith, ap (λ (n : ℕ). n * d) e, ap (λ (n : ℕ). n * c) f)

-- (r - w) / d is at most (u - v) / c
fractions_order : {x y : Float} {u v c r w d : ℕ} → 0 < c → 0 < d → Fraction x u v c → Fraction y r w d → r * c + v * d ≤ u * d + w * c → lt x y ≡ false
fractions_order {x} {y} {u} {v} {c} {r} {w} {d} C D f g h =
    ap₂ lt f.same g.same
    ∙ round_order f.sign g.sign f.size c g.size d C D
    (not_below f.sign g.sign (f.size * d) (g.size * c) (sizes_order f.sign g.sign f.size g.size u v c r w d f.value g.value h))

-- ---- a sum

-- ±g / h is added to ±a / p, and to ±b / q, which is not above it
added : (s t r : Bool) (a b g p q h : ℕ) → below s (a * q) t (b * p) ≡ false
    → (above t (b * h) + above r (g * q)) * (p * h) + (under s (a * h) + under r (g * p)) * (q * h)
    ≤ (above s (a * h) + above r (g * p)) * (q * h) + (under t (b * h) + under r (g * q)) * (p * h)
added s t r a b g p q h l = go s t r (in_order s t (a * q) (b * p) l)
  where
    go : (s t r : Bool) → InOrder s (a * q) t (b * p)
        → (above t (b * h) + above r (g * q)) * (p * h) + (under s (a * h) + under r (g * p)) * (q * h)
        ≤ (above s (a * h) + above r (g * p)) * (q * h) + (under t (b * h) + under r (g * q)) * (p * h)
    go false false false l = let m = mul-le-mul_right (h * h) l in omega arith
    go false false true l = let m = mul-le-mul_right (h * h) l in omega arith
    go false true false l = omega arith
    go false true true l = omega arith
    go true false false l = let m = mul-le-mul_right (h * h) l in omega arith
    go true false true l = let m = mul-le-mul_right (h * h) l in omega arith
    go true true false l = let m = mul-le-mul_right (h * h) l in omega arith
    go true true true l = let m = mul-le-mul_right (h * h) l in omega arith

top_added : (w y : Float) → lt (add binary64 (inf false) w) y ≡ false
unfolding add lt
top_added nan y = refl
top_added (inf true) y = refl
top_added (inf false) y = top_not_below y
top_added (fin r k i) y = top_not_below y

bottom_added : (x w : Float) → lt x (add binary64 (inf true) w) ≡ false
unfolding add
bottom_added x nan = lt_nan x
bottom_added x (inf false) = lt_nan x
bottom_added x (inf true) = none_below_bottom x
bottom_added x (fin r k i) = none_below_bottom x

-- x is not below y: nor is x + w below y + w
pub add_order : (x y w : Float) → lt x y ≡ false → lt (add binary64 x w) (add binary64 y w) ≡ false
unfolding add lt
add_order nan y w h = refl
add_order (inf false) y w h = top_added w (add binary64 y w)
add_order (inf true) nan w h = lt_nan (add binary64 (inf true) w)
add_order (inf true) (inf true) w h = lt_irrefl (add binary64 (inf true) w)
add_order (inf true) (inf false) w h = absurd (true≢false h)
add_order (inf true) (fin t n d) w h = absurd (true≢false h)
add_order (fin s m e) nan w h = lt_nan (add binary64 (fin s m e) w)
add_order (fin s m e) (inf true) w h = bottom_added (add binary64 (fin s m e) w) w
add_order (fin s m e) (inf false) w h = absurd (true≢false h)
add_order (fin s m e) (fin t n d) nan h = refl
add_order (fin s m e) (fin t n d) (inf r) h = lt_irrefl (inf r)
add_order (fin s m e) (fin t n d) (fin r k i) h =
    fractions_order (mul-pos (down_pos e) (down_pos i)) (mul-pos (down_pos d) (down_pos i)) (add_fraction s r m k e i) (add_fraction t r n k d i)
    (added s t r (m * up e) (n * up d) (k * up i) (down e) (down d) (down i) h)

-- ---- a difference

-- x is not below y: nor is x - w below y - w, nor w - y below w - x
pub difference_rises : (x y w : Float) → lt x y ≡ false → lt (x ⊖ w) (y ⊖ w) ≡ false
unfolding sub
difference_rises x y w h = add_order x y (neg w) h

pub difference_falls : (x y w : Float) → lt x y ≡ false → lt (w ⊖ y) (w ⊖ x) ≡ false
unfolding sub
difference_falls x y w h = ap₂ lt (add_turned w (neg y)) (add_turned w (neg x)) ∙ add_order (neg y) (neg x) w (lt_neg y x ∙ h)

sub_fraction : (s t : Bool) (m n : ℕ) (e d : ℤ) → let a = m * up e * down d in let b = n * up d * down e in
    Fraction (fin s m e ⊖ fin t n d) (above s a + under t b) (under s a + above t b) (down e * down d)
unfolding sub neg
sub_fraction s true m n e d = add_fraction s false m n e d
sub_fraction s false m n e d = add_fraction s true m n e d

fraction_side : {x : Float} {u v c : ℕ} (f : Fraction x u v c) → side x ≡ f.sign
fraction_side {x} {u} {v} {c} f = ap side f.same ∙ round_side f.sign f.size c

signs_order : (r : Bool) (k : ℕ) (s t : Bool) (a b : ℕ) → above r k + (under s a + above t b) ≡ above s a + under t b + under r k
    → (r ≡ false → below s a t b ≡ false) × (r ≡ true → below t b s a ≡ false)
signs_order false k s t a b e = (λ h. not_below s t a b (omega arith), λ h. absurd (false≢true h))
signs_order true k s t a b e = (λ h. absurd (true≢false h), λ h. not_below t s b a (omega arith))

over_top : (y : Float) → side (inf false ⊖ y) ≡ true → lt y (inf false) ≡ false
unfolding lt sub neg
over_top nan h = refl
over_top (inf false) h = refl
over_top (inf true) h = absurd (false≢true h)
over_top (fin t n d) h = absurd (false≢true h)

-- what is not negative is a difference of what is not below, and what is negative of what is not above
pub difference_side : (x y : Float) → (side (x ⊖ y) ≡ false → lt x y ≡ false) × (side (x ⊖ y) ≡ true → lt y x ≡ false)
unfolding lt sub neg
difference_side nan y = (λ h. refl, λ h. lt_nan y)
difference_side (inf s) nan = (λ h. refl, λ h. refl)
difference_side (inf false) y = (λ h. top_not_below y, λ h. over_top y h)
difference_side (inf true) (inf true) = (λ h. refl, λ h. refl)
difference_side (inf true) (inf false) = (λ h. absurd (true≢false h), λ h. refl)
difference_side (inf true) (fin t n d) = (λ h. absurd (true≢false h), λ h. refl)
difference_side (fin s m e) nan = (λ h. refl, λ h. refl)
difference_side (fin s m e) (inf true) = (λ h. refl, λ h. absurd (false≢true h))
difference_side (fin s m e) (inf false) = (λ h. absurd (true≢false h), λ h. refl)
difference_side (fin s m e) (fin t n d) =
    let a = m * up e * down d in
    let b = n * up d * down e in
    let f = sub_fraction s t m n e d in
    let g = fraction_side f in
    let w = signs_order f.sign f.size s t a b f.value in
    (λ h. w.0 (sym g ∙ h), λ h. w.1 (sym g ∙ h))

-- ---- how it stands to z, where the one that is taken away is q, or r, which is not below q

-- of a finite x it is a number; else it is x
past : (x q r : Float) → T (finite q) → T (finite r) → (is_number (x ⊖ q) ≡ true) ⊎ (x ⊖ q ≡ x ⊖ r)
unfolding sub
past nan q r Q R = inr refl
past (fin s m e) q r Q R = inl (sub_number (fin s m e) q tt (finite_number q Q))
past (inf s) nan r Q R = absurd Q
past (inf s) (inf t) r Q R = absurd Q
past (inf s) (fin t n d) nan Q R = absurd R
past (inf s) (fin t n d) (inf u) Q R = absurd R
past (inf s) (fin t n d) (fin u k i) Q R = inr refl

module _ (x z q r : Float) (Q : T (finite q)) (R : T (finite r)) (h : lt r q ≡ false) where
  -- above z with the larger one taken away: with the smaller one too
  pub stays_above : lt (x ⊖ r) z ≡ false → lt (x ⊖ q) z ≡ false
  stays_above l = elim (past x r q R Q) [
    | inl n ↦ not_lt_trans (x ⊖ q) (x ⊖ r) z n (difference_falls r q x h) l
    | inr e ↦ ap (λ (y : Float). lt y z) (sym e) ∙ l
  ]

  -- below z with the smaller one: with the larger one too
  pub stays_below : lt z (x ⊖ q) ≡ false → lt z (x ⊖ r) ≡ false
  stays_below l = elim (past x q r Q R) [
    | inl n ↦ not_lt_trans z (x ⊖ q) (x ⊖ r) n l (difference_falls r q x h)
    | inr e ↦ ap (lt z) (sym e) ∙ l
  ]
