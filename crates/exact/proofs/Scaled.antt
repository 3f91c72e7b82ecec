-- Whole numbers counted in units of a power of two: the determinant of such numbers by that of their counts. Assumes nothing.
use Rattle.std.proofs.Common.{w64, to_z, of_z, FitsSigned}
use Rattle.std.proofs.lemmas.Int.{ints, to_z-of_z, fits_signed_from_abs, fits_signed_mul}
use Rattle.std.proofs.lemmas.Cmp.{int_ranked}
use Rattle.std.specs.Ordering.{int_cmp, MatchOrdering}
use Rattle.std.specs.Prelude.{unsigned_abs, ◌<ℤ◌}
use mir.Syntax.{w128}
use mathlib.Core.Path.{◌≡◌, refl, sym, ap, ap₂, ◌∙◌, subst}
use mathlib.Core.Bool.{Bool, true, false}
use Prim.Native.Nat.{ℕ, zero, suc, ◌+◌, ◌-◌, ◌*◌, ◌%◌, ◌^◌, ◌≤◌, ◌<◌}
use native.Mathlib.Nat.{add-mul, mul-mul-mul_comm, mul-pos, zero-mul, lt_of_le_of_lt}
use native.Mathlib.Omega.{arith}
use lib.Dec.{lit<}
use lib.Pow.{pow_pos}
use lib.IntN.{ℤ, pos, negsuc, ◌-ℤ◌, ◌*ℤ◌}
use Rattle.exact.specs.Exact.{sign, signed}
use Rattle.exact.specs.Angle.{det}
use Rattle.exact.specs.Inner.{signed_size}
use Rattle.exact.specs.InnerNear.{Close, Over}
use Rattle.exact.specs.declared.parts.Parts.{Parts}
use Rattle.std.specs.declared.cmp.Ordering.{Ordering}
use Rattle.std.specs.declared.cmp.Ordering.TheVariants.{Less, Equal, Greater}
use Rattle.exact.proofs.Integers.{diff, as_pos, diff_same, diff_neg, diff_add, diff_mul, every, every₂, sign_diff, times_signed, abs_signed}
use Rattle.exact.proofs.Orders.{ordered_scale}
use Rattle.exact.proofs.SignLaws.{size_none}
use Rattle.exact.proofs.Nearby.{align_some, align_digits}

-- ---- multiples of k

scale_diff : (a b k : ℕ) → diff a b *ℤ pos k ≡ diff (a * k) (b * k)
scale_diff a b k =
    ap (λ (z : ℤ). diff a b *ℤ z) (sym (as_pos k 0 k (omega arith))) ∙ diff_mul a b k 0 ∙ diff_same _ _ _ _ (omega arith)

mul_minus : (k : ℕ) (x y : ℤ) → x *ℤ pos k -ℤ y *ℤ pos k ≡ (x -ℤ y) *ℤ pos k
mul_minus k =
    every₂ (λ (x y : ℤ). x *ℤ pos k -ℤ y *ℤ pos k ≡ (x -ℤ y) *ℤ pos k)
    (λ a a' b b'. simp (scale_diff, diff_neg, diff_add) (diff_same _ _ _ _ (omega (arith, add-mul a b' k, add-mul a' b k))))

mul_mul : (k : ℕ) (x y : ℤ) → x *ℤ pos k *ℤ (y *ℤ pos k) ≡ x *ℤ y *ℤ pos (k * k)
mul_mul k =
    every₂ (λ (x y : ℤ). x *ℤ pos k *ℤ (y *ℤ pos k) ≡ x *ℤ y *ℤ pos (k * k))
    (λ a a' b b'. simp (scale_diff, diff_mul) (ap₂ diff (two a b a' b') (two a b' a' b)))
  where
    two : (a b c d : ℕ) → a * k * (b * k) + c * k * (d * k) ≡ (a * b + c * d) * (k * k)
    two a b c d = ap₂ (λ (x y : ℕ). x + y) (sym (mul-mul-mul_comm a b k k)) (sym (mul-mul-mul_comm c d k k)) ∙ sym (add-mul (a * b) (c * d) (k * k))

sign_scale : {k : ℕ} → 0 < k → (z : ℤ) → sign (z *ℤ pos k) ≡ sign z
sign_scale {k} h =
    every (λ (z : ℤ). sign (z *ℤ pos k) ≡ sign z)
    (λ a b. ap sign (scale_diff a b k) ∙ sign_diff (a * k) (b * k) ∙ ordered_scale a b h ∙ sym (sign_diff a b))

-- ---- the determinant

det_scaled : (k : ℕ) (ax ay bx by cx cy : ℤ)
    → det (ax *ℤ pos k) (ay *ℤ pos k) (bx *ℤ pos k) (by *ℤ pos k) (cx *ℤ pos k) (cy *ℤ pos k) ≡ det ax ay bx by cx cy *ℤ pos (k * k)
det_scaled k ax ay bx by cx cy =
    ap₂ (λ (x y : ℤ). x -ℤ y) (term ax cx by cy) (term ay cy bx cx) ∙ mul_minus (k * k) ((ax -ℤ cx) *ℤ (by -ℤ cy)) ((ay -ℤ cy) *ℤ (bx -ℤ cx))
  where
    term : (a b c d : ℤ) → (a *ℤ pos k -ℤ b *ℤ pos k) *ℤ (c *ℤ pos k -ℤ d *ℤ pos k) ≡ (a -ℤ b) *ℤ (c -ℤ d) *ℤ pos (k * k)
    term a b c d = ap₂ (λ (x y : ℤ). x *ℤ y) (mul_minus k a b) (mul_minus k c d) ∙ mul_mul k (a -ℤ b) (c -ℤ d)

-- as `cmp` gives it
sign_cmp : (x y : ℤ) → int_cmp x y ≡ sign (x -ℤ y)
unfolding sign
sign_cmp x y = go (int_cmp x y) (int_ranked x y (int_cmp x y) refl)
  where
    less : (z : ℤ) → z <ℤ pos 0 → Less ≡ sign z
    less (pos n) h = absurd (grind (arith, ints))
    less (negsuc n) h = refl

    greater : (z : ℤ) → pos 0 <ℤ z → Greater ≡ sign z
    greater (pos zero) h = absurd (grind (arith, ints))
    greater (pos (suc n)) h = refl
    greater (negsuc n) h = absurd (grind (arith, ints))

    equal : (z : ℤ) → z ≡ pos 0 → Equal ≡ sign z
    equal z e = sym (ap sign e)

    go : (r : Ordering) → MatchOrdering r (x <ℤ y) (x ≡ y) (y <ℤ x) → r ≡ sign (x -ℤ y)
    go Less h = less (x -ℤ y) (omega (arith, ints))
    go Equal h = equal (x -ℤ y) (omega (arith, ints))
    go Greater h = greater (x -ℤ y) (omega (arith, ints))

pub near : {base : ℕ} {ax ay bx by cx cy : Parts} {u v w x y z p q : ℤ} → Over base ax u → Over base ay v → Over base bx w → Over base by x → Over base cx y
    → Over base cy z
    → p ≡ (u -ℤ y) *ℤ (x -ℤ z)
    → q ≡ (v -ℤ z) *ℤ (w -ℤ y)
    → int_cmp p q ≡ sign (det (signed_size ax) (signed_size ay) (signed_size bx) (signed_size by) (signed_size cx) (signed_size cy))
near {base} {u = u} {v} {w} {x} {y} {z} {p} {q} a b c d e f m n =
    let k = 2 ^ base in
    let h = pow_pos base in
    sign_cmp p q ∙ ap₂ (λ (s t : ℤ). sign (s -ℤ t)) m n ∙ sym (sign_scale (mul-pos h h) (det u v w x y z)) ∙ ap sign (sym (det_scaled k u v w x y z))
    ∙ (λ i. sign (det (a.same i) (b.same i) (c.same i) (d.same i) (e.same i) (f.same i)))

-- ---- one number

pub over_none : (base : ℕ) (p : Parts) → p.m ≡ 0 → Over base p (pos 0)
over_none base p e = record { same = ap pos (zero-mul (2 ^ base)) ∙ none p.neg ∙ sym (ap (signed p.neg) (size_none p.m p.e e)); small = lit< tt }
  where
    none : (s : Bool) → pos 0 ≡ signed s 0
    none false = refl
    none true = refl

-- the code's words
pos_fits : (n : ℕ) → n < 2 ^ 62 → FitsSigned w64 (pos n)
pos_fits n h = omega (arith, ints)

neg_fits : (n : ℕ) → n < 2 ^ 62 → FitsSigned w64 (pos 0 -ℤ to_z w64 n)
neg_fits n h = omega (arith, ints)

as_it_is : {s : Bool} (n : ℕ) → n < 2 ^ 62 → s ≡ false → to_z w64 n ≡ signed s n
as_it_is n h e = omega (arith, ints) ∙ ap (λ (t : Bool). signed t n) (sym e)

negated : {s : Bool} (n : ℕ) → n < 2 ^ 62 → s ≡ true → to_z w64 (of_z w64 (pos 0 -ℤ to_z w64 n)) ≡ signed s n
negated n h e = omega (arith, ints) ∙ ap (λ (t : Bool). signed t n) (sym e)

module _ {base : ℕ} {p : Parts} (c : Close base p) (h : p.m ≡ 0 → ⊥) where
  abbrev shifted : ℕ
  shifted = p.m * 2 ^ (p.e - base) % 2 ^ 64

  small : shifted < 2 ^ 62
  small = align_digits base p c h

  over_some : (z : ℤ) → z ≡ signed p.neg shifted → Over base p z
  over_some z e = record {
    same = ap (λ (x : ℤ). x *ℤ pos (2 ^ base)) e ∙ times_signed p.neg shifted (2 ^ base) ∙ align_some base p c h;
    small = subst (λ (x : ℕ). x < 2 ^ 62) (sym (ap unsigned_abs e ∙ abs_signed p.neg shifted)) small;
  }

  pub word_fits : FitsSigned w64 (pos shifted)
  word_fits = pos_fits shifted small

  pub negated_fits : FitsSigned w64 (pos 0 -ℤ to_z w64 shifted)
  negated_fits = neg_fits shifted small

  pub over_positive : p.neg ≡ false → Over base p (to_z w64 shifted)
  over_positive e = over_some _ (as_it_is shifted small e)

  pub over_negative : p.neg ≡ true → Over base p (to_z w64 (of_z w64 (pos 0 -ℤ to_z w64 shifted)))
  over_negative e = over_some _ (negated shifted small e)

-- ---- differences and their products

pub apart_fits : {base : ℕ} {p q : Parts} {x y : ℤ} → Over base p x → Over base q y → FitsSigned w64 (to_z w64 (of_z w64 x) -ℤ to_z w64 (of_z w64 y))
apart_fits {x = x} {y} h k = fits x y h.small k.small
  where
    fits : (x y : ℤ) → unsigned_abs x < 2 ^ 62 → unsigned_abs y < 2 ^ 62 → FitsSigned w64 (to_z w64 (of_z w64 x) -ℤ to_z w64 (of_z w64 y))
    fits x y h k = omega (arith, ints)

apart : {r : ℤ} (x y : ℤ) → unsigned_abs x < 2 ^ 62 → unsigned_abs y < 2 ^ 62
    → r ≡ to_z w64 (of_z w64 (to_z w64 (of_z w64 x) -ℤ to_z w64 (of_z w64 y))) → r ≡ x -ℤ y
apart x y h k e = omega (arith, ints)

apart_small : (x y : ℤ) → unsigned_abs x < 2 ^ 62 → unsigned_abs y < 2 ^ 62 → unsigned_abs (x -ℤ y) ≤ 2 ^ 63
apart_small x y h k = omega (arith, ints)

-- the product of two differences m and n
module _ {base : ℕ} {o p q r : Parts} {u v x y m n : ℤ} (hu : Over base o u) (hv : Over base p v) (hx : Over base q x) (hy : Over base r y)
    (em : m ≡ to_z w64 (of_z w64 (to_z w64 (of_z w64 u) -ℤ to_z w64 (of_z w64 v))))
    (en : n ≡ to_z w64 (of_z w64 (to_z w64 (of_z w64 x) -ℤ to_z w64 (of_z w64 y)))) where
  near_u : unsigned_abs (u -ℤ v) ≤ 2 ^ 63
  near_u = apart_small u v hu.small hv.small

  near_x : unsigned_abs (x -ℤ y) ≤ 2 ^ 63
  near_x = apart_small x y hx.small hy.small

  itself : (z : ℤ) → unsigned_abs z ≤ 2 ^ 63 → to_z w128 (of_z w128 z) ≡ z
  itself z l = to_z-of_z w128 z (fits_signed_from_abs w128 z (lt_of_le_of_lt l (lit< tt)))

  as_words : to_z w128 (of_z w128 m) *ℤ to_z w128 (of_z w128 n) ≡ (u -ℤ v) *ℤ (x -ℤ y)
  as_words =
      ap₂ (λ (a b : ℤ). to_z w128 (of_z w128 a) *ℤ to_z w128 (of_z w128 b)) (apart u v hu.small hv.small em) (apart x y hx.small hy.small en)
      ∙ ap₂ (λ (a b : ℤ). a *ℤ b) (itself (u -ℤ v) near_u) (itself (x -ℤ y) near_x)

  pub term_fits : FitsSigned w128 (to_z w128 (of_z w128 m) *ℤ to_z w128 (of_z w128 n))
  term_fits = subst (λ (z : ℤ). FitsSigned w128 z) (sym as_words) (fits_signed_mul w128 (u -ℤ v) (x -ℤ y) (2 ^ 63) (2 ^ 63) near_u near_x (lit< tt))

  pub term_is : to_z w128 (of_z w128 (to_z w128 (of_z w128 m) *ℤ to_z w128 (of_z w128 n))) ≡ (u -ℤ v) *ℤ (x -ℤ y)
  term_is = to_z-of_z w128 _ term_fits ∙ as_words
