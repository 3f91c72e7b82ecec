-- A squared distance isn't below ε × ε where the difference in x is ε or more, either way, whatever that in y is. Assumes nothing.
use mathlib.Core.Path.{◌≡◌, refl, sym, ap, ◌∙◌}
use mathlib.Core.Bool.{true, false, true≢false}
use Prim.Native.Nat.{ℕ, ◌+◌, ◌*◌, ◌≤◌, ◌<◌}
use native.Mathlib.Nat.{le_trans, le_of_eq, mul-mul-mul_comm, mul-le-mul, mul-le-mul_right, mul-pos}
use native.Mathlib.Omega.{arith}
use lib.IntN.{ℤ, negsuc}
use lib.Ieee.{Float, nan, inf, fin, binary64, up, down, of_bits, round, sum, add, mul, neg, lt, eq}
use lib.Ieee.Fits.{up_pos, down_pos}
use borrow.Author.Tests.{ltb-false, le-ltb}
use Rattle.plane.specs.Plane.{◌⊕◌, ◌⊖◌, ◌⊗◌, between}
use Rattle.plane.specs.declared.Point.{Point}
use Rattle.rules.specs.Snap.{weld_eps, distance2}
use Rattle.rounding.proofs.Signs.{side, round_side, top_not_below}
use Rattle.rounding.proofs.Order.{round_order}

-- ---- a square

square_side : (x : Float) → side (x ⊗ x) ≡ false
unfolding mul
square_side nan = refl
square_side (inf true) = refl
square_side (inf false) = refl
square_side (fin true m e) = round_side false (m * up e * (m * up e)) (down e * down e)
square_side (fin false m e) = round_side false (m * up e * (m * up e)) (down e * down e)

-- K / G ≤ M / D, squared
squares : (K G M D : ℕ) → 0 < G → 0 < D → K * D ≤ M * G → lt (round binary64 false (M * M) (D * D)) (round binary64 false (K * K) (G * G)) ≡ false
squares K G M D hG hD h =
    round_order false false (M * M) (D * D) (K * K) (G * G) (mul-pos hD hD) (mul-pos hG hG)
    (le-ltb (M * M * (G * G)) (K * K * (D * D)) (le_trans (le_of_eq (mul-mul-mul_comm K K D D)) (le_trans (mul-le-mul h h) (le_of_eq (mul-mul-mul_comm M G M G)))))

module _ (k : ℕ) (g : ℤ) (some : 0 < k) where
  abbrev ε : Float
  ε = fin false k g

  square_right : (x : Float) → lt x ε ≡ false → lt (x ⊗ x) (ε ⊗ ε) ≡ false
  unfolding mul lt
  square_right nan h = refl
  square_right (inf true) h = absurd (true≢false h)
  square_right (inf false) h = top_not_below (ε ⊗ ε)
  square_right (fin true m e) h = absurd (let l : m * up e * down g + k * up g * down e ≤ 0 = ltb-false 0 (m * up e * down g + k * up g * down e) h in
      let p : 0 < k * up g * down e = mul-pos (mul-pos some (up_pos g)) (down_pos e) in omega arith)
  square_right (fin false m e) h = squares (k * up g) (down g) (m * up e) (down e) (down_pos g) (down_pos e) (ltb-false (m * up e * down g) (k * up g * down e) h)

  square_left : (x : Float) → lt (neg ε) x ≡ false → lt (x ⊗ x) (ε ⊗ ε) ≡ false
  unfolding mul lt neg
  square_left nan h = refl
  square_left (inf true) h = top_not_below (ε ⊗ ε)
  square_left (inf false) h = absurd (true≢false h)
  square_left (fin false m e) h = absurd (let l : k * up g * down e + m * up e * down g ≤ 0 = ltb-false 0 (k * up g * down e + m * up e * down g) h in
      let p : 0 < k * up g * down e = mul-pos (mul-pos some (up_pos g)) (down_pos e) in omega arith)
  square_left (fin true m e) h = squares (k * up g) (down g) (m * up e) (down e) (down_pos g) (down_pos e) (ltb-false (m * up e * down g) (k * up g * down e) h)

-- ---- a sum

module _ (k : ℕ) (g : ℤ) (exact : round binary64 false (k * up g) (down g) ≡ fin false k g) where
  -- a sum of two that aren't negative is no lower than the first, where that is compared with a number that needs no rounding
  sum_over : (x y : Float) → side x ≡ false → side y ≡ false → lt x (fin false k g) ≡ false → lt (x ⊕ y) (fin false k g) ≡ false
  unfolding add sum lt
  sum_over nan y p q h = refl
  sum_over (inf true) y p q h = absurd (true≢false p)
  sum_over (inf false) nan p q h = refl
  sum_over (inf false) (inf true) p q h = absurd (true≢false q)
  sum_over (inf false) (inf false) p q h = refl
  sum_over (inf false) (fin t n d) p q h = refl
  sum_over (fin true m e) y p q h = absurd (true≢false p)
  sum_over (fin false m e) nan p q h = refl
  sum_over (fin false m e) (inf true) p q h = absurd (true≢false q)
  sum_over (fin false m e) (inf false) p q h = refl
  sum_over (fin false m e) (fin true n d) p q h = absurd (true≢false q)
  sum_over (fin false m e) (fin false n d) p q h =
      let X = m * up e in
      let Y = n * up d in
      let l : k * up g * down e ≤ X * down g = ltb-false (X * down g) (k * up g * down e) h in
      let wide : k * up g * (down e * down d) ≤ (X * down d + Y * down e) * down g = let w = mul-le-mul_right (down d) l in omega arith in
      ap (lt (round binary64 false (X * down d + Y * down e) (down e * down d))) (sym exact)
      ∙ round_order false false (X * down d + Y * down e) (down e * down d) (k * up g) (down g) (mul-pos (down_pos e) (down_pos d)) (down_pos g)
      (le-ltb ((X * down d + Y * down e) * down g) (k * up g * (down e * down d)) wide)

-- ---- 1e-12 and its square

eps_is : weld_eps ≡ fin false 4951760157141521 (negsuc 91)
unfolding of_bits
eps_is = refl

square_is : weld_eps ⊗ weld_eps ≡ fin false 5444517870735015 (negsuc 131)
unfolding of_bits mul
square_is = refl

square_exact : round binary64 false (5444517870735015 * up (negsuc 131)) (down (negsuc 131)) ≡ fin false 5444517870735015 (negsuc 131)
unfolding round
square_exact = refl

pub square_number : eq (weld_eps ⊗ weld_eps) (weld_eps ⊗ weld_eps) ≡ true
unfolding of_bits mul eq
square_number = refl

distance_over : (p q : Point) → (let x = p.x ⊖ q.x in lt (x ⊗ x) (weld_eps ⊗ weld_eps) ≡ false) → lt (distance2 p q) (weld_eps ⊗ weld_eps) ≡ false
unfolding between
distance_over p q h =
    let x = p.x ⊖ q.x in
    let y = p.y ⊖ q.y in
    rw square_is (sum_over 5444517870735015 (negsuc 131) square_exact (x ⊗ x) (y ⊗ y) (square_side x) (square_side y) (rw square_is at h))

-- q is 1e-12 or more to the left of p
pub far_left : (p q : Point) → lt (p.x ⊖ q.x) weld_eps ≡ false → lt (distance2 p q) (weld_eps ⊗ weld_eps) ≡ false
far_left p q h =
    distance_over p q (rw eps_is (square_right 4951760157141521 (negsuc 91) (omega arith) (p.x ⊖ q.x) (rw eps_is at h)))

-- to the right
pub far_right : (p q : Point) → lt (neg weld_eps) (p.x ⊖ q.x) ≡ false → lt (distance2 p q) (weld_eps ⊗ weld_eps) ≡ false
far_right p q h =
    distance_over p q (rw eps_is (square_left 4951760157141521 (negsuc 91) (omega arith) (p.x ⊖ q.x) (rw eps_is at h)))
