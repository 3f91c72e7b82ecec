-- The place of the leading bit, and numbers scaled by powers of two. Assumes nothing.
use mathlib.Core.Path.{◌≡◌, refl, sym, ap, ap₂, ◌∙◌, subst}
use mathlib.Core.Logic.{◌⊎◌, inl, inr}
use Prim.Native.Nat.{ℕ, suc, ◌+◌, ◌*◌, ◌%◌, ◌^◌, ◌≤◌, ◌<◌}
use native.Mathlib.Nat.{le_trans, le_of_eq, lt_of_lt_of_le, lt_of_le_of_lt, add_comm, mul_assoc, mul_left_comm, mul-le-mul_right}
use native.Mathlib.Nat.{mul-lt-mul_of_pos_right, lt_of_mul-lt-mul_right, mod-eq_of_lt, zero-mul, mul-pos, eq-zero-or-pos, not-le_of_lt, mul-mul-mul_comm}
use native.Mathlib.Omega.{arith}
use lib.Dec.{lit<}
use lib.Count.{count_leading_zeros, leading_top, leading_of_zero}
use lib.Pow.{pow-add, pow_pos, pow_mono, shl_lt}
use Rattle.exact.specs.Exact.{ordered}
use Rattle.exact.specs.Inner.{Lead}
use Rattle.std.specs.declared.cmp.Ordering.TheVariants.{Less, Equal, Greater}
use Rattle.std.specs.Ordering.{nat_cmp}
use Rattle.exact.proofs.Orders.{tri, ordered_cmp, ordered_less, ordered_greater, ordered_equal, ordered_scale}

-- ---- where the leading bit is at the place j of 128

pub at_top : (n j r : ℕ) → 2 ^ j ≤ n → n < 2 ^ suc j → r + suc j ≡ 128 → Lead n r
at_top n j r low high e = record {
  most = omega arith;
  fits = subst (λ (x : ℕ). n * 2 ^ r < 2 ^ x) (add_comm (suc j) r ∙ e) (shl_lt (suc j) r high);
  top = λ h. le_trans (le_of_eq (ap (λ (x : ℕ). 2 ^ x) place ∙ pow-add 2 j r)) (mul-le-mul_right (2 ^ r) low);
  none = λ h. absurd (omega arith);
}
  where
    place : 127 ≡ j + r
    place = omega arith

zeros : Lead 0 128
zeros = record { most = omega arith; fits = lit< tt; top = λ h. absurd (omega arith); none = λ h. refl }

-- the zeros above the leading bit of 128 bits
pub lead_of : (w : ℕ) → w < 2 ^ 128 → Lead w (count_leading_zeros 128 w)
lead_of w h = go (eq-zero-or-pos w)
  where
    go : (w ≡ 0) ⊎ (0 < w) → Lead w (count_leading_zeros 128 w)
    go (inl e) = subst (λ (n : ℕ). Lead n (count_leading_zeros 128 n)) (sym e) (subst (λ (n : ℕ). Lead 0 n) (sym (leading_of_zero 128)) zeros)
    go (inr p) = let t = leading_top 128 w p h in at_top w t.0 (count_leading_zeros 128 w) t.2 t.3 t.1

-- ---- u * 2 ^ e against v * 2 ^ f, with i and j zeros above their leading bits

moved : (u e i j : ℕ) → u * 2 ^ e * 2 ^ (i + j) ≡ u * 2 ^ i * 2 ^ (e + j)
moved u e i j = simp (pow-add 2, mul_assoc, mul_left_comm) refl

moved' : (u e i j : ℕ) → u * 2 ^ e * 2 ^ (i + j) ≡ u * 2 ^ j * 2 ^ (e + i)
moved' u e i j = ap (λ (n : ℕ). u * 2 ^ e * 2 ^ n) (add_comm i j) ∙ moved u e j i

pub place_less : (u e i v f j : ℕ) → u * 2 ^ i < 2 ^ 128 → 2 ^ 127 ≤ v * 2 ^ j → e + j < f + i → u * 2 ^ e < v * 2 ^ f
place_less u e i v f j hu hv h =
    lt_of_mul-lt-mul_right (2 ^ (i + j))
    (lt_of_le_of_lt (le_of_eq (moved u e i j))
    (lt_of_lt_of_le (mul-lt-mul_of_pos_right hu (pow_pos (e + j)))
    (le_trans (le_of_eq (sym (pow-add 2 128 (e + j))))
    (le_trans (pow_mono {i = 128 + (e + j)} {j = 127 + (f + i)} (omega arith))
    (le_trans (le_of_eq (pow-add 2 127 (f + i))) (le_trans (mul-le-mul_right (2 ^ (f + i)) hv) (le_of_eq (sym (moved' v f i j)))))))))

pub place_same : (u e i v f j : ℕ) → e + j ≡ f + i → ordered (u * 2 ^ e) (v * 2 ^ f) ≡ ordered (u * 2 ^ i) (v * 2 ^ j)
place_same u e i v f j h =
    sym (ordered_scale (u * 2 ^ e) (v * 2 ^ f) (pow_pos (i + j)))
    ∙ ap₂ (λ (x y : ℕ). ordered x y) (moved u e i j ∙ ap (λ (n : ℕ). u * 2 ^ i * 2 ^ n) h) (moved' v f i j)
    ∙ ordered_scale (u * 2 ^ i) (v * 2 ^ j) (pow_pos (f + i))

-- ---- a number with no leading bit, or with one

pub lead_under : {n r : ℕ} → Lead n r → (r ≡ 128 → ⊥) → r < 128
lead_under l h = omega (arith, l.most)

pub lead_pos : (n : ℕ) {r : ℕ} → Lead n r → (r ≡ 128 → ⊥) → 0 < n
lead_pos n {r} l h = go (eq-zero-or-pos n)
  where
    go : (n ≡ 0) ⊎ (0 < n) → 0 < n
    go (inl e) = absurd (not-le_of_lt (pow_pos 127) (le_trans (l.top (lead_under l h)) (le_of_eq (ap (λ (x : ℕ). x * 2 ^ r) e ∙ zero-mul (2 ^ r)))))
    go (inr p) = p

pub none_none : (u e v f : ℕ) → u ≡ 0 → v ≡ 0 → ordered (u * 2 ^ e) (v * 2 ^ f) ≡ Equal
none_none u e v f p q =
    ordered_equal (ap (λ (x : ℕ). x * 2 ^ e) p ∙ zero-mul (2 ^ e) ∙ sym (zero-mul (2 ^ f)) ∙ ap (λ (x : ℕ). x * 2 ^ f) (sym q))

none_less : (u e v f : ℕ) → u ≡ 0 → 0 < v → u * 2 ^ e < v * 2 ^ f
none_less u e v f p q = lt_of_le_of_lt (le_of_eq (ap (λ (x : ℕ). x * 2 ^ e) p ∙ zero-mul (2 ^ e))) (mul-pos q (pow_pos f))

pub none_some : (u e v f : ℕ) → u ≡ 0 → 0 < v → ordered (u * 2 ^ e) (v * 2 ^ f) ≡ Less
none_some u e v f p q = ordered_less (none_less u e v f p q)

pub some_none : (u e v f : ℕ) → 0 < u → v ≡ 0 → ordered (u * 2 ^ e) (v * 2 ^ f) ≡ Greater
some_none u e v f p q = ordered_greater (none_less v f u e q p)

-- ---- the order that the places give

module _ {u v i j : ℕ} (p : Lead u i) (q : Lead v j) (e f : ℕ) where
  -- where one of the two is 0
  pub without_lead : (i ≡ 128) ⊎ ((i ≡ 128 → ⊥) × (j ≡ 128)) → nat_cmp j i ≡ ordered (u * 2 ^ e) (v * 2 ^ f)
  without_lead (inr (n, h)) = ordered_cmp j i ∙ ordered_greater (omega (arith, p.most)) ∙ sym (some_none u e v f (lead_pos u p n) (q.none h))
  without_lead (inl h) = ordered_cmp j i ∙ go (tri j i)
    where
      go : (j < i) ⊎ ((j ≡ i) ⊎ (i < j)) → ordered j i ≡ ordered (u * 2 ^ e) (v * 2 ^ f)
      go (inl l) = ordered_less l ∙ sym (none_some u e v f (p.none h) (lead_pos v q (λ z. omega arith)))
      go (inr (inl l)) = ordered_equal l ∙ sym (none_none u e v f (p.none h) (q.none (l ∙ h)))
      go (inr (inr l)) = absurd (omega (arith, q.most))

  module _ (m : i ≡ 128 → ⊥) (n : j ≡ 128 → ⊥) where
    pub by_place : (e + j ≡ f + i → ⊥) → nat_cmp (e + j) (f + i) ≡ ordered (u * 2 ^ e) (v * 2 ^ f)
    by_place h = ordered_cmp (e + j) (f + i) ∙ go (tri (e + j) (f + i))
      where
        go : (e + j < f + i) ⊎ ((e + j ≡ f + i) ⊎ (f + i < e + j)) → ordered (e + j) (f + i) ≡ ordered (u * 2 ^ e) (v * 2 ^ f)
        go (inl l) = ordered_less l ∙ sym (ordered_less (place_less u e i v f j p.fits (q.top (lead_under q n)) l))
        go (inr (inl l)) = absurd (h l)
        go (inr (inr l)) = ordered_greater l ∙ sym (ordered_greater (place_less v f j u e i q.fits (p.top (lead_under p m)) l))

    pub by_digits : e + j ≡ f + i → nat_cmp (u * 2 ^ i % 2 ^ 128) (v * 2 ^ j % 2 ^ 128) ≡ ordered (u * 2 ^ e) (v * 2 ^ f)
    by_digits h =
        ap₂ (λ (x y : ℕ). nat_cmp x y) (mod-eq_of_lt p.fits) (mod-eq_of_lt q.fits) ∙ ordered_cmp (u * 2 ^ i) (v * 2 ^ j)
        ∙ sym (place_same u e i v f j h)

-- ---- a product of two scaled numbers

pub scaled_of : (w m n e f : ℕ) → w ≡ m * n → w * 2 ^ (e + f) ≡ m * 2 ^ e * (n * 2 ^ f)
scaled_of w m n e f h = ap₂ (λ (x y : ℕ). x * y) h (pow-add 2 e f) ∙ mul-mul-mul_comm m n (2 ^ e) (2 ^ f)
