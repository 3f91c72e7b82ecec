-- Numbers with one exponent: aligning, their differences, and which numbers a window of exponents holds. Assumes nothing.
use mathlib.Core.Path.{◌≡◌, refl, sym, ap, ◌∙◌}
use mathlib.Core.Bool.{Bool, true, false, not, beq, true≢false, false≢true}
use lib.Ieee.{unlike}
use Prim.Native.Nat.{ℕ, ◌+◌, ◌-◌, ◌*◌, ◌%◌, ◌^◌, ◌≤◌, ◌<◌}
use native.Mathlib.Nat.{zero-mul, mul_assoc, add-mul, sub-add_cancel, lt_of_lt_of_le, le_of_eq, lt_of_le_of_lt}
use native.Mathlib.Omega.{arith}
use lib.IntN.{◌-ℤ◌}
use lib.Pow.{pow-add, pow_mono, shl_lt, shl_exact}
use Rattle.exact.specs.Exact.{signed}
use Rattle.exact.specs.Inner.{size, signed_size}
use Rattle.exact.specs.InnerNear.{Close, CloseBoth, Holds, HoldsBoth}
use Rattle.exact.specs.declared.parts.Parts.{Parts}
use Rattle.exact.specs.declared.orient.Window.{Window}
use Rattle.exact.specs.declared.vectors.Vector.{Vector}
use Rattle.exact.proofs.Integers.{minus_like_more, minus_like_less, minus_unlike}
use Rattle.exact.proofs.SignLaws.{size_none}

-- ---- aligning

pub align_none : (base : ℕ) (p : Parts) → p.m ≡ 0 → signed p.neg (0 * 2 ^ base) ≡ signed_size p
align_none base p e = ap (signed p.neg) (zero-mul (2 ^ base) ∙ sym (size_none p.m p.e e))

-- the shift loses nothing
pub shift_exact : (base : ℕ) (p : Parts) → Close base p → (p.m ≡ 0 → ⊥) → p.m * 2 ^ (p.e - base) % 2 ^ 64 ≡ p.m * 2 ^ (p.e - base)
shift_exact base p c h = let to = c.to h in shl_exact 53 (p.e - base) 64 p.digits (omega arith)

pub align_some : (base : ℕ) (p : Parts) → Close base p → (p.m ≡ 0 → ⊥) → signed p.neg (p.m * 2 ^ (p.e - base) % 2 ^ 64 * 2 ^ base) ≡ signed_size p
align_some base p c h =
    ap (signed p.neg) (ap (λ (n : ℕ). n * 2 ^ base) (shift_exact base p c h) ∙ mul_assoc p.m (2 ^ (p.e - base)) (2 ^ base)
    ∙ ap (λ (n : ℕ). p.m * n) (sym (pow-add 2 (p.e - base) base) ∙ ap (λ (n : ℕ). 2 ^ n) (sub-add_cancel (c.from h))))

pub align_digits : (base : ℕ) (p : Parts) → Close base p → (p.m ≡ 0 → ⊥) → p.m * 2 ^ (p.e - base) % 2 ^ 64 < 2 ^ 62
align_digits base p c h =
    let to = c.to h in
    lt_of_le_of_lt (le_of_eq (shift_exact base p c h)) (lt_of_lt_of_le (shl_lt 53 (p.e - base) p.digits) (pow_mono {i = 53 + (p.e - base)} {j = 62} (omega arith)))

pub near_shift : (base : ℕ) (p : Parts) → Close base p → (p.m ≡ 0 → ⊥) → p.e - base < 64
near_shift base p c h = omega (arith, c.to h)

-- ---- differences

like : (s t : Bool) → unlike s t ≡ false → beq s t ≡ true
like false false e = refl
like true true e = refl
like false true e = absurd (true≢false e)
like true false e = absurd (true≢false e)

apart : (s t : Bool) → unlike s t ≡ true → beq s t ≡ false
apart false true e = refl
apart true false e = refl
apart false false e = absurd (false≢true e)
apart true true e = absurd (false≢true e)

module _ (a b : Parts) (h : a.e ≡ b.e) where
  size_b : size b ≡ b.m * 2 ^ a.e
  size_b = ap (λ (n : ℕ). b.m * 2 ^ n) (sym h)

  -- a sum of significands, scaled
  sum : (k m n : ℕ) → m ≡ k + n → m * 2 ^ a.e ≡ k * 2 ^ a.e + n * 2 ^ a.e
  sum k m n e = ap (λ (x : ℕ). x * 2 ^ a.e) e ∙ add-mul k n (2 ^ a.e)

  pub less_more : unlike a.neg b.neg ≡ false → b.m ≤ a.m → signed a.neg ((a.m - b.m) * 2 ^ a.e) ≡ signed_size a -ℤ signed_size b
  less_more e l = minus_like_more a.neg b.neg ((a.m - b.m) * 2 ^ a.e) (size a) (size b) (like _ _ e) (omega (arith, size_b, sum (a.m - b.m) a.m b.m (omega arith)))

  pub less_less : unlike a.neg b.neg ≡ false → a.m < b.m → signed (not a.neg) ((b.m - a.m) * 2 ^ a.e) ≡ signed_size a -ℤ signed_size b
  less_less e l = minus_like_less a.neg b.neg ((b.m - a.m) * 2 ^ a.e) (size a) (size b) (like _ _ e) (omega (arith, size_b, sum (b.m - a.m) b.m a.m (omega arith)))

  pub less_unlike : unlike a.neg b.neg ≡ true → signed a.neg ((a.m + b.m) * 2 ^ a.e) ≡ signed_size a -ℤ signed_size b
  less_unlike e = minus_unlike a.neg b.neg ((a.m + b.m) * 2 ^ a.e) (size a) (size b) (apart _ _ e) (omega (arith, size_b, sum a.m (a.m + b.m) b.m refl))

-- ---- exponents

pub holds_more : {w w' : Window} {p : Parts} → Holds w p → w'.base ≤ w.base → w.top ≤ w'.top → Holds w' p
holds_more h a b = record { from = λ k. omega (arith, h.from k); to = λ k. omega (arith, h.to k) }

pub close_of : {w : Window} {p : Parts} → Holds w p → w.top ≤ w.base + 9 → Close w.base p
close_of h k = record { from = h.from; to = λ z. omega (arith, h.to z) }

pub close_both : {w : Window} {v : Vector} → HoldsBoth w v → w.top ≤ w.base + 9 → CloseBoth w.base v
close_both h k = (close_of h.0 k, close_of h.1 k)
