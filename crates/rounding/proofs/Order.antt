-- Rounding is monotone, whatever the signs. Assumes nothing.
use mathlib.Core.Path.{◌≡◌, refl, ap₂, ◌∙◌}
use mathlib.Core.Bool.{Bool, true, false, cond}
use Prim.Native.Nat.{ℕ, ◌+◌, ◌*◌, ◌≤◌, ◌<◌}
use native.Mathlib.Nat.{mul-le-mul_right}
use native.Mathlib.Omega.{arith}
use lib.Ieee.{binary64, round, below, lt}
use lib.Ieee.Bits.{is_true}
use lib.Ieee.Order.{round_mono}
use borrow.Author.Tests.{ltb-false, le-ltb}
use Rattle.plane.proofs.FloatLe.{le_not_lt}
use Rattle.rounding.proofs.Signs.{lt_neg, round_neg, round_sided, sides_apart, nothing, round_nil, nils_level}

-- ±a / b is not below ±c / d: rounded it is not either
pub round_order : (s t : Bool) (a b c d : ℕ) → 0 < b → 0 < d → below s (a * d) t (c * b) ≡ false → lt (round binary64 s a b) (round binary64 t c d) ≡ false
round_order false false a b c d B D h = le_not_lt _ _ (is_true _ (round_mono binary64 c d a b D B (ltb-false (a * d) (c * b) h)))
round_order false true a b c d B D h = sides_apart _ _ (round_sided false a b) (round_sided true c d)
round_order true true a b c d B D h =
    ap₂ lt (round_neg a b) (round_neg c d) ∙ lt_neg _ _ ∙ le_not_lt _ _ (is_true _ (round_mono binary64 a b c d B D (ltb-false (c * b) (a * d) h)))
round_order true false a b c d B D h =
    let l : a * d + c * b ≤ 0 = ltb-false 0 (a * d + c * b) h in
    nils_level _ _ (round_nil true a b B (nothing a d D (omega arith))) (round_nil false c d D (nothing c b B (omega arith)))

-- ---- the order of signed sizes, as one of naturals

-- what of ±a stands above 0, and what below
abbrev pub above : Bool → ℕ → ℕ
above s a = cond s 0 a

abbrev pub under : Bool → ℕ → ℕ
under s a = cond s a 0

-- ±a is not below ±b
abbrev pub InOrder : Bool → ℕ → Bool → ℕ → Type 0
InOrder s a t b = above t b + under s a ≤ above s a + under t b

pub not_below : (s t : Bool) (a b : ℕ) → InOrder s a t b → below s a t b ≡ false
not_below false false a b h = le-ltb a b (omega arith)
not_below false true a b h = refl
not_below true false a b h = le-ltb 0 (a + b) (omega arith)
not_below true true a b h = le-ltb b a (omega arith)

pub in_order : (s t : Bool) (a b : ℕ) → below s a t b ≡ false → InOrder s a t b
in_order false false a b h = omega (arith, ltb-false a b h)
in_order false true a b h = omega arith
in_order true false a b h = omega (arith, ltb-false 0 (a + b) h)
in_order true true a b h = omega (arith, ltb-false b a h)

-- both taken k times
pub scale_below : (s t : Bool) (a b k : ℕ) → below s a t b ≡ false → below s (a * k) t (b * k) ≡ false
scale_below s t a b k h = not_below s t (a * k) (b * k) (go s t (in_order s t a b h))
  where
    go : (s t : Bool) → InOrder s a t b → InOrder s (a * k) t (b * k)
    go false false l = let m = mul-le-mul_right k l in omega arith
    go false true l = omega arith
    go true false l = let m = mul-le-mul_right k l in omega arith
    go true true l = let m = mul-le-mul_right k l in omega arith
