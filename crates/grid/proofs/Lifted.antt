-- The sum with 2 ^ (52 - k) is rounded to the grid, and what is left when that number is taken off again is exact. Assumes nothing.
use mathlib.Core.Path.{◌≡◌, refl, sym, ap, ◌∙◌, subst}
use mathlib.Core.Bool.{false}
use Prim.Native.Nat.{ℕ, suc, ◌+◌, ◌-◌, ◌*◌, ◌%◌, ◌^◌, ◌≤◌, ◌<◌}
use native.Mathlib.Nat.{le_trans, le_of_eq, le_of_lt, le_antisymm, lt_of_lt_of_le, lt_of_le_of_lt, lt_of_not-le, not-le_of_lt}
use native.Mathlib.Nat.{mul-one, one-mul, mul_assoc, mul-pos, mul-div_cancel, mod-eq_of_lt, add-mul, pow-succ'}
use native.Mathlib.Omega.{arith}
use lib.Dec.{T, leb, le→leb}
use lib.IntN.{pos}
use lib.Pow.{pow-add, pow_pos, pow_mono, shl_lt}
use lib.Ieee.{Float, binary64, size, round, add, sub, of_int, in_float}
use lib.Ieee.Digits.{size-lt, size-le}
use lib.Ieee.Nearest.{closest, closest_same}
use lib.Ieee.Order.{drop}
use lib.Ieee.Scale.{grid, round_val, round_same}
use Rattle.grid.specs.Grid.{grid_step}
use Rattle.rounding.proofs.Whole.{closest_more, closest_at_most}
use Rattle.rounding.proofs.Exact.{HasUnits}
use Rattle.rounding.proofs.Values.{add_at, sub_at}
use Rattle.grid.proofs.GridNumbers.{step_pos, few_exact}

-- ---- the number 2 ^ (52 - k), made of a word

word_fits : (k : ℕ) → 2 ^ (52 - k) ≤ 2 ^ 52
word_fits k = pow_mono {i = 52 - k} {j = 52} (omega arith)

-- one shifted by 52 - k places loses nothing
word : (k : ℕ) → 1 * 2 ^ (52 - k) % 2 ^ 64 ≡ 2 ^ (52 - k)
word k = ap (λ (n : ℕ). n % 2 ^ 64) (one-mul (2 ^ (52 - k))) ∙ mod-eq_of_lt (lt_of_le_of_lt (word_fits k) (omega arith))

pub word_exact : (k : ℕ) → T (in_float binary64 (pos (1 * 2 ^ (52 - k) % 2 ^ 64)))
unfolding in_float
word_exact k = subst (λ (n : ℕ). T (leb n (2 ^ 53))) (sym (word k)) (le→leb (2 ^ (52 - k)) (2 ^ 53) (le_trans (word_fits k) (omega arith)))

abbrev pub lift : ℕ → Float
lift k = of_int binary64 (pos (1 * 2 ^ (52 - k) % 2 ^ 64))

-- it is 2 ^ 52 steps
pub lift_units : (k : ℕ) → k ≤ 10 → HasUnits (lift k) false (2 ^ 52 * grid_step k)
unfolding of_int
lift_units k h =
    let n = 2 ^ 52 * grid_step k in
    let i : 52 - k + 1074 ≡ 52 + (1074 - k) = omega arith in
    let e : 2 ^ (52 - k) * 2 ^ 1074 ≡ n = sym (pow-add 2 (52 - k) 1074) ∙ ap (λ (n : ℕ). 2 ^ n) i ∙ pow-add 2 52 (1074 - k) in
    let same : lift k ≡ round binary64 false n (2 ^ 1074) =
    ap (λ (n : ℕ). round binary64 false n 1) (word k) ∙ round_same binary64 false (2 ^ (52 - k)) 1 n (2 ^ 1074) (pow_pos 0) (pow_pos 1074) (e ∙ sym (mul-one n)) in
    subst (λ (v : Float). HasUnits v false n) (sym same) (few_exact k (2 ^ 52) false (omega arith))

-- ---- between 2 ^ 52 and 2 ^ 53 steps a float is a whole number of steps

size_is : (n j : ℕ) → 2 ^ j ≤ n → n < 2 ^ suc j → size n ≡ suc j
size_is n j lo hi =
    let l : j < size n = lt_of_not-le (λ (g : size n ≤ j). not-le_of_lt (lt_of_lt_of_le (size-lt n) (pow_mono g)) lo) in
    le_antisymm (size-le n (suc j) hi) l

module _ (k a : ℕ) (h : k ≤ 10) (l : a < 2 ^ 52 * grid_step k) where
  abbrev n : ℕ
  n = 2 ^ 52 * grid_step k + a

  few : closest a (grid_step k) ≤ 2 ^ 52
  few = closest_at_most a (2 ^ 52) (grid_step k) (step_pos k) (le_of_lt l)

  digits_lost : drop 53 (n * 2 ^ 1074) (2 ^ 1074) ≡ 1074 - k
  digits_lost =
      let lo : 2 ^ (52 + (1074 - k)) ≤ n = le_trans (le_of_eq (pow-add 2 52 (1074 - k))) (omega arith) in
      let hi : n < 2 ^ suc (52 + (1074 - k)) =
      lt_of_lt_of_le (twice (2 ^ 52 * grid_step k) a l) (le_of_eq (ap (λ (i : ℕ). 2 * i) (sym (pow-add 2 52 (1074 - k))) ∙ sym (pow-succ' 2 (52 + (1074 - k))))) in
      ap (λ (i : ℕ). size i - 53) (mul-div_cancel n (pow_pos 1074)) ∙ cut (size n) (1074 - k) (size_is n (52 + (1074 - k)) lo hi)
    where
      twice : (w a : ℕ) → a < w → w + a < 2 * w
      twice w a l = omega arith

      cut : (z j : ℕ) → z ≡ suc (52 + j) → z - 53 ≡ j
      cut z j e = omega arith

  kept_steps : closest (n * 2 ^ 1074) (2 ^ 1074 * grid_step k) ≡ 2 ^ 52 + closest a (grid_step k)
  kept_steps =
      closest_same (n * 2 ^ 1074) (2 ^ 1074 * grid_step k) n (grid_step k) (mul-pos (pow_pos 1074) (step_pos k)) (step_pos k) (mul_assoc n (2 ^ 1074) (grid_step k))
      ∙ closest_more (2 ^ 52) a (grid_step k) (step_pos k) refl

  sum_units : HasUnits (round binary64 false n (2 ^ 1074)) false (2 ^ 52 * grid_step k + closest a (grid_step k) * grid_step k)
  sum_units =
      let q = closest a (grid_step k) in
      let is : grid binary64 n (2 ^ 1074) ≡ (2 ^ 52 + q) * grid_step k =
      ap (λ (d : ℕ). closest (n * 2 ^ 1074) (2 ^ 1074 * 2 ^ d) * 2 ^ d) digits_lost ∙ ap (λ (i : ℕ). i * grid_step k) kept_steps in
      let small : 2 ^ 52 + q < 2 ^ 54 = let z = few in omega arith in
      let fine : (2 ^ 52 + q) * grid_step k < 2 ^ 2098 = lt_of_lt_of_le (shl_lt 54 (1074 - k) small) (pow_mono {i = 54 + (1074 - k)} {j = 2098} (omega arith)) in
      subst (λ (i : ℕ). HasUnits (round binary64 false n (2 ^ 1074)) false i) (is ∙ add-mul (2 ^ 52) q (grid_step k))
      (round_val binary64 n (2 ^ 1074) (lt_of_le_of_lt (le_of_eq is) fine))

  -- ---- lifted and lowered again

  pub lowered : (p : Float) → HasUnits p false a → HasUnits (sub binary64 (add binary64 (lift k) p) (lift k)) false (closest a (grid_step k) * grid_step k)
  lowered p v =
      let q = closest a (grid_step k) in
      let c = 2 ^ 1074 in
      let w = lift_units k h in
      let sum = subst (λ (s : Float). HasUnits s false (2 ^ 52 * grid_step k + q * grid_step k)) (sym (add_at c (pow_pos 1074) (lift k) p (2 ^ 52 * grid_step k) a w v)) sum_units in
      subst (λ (s : Float). HasUnits s false (q * grid_step k))
      (sym (sub_at c (pow_pos 1074) (add binary64 (lift k) p) (lift k) (q * grid_step k) (2 ^ 52 * grid_step k) sum w))
      (few_exact k q false (lt_of_le_of_lt few (omega arith)))
