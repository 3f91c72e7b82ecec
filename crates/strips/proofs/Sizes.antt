-- How many strips there are, and how large the index is. Assumes nothing.
use mathlib.Core.Path.{◌≡◌}
use mathlib.Core.Bool.{Bool, false}
use Prim.Native.Nat.{ℕ, ◌+◌, ◌*◌, ◌-◌, ◌/◌, ◌≤◌, ◌<◌, min, max}
use native.Mathlib.Nat.{le_trans, lt_of_lt_of_le, mul-le-mul, mul-le-mul_right, div-le_of_le-mul, le-mul_of_pos_right}
use native.Mathlib.Decide.{dec_le}
use native.Mathlib.Omega.{arith}
use lib.Dec.{ltb}
use borrow.Author.Tests.{lt-ltb, le-ltb, ltb-false}
use Rattle.lists.proofs.Search.{first_turn, first_none, first_from_lem, first_le}
use Rattle.strips.specs.Index.{strip_count, index_size}

-- ---- products and quotients that stay small

pub product_small : (a b m n : ℕ) → a ≤ m → b ≤ n → a * b ≤ m * n
product_small a b m n h l = mul-le-mul {n₁ = a} {m₁ = b} {n₂ = m} {m₂ = n} h l

-- a share of n
pub share_small : (i n k : ℕ) → i ≤ k → i * n / k ≤ n
share_small i n k h = div-le_of_le-mul k {m = i * n} {n = n} (mul-le-mul_right n h)

-- ---- how many

-- n is below the square of the next number
abbrev below : ℕ → ℕ → Bool
below n s = ltb n ((s + 1) * (s + 1))

-- the root of n, at least 1 and at most 256, is how many
pub root_is : (n r : ℕ) → r * r ≤ n → n < (r + 1) * (r + 1) → max 1 (min r 256) ≡ strip_count n
unfolding strip_count
root_is n r low high =
    let s : ℕ = max 1 (min r 256) in
    first_turn (below n) 1 s 256 (omega arith) (omega arith)
    (λ i h l. le-ltb n ((i + 1) * (i + 1)) (le_trans (product_small (i + 1) (i + 1) r r (omega (arith, h, l)) (omega (arith, h, l))) low))
    (λ l. lt-ltb n ((s + 1) * (s + 1)) (lt_of_lt_of_le high (product_small (r + 1) (r + 1) (s + 1) (s + 1) (omega (arith, l)) (omega (arith, l)))))

module _ (n : ℕ) where
  -- ---- how large

  pub side_range : (1 ≤ strip_count n) × (strip_count n ≤ 256)
  unfolding strip_count
  side_range = (first_from_lem (below n) 1 256, first_le (below n) 1 256 (omega arith))

  -- no more strips than things, but one
  pub side_low : strip_count n ≤ n + 1
  unfolding strip_count
  side_low = go (dec_le (strip_count n) 1)
    where
      go : Dec (strip_count n ≤ 1) → strip_count n ≤ n + 1
      go (yes h) = omega arith
      go (no h) =
          let s : ℕ = strip_count n - 1 in
          let e : s + 1 ≡ strip_count n = omega (arith, h) in
          let not : ltb n ((s + 1) * (s + 1)) ≡ false = first_none (below n) 1 256 s (omega (arith, h)) (omega (arith, side_range.1, h)) (omega (arith, h)) in
          omega (arith, e, ltb-false n ((s + 1) * (s + 1)) not, le-mul_of_pos_right {m = s + 1} (s + 1) (omega arith))

  -- twice as many
  pub sides_low : 2 * strip_count n ≤ n + 2
  unfolding strip_count
  sides_low = go (dec_le (strip_count n) 1)
    where
      go : Dec (strip_count n ≤ 1) → 2 * strip_count n ≤ n + 2
      go (yes h) = omega arith
      go (no h) =
          let s : ℕ = strip_count n - 1 in
          let e : s + 1 ≡ strip_count n = omega (arith, h) in
          let not : ltb n ((s + 1) * (s + 1)) ≡ false = first_none (below n) 1 256 s (omega (arith, h)) (omega (arith, side_range.1, h)) (omega (arith, h)) in
          omega (arith, e, ltb-false n ((s + 1) * (s + 1)) not, mul-le-mul {n₁ = 2} {m₁ = s + 1} {n₂ = s + 1} {m₂ = s + 1} (omega (arith, h)) (omega arith))

  -- what the working list has to hold
  pub size_low : index_size n ≤ 4 * n + 12
  size_low = omega (arith, sides_low)

  pub size_bound : index_size n ≤ 6 * n + 64
  size_bound = omega (arith, side_low)
