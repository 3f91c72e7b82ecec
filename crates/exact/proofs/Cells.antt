-- Rows of cells: what a store adds to the number, how much a cell grows, and the cells' number by its lowest cells. Assumes nothing.
use mathlib.Core.Path.{◌≡◌, refl, sym, ap, ap₂, ◌∙◌}
use mathlib.Core.List.{List, [], ◌∷◌}
use Prim.Native.Nat.{ℕ, zero, suc, ◌+◌, ◌*◌, ◌/◌, ◌%◌, ◌^◌, ◌≤◌, ◌<◌, max}
use native.Mathlib.Nat.{not-suc-le-zero, le_of_suc-le-suc, add_assoc, add_comm, add-mul, mul_assoc, mul_comm, mul_left_comm, mul-suc, div-add-mod'}
use native.Mathlib.Numerals.{add-one, add-two}
use native.Mathlib.Omega.{arith}
use lib.ListN.{length, get_or, set, length-set}
use lib.Pow.{pow-add, shl_exact}
use Rattle.exact.specs.InnerCells.{value, greatest, RowGrown}

-- the weight of a cell
pub place : (i : ℕ) → 2 ^ (32 * suc i) ≡ 2 ^ 32 * 2 ^ (32 * i)
place i = ap (λ (n : ℕ). 2 ^ n) (mul-suc 32 i ∙ add_comm (32 * i) 32) ∙ pow-add 2 32 (32 * i)

pub weigh : (d i : ℕ) → d * 2 ^ (32 * suc i) ≡ 2 ^ 32 * (d * 2 ^ (32 * i))
weigh d i = ap (λ (n : ℕ). d * n) (place i) ∙ mul_left_comm d (2 ^ 32) (2 ^ (32 * i))

-- ---- a store that adds d to the cell i

abbrev pub bump : List ℕ → ℕ → ℕ → List ℕ
bump xs i d = set xs i (get_or xs i 0 + d)

pub value_bump : (xs : List ℕ) (i d : ℕ) → i < length xs → value (bump xs i d) ≡ value xs + d * 2 ^ (32 * i)
unfolding value
value_bump [] i d h = absurd (not-suc-le-zero h)
value_bump (x ∷ xs) zero d h = omega arith
value_bump (x ∷ xs) (suc i) d h = omega (arith, value_bump xs i d (le_of_suc-le-suc h), weigh d i)

pub bump_le : (xs : List ℕ) (i d k : ℕ) → get_or (bump xs i d) k 0 ≤ get_or xs k 0 + d
bump_le [] i d k = omega arith
bump_le (x ∷ xs) zero d zero = omega arith
bump_le (x ∷ xs) zero d (suc k) = omega arith
bump_le (x ∷ xs) (suc i) d zero = omega arith
bump_le (x ∷ xs) (suc i) d (suc k) = bump_le xs i d k

-- ---- three of them, next to each other

abbrev pub bump3 : List ℕ → ℕ → ℕ → ℕ → ℕ → List ℕ
bump3 xs j d₀ d₁ d₂ = bump (bump (bump xs j d₀) (j + 1) d₁) (j + 2) d₂

gather : (M d₀ d₁ d₂ : ℕ) → d₀ * M + d₁ * (2 ^ 32 * M) + d₂ * (2 ^ 32 * (2 ^ 32 * M)) ≡ (d₀ + d₁ * 2 ^ 32 + d₂ * 2 ^ 64) * M
gather M d₀ d₁ d₂ =
    ap₂ (λ (x y : ℕ). d₀ * M + x + y) (sym (mul_assoc d₁ (2 ^ 32) M))
    (ap (λ (n : ℕ). d₂ * n) (sym (mul_assoc (2 ^ 32) (2 ^ 32) M)) ∙ sym (mul_assoc d₂ (2 ^ 64) M))
    ∙ ap (λ (n : ℕ). n + d₂ * 2 ^ 64 * M) (sym (add-mul d₀ (d₁ * 2 ^ 32) M)) ∙ sym (add-mul (d₀ + d₁ * 2 ^ 32) (d₂ * 2 ^ 64) M)

pub value_bump3 : (xs : List ℕ) (j d₀ d₁ d₂ : ℕ) → j + 2 < length xs
    → value (bump3 xs j d₀ d₁ d₂) ≡ value xs + (d₀ + d₁ * 2 ^ 32 + d₂ * 2 ^ 64) * 2 ^ (32 * j)
value_bump3 xs j d₀ d₁ d₂ h =
    let one = bump xs j d₀ in
    let two = bump one (j + 1) d₁ in
    let l₁ : length one ≡ length xs = length-set xs j _ in
    let l₂ : length two ≡ length one = length-set one (j + 1) _ in
    let a = value_bump xs j d₀ (omega arith) in
    let b = value_bump one (j + 1) d₁ (omega arith) in
    let c = value_bump two (j + 2) d₂ (omega arith) in
    let w₁ : d₁ * 2 ^ (32 * (j + 1)) ≡ d₁ * (2 ^ 32 * 2 ^ (32 * j)) = ap (λ (n : ℕ). d₁ * 2 ^ (32 * n)) (add-one j) ∙ ap (λ (n : ℕ). d₁ * n) (place j) in
    let w₂ : d₂ * 2 ^ (32 * (j + 2)) ≡ d₂ * (2 ^ 32 * (2 ^ 32 * 2 ^ (32 * j))) =
    ap (λ (n : ℕ). d₂ * 2 ^ (32 * n)) (add-two j) ∙ ap (λ (n : ℕ). d₂ * n) (place (suc j) ∙ ap (λ (n : ℕ). 2 ^ 32 * n) (place j)) in
    c ∙ ap₂ ◌+◌ (b ∙ ap₂ ◌+◌ a w₁) w₂ ∙ line (value xs) _ _ _ ∙ ap (λ (n : ℕ). value xs + n) (gather (2 ^ (32 * j)) d₀ d₁ d₂)
  where
    line : (v x y z : ℕ) → v + x + y + z ≡ v + (x + y + z)
    line v x y z = omega arith

-- ---- the greatest cell

pub get_le : (xs : List ℕ) (k : ℕ) → get_or xs k 0 ≤ greatest xs
unfolding greatest
get_le [] k = omega arith
get_le (x ∷ xs) zero = omega arith
get_le (x ∷ xs) (suc k) = omega (arith, get_le xs k)

greatest_set : (xs : List ℕ) (i v : ℕ) → greatest (set xs i v) ≤ max v (greatest xs)
unfolding greatest
greatest_set [] i v = omega arith
greatest_set (x ∷ xs) zero v = omega arith
greatest_set (x ∷ xs) (suc i) v = omega (arith, greatest_set xs i v)

greatest_bump : (xs : List ℕ) (i d : ℕ) → greatest (bump xs i d) ≤ greatest xs + d
greatest_bump xs i d = omega (arith, greatest_set xs i (get_or xs i 0 + d), get_le xs i)

pub greatest_bump3 : (xs : List ℕ) (j d₀ d₁ d₂ : ℕ) → greatest (bump3 xs j d₀ d₁ d₂) ≤ greatest xs + (d₀ + d₁ + d₂)
greatest_bump3 xs j d₀ d₁ d₂ =
    let one = bump xs j d₀ in
    omega (arith, greatest_bump xs j d₀, greatest_bump one (j + 1) d₁, greatest_bump (bump one (j + 1) d₁) (j + 2) d₂)

-- ---- a word of 64 bits, moved up by e, as what it adds to three cells

-- its halves, each moved up within a word
abbrev lo : ℕ → ℕ → ℕ
lo v e = v % 2 ^ 32 * 2 ^ (e % 32) % 2 ^ 64

abbrev hi : ℕ → ℕ → ℕ
hi v e = v / 2 ^ 32 * 2 ^ (e % 32) % 2 ^ 64

module _ (v e : ℕ) (hv : v < 2 ^ 64) where
  lo_is : lo v e ≡ v % 2 ^ 32 * 2 ^ (e % 32)
  lo_is = shl_exact 32 (e % 32) 64 (omega arith) (omega arith)

  hi_is : hi v e ≡ v / 2 ^ 32 * 2 ^ (e % 32)
  hi_is = shl_exact 32 (e % 32) 64 (omega arith) (omega arith)

  pub word : (lo v e % 2 ^ 32 + (lo v e / 2 ^ 32 + hi v e % 2 ^ 32) * 2 ^ 32 + hi v e / 2 ^ 32 * 2 ^ 64) * 2 ^ (32 * (e / 32)) ≡ v * 2 ^ e
  word =
      ap (λ (n : ℕ). n * 2 ^ (32 * (e / 32))) (join (lo v e) (hi v e) ∙ ap₂ (λ (x y : ℕ). x + y * 2 ^ 32) lo_is hi_is ∙ back (v % 2 ^ 32) (v / 2 ^ 32) (2 ^ (e % 32)))
      ∙ ap (λ (n : ℕ). n * 2 ^ (e % 32) * 2 ^ (32 * (e / 32))) (halves v)
      ∙ mul_assoc v (2 ^ (e % 32)) (2 ^ (32 * (e / 32))) ∙ ap (λ (n : ℕ). v * n) (sym (pow-add 2 (e % 32) (32 * (e / 32))) ∙ ap (λ (n : ℕ). 2 ^ n) (whole e))
    where
      join : (a b : ℕ) → a % 2 ^ 32 + (a / 2 ^ 32 + b % 2 ^ 32) * 2 ^ 32 + b / 2 ^ 32 * 2 ^ 64 ≡ a + b * 2 ^ 32
      join a b = omega arith

      back : (x y p : ℕ) → x * p + y * p * 2 ^ 32 ≡ (x + y * 2 ^ 32) * p
      back x y p = simp (add-mul, mul_assoc, mul_comm) refl

      halves : (v : ℕ) → v % 2 ^ 32 + v / 2 ^ 32 * 2 ^ 32 ≡ v
      halves v = omega arith

      whole : (e : ℕ) → e % 32 + 32 * (e / 32) ≡ e
      whole e = omega arith

pub added : (a b : ℕ) → a < 2 ^ 64 → b < 2 ^ 64 → a % 2 ^ 32 + (a / 2 ^ 32 + b % 2 ^ 32) + b / 2 ^ 32 ≤ 2 ^ 34
added a b h k = omega arith

pub grown : (xs : List ℕ) (v e : ℕ) → v < 2 ^ 64 → length xs ≡ 136 → e < 4288
    → RowGrown 1 (v * 2 ^ e) xs (bump3 xs (e / 32) (lo v e % 2 ^ 32) (lo v e / 2 ^ 32 + hi v e % 2 ^ 32) (hi v e / 2 ^ 32))
grown xs v e hv l he = record {
  long = simp length-set;
  total = value_bump3 xs (e / 32) _ _ _ (omega arith) ∙ ap (λ (n : ℕ). value xs + n) (word v e hv);
  low =
      let least = greatest_bump3 xs (e / 32) (lo v e % 2 ^ 32) (lo v e / 2 ^ 32 + hi v e % 2 ^ 32) (hi v e / 2 ^ 32) in
      let few = added (lo v e) (hi v e) (omega arith) (omega arith) in
      omega arith;
}

-- each of the three cells holds what is added to it
pub fits_one : (xs : List ℕ) (v e : ℕ) → greatest xs ≤ 64 * 2 ^ 34 → get_or (bump xs (e / 32) (lo v e % 2 ^ 32)) (e / 32 + 1) 0 + (lo v e / 2 ^ 32 + hi v e % 2 ^ 32) < 2 ^ 64
fits_one xs v e r =
    let one = bump xs (e / 32) (lo v e % 2 ^ 32) in
    omega (arith, get_le one (e / 32 + 1), greatest_bump xs (e / 32) (lo v e % 2 ^ 32))

pub fits_two : (xs : List ℕ) (v e : ℕ) → greatest xs ≤ 64 * 2 ^ 34
    → get_or (bump (bump xs (e / 32) (lo v e % 2 ^ 32)) (e / 32 + 1) (lo v e / 2 ^ 32 + hi v e % 2 ^ 32)) (e / 32 + 2) 0 + hi v e / 2 ^ 32 < 2 ^ 64
fits_two xs v e r =
    let one = bump xs (e / 32) (lo v e % 2 ^ 32) in
    let two = bump one (e / 32 + 1) (lo v e / 2 ^ 32 + hi v e % 2 ^ 32) in
    omega (arith, get_le two (e / 32 + 2), greatest_bump one (e / 32 + 1) (lo v e / 2 ^ 32 + hi v e % 2 ^ 32), greatest_bump xs (e / 32) (lo v e % 2 ^ 32))

-- ---- a product by its two words

pub grown_product : {xs ys zs : List ℕ} (w e : ℕ) → RowGrown 1 (w % 2 ^ 64 * 2 ^ e) xs ys → RowGrown 1 (w / 2 ^ 64 * 2 ^ (e + 64)) ys zs
    → RowGrown 2 (w * 2 ^ e) xs zs
grown_product {xs} {ys} {zs} w e a b = record {
  long = b.long ∙ a.long;
  total = b.total ∙ ap (λ (x : ℕ). x + w / 2 ^ 64 * 2 ^ (e + 64)) a.total ∙ add_assoc (value xs) (w % 2 ^ 64 * 2 ^ e) (w / 2 ^ 64 * 2 ^ (e + 64))
      ∙ ap (λ (x : ℕ). value xs + x) sum;
  low = omega (arith, a.low, b.low);
}
  where
    one : (l h p : ℕ) → l * p + h * (p * 2 ^ 64) ≡ (h * 2 ^ 64 + l) * p
    one l h p = simp (add-mul, mul_assoc, mul_comm, add_comm) refl

    sum : w % 2 ^ 64 * 2 ^ e + w / 2 ^ 64 * 2 ^ (e + 64) ≡ w * 2 ^ e
    sum =
        ap (λ (x : ℕ). w % 2 ^ 64 * 2 ^ e + w / 2 ^ 64 * x) (pow-add 2 e 64) ∙ one (w % 2 ^ 64) (w / 2 ^ 64) (2 ^ e)
        ∙ ap (λ (x : ℕ). x * 2 ^ e) (div-add-mod' w (2 ^ 64))
