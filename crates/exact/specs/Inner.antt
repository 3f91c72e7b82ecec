-- Cited by the contracts of inner functions and of `take_apart`: significands, exponents, products and vectors. Assumes nothing.
use Rattle.std.specs.Prelude.{◌≡◌, Bool, ℕ, ◌*◌, ◌^◌, ◌<◌, ◌≤◌, ℤ, Float}
use Rattle.exact.specs.Exact.{minus, mag, signed}
use Rattle.exact.specs.Angle.{cross_product, det}
use Rattle.exact.specs.declared.parts.Parts.{Parts}
use Rattle.exact.specs.declared.products.Product.{Product}
use Rattle.exact.specs.declared.vectors.Vector.{Vector}
use Rattle.exact.specs.declared.angle.Part.{Part}
use Rattle.exact.specs.declared.angle.Part.TheVariants.{Above, East, Below}

-- the number ±m * 2 ^ e, and its size
abbrev pub size : Parts → ℕ
size p = p.m * 2 ^ p.e

abbrev pub signed_size : Parts → ℤ
signed_size p = signed p.neg (size p)

-- a sign, a significand and an exponent with the value of x. All 53 digits of the significand are used, or the exponent is 0: so there is one choice only
pub record Taken (x : Float) (s : Bool) (m e : ℕ) : Type 0 where
  pub sign : s ≡ minus x
  pub value : m * 2 ^ e ≡ mag x
  pub digits : m < 2 ^ 53
  pub range : e ≤ 2045
  pub full : (e ≡ 0 → ⊥) → 2 ^ 52 ≤ m

-- the size of a product
abbrev pub product_size : Product → ℕ
product_size p = p.w * 2 ^ p.e

-- r zeros stand above the leading bit of the 128 bits of n: n * 2 ^ r is the largest that fits; 128 for 0
pub record Lead (n r : ℕ) : Type 0 where
  pub most : r ≤ 128
  pub fits : n * 2 ^ r < 2 ^ 128
  pub top : r < 128 → 2 ^ 127 ≤ n * 2 ^ r
  pub none : r ≡ 128 → n ≡ 0

-- `cross_product` and `det` of vectors
abbrev pub cross_of : Vector → Vector → ℤ
cross_of v w = cross_product (signed_size v.x) (signed_size v.y) (signed_size w.x) (signed_size w.y)

abbrev pub det_of : Vector → Vector → Vector → ℤ
det_of a b c = det (signed_size a.x) (signed_size a.y) (signed_size b.x) (signed_size b.y) (signed_size c.x) (signed_size c.y)

-- a part's number, as `part_at` gives it
abbrev pub part_number : Part → ℕ
part_number Above = 0
part_number East = 1
part_number Below = 2
