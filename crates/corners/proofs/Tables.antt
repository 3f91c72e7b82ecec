-- What the tables of cases of this crate, of `insides` and of `polygons` share: floats by their bits, corners, and tests. Assumes nothing.
use mathlib.Core.Bool.{Bool, true, false}
use mathlib.Core.List.{List, [], ◌∷◌, map}
use Prim.Native.Nat.{ℕ}
use lib.Dec.{eqb}
use lib.Ieee.{Float, binary64, of_bits}
use Rattle.plane.specs.declared.Point.{Point}

-- ---- numbers and points

abbrev pub floats : List ℕ → List Float
floats bs = map (λ b. of_bits binary64 b) bs

abbrev pub pt : ℕ → ℕ → Point
pt x y = record { x = of_bits binary64 x; y = of_bits binary64 y }

-- 0, 1/2, 1, 3/2, 2, 3, 4, -1, -0, NaN, infinity
abbrev pub o : ℕ
o = 0

abbrev pub h : ℕ
h = 0x3fe0_0000_0000_0000

abbrev pub i : ℕ
i = 0x3ff0_0000_0000_0000

abbrev pub ih : ℕ
ih = 0x3ff8_0000_0000_0000

abbrev pub ii : ℕ
ii = 0x4000_0000_0000_0000

abbrev pub iii : ℕ
iii = 0x4008_0000_0000_0000

abbrev pub iv : ℕ
iv = 0x4010_0000_0000_0000

abbrev pub -i : ℕ
-i = 0xbff0_0000_0000_0000

abbrev pub -o : ℕ
-o = 0x8000_0000_0000_0000

abbrev pub n : ℕ
n = 0x7ff8_0000_0000_0000

abbrev pub ∞ : ℕ
∞ = 0x7ff0_0000_0000_0000

-- 2 ^ -1074
abbrev pub tiny : ℕ
tiny = 1

-- K9's corners; a square around (0,0); one with a corner cut in: (0,0), (4,0), (4,4), (2,1), (0,4)
abbrev pub k9 : List ℕ
k9 = o ∷ ii ∷ o ∷ o ∷ i ∷ o ∷ i ∷ ii ∷ []

abbrev pub square : List ℕ
square = -i ∷ -i ∷ i ∷ -i ∷ i ∷ i ∷ -i ∷ i ∷ []

abbrev pub dent : List ℕ
dent = o ∷ o ∷ iv ∷ o ∷ iv ∷ iv ∷ ii ∷ i ∷ o ∷ iv ∷ []

-- ---- tests

-- Bool tests that match on their arguments, so that no branch is computed that is not taken
unfoldable pub both : Bool → Bool → Bool
both true b = b
both false b = false

unfoldable pub same : List ℕ → List ℕ → Bool
unfolding both
same [] [] = true
same [] (y ∷ ys) = false
same (x ∷ xs) [] = false
same (x ∷ xs) (y ∷ ys) = both (eqb x y) (same xs ys)
