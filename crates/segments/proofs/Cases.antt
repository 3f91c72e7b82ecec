-- K2 to K7 of document 01, and the borders that it or docs/DECISIONS.md names, as one table and one theorem. Assumes nothing.
use mathlib.Core.Bool.{Bool, true, false}
use mathlib.Core.List.{List, [], ◌∷◌, ◌++◌}
use Prim.Native.Nat.{ℕ}
use lib.Dec.{T, eqb}
use lib.Ieee.{binary64, add, sub, mul, div, neg, lt, le, eq, of_bits, to_bits}
use Rattle.lists.specs.Sort.{insert, sort_onto}
use Rattle.plane.specs.Plane.{magnitude, larger, scale, between, along, tolerance}
use Rattle.segments.specs.Colinear.{parameters, in_order, first_then_second, of_order, colinear}
use Rattle.segments.specs.Meet.{near, settled, crossing, meeting_or, meeting}
use Rattle.segments.specs.Code.{meeting_code}
use Rattle.plane.specs.declared.Point.{Point}
use Rattle.segments.specs.declared.Segment.{Segment}

-- All floats are given by their bits.
data Case : Type 0 where
  -- two segments, and the code of their meeting
  meet : Segment → Segment → List ℕ → Case

-- ---- numbers, points and segments

abbrev pt : ℕ → ℕ → Point
pt x y = record { x = of_bits binary64 x; y = of_bits binary64 y }

abbrev seg : ℕ → ℕ → ℕ → ℕ → Segment
seg ax ay bx by = record { a = pt ax ay; b = pt bx by }

-- 0, 1, 2, 3, -1, NaN, the two infinities
abbrev o : ℕ
o = 0

abbrev i : ℕ
i = 0x3ff0_0000_0000_0000

abbrev ii : ℕ
ii = 0x4000_0000_0000_0000

abbrev iii : ℕ
iii = 0x4008_0000_0000_0000

abbrev -i : ℕ
-i = 0xbff0_0000_0000_0000

abbrev n : ℕ
n = 0x7ff8_0000_0000_0000

abbrev ∞ : ℕ
∞ = 0x7ff0_0000_0000_0000

abbrev -∞ : ℕ
-∞ = 0xfff0_0000_0000_0000

-- 2 ^ -46, which is eps for segments of length 1, and the next float
abbrev eps : ℕ
eps = 0x3d10_0000_0000_0000

abbrev eps+ : ℕ
eps+ = 0x3d10_0000_0000_0001

abbrev 2^-22 : ℕ
2^-22 = 0x3e90_0000_0000_0000

abbrev 2^-23 : ℕ
2^-23 = 0x3e80_0000_0000_0000

-- ---- the table

-- K2 to K7, in order
samples : List Case
samples =
    meet (seg o o ii o) (seg i iii i -i) (2 ∷ i ∷ o ∷ [])
    ∷ meet (seg o o ii o) (seg i o iii o) (3 ∷ 3 ∷ 2 ∷ [])
    ∷ meet (seg o o i o) (seg i o ii o) (0 ∷ [])
    ∷ meet (seg i o ii o) (seg o o i o) (3 ∷ 1 ∷ 4 ∷ [])
    ∷ meet (seg i i i i) (seg ii o ii o) (0 ∷ [])
    ∷ meet (seg o o ii o) (seg i o i ii) (1 ∷ 3 ∷ [])
    ∷ []

-- |cross12|, a squared length and a squared distance at eps; |cross31| there and above it; equal parameters; a component, a length, a parameter that is no
-- number or not finite
meetings : List Case
meetings =
    meet (seg o o i o) (seg o o i eps) (1 ∷ 1 ∷ [])
    ∷ meet (seg o o i o) (seg o o 2^-23 o) (3 ∷ 3 ∷ 4 ∷ [])
    ∷ meet (seg o o 2^-23 o) (seg o o i o) (3 ∷ 3 ∷ 2 ∷ [])
    ∷ meet (seg o o i o) (seg 2^-22 -i 2^-22 i) (2 ∷ 2^-22 ∷ o ∷ [])
    ∷ meet (seg o o i o) (seg o eps i eps) (3 ∷ 3 ∷ 2 ∷ [])
    ∷ meet (seg o o i o) (seg o eps+ i eps+) (0 ∷ [])
    ∷ meet (seg o o i o) (seg o o i o) (3 ∷ 3 ∷ 2 ∷ [])
    ∷ meet (seg o o i o) (seg i o o o) (3 ∷ 4 ∷ 2 ∷ [])
    ∷ meet (seg n o ii o) (seg i o i ii) (0 ∷ [])
    ∷ meet (seg o o ∞ o) (seg i o i ii) (0 ∷ [])
    ∷ meet (seg o o ii o) (seg -∞ o ∞ o) (0 ∷ [])
    ∷ []

table : List Case
table = samples ++ meetings

-- ---- the theorem

-- Bool tests that match on their arguments, so that no branch is computed that is not taken
both : Bool → Bool → Bool
both true b = b
both false b = false

same : List ℕ → List ℕ → Bool
unfolding both
same [] [] = true
same [] (y ∷ ys) = false
same (x ∷ xs) [] = false
same (x ∷ xs) (y ∷ ys) = both (eqb x y) (same xs ys)

right : List Case → Bool
unfolding both same meeting_or colinear crossing settled near of_order first_then_second in_order parameters scale larger magnitude between along tolerance insert
    sort_onto meeting_code to_bits of_bits add sub mul div neg lt le eq
right [] = true
right (meet s t m ∷ rs) = both (same (meeting_code (meeting s t)) m) (right rs)

cases : T (right table)
unfolding table samples meetings right
cases = tt
