-- The laws of rounding by computation: border cases of each. Assumes nothing.
use mathlib.Core.Path.{◌≡◌, refl}
use mathlib.Core.Bool.{Bool, true, false, not, beq, ◌&&◌}
use mathlib.Core.List.{List, [], ◌∷◌}
use Prim.Native.Nat.{ℕ, ◌+◌, ◌-◌, ◌*◌, ◌/◌, ◌^◌}
use lib.Dec.{T, eqb}
use lib.IntN.{nat_abs, ◌+ℤ◌, ◌-ℤ◌}
use lib.Ieee.{Float, inf, binary64, round, add, sub, div, size, lt, of_bits, to_bits}
use Rattle.exact.specs.Exact.{mag, coord}
use Rattle.plane.specs.Plane.{◌⊕◌, ◌⊖◌, ◌⊘◌}
use Rattle.rounding.proofs.Whole.{gap}
use Rattle.rounding.proofs.Nearest.{last_place, rounded}
use Rattle.rounding.proofs.Signs.{side}

-- ---- n / c or its negative, and the bits of what it is rounded to

data Case : Type 0 where
  row : (s : Bool) (n c r : ℕ) → Case

table : List Case
table =
    -- 1/10, -1/3
    row false 1 10 0x3fb9_9999_9999_999a
    ∷ row true 1 3 0xbfd5_5555_5555_5555
    -- halfway from 2^53 to 2^53 + 2 and on to 2^53 + 4: the even one; and a little more than halfway
    ∷ row false (2 ^ 53 + 1) 1 0x4340_0000_0000_0000
    ∷ row false (2 ^ 53 + 3) 1 0x4340_0000_0000_0002
    ∷ row false (2 ^ 54 + 3) 2 0x4340_0000_0000_0001
    -- halfway from 2^53 - 1 to 2^53: a digit more
    ∷ row false (2 ^ 54 - 1) 2 0x4340_0000_0000_0000
    -- the least number, its half and its quarters; one and a half of it
    ∷ row false 1 (2 ^ 1074) 1
    ∷ row false 1 (2 ^ 1075) 0
    ∷ row false 1 (2 ^ 1076) 0
    ∷ row false 3 (2 ^ 1076) 1
    ∷ row false 3 (2 ^ 1075) 2
    -- the largest number of fewer digits, and halfway on to the least of 53
    ∷ row false (2 ^ 52 - 1) (2 ^ 1074) 0x000f_ffff_ffff_ffff
    ∷ row false (2 ^ 53 - 1) (2 ^ 1075) 0x0010_0000_0000_0000
    -- zeros keep their sign
    ∷ row false 0 7 0
    ∷ row true 0 7 0x8000_0000_0000_0000
    ∷ row true 1 (2 ^ 1075) 0x8000_0000_0000_0000
    -- the largest number, all but half a unit more, and half a unit more: an infinity
    ∷ row false ((2 ^ 53 - 1) * 2 ^ 971) 1 0x7fef_ffff_ffff_ffff
    ∷ row false ((2 ^ 54 - 1) * 2 ^ 970 - 1) 1 0x7fef_ffff_ffff_ffff
    ∷ row false ((2 ^ 54 - 1) * 2 ^ 970) 1 0x7ff0_0000_0000_0000
    ∷ row true (2 ^ 1024) 1 0xfff0_0000_0000_0000
    ∷ []

right : List Case → Bool
unfolding round to_bits
right [] = true
right (row s n c r ∷ cs) = eqb (to_bits binary64 (round binary64 s n c)) r && right cs

samples : T (right table)
unfolding table right
samples = tt

-- ---- half a unit in the last place

last_places : ◌≡◌ {A = List ℕ} (last_place 0 ∷ last_place (2 ^ 53 - 1) ∷ last_place (2 ^ 53) ∷ last_place (2 ^ 55 - 1) ∷ []) (1 ∷ 1 ∷ 2 ∷ 4 ∷ [])
unfolding size
last_places = refl

-- a fraction n / c of units, twice its error and the unit in its last place, both c times
data Error : Type 0 where
  off : (n c twice unit : ℕ) → Error

-- 1/2, 2^53 + 1 and 2^54 + 2 are off by half a unit; 1/3 and 2^54 + 1 by less; 2^53 - 1 and 2^54 + 4 not at all
errors : List Error
errors =
    off 1 2 2 2
    ∷ off (2 ^ 53 + 1) 1 2 2
    ∷ off (2 ^ 54 + 2) 1 4 4
    ∷ off 1 3 2 3
    ∷ off (2 ^ 54 + 1) 1 2 4
    ∷ off (2 ^ 53 - 1) 1 0 1
    ∷ off (2 ^ 54 + 4) 1 0 4
    ∷ []

errors_right : List Error → Bool
errors_right [] = true
errors_right (off n c twice unit ∷ es) = eqb (2 * gap (rounded n c * c) n) twice && eqb (last_place (n / c) * c) unit && errors_right es

error_samples : T (errors_right errors)
unfolding errors errors_right size
error_samples = tt

-- ---- monotone

-- n / c, or its negative, and whether that, rounded, lies above the one before it
data Step : Type 0 where
  step : (s : Bool) (n c : ℕ) (up : Bool) → Step

-- the fractions rise throughout
rising : List Step
rising =
    step true (2 ^ 1024) 1 false
    ∷ step true (2 ^ 53 + 1) 1 true
    ∷ step true (2 ^ 53) 1 false
    ∷ step true 1 3 true
    ∷ step true 1 (2 ^ 1074) true
    ∷ step true 1 (2 ^ 1075) true
    ∷ step true 0 1 false
    ∷ step false 0 1 false
    ∷ step false 1 (2 ^ 1075) false
    ∷ step false 3 (2 ^ 1076) true
    ∷ step false 1 3 true
    ∷ step false (2 ^ 53) 1 true
    ∷ step false (2 ^ 53 + 1) 1 false
    ∷ step false (2 ^ 54 + 3) 2 true
    ∷ step false (2 ^ 1024) 1 true
    ∷ step false (2 ^ 1025) 1 false
    ∷ []

climbs : Float → List Step → Bool
unfolding round lt
climbs before [] = true
climbs before (step s n c up ∷ steps) = let x = round binary64 s n c in not (lt x before) && beq (lt before x) up && climbs x steps

rising_samples : T (climbs (inf true) rising)
unfolding rising climbs
rising_samples = tt

-- ---- operations on floats, by their bits

float : ℕ → Float
float b = of_bits binary64 b

-- whether x + y is the exact sum, and x - y the exact difference
exact_sum : (x y : ℕ) → Bool
unfolding add coord mag of_bits float
exact_sum x y = eqb (nat_abs (coord (float x ⊕ float y) -ℤ (coord (float x) +ℤ coord (float y)))) 0

exact_difference : (x y : ℕ) → Bool
unfolding sub coord mag of_bits float
exact_difference x y = eqb (nat_abs (coord (float x ⊖ float y) -ℤ (coord (float x) -ℤ coord (float y)))) 0

-- 1/2 + 1/4, twice the least number, 2^53 + 2; 2^53 + 1 does not fit, nor does twice the largest number
sums : ◌≡◌ {A = List Bool}
    (exact_sum 0x3fe0_0000_0000_0000 0x3fd0_0000_0000_0000 ∷ exact_sum 1 1 ∷ exact_sum 0x4340_0000_0000_0000 0x4000_0000_0000_0000
    ∷ exact_sum 0x4340_0000_0000_0000 0x3ff0_0000_0000_0000 ∷ exact_sum 0x7fef_ffff_ffff_ffff 0x7fef_ffff_ffff_ffff ∷ [])
    (true ∷ true ∷ true ∷ false ∷ false ∷ [])
unfolding exact_sum
sums = refl

-- two neighbours of 1; 1 less 2^-54, which does not fit
differences : ◌≡◌ {A = List Bool}
    (exact_difference 0x3ff0_0000_0000_0001 0x3ff0_0000_0000_0000 ∷ exact_difference 0x3ff0_0000_0000_0000 0x3c90_0000_0000_0000 ∷ [])
    (true ∷ false ∷ [])
unfolding exact_difference
differences = refl

-- the signs of differences: 1 - 2, 2 - 1, 1 - 1, -0 - 0, and an infinity less itself
minus : (x y : ℕ) → Bool
unfolding sub of_bits float
minus x y = side (float x ⊖ float y)

signs : ◌≡◌ {A = List Bool}
    (minus 0x3ff0_0000_0000_0000 0x4000_0000_0000_0000 ∷ minus 0x4000_0000_0000_0000 0x3ff0_0000_0000_0000 ∷ minus 0x3ff0_0000_0000_0000 0x3ff0_0000_0000_0000
    ∷ minus 0x8000_0000_0000_0000 0 ∷ minus 0x7ff0_0000_0000_0000 0x7ff0_0000_0000_0000 ∷ [])
    (true ∷ false ∷ false ∷ true ∷ false ∷ [])
unfolding minus
signs = refl

-- 2^53 + 2 is below 2^53 + 4: with 1 added they are rounded to one number
below_with : (w x y : ℕ) → Bool × Bool × Bool
unfolding sub lt of_bits float
below_with w x y = (lt (float x) (float y), lt (float x ⊖ float w) (float y ⊖ float w), lt (float y ⊖ float w) (float x ⊖ float w))

level : below_with 0xbff0_0000_0000_0000 0x4340_0000_0000_0001 0x4340_0000_0000_0002 ≡ (true, false, false)
unfolding below_with
level = refl

-- -1 and 3, both over d: whether the first quotient is below, and whether the second is
over : (d : ℕ) → Bool × Bool
unfolding div lt of_bits float
over d =
    let x = float 0xbff0_0000_0000_0000 in
    let y = float 0x4008_0000_0000_0000 in
    (lt (x ⊘ float d) (y ⊘ float d), lt (y ⊘ float d) (x ⊘ float d))

-- 2, -2; +0, -0; an infinity, and no number
quotients : ◌≡◌ {A = List (Bool × Bool)}
    (over 0x4000_0000_0000_0000 ∷ over 0xc000_0000_0000_0000 ∷ over 0 ∷ over 0x8000_0000_0000_0000 ∷ over 0x7ff0_0000_0000_0000 ∷ over 0x7ff8_0000_0000_0000 ∷ [])
    ((true, false) ∷ (false, true) ∷ (true, false) ∷ (false, true) ∷ (false, false) ∷ (false, false) ∷ [])
unfolding over
quotients = refl
