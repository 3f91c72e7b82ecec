-- The border cases of the grid, by computation: the grid, the bits of x, the bits of the answer; and which numbers are on it. Assumes nothing.
use mathlib.Core.Path.{◌≡◌, refl}
use mathlib.Core.Bool.{Bool, true, false, ◌&&◌}
use mathlib.Core.List.{List, [], ◌∷◌}
use Prim.Native.Nat.{ℕ}
use lib.Dec.{T, eqb}
use lib.Ieee.{binary64, round, of_bits, to_bits}
use Rattle.exact.specs.Exact.{mag}
use Rattle.grid.specs.Grid.{Grid, steps, grid_number, on_grid, booked, is_on_grid}
use Rattle.std.specs.Prelude.{None, Some}

data Case : Type 0 where
  row : (g : Grid) (x r : ℕ) → Case

table : List Case
table =
    -- halfway: 0.5, 1.5, 2.5 and their negatives at k = 0
    row (Some 0) 0x3fe0_0000_0000_0000 0
    ∷ row (Some 0) 0x3ff8_0000_0000_0000 0x4000_0000_0000_0000
    ∷ row (Some 0) 0x4004_0000_0000_0000 0x4000_0000_0000_0000
    ∷ row (Some 0) 0xbfe0_0000_0000_0000 0
    ∷ row (Some 0) 0xbff8_0000_0000_0000 0xc000_0000_0000_0000
    ∷ row (Some 0) 0xc004_0000_0000_0000 0xc000_0000_0000_0000
    -- 1/2048 and 3/2048 at k = 10
    ∷ row (Some 10) 0x3f40_0000_0000_0000 0
    ∷ row (Some 10) 0x3f58_0000_0000_0000 0x3f60_0000_0000_0000
    -- 0.1 at k = 3 and k = 10: 1/8 and 102/1024
    ∷ row (Some 3) 0x3fb9_9999_9999_999a 0x3fc0_0000_0000_0000
    ∷ row (Some 10) 0x3fb9_9999_9999_999a 0x3fb9_8000_0000_0000
    -- next to halfway, either side of 0.5 at k = 0
    ∷ row (Some 0) 0x3fdf_ffff_ffff_ffff 0
    ∷ row (Some 0) 0x3fe0_0000_0000_0001 0x3ff0_0000_0000_0000
    -- +0, -0, the least number and its negative
    ∷ row (Some 10) 0 0
    ∷ row (Some 10) 0x8000_0000_0000_0000 0
    ∷ row (Some 10) 1 0
    ∷ row (Some 10) 0x8000_0000_0000_0001 0
    -- 2^42 - 2^-11 and 2^42 at k = 10; 2^42 + 0.5 at k = 0
    ∷ row (Some 10) 0x428f_ffff_ffff_ffff 0x4290_0000_0000_0000
    ∷ row (Some 10) 0x4290_0000_0000_0000 0x4290_0000_0000_0000
    ∷ row (Some 0) 0x4290_0000_0000_0200 0x4290_0000_0000_0000
    ∷ row (Some 0) 0x4290_0000_0000_0600 0x4290_0000_0000_0800
    -- 2^52 - 0.5 at k = 0; the largest number; the infinities
    ∷ row (Some 0) 0x432f_ffff_ffff_ffff 0x4330_0000_0000_0000
    ∷ row (Some 10) 0x7fef_ffff_ffff_ffff 0x7fef_ffff_ffff_ffff
    ∷ row (Some 0) 0x7ff0_0000_0000_0000 0x7ff0_0000_0000_0000
    ∷ row (Some 0) 0xfff0_0000_0000_0000 0xfff0_0000_0000_0000
    -- no grid, and a k that no grid has: as it is, -0 too
    ∷ row None 0x3fb9_9999_9999_999a 0x3fb9_9999_9999_999a
    ∷ row None 0x8000_0000_0000_0000 0x8000_0000_0000_0000
    ∷ row (Some 11) 0x3fb9_9999_9999_999a 0x3fb9_9999_9999_999a
    ∷ row (Some 11) 0x8000_0000_0000_0000 0x8000_0000_0000_0000
    ∷ []

right : List Case → Bool
unfolding booked on_grid grid_number steps mag round of_bits to_bits
right [] = true
right (row g x r ∷ cs) = eqb (to_bits binary64 (booked g (of_bits binary64 x))) r && right cs

samples : T (right table)
unfolding table right
samples = tt

-- ---- on the grid or not: k and the bits of x

on : ℕ → ℕ → Bool
unfolding is_on_grid mag of_bits
on k x = is_on_grid k (of_bits binary64 x)

-- 0.1, 102/1024 and -0 at k = 10; NaN and an infinity; 1/2048 at k = 10 and 11; the least number at k = 1073 and 1074
on_samples : ◌≡◌ {A = List Bool}
    (on 10 0x3fb9_9999_9999_999a ∷ on 10 0x3fb9_8000_0000_0000 ∷ on 10 0x8000_0000_0000_0000 ∷ on 0 0x7ff8_0000_0000_0000 ∷ on 0 0x7ff0_0000_0000_0000
    ∷ on 10 0x3f40_0000_0000_0000 ∷ on 11 0x3f40_0000_0000_0000 ∷ on 1073 1 ∷ on 1074 1 ∷ [])
    (false ∷ true ∷ true ∷ false ∷ false ∷ false ∷ true ∷ false ∷ true ∷ [])
unfolding on
on_samples = refl
