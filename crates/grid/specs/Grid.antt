-- Document 02, W6: "computed points are now booked on a grid of 1/2^k metre, k from 0 to 10, or on no grid". The grid's numbers are the whole multiples of
-- 2^-k. Exact coordinates are whole numbers of 2^-1074. Assumes nothing.
use Rattle.std.specs.Prelude.{◌≡◌, Bool, true, not, cond, ◌&&◌, ◌||◌, ℕ, ◌-◌, ◌%◌, ◌^◌, leb, eqb, Float, Option, None, Some}
use Rattle.std.specs.Float.{binary64}
use Rattle.std.specs.Float.Ieee.{round}
use Rattle.std.specs.Float.Ieee.Nearest.{closest}
use Rattle.std.specs.Float.Ieee.Scale.{finite}
use Rattle.exact.specs.Exact.{mag, minus}

-- the grid of an overlay: k, or none
abbrev pub Grid : Type 0
Grid = Option ℕ

-- ---- "the nearest grid number, exactly halfway the even multiple, zero always as +0"

-- a step of the grid, 2^-k, in units of 2^-1074
abbrev pub grid_step : ℕ → ℕ
grid_step k = 2 ^ (1074 - k)

-- how many steps x is from 0: the nearest whole number, exactly halfway the even one
unfoldable pub steps : ℕ → Float → ℕ
steps k x = closest (mag x) (grid_step k)

-- the f64 that is n steps from 0, below 0 where s is true; zero is +0
unfoldable pub grid_number : ℕ → Bool → ℕ → Float
grid_number k s n = round binary64 (s && not (eqb n 0)) n (2 ^ k)

-- There is no grid for a k above 10 (refusal 13), and no place on it for what is not finite: x as it is.
unfoldable pub on_grid : ℕ → Float → Float
on_grid k x = cond (leb k 10 && finite x) (grid_number k (minus x) (steps k x)) x

-- by an overlay's grid: without one x as it is
unfoldable pub booked : Grid → Float → Float
booked None x = x
booked (Some k) x = on_grid k x

-- ---- on the grid

-- x is a number, and a whole multiple of 2^-k, 0 of either sign among them
unfoldable pub is_on_grid : ℕ → Float → Bool
is_on_grid k x = finite x && eqb (mag x % grid_step k) 0

-- "Where a grid is set, every caller of the meeting rule relies on a new point being on it": of a coordinate that is a number, and a grid that there is
unfoldable pub stands_on : Grid → Float → Bool
stands_on None x = true
stands_on (Some k) x = not (leb k 10 && finite x) || is_on_grid k x

abbrev pub OnGrid : Grid → Float → Type 0
OnGrid g x = stands_on g x ≡ true
