-- Lists of f64. Assumes nothing.
use Rattle.std.specs.Prelude.{◌≡◌, true, List, ℕ, ◌<◌, length, get_or, Float}
use Rattle.std.specs.Float.{nan, binary64}
use Rattle.std.specs.Float.Ieee.{fits}

-- each number of the list is an f64, as in every list of f64 that a caller lends
abbrev pub Doubles : List Float → Type 0
Doubles cs = (i : ℕ) → i < length cs → fits binary64 (get_or cs i nan) ≡ true
