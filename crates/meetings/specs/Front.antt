-- What the callers of the meeting rule rely on: the new points at the front of a list are on the grid. Assumes nothing.
use Rattle.std.specs.Prelude.{List, ℕ, ◌<◌, get_or, Float}
use Rattle.std.specs.Float.{nan}
use Rattle.grid.specs.Grid.{Grid, OnGrid}

-- the first n numbers of a list
abbrev pub AllOnGrid : Grid → ℕ → List Float → Type 0
AllOnGrid g n ps = (i : ℕ) → i < n → OnGrid g (get_or ps i nan)
