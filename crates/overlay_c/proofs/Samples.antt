-- No grid, and grids that there are and are not, as C sets them. Assumes nothing.
use mathlib.Core.Path.{◌≡◌, refl}
use Rattle.std.specs.Prelude.{None, Some}
use Rattle.overlay_c.specs.Answer.{grid_of}

pub grids : (grid_of 4294967295 ≡ None) × (grid_of 0 ≡ Some 0) × (grid_of 10 ≡ Some 10) × (grid_of 11 ≡ Some 11) × (grid_of 4294967294 ≡ Some 4294967294)
grids = (refl, refl, refl, refl, refl)
