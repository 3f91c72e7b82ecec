-- Worked examples, by computation. Assumes nothing.
use mathlib.Core.Path.{◌≡◌, refl}
use mathlib.Core.Bool.{true, false}
use mathlib.Core.List.{List, [], ◌∷◌}
use lib.IntN.{ℤ, pos, negsuc}
use lib.Ieee.{Float, fin}
use Rattle.exact.specs.Exact.{coord, mag, sign, signum, ordered}
use Rattle.exact.specs.Angle.{angles, angles_number, orientation}
use Rattle.std.specs.declared.cmp.Ordering.{Ordering}
use Rattle.std.specs.declared.cmp.Ordering.TheVariants.{Less, Equal, Greater}

-- 0, 1, -1, and the smallest float above 0
abbrev o : Float
o = fin false 0 (pos 0)

abbrev i : Float
i = fin false 1 (pos 0)

abbrev j : Float
j = fin true 1 (pos 0)

abbrev tiny : Float
tiny = fin false 1 (negsuc 1073)

-- K8: west, north, east, south stay in that order, each before all that follow it; a zero direction counts as east. Then a turn to the left,
-- one to the right, none, and one by the smallest float there is.
pub samples : ◌≡◌ {A = List Ordering}
    (angles j o o i ∷ angles j o i o ∷ angles j o o j ∷ angles o i i o ∷ angles o i o j ∷ angles i o o j ∷ angles o o i o
    ∷ orientation o o i o o i ∷ orientation o o o i i o ∷ orientation o o i i j j ∷ orientation o o i o i tiny ∷ [])
    (Less ∷ Less ∷ Less ∷ Less ∷ Less ∷ Less ∷ Equal
    ∷ Greater ∷ Less ∷ Equal ∷ Greater ∷ [])
unfolding angles orientation coord mag sign ordered
samples = refl

-- the same directions by their numbers
pub number_samples : ◌≡◌ {A = List ℤ}
    (angles_number j o o i ∷ angles_number o i j o ∷ angles_number i o o i ∷ angles_number i i o i ∷ angles_number o o i o ∷ [])
    (negsuc 0 ∷ pos 1 ∷ pos 1 ∷ pos 1 ∷ pos 0 ∷ [])
unfolding coord mag sign signum
number_samples = refl
