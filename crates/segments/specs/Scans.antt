-- What only the contracts of inner functions cite: the four ends put in order by exchanges.
-- proofs/ shows them equal to the definitions of the other files. Assumes nothing.
use Rattle.std.specs.Prelude.{Bool, cond, List, [], ◌∷◌, ℕ, ◌+◌, get_or, set, Float}
use Rattle.std.specs.Float.{nan}
use Rattle.std.specs.Float.Ieee.{lt}
use Rattle.segments.specs.declared.PointId.{PointId}
use Rattle.segments.specs.declared.PointId.TheVariants.{P1, P2, P3, P4}

abbrev pub parameter_before : List Float → ℕ → ℕ → Bool
parameter_before ts i j = lt (get_or ts i nan) (get_or ts j nan)

-- the entries at i and i + 1 in the other order
abbrev pub swap : {A : Type 0} → A → ℕ → List A → List A
swap d i xs = set (set xs i (get_or xs (i + 1) d)) (i + 1) (get_or xs i d)

unfoldable pub exchanged : List Float → ℕ → List Float
exchanged ts i = cond (parameter_before ts (i + 1) i) (swap nan i ts) ts

unfoldable pub exchanged_ids : List Float → List PointId → ℕ → List PointId
exchanged_ids ts ids i = cond (parameter_before ts (i + 1) i) (swap P1 i ids) ids

-- the ids after an exchange at each place of the list, one after the other
abbrev pub sweep : List ℕ → List Float → List PointId → List PointId
sweep [] ts ids = ids
sweep (i ∷ is) ts ids = sweep is (exchanged ts i) (exchanged_ids ts ids i)

-- the second moves down, then the third, then the fourth
unfoldable pub swept : List Float → List PointId
swept ts = sweep (0 ∷ 1 ∷ 0 ∷ 2 ∷ 1 ∷ 0 ∷ []) ts (P1 ∷ P2 ∷ P3 ∷ P4 ∷ [])
