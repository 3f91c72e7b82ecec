-- The borders of the turn to counter-clockwise that document 01 or docs/DECISIONS.md names, as one table and one theorem. Assumes nothing.
use mathlib.Core.Bool.{Bool, true}
use mathlib.Core.List.{List, [], ◌∷◌}
use Prim.Native.Nat.{ℕ}
use lib.Dec.{T}
use lib.Ieee.{add, sub, mul, div, neg, lt, le, of_bits}
use Rattle.plane.specs.Plane.{point_at}
use Rattle.corners.specs.Corners.{corner_at, corner_after, oriented, area_term, doubled_to, doubled_sum, signed_area2, turned, into_ccw2}
use Rattle.corners.proofs.Tables.{floats, o, i, ii, n, tiny, k9, both, same}

-- All floats are given by their bits.
data Case : Type 0 where
  -- coordinates, corners, and the corners counter-clockwise
  ccw : List ℕ → List ℕ → List ℕ → Case

-- ---- the table

-- Clockwise corners are turned, others not. A sum of -2 ^ -1074 halves to -0, so nothing is turned; -2 ^ -1073 is turned; nor is a NaN area.
turnings : List Case
turnings =
    ccw k9 (0 ∷ 1 ∷ 2 ∷ 3 ∷ []) (0 ∷ 1 ∷ 2 ∷ 3 ∷ [])
    ∷ ccw k9 (3 ∷ 2 ∷ 1 ∷ 0 ∷ []) (0 ∷ 1 ∷ 2 ∷ 3 ∷ [])
    ∷ ccw (o ∷ o ∷ o ∷ i ∷ tiny ∷ o ∷ []) (0 ∷ 1 ∷ 2 ∷ []) (0 ∷ 1 ∷ 2 ∷ [])
    ∷ ccw (o ∷ o ∷ o ∷ ii ∷ tiny ∷ o ∷ []) (0 ∷ 1 ∷ 2 ∷ []) (2 ∷ 1 ∷ 0 ∷ [])
    ∷ ccw (o ∷ o ∷ o ∷ n ∷ i ∷ o ∷ []) (0 ∷ 1 ∷ 2 ∷ []) (0 ∷ 1 ∷ 2 ∷ [])
    ∷ []

-- ---- the theorem

right : List Case → Bool
unfolding both same into_ccw2 turned signed_area2 doubled_sum doubled_to area_term oriented corner_after corner_at point_at of_bits add sub mul div neg lt le
right [] = true
right (ccw cs ps m ∷ rs) = both (same (into_ccw2 (floats cs) ps) m) (right rs)

cases : T (right turnings)
unfolding turnings right
cases = tt
