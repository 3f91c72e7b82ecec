-- Points in a polygon and outside it, at the borders that document 01 or docs/DECISIONS.md names, as one table and one theorem. Assumes nothing.
use mathlib.Core.Bool.{Bool, true, false, beq}
use mathlib.Core.List.{List, [], ◌∷◌}
use Prim.Native.Nat.{ℕ}
use lib.Dec.{T}
use lib.Ieee.{add, sub, mul, div, neg, lt, le, eq, of_bits}
use Rattle.exact.specs.Exact.{mag, coord, sign, ordered}
use Rattle.exact.specs.Angle.{orientation}
use Rattle.plane.specs.Plane.{between, along, point_at}
use Rattle.corners.specs.Corners.{corner_at, corner_after, corner_before, oriented, area_term, doubled_to, doubled_sum, signed_area2, turned, into_ccw2}
use Rattle.corners.proofs.Tables.{floats, pt, o, h, i, ii, iii, -i, n, ∞, k9, square, dent, both}
use Rattle.insides.specs.Inside.{orient2d2, clamped, ortho_dist2, settle, nearer_edge, nearest_among, nearest, left_of, reflex, at_corner, contains_stable, inside}
use Rattle.plane.specs.declared.Point.{Point}

-- All floats are given by their bits.
data Case : Type 0 where
  -- coordinates, corners, a point, and whether it lies inside
  within : List ℕ → List ℕ → Point → Bool → Case

-- ---- the table

-- in the middle, on an edge, at a corner, outside, with NaN and infinity; at the corner that is cut in
points : List Case
points =
    within k9 (0 ∷ 1 ∷ 2 ∷ 3 ∷ []) (pt h i) true
    ∷ within k9 (3 ∷ 2 ∷ 1 ∷ 0 ∷ []) (pt h i) true
    ∷ within k9 (0 ∷ 1 ∷ 2 ∷ 3 ∷ []) (pt ii i) false
    ∷ within k9 (0 ∷ 1 ∷ 2 ∷ 3 ∷ []) (pt o i) false
    ∷ within k9 (0 ∷ 1 ∷ 2 ∷ 3 ∷ []) (pt o o) false
    ∷ within k9 (0 ∷ 1 ∷ []) (pt h i) false
    ∷ within square (0 ∷ 1 ∷ 2 ∷ 3 ∷ []) (pt o o) true
    ∷ within square (0 ∷ 1 ∷ 2 ∷ 3 ∷ []) (pt n o) false
    ∷ within k9 (0 ∷ 1 ∷ 2 ∷ 3 ∷ []) (pt h ∞) false
    ∷ within dent (0 ∷ 1 ∷ 2 ∷ 3 ∷ 4 ∷ []) (pt ii h) true
    ∷ within dent (4 ∷ 3 ∷ 2 ∷ 1 ∷ 0 ∷ []) (pt ii h) true
    ∷ within dent (0 ∷ 1 ∷ 2 ∷ 3 ∷ 4 ∷ []) (pt 0x4002_0000_0000_0000 0x3fe8_0000_0000_0000) true
    ∷ within dent (4 ∷ 3 ∷ 2 ∷ 1 ∷ 0 ∷ []) (pt 0x4002_0000_0000_0000 0x3fe8_0000_0000_0000) true
    ∷ within dent (0 ∷ 1 ∷ 2 ∷ 3 ∷ 4 ∷ []) (pt ii iii) false
    ∷ within dent (0 ∷ 1 ∷ 2 ∷ 3 ∷ 4 ∷ []) (pt -i -i) false
    ∷ []

-- ---- the theorem

right : List Case → Bool
unfolding both between along inside contains_stable at_corner reflex left_of orient2d2 nearest nearest_among nearer_edge settle ortho_dist2 clamped into_ccw2 turned
    signed_area2 doubled_sum doubled_to area_term oriented corner_before corner_after corner_at point_at orientation coord mag sign ordered of_bits add sub mul div neg lt le eq
right [] = true
right (within cs ps p m ∷ rs) = both (beq (inside (floats cs) ps p) m) (right rs)

cases : T (right points)
unfolding points right
cases = tt
