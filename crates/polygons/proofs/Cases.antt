-- K8 and K9 of document 01, and the borders that it or docs/DECISIONS.md names, as one table and one theorem. Assumes nothing.
use mathlib.Core.Bool.{Bool, true}
use mathlib.Core.List.{List, [], ◌∷◌, ◌++◌}
use Prim.Native.Nat.{ℕ, suc}
use lib.Dec.{T}
use lib.ListN.{get_or}
use lib.Ieee.{add, sub, mul, div, neg, lt, le, eq, of_bits, to_bits}
use Rattle.lists.specs.Gather.{gathered, all, slim, slim_after}
use Rattle.lists.specs.Sort.{insert, sort_onto, sorted}
use Rattle.exact.specs.Exact.{mag, coord, sign, ordered, is_less}
use Rattle.exact.specs.Angle.{angles}
use Rattle.plane.specs.Plane.{magnitude, point_at}
use Rattle.corners.specs.Corners.{corner_at, corner_after, area_term, doubled_to, doubled_sum}
use Rattle.corners.proofs.Tables.{floats, pt, o, h, i, ih, ii, -i, -o, n, ∞, k9, dent, both, same}
use Rattle.polygons.specs.Interior.{heights, passed, climb, widest, widest_in, crossed, crossings, lowest, strict_interior_point}
use Rattle.polygons.specs.Code.{inner_code}
use Rattle.plane.specs.declared.Point.{Point}

-- All floats are given by their bits.
data Case : Type 0 where
  -- directions, and their numbers, from 0, by falling angle
  turns : List Point → List ℕ → Case
  -- coordinates, corners, and the code of the inner point
  inner : List ℕ → List ℕ → List ℕ → Case

-- ---- the table

-- K8 and K9
samples : List Case
samples =
    turns (pt -i o ∷ pt o i ∷ pt i o ∷ pt o -i ∷ []) (0 ∷ 1 ∷ 2 ∷ 3 ∷ [])
    ∷ inner k9 (0 ∷ 1 ∷ 2 ∷ 3 ∷ []) (1 ∷ h ∷ i ∷ [])
    ∷ []

-- the same four as in K8, from the other end; no direction counts as east, and equals stay
directions : List Case
directions =
    turns (pt o -i ∷ pt i o ∷ pt o i ∷ pt -i o ∷ []) (3 ∷ 2 ∷ 1 ∷ 0 ∷ [])
    ∷ turns (pt o o ∷ pt i o ∷ pt -o -o ∷ pt i i ∷ []) (3 ∷ 0 ∷ 1 ∷ 2 ∷ [])
    ∷ []

inners : List Case
inners =
    inner k9 (3 ∷ 2 ∷ 1 ∷ 0 ∷ []) (1 ∷ h ∷ i ∷ [])
    ∷ inner k9 (1 ∷ 2 ∷ []) (0 ∷ [])
    ∷ inner k9 [] (0 ∷ [])
    ∷ inner k9 (0 ∷ 1 ∷ 0 ∷ []) (0 ∷ [])
    ∷ inner k9 (0 ∷ 1 ∷ 2 ∷ 4 ∷ []) (0 ∷ [])
    ∷ inner (o ∷ ii ∷ o ∷ -o ∷ i ∷ o ∷ i ∷ ii ∷ []) (0 ∷ 1 ∷ 2 ∷ 3 ∷ []) (1 ∷ h ∷ i ∷ [])
    ∷ inner (o ∷ o ∷ ii ∷ o ∷ ii ∷ ii ∷ i ∷ i ∷ []) (0 ∷ 1 ∷ 2 ∷ []) (1 ∷ ih ∷ i ∷ [])
    ∷ inner (o ∷ o ∷ ii ∷ i ∷ o ∷ ii ∷ []) (0 ∷ 1 ∷ 2 ∷ []) (1 ∷ h ∷ h ∷ [])
    ∷ inner dent (0 ∷ 1 ∷ 2 ∷ 3 ∷ 4 ∷ []) (1 ∷ h ∷ 0x4004_0000_0000_0000 ∷ [])
    ∷ inner (o ∷ o ∷ n ∷ i ∷ o ∷ ii ∷ []) (0 ∷ 1 ∷ 2 ∷ []) (0 ∷ [])
    ∷ inner (o ∷ o ∷ i ∷ n ∷ o ∷ ii ∷ []) (0 ∷ 1 ∷ 2 ∷ []) (0 ∷ [])
    ∷ inner (o ∷ o ∷ ∞ ∷ i ∷ o ∷ ii ∷ []) (0 ∷ 1 ∷ 2 ∷ []) (1 ∷ ∞ ∷ h ∷ [])
    ∷ []

table : List Case
table = samples ++ directions ++ inners

-- ---- the theorem

numbered : {A : Type 0} → ℕ → List A → List ℕ
numbered k [] = []
numbered k (x ∷ xs) = k ∷ numbered (suc k) xs

-- the numbers of the directions, sorted by falling angle
by_angle : List Point → List ℕ
unfolding numbered
by_angle ds =
    let d : ℕ → Point = λ k. get_or ds k (pt o o) in
    sorted (λ j k. is_less (angles (d j).x (d j).y (d k).x (d k).y)) (numbered 0 ds)

right : List Case → Bool
unfolding both same by_angle magnitude angles strict_interior_point lowest crossings crossed widest_in widest climb passed heights doubled_sum doubled_to area_term
    corner_after corner_at point_at coord mag sign ordered gathered all slim slim_after insert sort_onto inner_code to_bits of_bits add sub mul div neg lt le eq
right [] = true
right (turns ds m ∷ rs) = both (same (by_angle ds) m) (right rs)
right (inner cs ps m ∷ rs) = both (same (inner_code (strict_interior_point (floats cs) ps)) m) (right rs)

cases : T (right table)
unfolding table samples directions inners right
cases = tt
