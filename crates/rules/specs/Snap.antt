-- Document 01, module 4 (snap.rs): the numbers of the cutter's nodes, where near nodes of the two meshes share one. Assumes nothing.
use Rattle.std.specs.Prelude.{Option, None, Some, Bool, cond, ◌&&◌, ◌||◌, List, ℕ, zero, suc, ◌+◌, eqb, length, get_or, Float}
use Rattle.std.specs.Float.Ieee as Ieee
use Rattle.std.specs.Float.{binary64}
use Rattle.lists.specs.Search.{named}
use Rattle.lists.specs.Gather.{each, places}
use Rattle.lists.specs.Sort.{sorted}
use Rattle.plane.specs.Plane.{◌⊗◌, between, dot, point_at}
use Rattle.entry.specs.Mesh.{Mesh, node_count}
use Rattle.plane.specs.declared.Point.{Point}
use Rattle.rules.specs.declared.Nearest.{Nearest}

-- 1e-12
abbrev pub weld_eps : Float
weld_eps = Ieee.of_bits binary64 0x3d71_9799_812d_ea11

-- "Used nodes are those some element names, rising"
unfoldable pub used_nodes : Mesh → List ℕ
used_nodes m = places (named m.nodes) (node_count m)

-- `sorted_indices_for`: by x, then by y; equal ones stay rising
abbrev pub precedes : Point → Point → Bool
precedes p q = Ieee.lt p.x q.x || (Ieee.eq p.x q.x && Ieee.lt p.y q.y)

unfoldable pub sorted_indices_for : Mesh → List ℕ
sorted_indices_for m = sorted (λ i j. precedes (point_at m.coords i) (point_at m.coords j)) (used_nodes m)

-- ---- `closest_within`

abbrev pub distance2 : Point → Point → Float
distance2 p q = let v = between q p in dot v v

-- strictly below, so the first in sorted order wins
abbrev pub nearer : Float → ℕ → Nearest → Nearest
nearer d n best = cond (Ieee.lt d best.dist2) (record { dist2 = d; node = Some n }) best

-- Over nodes with these coordinates and layers: among the first k of the nodes `order`, at squared distance strictly below 1e-12 × 1e-12. W7: "among
-- those of the same layer", the one sought.
unfoldable pub nearest_to : ℕ → List Float → (layers order : List ℕ) → (sought : ℕ) → Point → Nearest
nearest_to zero coords layers order sought p = record { dist2 = weld_eps ⊗ weld_eps; node = None }
nearest_to (suc k) coords layers order sought p =
    let n = get_or order k 0 in
    let best = nearest_to k coords layers order sought p in
    cond (eqb (get_or layers n 0) sought) (nearer (distance2 p (point_at coords n)) n best) best

unfoldable pub closest_within : List Float → (layers order : List ℕ) → (sought : ℕ) → Point → Option ℕ
closest_within coords layers order sought p = (nearest_to (length order) coords layers order sought p).node

-- ---- `duplicates_from`

abbrev pub or_shifted : ℕ → Option ℕ → ℕ
or_shifted k None = k
or_shifted k (Some n) = n

-- The number of the cutter's node j: a used one takes that of the nearest used subject node of its layer, if there is one so near; the others take
-- their own number plus the subject's node count.
abbrev pub number_of : Mesh → Mesh → List ℕ → ℕ → ℕ
number_of subject cutter order j =
    let shifted = j + node_count subject in
    let nearest = closest_within subject.coords subject.layers order (get_or cutter.layers j 0) (point_at cutter.coords j) in
    cond (named cutter.nodes j) (or_shifted shifted nearest) shifted

-- the numbers of all the cutter's nodes
unfoldable pub weld : Mesh → Mesh → List ℕ
weld subject cutter = each (node_count cutter) (number_of subject cutter (sorted_indices_for subject))
