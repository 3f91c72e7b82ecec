-- What the inner functions of module 4 come to, each over the lists lent to it. Assumes nothing.
use Rattle.std.specs.Prelude.{◌≡◌, Bool, false, cond, not, List, [], ℕ, ◌+◌, ◌/◌, ◌<◌, eqb, length, get_or, take, Float}
use Rattle.std.specs.Float.{nan}
use Rattle.std.specs.Float.Ieee.{lt}
use Rattle.lists.specs.Search.{first}
use Rattle.lists.specs.Marks.{marks_from}
use Rattle.lists.specs.Gather.{places}
use Rattle.lists.specs.Sort.{insert, sort_onto, sorted}
use Rattle.lists.specs.Regions.{front}
use Rattle.plane.specs.Plane.{◌⊖◌, x_of, y_of, point_at}
use Rattle.plane.specs.declared.Point.{Point}
use Rattle.entry.specs.Passed.{Placed}
use Rattle.rules.specs.Snap.{weld_eps, precedes, or_shifted, closest_within}

-- each node number is below n
abbrev pub Below : ℕ → List ℕ → Type 0
Below n nodes = (k : ℕ) → k < length nodes → get_or nodes k 0 < n

-- coordinates that the entry lets pass: finite ones
abbrev pub AllPlaced : List Float → Type 0
AllPlaced coords = (i : ℕ) → i < length coords → Placed (get_or coords i nan)

-- a mark for each of n nodes: 1 where some element names it
abbrev pub used : List ℕ → ℕ → List ℕ
used nodes n = marks_from nodes 0 n

abbrev pub marked : List ℕ → ℕ → Bool
marked marks i = not (eqb (get_or marks i 0) 0)

-- ---- `sorted_indices_for`

-- node i stands before node j
abbrev pub before : List Float → ℕ → ℕ → Bool
before coords i j = precedes (point_at coords i) (point_at coords j)

-- both coordinates of the node v are finite
abbrev pub NodePlaced : List Float → ℕ → Type 0
NodePlaced coords v = Placed (x_of coords v) × Placed (y_of coords v)

-- nodes with finite coordinates, of which none stands before an earlier one
pub record InOrder (coords : List Float) (order : List ℕ) : Type 0 where
  pub placed : (i : ℕ) → i < length order → NodePlaced coords (get_or order i 0)
  pub rises : (i j : ℕ) → i < j → j < length order → before coords (get_or order j 0) (get_or order i 0) ≡ false

-- where the node v goes among them: before the first that it stands before
unfoldable pub place_of : List Float → List ℕ → ℕ → ℕ
place_of coords order v = first (λ i. before coords v (get_or order i 0)) 0 (length order)

-- the marked nodes in order
unfoldable pub indices_in_order : List Float → List ℕ → List ℕ
indices_in_order coords marks = sorted (before coords) (places (marked marks) (length marks))

-- `block` has nodes in order: with node i, where it is marked
unfoldable pub with_node : List Float → List ℕ → List ℕ → ℕ → List ℕ
with_node coords marks block i = cond (marked marks i) (insert (before coords) i block) block

-- the first k entries of s are nodes in order: with those of `order` put in among them
unfoldable pub merged : List Float → List ℕ → ℕ → List ℕ → List ℕ
merged coords s k order = front s (sort_onto (before coords) (take k s) order)

-- the same where a block is full; and what is left in it
unfoldable pub merged_full : List Float → List ℕ → ℕ → List ℕ → List ℕ
merged_full coords s k block = cond (eqb (length block) 128) (merged coords s k block) s

unfoldable pub not_merged : List ℕ → List ℕ
not_merged block = cond (eqb (length block) 128) [] block

-- ---- `closest_within`

-- how far to the left of p the node v lies, rounded once
abbrev pub ahead : List Float → Point → ℕ → Float
ahead coords p v = p.x ⊖ (point_at coords v).x

-- the first of the nodes in order that isn't 1e-12 or more to the left of p
unfoldable pub window_start : List Float → List ℕ → Point → ℕ
window_start coords order p = first (λ i. lt (ahead coords p (get_or order i 0)) weld_eps) 0 (length order)

-- ---- `duplicates_from`

-- The number of the cutter's node j, by its mark and the used subject nodes in order; sc and sl are the subject's coordinates and layers, cc and cl the
-- cutter's.
unfoldable pub number_by : (sc : List Float) → (sl order : List ℕ) → (cc : List Float) → (cl : List ℕ) → (mark j : ℕ) → ℕ
number_by sc sl order cc cl mark j =
    let shifted = j + length sc / 2 in
    cond (eqb mark 0) shifted (or_shifted shifted (closest_within sc sl order (get_or cl j 0) (point_at cc j)))
