-- The corners of a polygon, a run of node numbers; its signed area, and the turn to counter-clockwise: document 01, module 2. Assumes nothing.
use Rattle.std.specs.Prelude.{Bool, true, false, cond, List, reverse, ℕ, zero, suc, ◌+◌, ◌-◌, ltb, eqb, length, get_or, Float}
use Rattle.std.specs.Float.Ieee.{lt}
use Rattle.plane.specs.Plane.{◌⊕◌, ◌⊖◌, ◌⊗◌, ◌⊘◌, zero_f, two_f, point_at}
use Rattle.plane.specs.declared.Point.{Point}

-- the point of corner i; where there is no corner, that of node 0
unfoldable pub corner_at : List Float → List ℕ → ℕ → Point
corner_at cs ps i = point_at cs (get_or ps i 0)

-- the corner after i, and the one before it, of n; after the last comes the first
unfoldable pub corner_after : ℕ → ℕ → ℕ
corner_after n i = cond (ltb (i + 1) n) (i + 1) 0

unfoldable pub corner_before : ℕ → ℕ → ℕ
corner_before n i = cond (eqb i 0) (n - 1) (i - 1)

-- the node of the corner after corner i
unfoldable pub next_corner : List ℕ → ℕ → ℕ
next_corner cell i = get_or cell (corner_after (length cell) i) 0

-- the corners as they stand, or backwards
unfoldable pub oriented : Bool → List ℕ → List ℕ
oriented false ps = ps
oriented true ps = reverse ps

-- x·y' − x'·y of the edge from corner i to the next
unfoldable pub area_term : List Float → List ℕ → ℕ → Float
area_term cs ps i =
    let a = corner_at cs ps i in
    let b = corner_at cs ps (corner_after (length ps) i) in
    (a.x ⊗ b.y) ⊖ (b.x ⊗ a.y)

-- the sum over the first n edges, in order, from 0
unfoldable pub doubled_to : ℕ → List Float → List ℕ → Float
doubled_to zero cs ps = zero_f
doubled_to (suc n) cs ps = doubled_to n cs ps ⊕ area_term cs ps n

unfoldable pub doubled_sum : List Float → List ℕ → Float
doubled_sum cs ps = doubled_to (length ps) cs ps

-- as IEEE 754 has it: NaN where a coordinate is no number
unfoldable pub signed_area2 : List Float → List ℕ → Float
signed_area2 cs ps = doubled_sum cs ps ⊘ two_f

-- whether the corners are turned: the halved sum is below 0, which no NaN is
unfoldable pub turned : List Float → List ℕ → Bool
turned cs ps = lt (signed_area2 cs ps) zero_f

-- the corners counter-clockwise
unfoldable pub into_ccw2 : List Float → List ℕ → List ℕ
into_ccw2 cs ps = oriented (turned cs ps) ps
