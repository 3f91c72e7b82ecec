-- What it is for pieces to close up to an outline: by their edges, and by exact signed areas. Assumes nothing.
use Rattle.std.specs.Prelude.{◌≡◌, List, [], ◌∷◌, ℕ, ◌≤◌, ◌<◌, eqb, ℤ, pos, ◌+ℤ◌, ◌-ℤ◌, ◌*ℤ◌, Float}
use Rattle.lists.specs.Gather.{tally}
use Rattle.exact.specs.Exact.{coord}
use Rattle.plane.specs.Plane.{point_at}
use Rattle.cutting.specs.Edges.{Edge, ring, rings, times}

-- x·y' − y·x' from node a to node b, a whole number of 2^-2148
abbrev pub exact_term : List Float → ℕ → ℕ → ℤ
exact_term coords a b =
    let p = point_at coords a in
    let q = point_at coords b in
    coord p.x *ℤ coord q.y -ℤ coord p.y *ℤ coord q.x

-- the doubled signed area: the exact sum over directed edges
unfoldable pub doubled_area : List Float → List Edge → ℤ
doubled_area coords [] = pos 0
doubled_area coords (e ∷ es) = exact_term coords e.0 e.1 +ℤ doubled_area coords es

-- those of all pieces together
unfoldable pub doubled_areas : List Float → List (List ℕ) → ℤ
doubled_areas coords [] = pos 0
doubled_areas coords (p ∷ ps) = doubled_area coords (ring p) +ℤ doubled_areas coords ps

-- Of the edge from a to b: as an outline dart it is used exactly once and its reverse never; as an edge that the outline has neither way, exactly once each way or not at all.
pub record Closes (outline : List Edge) (ps : List (List ℕ)) (a b : ℕ) : Type 0 where
  pub outer : 0 < times a b outline → (times a b (rings ps) ≡ 1) × (times b a (rings ps) ≡ 0)
  pub other : times a b outline ≡ 0 → times b a outline ≡ 0 → (times a b (rings ps) ≡ times b a (rings ps)) × (times a b (rings ps) ≤ 1)

-- the pieces close up to the outline, and their doubled areas add up to its own
pub record ClosesUp (coords : List Float) (outline : List Edge) (ps : List (List ℕ)) : Type 0 where
  pub edges : (a b : ℕ) → Closes outline ps a b
  pub areas : doubled_areas coords ps ≡ doubled_area coords outline

-- ---- outlines that close

-- how many edges of a list lead from a node, and how many to it
abbrev pub leaving : ℕ → List Edge → ℕ
leaving a es = tally (λ e. eqb e.0 a) es

abbrev pub entering : ℕ → List Edge → ℕ
entering a es = tally (λ e. eqb e.1 a) es

-- as many edges lead from each node as to it
abbrev pub Round : List Edge → Type 0
Round es = (a : ℕ) → leaving a es ≡ entering a es
