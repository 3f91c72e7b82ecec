-- The things of an index: runs of a list of node numbers, by their ends, or pairs where there are no ends. Assumes nothing.
use Rattle.std.specs.Prelude.{Bool, List, [], ◌∷◌, ℕ, ◌*◌, ◌/◌, length, Float}
use Rattle.lists.specs.Regions.{run}
use Rattle.cutting.specs.Edges.{edge_at}
use Rattle.cutting.specs.Lent.{pairs}
use Rattle.entry.specs.Mesh.{prior, cell_size}
use Rattle.rules.specs.declared.Bounds.{Bounds}
use Rattle.rules.specs.SpatialIndex.{box_of, edge_box, boxes_meet}

-- how many there are
unfoldable pub thing_count : List ℕ → List ℕ → ℕ
thing_count nodes [] = length nodes / 2
thing_count nodes (e ∷ ends) = length (e ∷ ends)

-- where thing j starts
unfoldable pub start_of : List ℕ → ℕ → ℕ
start_of [] j = 2 * j
start_of (e ∷ ends) j = prior (e ∷ ends) j

-- its box
unfoldable pub thing_box : List Float → List ℕ → List ℕ → ℕ → Bounds
thing_box coords nodes [] j = edge_box coords (edge_at (pairs nodes) j)
thing_box coords nodes (e ∷ ends) j = box_of coords (run nodes (prior (e ∷ ends) j) (cell_size (e ∷ ends) j))

-- whether it meets the box b
abbrev pub thing_meets : List Float → List ℕ → List ℕ → Bounds → ℕ → Bool
thing_meets coords nodes ends b j = boxes_meet (thing_box coords nodes ends j) b
