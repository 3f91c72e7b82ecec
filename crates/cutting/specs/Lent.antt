-- A cell's outline in lent lists. Assumes nothing.
use Rattle.std.specs.Prelude.{List, [], ◌∷◌, ℕ, get_or}
use Rattle.lists.specs.Gather.{joined}
use Rattle.cutting.specs.Edges.{Edge}

-- edges as a flat list of nodes, and read from one
unfoldable pub flat_edges : List Edge → List ℕ
flat_edges es = joined (λ e. e.0 ∷ e.1 ∷ []) es

unfoldable pub pairs : List ℕ → List Edge
pairs [] = []
pairs (a ∷ []) = []
pairs (a ∷ b ∷ xs) = (a, b) ∷ pairs xs

-- an edge as its two nodes stand in an array
abbrev pub pair_of : List ℕ → Edge
pair_of e = (get_or e 0 0, get_or e 1 0)
