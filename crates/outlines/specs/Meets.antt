-- Two lists of edges, one compared with the other. Assumes nothing.
use Rattle.std.specs.Prelude.{Bool, false, ◌||◌, List, [], ◌∷◌}
use Rattle.cutting.specs.Edges.{Edge}
use Rattle.cutting.specs.Cell.{among}

-- both have an edge between the same two nodes
unfoldable pub edges_meet : List Edge → List Edge → Bool
edges_meet [] fs = false
edges_meet (e ∷ es) fs = among e fs || edges_meet es fs
