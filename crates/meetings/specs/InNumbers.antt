-- Meetings as numbers of the working list, and a net that has only edges. Assumes nothing.
use Rattle.std.specs.Prelude.{List, [], ◌∷◌, ℕ, length, get_or, Float}
use Rattle.lists.specs.Gather.{joined}
use Rattle.grid.specs.Grid.{Grid}
use Rattle.cutting.specs.Edges.{Edge}
use Rattle.cutting.specs.Lent.{pairs}
use Rattle.rules.specs.Neighbours.{Net}
use Rattle.rules.specs.Meetings.{Met, meetings}

-- five numbers: the subject edge, the cutter edge, how many nodes, the first of them, and the second or 0
abbrev pub five_numbers : Met → List ℕ
five_numbers x = x.subject_edge ∷ x.cutter_edge ∷ length x.nodes ∷ get_or x.nodes 0 0 ∷ get_or x.nodes 1 0 ∷ []

abbrev pub in_numbers : List Met → List ℕ
in_numbers ms = joined five_numbers ms

-- the meetings go by the edges of the nets only
abbrev pub net_on : List Edge → Net
net_on es = record { cells = []; kinds = []; families = []; edges = es }

-- The meetings of edges that stand as pairs of numbers, over these coordinates, on a grid or none.
abbrev pub meetings_of : Grid → List Float → (es fs : List ℕ) → List Met
meetings_of g coords es fs = meetings g coords (net_on (pairs es)) (net_on (pairs fs))
