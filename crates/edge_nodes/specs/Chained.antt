-- The meetings by the edges of one mesh, and their chains: what only inner functions' contracts cite. Assumes nothing.
use Rattle.std.specs.Prelude.{List, ℕ, ◌/◌, length}
use Rattle.lists.specs.Gather.{each}
use Rattle.cutting.specs.Edges.{Edge}
use Rattle.cutting.specs.Lent.{pairs}
use Rattle.keys.specs.declared.SortedKey.{SortedKey}
use Rattle.edge_nodes.specs.Links.{chain_at, head_at, next_at}
use Rattle.edge_nodes.specs.declared.sides.Side.{Side}
use Rattle.edge_nodes.specs.declared.sides.Side.TheVariants.{Subject, Cutter}
use Rattle.edge_nodes.specs.declared.sides.Meetings.{Meetings}

-- where a meeting's edge of this side stands among its numbers
abbrev pub number : Side → ℕ
number Subject = 0
number Cutter = 1

-- a key as an edge
abbrev pub edge_of : SortedKey → Edge
edge_of k = (k.first, k.second)

-- the first meeting of each of h chains
abbrev pub heads_in : ℕ → Meetings → List ℕ
heads_in h m = each h (head_at h (pairs m.edges.now) m.met.now (number m.side))

-- for each meeting the next one on its chain
abbrev pub nexts_in : ℕ → Meetings → List ℕ
nexts_in h m = each (length m.met.now / 5) (next_at h (pairs m.edges.now) m.met.now (number m.side))

-- the chain of each meeting
abbrev pub chain_in : ℕ → Meetings → ℕ → ℕ
chain_in h m = chain_at h (pairs m.edges.now) m.met.now (number m.side)
