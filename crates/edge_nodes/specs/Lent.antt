-- The nodes of an edge as they stand in lent lists: what only this crate's contracts cite. Assumes nothing.
use Rattle.std.specs.Prelude.{Bool, true, cond, List, [], ◌∷◌, ◌++◌, map, ℕ, ◌+◌, ◌*◌, ◌-◌, ◌/◌, ◌≤◌, ltb, eqb, length, get_or, take, Float, None, Some}
use Rattle.std.specs.Float.{inf}
use Rattle.lists.specs.Gather.{gathered, passing}
use Rattle.grid.specs.Grid.{Grid}
use Rattle.cutting.specs.Edges.{Edge, edge_at, key, same_key}
use Rattle.cutting.specs.Lent.{pairs}
use Rattle.rules.specs.Nodes.{total_before, projected, inner_of, along_edge}
use Rattle.regions.specs.declared.Regions.{Regions}
use Rattle.regions.specs.Runs.{Lies, run_in, mesh_edges}
use Rattle.edge_nodes.specs.declared.sides.Meetings.{Meetings}
use Rattle.edge_nodes.specs.declared.nodes.Placed.{Placed}
use Rattle.edge_nodes.specs.Links.{Linked}
use Rattle.edge_nodes.specs.Chained.{number}

-- the node n along the key k
abbrev pub placed : List Float → Edge → ℕ → Placed
placed coords k n = record { along = (projected coords k n).projection; node = n }

-- nearer the key's first node
abbrev pub stands_before : Placed → Placed → Bool
stands_before p q = total_before p.along q.along

abbrev pub node_of : Placed → ℕ
node_of p = p.node

-- the key's first node: before all others with a grid
unfoldable pub first_placed : Grid → List Float → Edge → Placed
first_placed None coords k = placed coords k k.0
first_placed (Some i) coords k = record { along = inf true; node = k.0 }

-- whether a collected node is put among the others: with a grid the key's nodes are not
unfoldable pub goes_in : Grid → Edge → ℕ → Bool
goes_in None k n = true
goes_in (Some i) k n = inner_of k n

-- those of the nodes ns that are, along the key k
unfoldable pub all_placed : Grid → List Float → Edge → List ℕ → List Placed
all_placed grid coords k ns = map (placed coords k) (passing (goes_in grid k) ns)

-- the nodes of meeting q
unfoldable pub met_nodes : List ℕ → ℕ → List ℕ
met_nodes met q = take (get_or met (5 * q + 2) 0) (get_or met (5 * q + 3) 0 ∷ get_or met (5 * q + 4) 0 ∷ [])

-- the nodes that meeting q collects under the key of e: `which` is 0 for its subject edge, among es, and 1 for its cutter edge
unfoldable pub under_at : List Edge → List ℕ → ℕ → Edge → ℕ → List ℕ
under_at es met which e q = cond (same_key (edge_at es (get_or met (5 * q + which) 0)) e) (met_nodes met q) []

-- those of the first n meetings
unfoldable pub under : ℕ → List Edge → List ℕ → ℕ → Edge → List ℕ
under n es met which e = gathered n (under_at es met which e)

-- those of all meetings by the edges of one mesh
abbrev pub under_in : Meetings → Edge → List ℕ
under_in m e = under (length m.met.now / 5) (pairs m.edges.now) m.met.now (number m.side) e

-- all of them: by meetings of subject edges, then by those of cutter edges
unfoldable pub collected_in : List Edge → List Edge → List ℕ → Edge → List ℕ
collected_in subject cutter met e = under (length met / 5) subject met 0 e ++ under (length met / 5) cutter met 1 e

abbrev pub unless_none : Grid → List Float → Edge → List ℕ → List ℕ
unless_none grid coords e [] = []
unless_none grid coords e (n ∷ ns) = along_edge grid coords (key e) (n ∷ ns)

-- the sorted nodes of the key of e; none where nothing was collected under it
unfoldable pub sorted_in : Grid → List Float → List Edge → List Edge → List ℕ → Edge → List ℕ
sorted_in grid coords subject cutter met e = unless_none grid coords e (collected_in subject cutter met e)

-- refusal 9 is for more than these
abbrev pub most_nodes : ℕ
most_nodes = 256

-- too many under the key of edge i
abbrev pub crowded_at : List Edge → List Edge → List Edge → List ℕ → ℕ → Bool
crowded_at es subject cutter met i = ltb most_nodes (length (collected_in subject cutter met (edge_at es i)))

-- v behind the others, unless it equals the last of them
unfoldable pub pushed : List ℕ → ℕ → List ℕ
pushed xs v = cond (eqb (length xs) 0) (v ∷ []) (xs ++ cond (eqb (get_or xs (length xs - 1) 0) v) [] (v ∷ []))

-- ---- where edges, meetings and links stand in regions of the working list

-- the nodes collected under the key of e
abbrev pub collected_on : List ℕ → Regions → Edge → List ℕ
collected_on w g e = collected_in (mesh_edges w g.subject) (mesh_edges w g.cutter) (run_in w g.met) e

-- the sorted nodes of the key of e
abbrev pub nodes_on : Grid → List Float → List ℕ → Regions → Edge → List ℕ
nodes_on grid coords w g e = sorted_in grid coords (mesh_edges w g.subject) (mesh_edges w g.cutter) (run_in w g.met) e

-- The meetings are chained, and under the key of e at most 256 nodes were collected (refusal 9).
pub record Few (w : List ℕ) (g : Regions) (e : Edge) : Type 0 where
  pub lies : Lies g (length w)
  pub linked : Linked (mesh_edges w g.subject) (mesh_edges w g.cutter) (run_in w g.met) (run_in w g.links)
  pub few : length (collected_on w g e) ≤ 256
