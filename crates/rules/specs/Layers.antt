-- Document 02, W7: "Same place, other layer". "Each node gets a layer number": those of the nodes that an answer lists. Assumes nothing.
use Rattle.std.specs.Prelude.{◌≡◌, List, ◌++◌, ℕ, ◌/◌, length, get_or, replicate}
use Rattle.lists.specs.Gather.{joined}
use Rattle.cutting.specs.Edges.{Edge, edge_at}
use Rattle.entry.specs.Mesh.{Mesh, node_count}
use Rattle.rules.specs.Meetings.{Met, Scene}

-- "a new point takes the layer of the subject edge's first node, as module 5 keeps that edge"; of the new point, if any, that a meeting brings. The
-- subject's edges are es, its nodes' layers ls.
abbrev pub layer_added : List ℕ → List Edge → Met → List ℕ
layer_added ls es m = replicate (length m.point / 2) (get_or ls (edge_at es m.subject_edge).0 0)

-- "The answer lists every node's layer": the subject's, the cutter's, those of new points
unfoldable pub layers_of : Scene → Mesh → Mesh → List ℕ
layers_of sc s c = s.layers ++ (c.layers ++ joined (layer_added s.layers sc.subject.edges) sc.met)

-- "With one layer throughout": all nodes of the mesh m are of layer k
abbrev pub InLayer : ℕ → Mesh → Type 0
InLayer k m = m.layers ≡ replicate (node_count m) k
