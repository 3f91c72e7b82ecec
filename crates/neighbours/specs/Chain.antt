-- The edges on a key's chain, and what the walk along a chain has left. Assumes nothing.
use Rattle.std.specs.Prelude.{List, ◌-◌, length}
use Rattle.cutting.specs.Edges.{Edge, edge_at}
use Rattle.keys.specs.Chains.{chain_of, edge_chain}
use Rattle.keys.specs.declared.SortedKey.{SortedKey}
use Rattle.neighbours.specs.declared.EdgeLists.{EdgeLists}
use Rattle.neighbours.specs.declared.Chain.{Chain}
use Rattle.neighbours.specs.Chains.{edges_below}
use Rattle.neighbours.specs.Held.{edges_in}

abbrev pub on_key_chain : EdgeLists → SortedKey → List Edge
on_key_chain l k =
    let h = length l.heads.now in
    edges_below h (edges_in l) (chain_of h k.first) (length (edges_in l))

-- those on the chain of the edge that the walk stands at, up to it
abbrev pub chain_left : Chain → List Edge
chain_left c =
    let l = c.lists.now in
    let h = length l.heads.now in
    edges_below h (edges_in l) (edge_chain h (edge_at (edges_in l) (c.at - 1))) c.at
