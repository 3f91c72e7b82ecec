-- Chains that edges are put on by the smaller node of their keys: those with one key are on one chain. Assumes nothing.
use Rattle.std.specs.Prelude.{ℕ, ◌-◌, min}
use Rattle.cutting.specs.Edges.{Edge, key}

-- the chain of node v, of h chains: nodes from h - 1 on share the last
abbrev pub chain_of : ℕ → ℕ → ℕ
chain_of h v = min v (h - 1)

-- the chain of an edge
abbrev pub edge_chain : ℕ → Edge → ℕ
edge_chain h e = chain_of h (key e).0
