-- What the walk along the chain of a key has left: the meetings on it, each as the nodes that it collects under the key. Assumes nothing.
use Rattle.std.specs.Prelude.{true, false, List, [], ◌∷◌, ℕ, zero, suc, ◌-◌, ◌/◌, length}
use Rattle.cutting.specs.Edges.{Edge, key}
use Rattle.cutting.specs.Lent.{pairs}
use Rattle.keys.specs.Chains.{chain_of}
use Rattle.edge_nodes.specs.declared.chains.Chain.{Chain}
use Rattle.edge_nodes.specs.Links.{on_chain}
use Rattle.edge_nodes.specs.Chained.{number, edge_of}
use Rattle.edge_nodes.specs.Lent.{under_at}

-- of the n meetings from q on those on the chain of e, of h chains
unfoldable pub chained : ℕ → List Edge → List ℕ → ℕ → Edge → ℕ → ℕ → List (List ℕ)
chained h es met which e zero q = []
chained h es met which e (suc n) q =
    elim (on_chain h es met which (chain_of h (key e).0) q) [
      | true ↦ under_at es met which e q ∷ chained h es met which e n (suc q)
      | false ↦ chained h es met which e n (suc q)
    ]

abbrev pub chain_left : Chain → List (List ℕ)
chain_left c =
    let m = c.chains.meetings in
    chained (length c.chains.heads.now) (pairs m.edges.now) m.met.now (number m.side) (edge_of c.key) (length m.met.now / 5 - c.at) c.at
