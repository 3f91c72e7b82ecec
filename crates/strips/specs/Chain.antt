-- What the walk along a chain has left. Assumes nothing.
use Rattle.std.specs.Prelude.{List, ℕ}
use Rattle.spatial_index.specs.Candidates.{places_from}
use Rattle.strips.specs.declared.gathering.Chain.{Chain}
use Rattle.strips.specs.Index.{on_chain}
use Rattle.strips.specs.Search.{chain_of, count}

-- the things from `at` on that are on its chain
abbrev pub chain_left : Chain → List ℕ
chain_left c =
    let g = c.search.now in
    places_from (on_chain (chain_of g) (chain_of g c.at)) c.at (count g)
