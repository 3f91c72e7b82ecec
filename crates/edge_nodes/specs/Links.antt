-- The meetings chained by the smaller node of their edges' keys, in a lent list: those under one key are on one chain. Assumes nothing.
use Rattle.std.specs.Prelude.{◌≡◌, Bool, List, ◌++◌, ℕ, ◌+◌, ◌*◌, ◌-◌, ◌/◌, ◌<◌, eqb, length, get_or}
use Rattle.lists.specs.Search.{first}
use Rattle.lists.specs.Gather.{each}
use Rattle.cutting.specs.Edges.{Edge, edge_at}
use Rattle.keys.specs.Chains.{edge_chain}

module _ (h : ℕ) (es : List Edge) (met : List ℕ) (which : ℕ) where
  -- the chain of meeting q's edge among es: `which` is 0 for its subject edge and 1 for its cutter edge
  unfoldable pub chain_at : ℕ → ℕ
  chain_at q = edge_chain h (edge_at es (get_or met (5 * q + which) 0))

  abbrev pub on_chain : ℕ → ℕ → Bool
  on_chain c q = eqb (chain_at q) c

  -- the first meeting on chain c; the number of meetings where there is none
  unfoldable pub head_at : ℕ → ℕ
  head_at c = first (on_chain c) 0 (length met / 5)

  -- the next one on the chain of meeting q
  unfoldable pub next_at : ℕ → ℕ
  next_at q = first (on_chain (chain_at q)) (q + 1) (length met / 5)

-- the heads of h chains by subject edges and of h by cutter edges, then the next ones of each meeting by the two
unfoldable pub links_of : ℕ → List Edge → List Edge → List ℕ → List ℕ
links_of h subject cutter met =
    each h (head_at h subject met 0) ++ each h (head_at h cutter met 1) ++ each (length met / 5) (next_at h subject met 0) ++ each (length met / 5) (next_at h cutter met 1)

-- the list `links` holds them, for some number of chains
pub record Linked (subject cutter : List Edge) (met links : List ℕ) : Type 0 where
  pub some : length met / 5 < length links / 2
  pub are : links ≡ links_of (length links / 2 - length met / 5) subject cutter met
