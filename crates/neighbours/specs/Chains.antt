-- Edges on chains by the smaller node of their keys: those with one key are on one chain. Assumes nothing.
use Rattle.std.specs.Prelude.{◌≡◌, Bool, true, false, List, [], ◌∷◌, ℕ, zero, suc, ◌<◌, eqb, length, get_or}
use Rattle.cutting.specs.Edges.{Edge, edge_at}
use Rattle.keys.specs.Chains.{edge_chain}

-- 1 + the last index below n that passes p; 0 where none does
unfoldable pub last_below : (ℕ → Bool) → ℕ → ℕ
last_below p zero = 0
last_below p (suc n) = elim (p n) [ true ↦ suc n | false ↦ last_below p n ]

abbrev pub on_chain : ℕ → List Edge → ℕ → ℕ → Bool
on_chain h es c i = eqb (edge_chain h (edge_at es i)) c

-- of the first n edges those on chain c, from the last to the first
unfoldable pub edges_below : ℕ → List Edge → ℕ → ℕ → List Edge
edges_below h es c zero = []
edges_below h es c (suc n) = elim (on_chain h es c n) [ true ↦ edge_at es n ∷ edges_below h es c n | false ↦ edges_below h es c n ]

-- two lists hold the chains of edges: for each chain 1 + its last edge, and for each edge 1 + the one before it on its chain; 0 for none
pub record Chained (es : List Edge) (heads nexts : List ℕ) : Type 0 where
  pub head : (c : ℕ) → c < length heads → get_or heads c 0 ≡ last_below (on_chain (length heads) es c) (length es)
  pub next : (e : ℕ) → e < length es → get_or nexts e 0 ≡ last_below (on_chain (length heads) es (edge_chain (length heads) (edge_at es e))) e
