-- W5: which new points an answer counts, by its lists alone. The theorems stand in proofs/Counted.antt. Assumes nothing.
use Rattle.std.specs.Prelude.{◌↔◌, ◌≡◌, List, ℕ, ◌≤◌, ◌<◌, length, get_or}
use Rattle.entry.specs.Mesh.{prior}
use Rattle.rules.specs.Overlay.{Result}

-- one of the first k entries of a list is n
abbrev pub Among : List ℕ → ℕ → ℕ → Type 0
Among xs k n = (i : ℕ) × (i < k) × (get_or xs i 0 ≡ n)

-- how many node entries the answer's pieces have: where the last one ends
abbrev pub entry_count : Result → ℕ
entry_count r = prior r.lists.ends r.pieces

-- some entry of the answer's node list is n
abbrev pub Entered : Result → ℕ → Type 0
Entered r n = Among r.lists.nodes (entry_count r) n

-- The second number of r counts the points ns, where the first `lent` nodes are lent: each once; and a point is counted exactly when its number is not below
-- `lent` and some entry of the answer's node list is it.
pub record CountsPoints (r : Result) (lent : ℕ) (ns : List ℕ) : Type 0 where
  pub count : r.points ≡ length ns
  pub rising : (j k : ℕ) → j < k → k < length ns → get_or ns j 0 < get_or ns k 0
  pub exactly : (n : ℕ) → Among ns (length ns) n ↔ (lent ≤ n) × Entered r n
