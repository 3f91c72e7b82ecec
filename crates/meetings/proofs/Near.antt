-- An edge as it is read, and its candidates, as `near` of crate `strips` finds them. Assumes nothing.
use mathlib.Core.Path.{◌≡◌, ap, ◌∙◌}
use mathlib.Core.List.{List, [], ◌∷◌}
use Prim.Native.Nat.{ℕ, suc, ◌/◌, ◌≤◌, ◌<◌}
use native.Mathlib.Omega.{arith}
use lib.ListN.{length, get_or}
use lib.Ieee.{Float}
use Rattle.cutting.specs.Edges.{Edge, edge_at}
use Rattle.cutting.specs.Lent.{pairs}
use Rattle.std.specs.Simd.{first_chunks}
use Rattle.std.proofs.lemmas.List.{get_or_default}
use Rattle.cutting.proofs.Chunks.{chunk_at}
use Rattle.rules.specs.declared.Bounds.{Bounds}
use Rattle.rules.specs.SpatialIndex.{candidates}
use Rattle.spatial_index.specs.Candidates.{meets}
use Rattle.spatial_index.proofs.Candidates.{candidates_from_lem}
use Rattle.lists.proofs.Gather.{places_at}
use Rattle.cutting.proofs.Pairs.{pairs_length}
use Rattle.strips.specs.Things.{thing_count}
use Rattle.strips.specs.Meeting.{things_meeting}
use Rattle.strips.proofs.Uses.{pairs_meeting}

-- the numbers of edge i are a pair, read from the list in pairs
pub edge_read : (es : List ℕ) (i : ℕ) (chunks : List (List ℕ)) → chunks ≡ first_chunks 2 (length es / 2) es → length chunks ≡ length es / 2 → i < length es / 2
    → ◌≡◌ {A = Edge} (get_or (get_or chunks i []) 0 0, get_or (get_or chunks i []) 1 0) (edge_at (pairs es) i)
edge_read es i chunks e n h = chunk_at es chunks i (get_or chunks i []) e (get_or_default chunks i [] (0 ∷ 0 ∷ []) (omega (arith, n, h)))

-- how many things there are without ends
pub pairs_few : (fs ends : List ℕ) → ends ≡ [] → thing_count fs ends ≤ 65536 → length fs / 2 ≤ 65536
unfolding thing_count
pairs_few fs ends e few = omega (arith, few, ap (λ (xs : List ℕ). thing_count fs xs) e)

-- the things near an edge, where things have no ends
pub near_are : (coords : List Float) (fs ends : List ℕ) (b b₀ : Bounds) → ends ≡ [] → b ≡ b₀ → things_meeting coords fs ends b 0 ≡ candidates coords (pairs fs) b₀
near_are coords fs ends b b₀ none e =
    ap (λ (xs : List ℕ). things_meeting coords fs xs b 0) none ∙ pairs_meeting coords fs b 0 ∙ candidates_from_lem coords (pairs fs) b ∙ ap (candidates coords (pairs fs)) e

-- all are below n
abbrev pub Below : ℕ → List ℕ → Type 0
Below n [] = Unit {0}
Below n (x ∷ xs) = (x < n) × Below n xs

all_below : (n : ℕ) (xs : List ℕ) → ((k : ℕ) → k < length xs → get_or xs k 0 < n) → Below n xs
all_below n [] h = tt
all_below n (x ∷ xs) h = (h 0 (omega arith), all_below n xs (λ k l. h (suc k) (omega (arith, l))))

-- candidates are edges
pub near_below : (coords : List Float) (fs : List ℕ) (b : Bounds) → Below (length fs / 2) (candidates coords (pairs fs) b)
unfolding candidates
near_below coords fs b =
    all_below (length fs / 2) (candidates coords (pairs fs) b) (λ k l. omega (arith, (places_at (meets coords (pairs fs) b) (length (pairs fs)) k l).0, pairs_length fs))
