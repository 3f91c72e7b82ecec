-- Edges added one by one; edges in a flat list. Assumes nothing.
use mathlib.Core.Path.{◌≡◌, refl, sym, ap, ◌∙◌}
use mathlib.Core.Bool.{Bool, true, false, cond}
use mathlib.Core.List.{List, [], ◌∷◌, ◌++◌}
use Prim.Native.Nat.{ℕ, zero, suc, ◌+◌, ◌*◌, ◌-◌, ◌≤◌, ◌<◌}
use native.Mathlib.Omega.{arith}
use lib.ListN.{length, get_or, drop, length-append, length-take}
use lib.Seq.{drop-cons}
use Rattle.std.proofs.lemmas.List.{drop_all}
use Rattle.lists.specs.Search.{has}
use Rattle.lists.specs.Gather.{joined}
use Rattle.lists.specs.Regions.{run}
use Rattle.lists.specs.Runs.{runs_from, runs}
use Rattle.lists.proofs.Gather.{joined_snoc}
use Rattle.cutting.specs.Edges.{Edge, edge_at, same_key, ring}
use Rattle.cutting.specs.Lent.{pairs, flat_edges}
use Rattle.entry.specs.Mesh.{mesh, prior, Rising}
use Rattle.entry.proofs.Runs.{runs_are}
use Rattle.rules.specs.Mesh.{cell_at, cells_of}
use Rattle.rules.specs.Neighbours.{added, added_all, descending_to, compute_descending}
use Rattle.rules.proofs.Rings.{length_ring}
use Rattle.neighbours.specs.Held.{cells_added}

-- ---- edges added

-- at most one is added
pub length_added : (es : List Edge) (e : Edge) → (length es ≤ length (added es e)) × (length (added es e) ≤ length es + 1)
unfolding added
length_added es e = go (has (λ i. same_key (edge_at es i) e) (length es))
  where
    go : (b : Bool) → (length es ≤ length (cond b es (es ++ e ∷ []))) × (length (cond b es (es ++ e ∷ [])) ≤ length es + 1)
    go true = (omega arith, omega arith)
    go false = simp length-append (omega arith, omega arith)

pub length_added_all : (fs es : List Edge) → (length es ≤ length (added_all es fs)) × (length (added_all es fs) ≤ length es + length fs)
unfolding added_all
length_added_all [] es = (omega arith, omega arith)
length_added_all (f ∷ fs) es =
    let a = length_added es f in
    let b = length_added_all fs (added es f) in
    (omega arith, omega arith)

-- how many corners cells have
unfoldable pub corner_count : List (List ℕ) → ℕ
corner_count [] = 0
corner_count (cell ∷ cells) = length cell + corner_count cells

pub corner_count_more : (cell : List ℕ) (cells : List (List ℕ)) → corner_count (cell ∷ cells) ≡ length cell + corner_count cells
unfolding corner_count
corner_count_more cell cells = refl

pub length_cells_added : (cells : List (List ℕ)) (es : List Edge) → length (cells_added es cells) ≤ length es + corner_count cells
unfolding cells_added corner_count
length_cells_added [] es = omega arith
length_cells_added (cell ∷ cells) es = omega (arith, length_cells_added cells (added_all es (ring cell)), (length_added_all (ring cell) es).1, length_ring cell)

-- ---- the cells of a mesh

-- ends that rise, from s on
unfoldable Rises : ℕ → List ℕ → ℕ → Type 0
Rises s [] n = s ≤ n
Rises s (e ∷ es) n = (s ≤ e) × Rises e es n

corners_from : (xs : List ℕ) (s n : ℕ) (ends : List ℕ) → Rises s ends n → (corner_count (runs_from s xs ends) + s ≤ n)
unfolding Rises runs_from run corner_count
corners_from xs s n [] h = omega (arith, h)
corners_from xs s n (e ∷ ends) h = omega (arith, corners_from xs e n ends h.1, h.0, length-take (e - s) (drop s xs))

rises : (s n : ℕ) (ends : List ℕ) → s ≤ n → ((i : ℕ) → i < length ends → (get_or (s ∷ ends) i 0 ≤ get_or ends i 0) × (get_or ends i 0 ≤ n)) → Rises s ends n
unfolding Rises
rises s n [] h up = h
rises s n (e ∷ ends) h up = ((up 0 (omega arith)).0, rises e n ends (up 0 (omega arith)).1 (λ i l. up (suc i) (omega (arith, l))))

before : (ends : List ℕ) (i : ℕ) → get_or (0 ∷ ends) i 0 ≡ prior ends i
unfolding prior
before ends zero = refl
before ends (suc i) = refl

-- they have no more corners than there are node numbers
pub fewer_corners : (nodes ends : List ℕ) → Rising ends (length nodes) → corner_count (runs nodes ends) ≤ length nodes
fewer_corners nodes ends up =
    omega (arith, corners_from nodes 0 (length nodes) ends (rises 0 (length nodes) ends (omega arith) (λ i l. rw (before ends i) (up i l))))

-- the edges of the first i cells, and of the others behind them
added_from : (cells : List (List ℕ)) (k i : ℕ) → i + k ≡ length cells → cells_added (descending_to i cells) (drop i cells) ≡ compute_descending cells
unfolding cells_added descending_to
added_from cells zero i h =
    let e : i ≡ length cells = omega (arith, h) in
    ap (cells_added (descending_to i cells)) (drop_all i cells (omega (arith, e))) ∙ ap (λ (j : ℕ). descending_to j cells) e
added_from cells (suc k) i h =
    ap (cells_added (descending_to i cells)) (drop-cons cells i [] (omega (arith, h))) ∙ added_from cells k (suc i) (omega (arith, h))

pub all_added : (nodes ends : List ℕ) → cells_added [] (runs nodes ends) ≡ compute_descending (cells_of (mesh [] [] nodes ends [] []))
unfolding descending_to cells_of cell_at
all_added nodes ends = rw (sym (runs_are nodes ends)) (added_from (runs nodes ends) (length (runs nodes ends)) 0 (omega arith))

-- at most one for each entry
pub few_edges : (nodes ends : List ℕ) → Rising ends (length nodes) → length (compute_descending (cells_of (mesh [] [] nodes ends [] []))) ≤ length nodes
few_edges nodes ends up = omega (arith, length_cells_added (runs nodes ends) [], fewer_corners nodes ends up, ap length (all_added nodes ends))

-- ---- flat

pub ends_snoc : (es : List Edge) (e : Edge) → flat_edges (es ++ e ∷ []) ≡ flat_edges es ++ (e.0 ∷ e.1 ∷ [])
unfolding flat_edges
ends_snoc es e = joined_snoc (λ f. f.0 ∷ f.1 ∷ []) es e

pub ends_pairs : (xs : List ℕ) (k : ℕ) → length xs ≡ 2 * k → flat_edges (pairs xs) ≡ xs
unfolding flat_edges pairs joined
ends_pairs [] k h = refl
ends_pairs (a ∷ []) k h = absurd (omega (arith, h))
ends_pairs (a ∷ b ∷ xs) zero h = absurd (omega (arith, h))
ends_pairs (a ∷ b ∷ xs) (suc k) h = ap (λ (l : List ℕ). a ∷ b ∷ l) (ends_pairs xs k (omega (arith, h)))
