-- Cells under other numbers, lines as pairs, and how many edges cells have. Assumes nothing.
use mathlib.Core.Path.{◌≡◌, refl, sym, ap, ap₂, ◌∙◌}
use mathlib.Core.List.{List, [], ◌∷◌, ◌++◌, map, map-append}
use Prim.Native.Nat.{ℕ, zero, suc, ◌+◌, ◌*◌, ◌≤◌, ◌<◌}
use native.Mathlib.Omega.{arith}
use lib.ListN.{length, get_or, take, drop}
use Rattle.lists.specs.Gather.{gathered, each}
use Rattle.lists.specs.Regions.{run}
use Rattle.lists.proofs.Gather.{each_ext, each_get_or}
use Rattle.lists.proofs.Regions.{get_or_run}
use Rattle.cutting.specs.Edges.{edge_at}
use Rattle.cutting.specs.Lent.{pairs}
use Rattle.cutting.proofs.Pairs.{pairs_length, pairs_at}
use Rattle.entry.specs.Mesh.{Mesh, mesh, prior, cell_size}
use Rattle.rules.specs.Mesh.{cell_at, cells_of}
use Rattle.rules.specs.Neighbours.{line_edges}

abbrev pub cells_in : List ℕ → List ℕ → List (List ℕ)
cells_in nodes ends = cells_of (mesh [] [] nodes ends [] [])

-- only node entries and ends count
pub cells_lists : (m : Mesh) → cells_of m ≡ cells_in m.nodes m.ends
unfolding cells_of cell_at
cells_lists m = refl

-- ---- other numbers

module _ {A B : Type 0} (f : A → B) where
  map_take : (n : ℕ) (xs : List A) → map f (take n xs) ≡ take n (map f xs)
  map_take zero xs = refl
  map_take (suc n) [] = refl
  map_take (suc n) (x ∷ xs) = ap (λ (l : List B). f x ∷ l) (map_take n xs)

  map_drop : (n : ℕ) (xs : List A) → map f (drop n xs) ≡ drop n (map f xs)
  map_drop zero xs = refl
  map_drop (suc n) [] = refl
  map_drop (suc n) (x ∷ xs) = map_drop n xs

  map_run : (w : List A) (b n : ℕ) → map f (run w b n) ≡ run (map f w) b n
  unfolding run
  map_run w b n = map_take n (drop b w) ∙ ap (take n) (map_drop b w)

  map_each : (n : ℕ) (g : ℕ → A) → map f (each n g) ≡ each n (λ i. f (g i))
  unfolding gathered
  map_each zero g = refl
  map_each (suc n) g = map-append f (each n g) (g n ∷ []) ∙ ap (λ (l : List B). l ++ f (g n) ∷ []) (map_each n g)

pub cells_renumbered : (f : ℕ → ℕ) (nodes ends : List ℕ) → cells_in (map f nodes) ends ≡ map (map f) (cells_in nodes ends)
unfolding cells_of cell_at
cells_renumbered f nodes ends =
    each_ext (length ends) _ _ (λ i h. sym (map_run f nodes (prior ends i) (cell_size ends i))) ∙ sym (map_each (map f) (length ends) (cell_at (mesh [] [] nodes ends [] [])))

-- ---- lines: two entries each

module _ (xs ends : List ℕ) (rises : (i : ℕ) → i < length ends → prior ends i < get_or ends i 0) (two : (i : ℕ) → i < length ends → cell_size ends i ≡ 2) where
  pub prior_two : (i : ℕ) → i ≤ length ends → prior ends i ≡ 2 * i
  unfolding prior
  prior_two zero h = refl
  prior_two (suc i) h = omega (arith, two i (omega (arith, h)), rises i (omega (arith, h)), prior_two i (omega (arith, h)))

  pub line_pairs : length xs ≡ 2 * length ends → line_edges (cells_in xs ends) ≡ pairs xs
  unfolding cells_of cell_at
  line_pairs len =
      let half : length (pairs xs) ≡ length ends = omega (arith, pairs_length xs, len) in
      map_each (λ l. (get_or l 0 0, get_or l 1 0)) (length ends) (cell_at (mesh [] [] xs ends [] []))
      ∙ each_ext (length ends) _ _ (λ i h. pair_at i h) ∙ ap (λ (n : ℕ). each n (edge_at (pairs xs))) (sym half) ∙ each_get_or (pairs xs) (0, 0)
    where
      corner : (i k : ℕ) → i < length ends → k < 2 → get_or (run xs (prior ends i) (cell_size ends i)) k 0 ≡ get_or xs (2 * i + k) 0
      corner i k h l = ap₂ (λ (b n : ℕ). get_or (run xs b n) k 0) (prior_two i (omega arith)) (two i h) ∙ get_or_run xs (2 * i) 2 k 0 l

      pair_at : (i : ℕ) → i < length ends → (get_or (run xs (prior ends i) (cell_size ends i)) 0 0, get_or (run xs (prior ends i) (cell_size ends i)) 1 0) ≡ edge_at (pairs xs) i
      pair_at i h =
          let low : 2 * i + 0 ≡ 2 * i = omega arith in
          ap₂ (λ (a b : ℕ). (a, b)) (corner i 0 h (omega arith) ∙ ap (λ (k : ℕ). get_or xs k 0) low) (corner i 1 h (omega arith)) ∙ sym (pairs_at xs i (omega (arith, len, h)))
