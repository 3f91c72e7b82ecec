-- The cells of a mesh are the runs of its node numbers, and what is tested of each cell is tested of each run. Assumes nothing.
use mathlib.Core.Path.{◌≡◌, refl, sym, ap, ap₂, ◌∙◌}
use mathlib.Core.Bool.{Bool, true, ◌&&◌}
use mathlib.Core.List.{List, [], ◌∷◌}
use Prim.Native.Nat.{ℕ, zero, suc, ◌-◌, ◌<◌}
use native.Mathlib.Omega.{arith}
use lib.Dec.{leb}
use lib.ListN.{length, get_or}
use Rattle.std.specs.List.{list_all, zip}
use Rattle.lists.specs.Search.{every}
use Rattle.lists.specs.Gather.{gathered, each}
use Rattle.lists.specs.Regions.{run}
use Rattle.lists.specs.Runs.{runs_from, runs}
use Rattle.lists.proofs.Gather.{each_head, each_ext, each_get_or}
use Rattle.lists.proofs.Library.{every_each, zip_each}
use Rattle.lists.proofs.Regions.{length_run}
use Rattle.lists.proofs.Search.{every_both, every_ext}
use Rattle.entry.specs.Mesh.{prior, cell_size}
use Rattle.entry.specs.Refused.{ends_ok, kind_ok, kinds_ok, cell_ok, cells_ok}
use Rattle.entry.proofs.Ends.{end_at}

-- where run i starts, where the first starts at s
start : ℕ → List ℕ → ℕ → ℕ
start s ends zero = s
start s ends (suc i) = get_or ends i 0

start_is : (ends : List ℕ) (i : ℕ) → start 0 ends i ≡ prior ends i
unfolding prior start
start_is ends zero = refl
start_is ends (suc i) = refl

module _ (xs : List ℕ) where
  abbrev run_at : ℕ → List ℕ → ℕ → List ℕ
  run_at s ends i = run xs (start s ends i) (get_or ends i 0 - start s ends i)

  next : (s e : ℕ) (ends : List ℕ) (i : ℕ) → run_at e ends i ≡ run_at s (e ∷ ends) (suc i)
  unfolding start
  next s e ends zero = refl
  next s e ends (suc i) = refl

  from : (s : ℕ) (ends : List ℕ) → runs_from s xs ends ≡ each (length ends) (run_at s ends)
  unfolding runs_from gathered start
  from s [] = refl
  from s (e ∷ ends) =
      ap (λ (l : List (List ℕ)). run xs s (e - s) ∷ l) (from e ends ∙ each_ext (length ends) _ _ (λ i h. next s e ends i))
      ∙ sym (each_head (length ends) (run_at s (e ∷ ends)))

  pub runs_are : (ends : List ℕ) → runs xs ends ≡ each (length ends) (λ i. run xs (prior ends i) (cell_size ends i))
  runs_are ends = from 0 ends ∙ each_ext (length ends) _ _ (λ i h. ap (λ (k : ℕ). run xs k (get_or ends i 0 - k)) (start_is ends i))

  pub cells_are : (ends : List ℕ) → list_all cell_ok (runs xs ends) ≡ cells_ok xs ends
  unfolding cells_ok
  cells_are ends = ap (list_all cell_ok) (runs_are ends) ∙ sym (every_each cell_ok (length ends) (λ i. run xs (prior ends i) (cell_size ends i)))

  -- the kinds beside the runs
  pub sizes_are : (lines : Bool) (kinds ends : List ℕ) → length kinds ≡ length ends → ends_ok ends (length xs) ≡ true
      → list_all (λ p. kind_ok lines p.0 (length p.1)) (zip kinds (runs xs ends)) ≡ every (length ends) (λ i. kind_ok lines (get_or kinds i 0) (cell_size ends i))
  sizes_are lines kinds ends long ok =
      let n : ℕ = length ends in
      let kind : ℕ → ℕ = λ i. get_or kinds i 0 in
      let cell : ℕ → List ℕ = λ i. run xs (prior ends i) (cell_size ends i) in
      let size = λ (i : ℕ) (h : i < n). length_run xs (prior ends i) (cell_size ends i) (omega (arith, end_at ends (length xs) ok i h)) in
      let passes : ℕ × List ℕ → Bool = λ p. kind_ok lines p.0 (length p.1) in
      ap₂ (λ (ks : List ℕ) (rs : List (List ℕ)). list_all passes (zip ks rs)) (sym (each_get_or kinds 0) ∙ ap (λ (m : ℕ). each m kind) long) (runs_are ends)
      ∙ ap (list_all passes) (zip_each n kind cell)
      ∙ sym (every_each passes n (λ i. (kind i, cell i)))
      ∙ every_ext n _ _ (λ i h. ap (kind_ok lines (kind i)) (size i h))

  -- with a test that none is below the one before
  pub kinds_are : (lines : Bool) (kinds ends : List ℕ) → length kinds ≡ length ends → ends_ok ends (length xs) ≡ true
      → (t : Bool) → t ≡ every (length kinds) (λ i. leb (prior kinds i) (get_or kinds i 0))
      → t && list_all (λ p. kind_ok lines p.0 (length p.1)) (zip kinds (runs xs ends)) ≡ kinds_ok lines kinds ends
  unfolding kinds_ok
  kinds_are lines kinds ends long ok t is =
      ap₂ (λ (a b : Bool). a && b) (is ∙ ap (λ (m : ℕ). every m (λ i. leb (prior kinds i) (get_or kinds i 0))) long) (sizes_are lines kinds ends long ok)
      ∙ every_both (λ i. leb (prior kinds i) (get_or kinds i 0)) (λ i. kind_ok lines (get_or kinds i 0) (cell_size ends i)) (length ends)
