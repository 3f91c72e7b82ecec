-- The things, by whether there are ends. Assumes nothing.
use mathlib.Core.Path.{◌≡◌, refl, sym, ap, ◌∙◌}
use mathlib.Core.List.{List, [], ◌∷◌}
use Prim.Native.Nat.{ℕ, zero, suc, ◌+◌, ◌*◌, ◌-◌, ◌/◌, ◌<◌}
use native.Mathlib.Omega.{arith}
use lib.ListN.{length, get_or}
use lib.Ieee.{Float}
use Rattle.lists.specs.Regions.{run}
use Rattle.cutting.proofs.Pairs.{pairs_at}
use Rattle.entry.specs.Mesh.{prior, cell_size}
use Rattle.rules.specs.declared.Bounds.{Bounds}
use Rattle.rules.specs.SpatialIndex.{box_of, edge_box}
use Rattle.strips.specs.Things.{thing_count, start_of, thing_box}

-- ---- where a run starts

pub prior_first : (ends : List ℕ) (j : ℕ) → j ≡ 0 → 0 ≡ prior ends j
unfolding prior
prior_first ends zero e = refl
prior_first ends (suc j) e = absurd (omega (arith, e))

pub prior_later : (ends : List ℕ) (j r : ℕ) → (j ≡ 0 → ⊥) → r ≡ get_or ends (j - 1) 0 → r ≡ prior ends j
unfolding prior
prior_later ends zero r n e = absurd (n refl)
prior_later ends (suc j) r n e =
    let z : suc j - 1 ≡ j = omega arith in
    e ∙ ap (λ (i : ℕ). get_or ends i 0) z

-- ---- pairs

module _ (nodes : List ℕ) where
  pub count_pairs : (ends : List ℕ) → length ends ≡ 0 → length nodes / 2 ≡ thing_count nodes ends
  unfolding thing_count
  count_pairs [] e = refl
  count_pairs (x ∷ ends) e = absurd (omega (arith, e))

  pub box_pairs : (coords : List Float) (ends : List ℕ) (j : ℕ) (r : Bounds) → length ends ≡ 0 → j < thing_count nodes ends
      → r ≡ edge_box coords (get_or nodes (2 * j) 0, get_or nodes (2 * j + 1) 0) → r ≡ thing_box coords nodes ends j
  unfolding thing_count thing_box
  box_pairs coords [] j r e l is = is ∙ ap (edge_box coords) (sym (pairs_at nodes j l))
  box_pairs coords (x ∷ ends) j r e l is = absurd (omega (arith, e))

pub start_pairs : (ends : List ℕ) (j : ℕ) → length ends ≡ 0 → 2 * j ≡ start_of ends j
unfolding start_of
start_pairs [] j e = refl
start_pairs (x ∷ ends) j e = absurd (omega (arith, e))

-- ---- runs

module _ (nodes : List ℕ) where
  pub count_runs : (ends : List ℕ) → (length ends ≡ 0 → ⊥) → length ends ≡ thing_count nodes ends
  unfolding thing_count
  count_runs [] e = absurd (e refl)
  count_runs (x ∷ ends) e = refl

  pub box_runs : (coords : List Float) (ends : List ℕ) (j : ℕ) → (length ends ≡ 0 → ⊥)
      → box_of coords (run nodes (prior ends j) (cell_size ends j)) ≡ thing_box coords nodes ends j
  unfolding thing_box
  box_runs coords [] j e = absurd (e refl)
  box_runs coords (x ∷ ends) j e = refl

pub start_runs : (ends : List ℕ) (j r : ℕ) → (length ends ≡ 0 → ⊥) → r ≡ prior ends j → r ≡ start_of ends j
unfolding start_of
start_runs [] j r e is = absurd (e refl)
start_runs (x ∷ ends) j r e is = is
