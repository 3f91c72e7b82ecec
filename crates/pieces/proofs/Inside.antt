-- Inside the other mesh or not: of the cells whose boxes hold the point some contains it. Assumes nothing.
use mathlib.Core.Path.{◌≡◌, refl, sym, ap, ◌∙◌}
use mathlib.Core.Bool.{Bool, true, false, ◌&&◌, ◌||◌}
use mathlib.Core.List.{List, [], ◌∷◌}
use Prim.Native.Nat.{ℕ, ◌-◌, ◌<◌}
use native.Mathlib.Omega.{arith}
use lib.Dec.{ltb}
use lib.ListN.{length, get_or}
use lib.Ieee.{Float}
use Rattle.std.specs.Prelude.{Some}
use Rattle.std.specs.List.{list_any}
use Rattle.lists.specs.Regions.{run}
use Rattle.lists.specs.Search.{seek, first, has}
use Rattle.lists.proofs.Search.{first_ext}
use Rattle.plane.specs.declared.Point.{Point}
use Rattle.corners.specs.Corners.{turned, oriented, into_ccw2}
use Rattle.insides.specs.Inside.{contains_stable, inside}
use Rattle.entry.specs.Mesh.{prior, cell_size}
use Rattle.rules.specs.declared.Bounds.{Bounds}
use Rattle.rules.specs.Mesh.{cell_at}
use Rattle.rules.specs.SpatialIndex.{box_of, box_holds}
use Rattle.rules.specs.Inside.{some_holds}
use Rattle.spatial_index.specs.Candidates.{point_box}
use Rattle.spatial_index.proofs.Candidates.{any_from, point_meets}
use Rattle.strips.specs.Things.{thing_count, thing_box, thing_meets}
use Rattle.strips.specs.Meeting.{things_meeting}
use Rattle.pieces.specs.Pieces.{runs_of}
use Rattle.pieces.proofs.Runs.{length_runs, run_at}

-- nothing lies inside a cell without corners
inside_none : (coords : List Float) (p : Point) → inside coords [] p ≡ false
unfolding inside into_ccw2 contains_stable oriented
inside_none coords p = go (turned coords [])
  where
    go : (b : Bool) → contains_stable coords (oriented b []) p ≡ false
    go true = refl
    go false = refl

none_passes : (q : ℕ → Bool) → ((j : ℕ) → q j ≡ false) → (js : List ℕ) → list_any q js ≡ false
none_passes q h [] = refl
none_passes q h (j ∷ js) = ap (λ t. t || list_any q js) (h j) ∙ none_passes q h js

module _ (coords : List Float) (nodes : List ℕ) (p : Point) where
  -- run j contains the point
  abbrev pub contains : List ℕ → ℕ → Bool
  contains ends j = inside coords (run nodes (prior ends j) (cell_size ends j)) p

  -- cell j does, and its box holds it
  abbrev holds : List ℕ → ℕ → Bool
  holds ends j = box_holds (box_of coords (get_or (runs_of nodes ends) j [])) p && inside coords (get_or (runs_of nodes ends) j []) p

  holds_is : (e : ℕ) (ends : List ℕ) (j : ℕ) → j < length (e ∷ ends) → thing_meets coords nodes (e ∷ ends) (point_box p) j && contains (e ∷ ends) j ≡ holds (e ∷ ends) j
  unfolding thing_box cell_at
  holds_is e ends j h =
      let c : List ℕ = run nodes (prior (e ∷ ends) j) (cell_size (e ∷ ends) j) in
      ap (λ t. t && inside coords c p) (point_meets (box_of coords c) p) ∙ ap (λ d. box_holds (box_of coords d) p && inside coords d p) (sym (run_at nodes (e ∷ ends) j h))

  -- without ends there is no cell
  some_of : (ends : List ℕ) → list_any (contains ends) (things_meeting coords nodes ends (point_box p) 0) ≡ some_holds coords (runs_of nodes ends) (Some p)
  unfolding some_holds thing_count run first seek
  some_of [] =
      none_passes (contains []) none (things_meeting coords nodes [] (point_box p) 0) ∙ sym (ap (has (holds [])) (length_runs nodes []))
    where
      none : (j : ℕ) → contains [] j ≡ false
      none j = let z : 0 - prior [] j ≡ 0 = omega arith in rw z (inside_none coords p)
  some_of (e ∷ ends) =
      let n : ℕ = length (e ∷ ends) in
      any_from (thing_meets coords nodes (e ∷ ends) (point_box p)) (contains (e ∷ ends)) n
      ∙ ap (λ k. ltb k n) (first_ext _ (holds (e ∷ ends)) n (holds_is e ends)) ∙ sym (ap (has (holds (e ∷ ends))) (length_runs nodes (e ∷ ends)))

  pub some_contains : (ends : List ℕ) (b : Bounds) (r : Bool) → b ≡ point_box p → r ≡ list_any (contains ends) (things_meeting coords nodes ends b 0)
      → r ≡ some_holds coords (runs_of nodes ends) (Some p)
  some_contains ends b r e is = is ∙ ap (λ a. list_any (contains ends) (things_meeting coords nodes ends a 0)) e ∙ some_of ends
