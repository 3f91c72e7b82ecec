-- A fold that stretches a box from node to node. Assumes nothing.
use mathlib.Core.Path.{◌≡◌, refl, sym, ap, ◌∙◌}
use mathlib.Core.List.{List, [], ◌∷◌}
use Prim.Native.Nat.{ℕ, zero, suc}
use lib.ListN.{length, get_or}
use lib.Ieee.{Float}
use Rattle.std.specs.List.{fold}
use Rattle.std.proofs.lemmas.List.Sums.{fold-append}
use Rattle.lists.specs.Gather.{gathered, each}
use Rattle.lists.proofs.Gather.{each_get_or}
use Rattle.plane.specs.Plane.{point_at}
use Rattle.rules.specs.declared.Bounds.{Bounds}
use Rattle.rules.specs.SpatialIndex.{stretched, box_to, box_of}

module _ (coords : List Float) (ns : List ℕ) where
  abbrev grown : Bounds → ℕ → Bounds
  grown b v = stretched b (point_at coords v)

  first_nodes : (n : ℕ) → fold grown (box_of [] []) (each n (λ i. get_or ns i 0)) ≡ box_to n coords ns
  unfolding gathered box_to
  first_nodes zero = refl
  first_nodes (suc n) =
      fold-append grown (box_of [] []) (each n (λ i. get_or ns i 0)) (get_or ns n 0 ∷ []) ∙ ap (λ (b : Bounds). grown b (get_or ns n 0)) (first_nodes n)

  pub box_fold : fold grown (box_of [] []) ns ≡ box_of coords ns
  box_fold = ap (fold grown (box_of [] [])) (sym (each_get_or ns 0)) ∙ first_nodes (length ns)
