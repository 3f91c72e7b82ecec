-- The marks of used nodes. Assumes nothing.
use mathlib.Core.Path.{◌≡◌, refl, ap, ◌∙◌}
use mathlib.Core.Bool.{Bool, true, false, not}
use mathlib.Core.List.{List}
use Prim.Native.Nat.{ℕ, ◌+◌, ◌<◌}
use native.Mathlib.Nat.{zero-add}
use lib.Dec.{eqb}
use lib.ListN.{length, get_or}
use Rattle.lists.specs.Search.{named, bit}
use Rattle.lists.specs.Marks.{marks_from}
use Rattle.lists.proofs.Gather.{length_each, get_or_each}
use Rattle.snap.specs.Steps.{used, marked}

module _ (nodes : List ℕ) (n : ℕ) where
  pub length_used : length (used nodes n) ≡ n
  unfolding marks_from
  length_used = length_each n (λ i. bit (named nodes (0 + i)))

  pub get_or_used : (i : ℕ) → i < n → get_or (used nodes n) i 0 ≡ bit (named nodes i)
  unfolding marks_from
  get_or_used i h = get_or_each n (λ i. bit (named nodes (0 + i))) i 0 h ∙ ap (λ (k : ℕ). bit (named nodes k)) (zero-add i)

  -- a node is marked where some element names it
  pub marked_used : (i : ℕ) → i < n → marked (used nodes n) i ≡ named nodes i
  marked_used i h = ap (λ (m : ℕ). not (eqb m 0)) (get_or_used i h) ∙ go (named nodes i)
    where
      go : (t : Bool) → not (eqb (bit t) 0) ≡ t
      go true = refl
      go false = refl
