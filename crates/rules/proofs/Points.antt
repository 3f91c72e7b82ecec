-- The named new points are counted from the first new point on. Assumes nothing.
use mathlib.Core.Path.{◌≡◌, ap, ap₂, ◌∙◌}
use mathlib.Core.Bool.{Bool, ◌&&◌}
use mathlib.Core.List.{List, map}
use Prim.Native.Nat.{ℕ, ◌+◌}
use native.Mathlib.Nat.{zero-add}
use native.Mathlib.Omega.{arith}
use lib.Dec.{leb}
use lib.ListN.{length}
use borrow.Author.Tests.{le-leb, lt-leb}
use Rattle.lists.specs.Search.{named, many}
use Rattle.lists.proofs.Search.{many_append, many_none}
use Rattle.lists.proofs.Gather.{length_places, many_ext}
use Rattle.cutting.specs.Outcome.{flat}
use Rattle.rules.specs.Operations.{Piece}
use Rattle.rules.specs.Overlay.{named_points}

pub points_counted : (lent added : ℕ) (ps : List Piece)
    → length (named_points lent (lent + added) ps) ≡ many (λ k. named (flat (map (λ (p : Piece). p.nodes) ps)) (lent + k)) added
unfolding named_points
points_counted lent added ps =
    length_places new (lent + added) ∙ many_append new lent added
    ∙ ap₂ (λ (a b : ℕ). a + b) (many_none new lent (λ i h. ap (λ (t : Bool). t && named entries i) (lt-leb lent i h)))
    (many_ext (λ k. new (lent + k)) (λ k. named entries (lent + k)) added
    (λ k h. ap (λ (t : Bool). t && named entries (lent + k)) (le-leb lent (lent + k) (omega arith))))
    ∙ zero-add (many (λ k. named entries (lent + k)) added)
  where
    entries : List ℕ
    entries = flat (map (λ (p : Piece). p.nodes) ps)

    new : ℕ → Bool
    new n = leb lent n && named entries n
