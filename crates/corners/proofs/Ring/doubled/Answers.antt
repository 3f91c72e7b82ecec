use mathlib.Core.Path.{refl, ◌∙◌}
use lib.Ieee.{Float}
use lib.ListN.{length}
use Rattle.std.proofs.Common.{rules}
use Rattle.std.proofs.lemmas.Iterator.Consumers.{fold_from_yields_List, YieldsList-from_first}
use Rattle.plane.specs.Plane.{◌⊕◌, ◌⊖◌, ◌⊗◌}
use Rattle.plane.specs.declared.Point.{Point}
use Rattle.corners.specs.Corners.{area_term, doubled_to, doubled_sum}
use Rattle.corners.specs.Ring.{as_read, edge_at, edges_left}
use Rattle.corners.proofs.Steps.{fold_each}
use Rattle.corners.proofs.Ring.doubled.Goals as goal

pub returns : goal.returns
unfolding doubled_sum doubled_to area_term
returns c =
    let r = c.args.self in
    let h : Float → Point × Point → Float = λ s e. s ⊕ ((e.0.x ⊗ e.1.y) ⊖ (e.1.x ⊗ e.0.y)) in
    fold_from_yields_List _ h _ _ c.fold.ensures.ran (YieldsList-from_first (λ x. x) edges_left _ c.edges.ensures) (λ s e t f k. search rules)
    ∙ fold_each (λ k. doubled_to k r.coords.now (as_read r)) h (edge_at r) (λ k. refl) (length (as_read r))
