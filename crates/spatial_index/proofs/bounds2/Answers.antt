-- `spatial_index::bounds2` meets its contract. Assumes nothing.
use mathlib.Core.Path.{ap, ◌∙◌}
use Prim.Native.Nat.{ℕ}
use Rattle.std.specs.List.{fold}
use Rattle.std.proofs.Common.{rules}
use Rattle.std.proofs.lemmas.Iterator.{YieldsList-from_slice}
use Rattle.std.proofs.lemmas.Iterator.Consumers.{fold_from_yields_List}
use Rattle.plane.specs.Plane.{point_at}
use Rattle.rules.specs.declared.Bounds.{Bounds}
use Rattle.rules.specs.SpatialIndex.{stretched}
use Rattle.spatial_index.proofs.Turns.{box_fold}
use Rattle.spatial_index.proofs.bounds2.Goals as goal

pub returns : goal.returns
returns c =
    let coords = c.args.coords.now in
    let h : Bounds → ℕ → Bounds = λ b v. stretched b (point_at coords v) in
    fold_from_yields_List _ h _ _ c.fold.ensures.ran (YieldsList-from_slice c.args.nodes.now cc) (λ b v t f k. search rules)
    ∙ ap (λ b. fold h b c.args.nodes.now) c.empty.ensures ∙ box_fold coords c.args.nodes.now
