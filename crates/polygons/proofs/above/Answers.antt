use mathlib.Core.Path.{◌∙◌}
use lib.ListN.{length}
use lib.Ieee.{Float, lt}
use Rattle.std.specs.Prelude.{Option}
use Rattle.std.proofs.Common.{rules}
use Rattle.std.proofs.lemmas.Iterator.Consumers.{fold_from_yields_List, YieldsList-from_first}
use Rattle.lists.specs.Gather.{gathered, each}
use Rattle.lists.specs.Sort.{sort_onto, sorted}
use Rattle.plane.specs.declared.Point.{Point}
use Rattle.corners.specs.Corners.{corner_at}
use Rattle.corners.specs.Ring.{as_read, points_left}
use Rattle.corners.proofs.Steps.{fold_each}
use Rattle.polygons.specs.Interior.{height_at, heights}
use Rattle.polygons.specs.Scans.{first_above, closer}
use Rattle.polygons.proofs.Steps.{above_turn}
use Rattle.polygons.proofs.above.Goals as goal

pub returns : goal.returns
unfolding heights gathered first_above sort_onto
returns c =
    let r = c.args.ring in
    let h : Option Float → Point → Option Float = λ b p. closer c.args.h b p.y in
    fold_from_yields_List _ h _ _ c.fold.ensures.ran (YieldsList-from_first (λ x. x) points_left _ c.points.ensures) (λ b p t f k. search rules)
    ∙ fold_each (λ k. first_above c.args.h (sorted lt (each k (height_at r.coords.now (as_read r))))) h (corner_at r.coords.now (as_read r))
    (above_turn c.args.h r.coords.now (as_read r)) (length (as_read r))
