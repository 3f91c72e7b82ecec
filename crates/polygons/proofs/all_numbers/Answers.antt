use mathlib.Core.Path.{◌∙◌}
use mathlib.Core.Bool.{not}
use lib.ListN.{length}
use lib.Ieee.{is_nan}
use borrow.Author.Tests.{tests}
use Rattle.std.proofs.Common.{rules}
use Rattle.std.proofs.lemmas.Iterator.Consumers.{YieldsList-from_first}
use Rattle.std.proofs.lemmas.Iterator.Search.{all_from_yields_List}
use Rattle.plane.specs.declared.Point.{Point}
use Rattle.corners.specs.Corners.{corner_at}
use Rattle.corners.specs.Ring.{as_read, points_left}
use Rattle.polygons.specs.Interior.{heights}
use Rattle.polygons.proofs.Steps.{numbers_are}
use Rattle.polygons.proofs.all_numbers.Goals as goal

pub returns : goal.returns
unfolding heights
returns c =
    let r = c.args.ring in
    all_from_yields_List (λ (p : Point). not (is_nan p.y)) c.all.new.self _ c.all.result c.all.ensures.ran
    (YieldsList-from_first (λ x. x) points_left _ c.points.ensures) (λ x b q k. search (rules, tests))
    ∙ numbers_are (length (as_read r)) (corner_at r.coords.now (as_read r))
