use Rattle.std.proofs.Common.{rules}
use Rattle.std.proofs.lemmas.Iterator.Consumers.{YieldsList-from_first}
use Rattle.std.proofs.lemmas.Iterator.Search.{any_from_yields_List}
use Rattle.strips.specs.Near.{near_left}
use Rattle.pieces.proofs.Inside.{contains, some_contains}
use Rattle.pieces.proofs.some_holds.Goals as goal

pub returns : goal.returns
returns c =
    let t = c.args.cells.things in
    some_contains _ _ _ _ _ _ c.point_bounds.ensures
    (any_from_yields_List (contains t.coords.now t.nodes.now c.args.p t.ends.now) c.any.new.self _ c.any.result c.any.ensures.ran
    (YieldsList-from_first (λ j. j) near_left _ c.near.ensures) (λ j b q k. search rules))
