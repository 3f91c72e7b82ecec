use mathlib.Core.Path.{◌∙◌}
use lib.ListN.{length}
use Rattle.std.specs.Prelude.{Option}
use Rattle.std.specs.Option.{option_and_then}
use Rattle.std.proofs.Common.{rules}
use Rattle.std.proofs.lemmas.Iterator.Consumers.{YieldsList-from_first}
use Rattle.lists.specs.Gather.{gathered, all}
use Rattle.lists.specs.Sort.{sort_onto}
use Rattle.plane.specs.declared.Point.{Point}
use Rattle.corners.specs.Ring.{as_read, edge_at, edges_left}
use Rattle.corners.proofs.Steps.{fold_each}
use Rattle.polygons.specs.Interior.{crossed, crossings, lowest}
use Rattle.polygons.specs.Scans.{with_crossing}
use Rattle.polygons.specs.declared.Lowest.{Lowest}
use Rattle.polygons.proofs.Steps.{lowest_turn, try_fold_is}
use Rattle.polygons.proofs.lowest_two.Goals as goal

pub returns : goal.returns
unfolding crossings gathered lowest all sort_onto
returns c =
    let r = c.args.ring in
    let h : Lowest → Point × Point → Option Lowest = λ l e. with_crossing c.args.m e.0 e.1 l in
    try_fold_is _ h _ (λ l e o f k. search rules) _ c.try_fold.new.self _ _ _ c.try_fold.ensures.ran (YieldsList-from_first (λ x. x) edges_left _ c.edges.ensures)
    ∙ fold_each (λ k. lowest (gathered k (crossed r.coords.now (as_read r) c.args.m))) (λ o e. option_and_then (λ l. h l e) o) (edge_at r)
    (lowest_turn r.coords.now (as_read r) c.args.m) (length (as_read r))
