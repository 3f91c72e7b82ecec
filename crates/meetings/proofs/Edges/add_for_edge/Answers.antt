use mathlib.Core.Path.{ap, ◌∙◌}
use Rattle.refusals.proofs.Residual.{passed_on}
use Rattle.rules.specs.SpatialIndex.{edge_box}
use Rattle.strips.specs.Near.{near_left}
use Rattle.meetings.proofs.Near.{near_are, near_below}
use Rattle.meetings.proofs.Loops.{walk_start, walk_stop, walk_turn, walk_end}
use Rattle.meetings.proofs.Edges.add_for_edge.Goals as goal

pub loop-j-init : goal.loop-j-init
loop-j-init c =
    let edge = c.edge_bounds-bounds.ensures ∙ ap (edge_box c.args.self.now.cutter.things.coords.now) c.edge_at-e.ensures in
    let near = ap near_left c.into_iter-j-iterator.ensures.into_iter_gives ∙ c.near_many-j-items.ensures ∙ near_are _ _ _ _ _ c.args.self.now.pairs edge in
    (tt, tt, walk_start _ _ _ _ _ c.args.lists.now _ _ near (near_below _ _ _))

pub loop-j-preserved : goal.loop-j-preserved
loop-j-preserved c =
    let x = c.add_intersection in
    (tt, tt, walk_turn _ _ _ _ _ c.in-Some.ensures.steps c.loop-j.invariant.2 x.new.lists x.result x.ensures _ c.in_ok-add_intersection.was)

pub returns-in_err-add_intersection : goal.returns-in_err-add_intersection
returns-in_err-add_intersection c =
    let x = c.add_intersection in
    rw (passed_on c.from_residual.result _ c.from_residual.ensures.1)
    (walk_stop _ _ _ _ _ c.in-Some.ensures.steps c.loop-j.invariant.2 x.new.lists x.result x.ensures _ c.in_err-add_intersection.was)

pub returns : goal.returns
returns c = walk_end _ _ _ _ _ _ _ c.loop-j.lists _ c.in-None.ensures.steps.0 c.loop-j.invariant.2
