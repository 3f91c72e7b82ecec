use mathlib.Core.Path.{◌≡◌, ap, ◌∙◌}
use native.Mathlib.Omega.{arith}
use lib.ListN.{length}
use Rattle.std.proofs.Common.{rules, Err}
use Rattle.std.proofs.lemmas.List.{length-reverse}
use Rattle.refusals.specs.Numbers.{by_number}
use Rattle.dart_walk.proofs.Heaps.{at_end, at_none}
use Rattle.dart_walk.proofs.Turns.{at_first, missing, turn_skip, turn_open, corner_fits, at_close, follow_fits, lost, less_left, stop_fits, turn_close, no_way, next_fits, turn_onward}
use Rattle.dart_walk.proofs.walk_on.Goals as goal

pub loop-first-init : goal.loop-first-init
loop-first-init c = at_first c.requires

pub returns-then-slots-first : goal.returns-then-slots-first
returns-then-slots-first c = missing c.requires c.loop-first.invariant (at_end _ _ _ c.in-Some.ensures.items) c.if-slots-first.true

pub bounds-nodes-entries : goal.bounds-nodes-entries
bounds-nodes-entries c = corner_fits c.requires c.loop-first.invariant (at_end _ _ _ c.in-Some.ensures.items) c.if-slots-first.false _ c.if-not-slots-first.true

pub loop-y-init : goal.loop-y-init
loop-y-init c = (
  turn_open c.requires c.loop-first.invariant (at_end _ _ _ c.in-Some.ensures.items) c.if-slots-first.false _ c.if-not-slots-first.true,
  omega arith,
)

pub loop-first-preserved : goal.loop-first-preserved
loop-first-preserved c = turn_skip c.requires c.loop-first.invariant (at_end _ _ _ c.in-Some.ensures.items) c.if-slots-first.false _ c.if-not-slots-first.false

pub follow-requires : goal.follow-requires
follow-requires c =
    let fits = follow_fits c.requires c.loop-y.invariant.0 in
    (fits.0, fits.1, omega (arith, fits.2, length-reverse c.loop-y.heap.items))

pub returns-in_default-follow : goal.returns-in_default-follow
returns-in_default-follow c = lost c.requires c.loop-y.invariant.0 c.in_default-follow.ensures

pub returns-in_err-at : goal.returns-in_err-at
returns-in_err-at c =
    let code : by_number c.from_residual.result ≡ Err 11 = search rules in
    let e = no_way c.requires c.loop-y.invariant.0 c.in-Some-follow.ensures c.if-y-start.false _ c.next_open.ensures.found c.in_err-at.ensures.ok_part in
    (code ∙ e.0, e.1)

pub bounds-nodes-entries-in-loop-y : goal.bounds-nodes-entries-in-loop-y
bounds-nodes-entries-in-loop-y c =
    next_fits c.requires c.loop-y.invariant.0 c.in-Some-follow.ensures c.if-y-start.false _ c.next_open.ensures.found
    c.in_ok-at.ensures.ok_part c.next_open.ensures.within

pub loop-y-smaller : goal.loop-y-smaller
loop-y-smaller c = less_left c.requires c.loop-y.invariant.0 c.in-Some-follow.ensures

pub loop-y-preserved : goal.loop-y-preserved
loop-y-preserved c = (
  turn_onward c.requires c.loop-y.invariant.0 c.in-Some-follow.ensures c.if-y-start.false _ c.next_open.ensures.found c.in_ok-at.ensures.ok_part c.next_open.ensures.within,
  omega (arith, less_left c.requires c.loop-y.invariant.0 c.in-Some-follow.ensures, c.loop-y.invariant.1),
)

pub bounds-stops-pieces : goal.bounds-stops-pieces
bounds-stops-pieces c = stop_fits c.requires c.loop-y.invariant.0 c.in-Some-follow.ensures

pub loop-first-smaller-then-not-slots-first : goal.loop-first-smaller-then-not-slots-first
loop-first-smaller-then-not-slots-first c =
    omega (arith, less_left c.requires c.loop-y.invariant.0 c.in-Some-follow.ensures, c.loop-y.invariant.1, ap length (at_end _ _ _ c.in-Some.ensures.items))

pub loop-first-preserved-then-not-slots-first : goal.loop-first-preserved-then-not-slots-first
loop-first-preserved-then-not-slots-first c = turn_close c.requires c.loop-y.invariant.0 c.in-Some-follow.ensures c.if-y-start.true

pub returns : goal.returns
returns c = at_close c.requires c.loop-first.invariant (at_none _ c.in_default.ensures.variant.1)
