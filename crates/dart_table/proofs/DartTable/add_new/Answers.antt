use mathlib.Core.Path.{◌≡◌, ◌∙◌}
use native.Mathlib.Omega.{arith}
use Rattle.refusals.proofs.Residual.{passed_on}
use Rattle.std.specs.Slice.Iter.{windows_size}
use Rattle.dart_table.proofs.Adds.{windows_out, window_next, window_stop}
use Rattle.dart_table.proofs.DartTable.add_new.Goals as goal

pub loop-pair-preserved : goal.loop-pair-preserved
loop-pair-preserved c =
    let l = c.loop-pair in
    let step = c.in-Some.ensures.steps.1 in
    let size : windows_size c.next.new.self ≡ 2 = c.in-Some.ensures.steps.0 ∙ l.invariant.2 in (
      omega (arith, size),
      tt,
      size,
      window_next c.args.coords.now _ l.invariant.2 _ l.invariant.3 c.in-Some.pair.now step.0 step.1 c.in_ok-add_edge.ensures.table step.2,
      c.in_ok-add_edge.ensures.outline ∙ l.invariant.4,
    )

pub returns-in_err-add_edge-clause-table : goal.returns-in_err-add_edge-clause-table
returns-in_err-add_edge-clause-table c =
    let l = c.loop-pair in
    let step = c.in-Some.ensures.steps.1 in
    rw (passed_on c.from_residual.result _ c.from_residual.ensures.1)
    (window_stop c.args.coords.now _ l.invariant.2 _ l.invariant.3 c.in-Some.pair.now step.0 step.1 c.in_err-add_edge.ensures.table)

pub returns-clause-table : goal.returns-clause-table
returns-clause-table c = windows_out c.args.coords.now _ c.loop-pair.invariant.2 _ c.loop-pair.invariant.3 c.in-None.ensures.steps.1.0
