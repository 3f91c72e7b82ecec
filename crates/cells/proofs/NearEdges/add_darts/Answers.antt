use mathlib.Core.Path.{refl, ◌∙◌}
use Rattle.refusals.proofs.Residual.{passed_on}
use Rattle.cutting.specs.Lent.{pairs}
use Rattle.cells.proofs.Near.{near_step, near_many}
use Rattle.cells.proofs.Cut.{read_front}
use Rattle.cells.proofs.NearEdges.add_darts.Goals as goal

pub returns-in_err-add_near_edge-clause-held : goal.returns-in_err-add_near_edge-clause-held
returns-in_err-add_near_edge-clause-held c =
    let over = near_many c.args.self.now (pairs c.args.table.now.outline) c.loop-place.invariant.0 c.loop-place-test.true (read_front c.nodes_on-count.ensures) _ _
    c.in_err-add_near_edge.ensures.table refl in
    rw (passed_on c.from_residual.result _ c.from_residual.ensures.1) (record { fits = λ f. cc; over = λ f. over })

pub loop-place-preserved : goal.loop-place-preserved
loop-place-preserved c = (
  near_step c.args.self.now (pairs c.args.table.now.outline) c.loop-place.invariant.0 c.loop-place-test.true (read_front c.nodes_on-count.ensures) _ _
      c.in_ok-add_near_edge.ensures.table refl,
  c.in_ok-add_near_edge.ensures.outline ∙ c.loop-place.invariant.1,
)
