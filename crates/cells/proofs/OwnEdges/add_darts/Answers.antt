use mathlib.Core.Path.{refl}
use Rattle.std.proofs.Common.{rules}
use Rattle.refusals.proofs.Residual.{passed_on}
use Rattle.cells.proofs.Own.{outline_start, few_at, outline_turn, outline_over, outline_end}
use Rattle.cells.proofs.Cut.{read_front}
use Rattle.cells.proofs.OwnEdges.add_darts.Goals as goal

pub loop-i-init : goal.loop-i-init
loop-i-init c = rw (c.requires) (outline_start c.args.self.now)

pub nodes_on-count-requires : goal.nodes_on-count-requires
nodes_on-count-requires c = rw (c.next_corner-b.ensures) (few_at c.args.self.now c.loop-i.i c.loop-i-test.true, search rules)

pub returns-in_err-add_own_edge-clause-held : goal.returns-in_err-add_own_edge-clause-held
returns-in_err-add_own_edge-clause-held c =
    let over = outline_over c.args.self.now c.loop-i.invariant c.loop-i-test.true c.next_corner-b.ensures (read_front c.nodes_on-count.ensures) _ _
    c.in_err-add_own_edge.ensures.table c.in_err-add_own_edge.ensures.outline refl in
    rw (passed_on c.from_residual.result _ c.from_residual.ensures.1) (record { fits = λ f. cc; over = λ f. over })

pub loop-i-preserved : goal.loop-i-preserved
loop-i-preserved c =
    outline_turn c.args.self.now c.loop-i.invariant c.loop-i-test.true c.next_corner-b.ensures (read_front c.nodes_on-count.ensures) _ _
    c.in_ok-add_own_edge.ensures.table c.in_ok-add_own_edge.ensures.outline refl

pub returns : goal.returns
returns c =
    let all = outline_end c.args.self.now c.loop-i.invariant c.loop-i-test.false in
    record { held = record { fits = λ f. all.0; over = λ f. cc }; outlined = λ f. all.1 }
