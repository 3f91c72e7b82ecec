use Rattle.refusals.proofs.Residual.{passed_on}
use Rattle.meetings.proofs.Loops.{begin, go_on, stop, finish}
use Rattle.meetings.proofs.Edges.add_for_edges.Goals as goal

pub loop-i-init : goal.loop-i-init
loop-i-init c = begin _ _ _ _ c.args.lists.now

pub loop-i-preserved : goal.loop-i-preserved
loop-i-preserved c =
    let x = c.add_for_edge in
    go_on _ _ _ _ c.args.self.now.even c.requires.none.1 c.loop-i.invariant c.loop-i-test.true x.new.lists x.result x.ensures _ c.in_ok-add_for_edge.was

pub returns-in_err-add_for_edge : goal.returns-in_err-add_for_edge
returns-in_err-add_for_edge c =
    let x = c.add_for_edge in
    rw (passed_on c.from_residual.result _ c.from_residual.ensures.1)
    (stop _ _ _ _ c.args.self.now.even c.requires.none.1 c.loop-i.invariant c.loop-i-test.true x.new.lists x.result x.ensures _ c.in_err-add_for_edge.was)

pub returns : goal.returns
returns c = finish _ _ _ _ c.args.lists.now c.loop-i.lists c.loop-i.i c.loop-i.invariant c.loop-i-test.false
