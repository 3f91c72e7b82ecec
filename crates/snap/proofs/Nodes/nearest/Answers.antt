use Rattle.snap.proofs.Near.{near_stop}
use Rattle.snap.proofs.Nodes.nearest.Goals as goal

pub returns-then-p-q : goal.returns-then-p-q
returns-then-p-q c = near_stop _ _ _ _ c.args.p c.args.self.now.ordered _ _ _ c.loop-v.invariant c.loop-v-test.true c.point_at-q.ensures c.if-p-q.true
