use Rattle.finding.proofs.Welded.{turn}
use Rattle.finding.proofs.numbering.renumber.Goals as goal

pub loop-i-preserved : goal.loop-i-preserved
loop-i-preserved c =
    let l = c.loop-i in
    turn c.args.w.now c.args.cn.now c.args.at c.requires.0 c.requires.1 l.w l.i l.invariant c.loop-i-test.true
