use Rattle.cutting_cells.proofs.Copy.{sided_more}
use Rattle.cutting_cells.proofs.Cell.repeats.Goals as goal

pub loop-i-preserved : goal.loop-i-preserved
loop-i-preserved c =
    let l = c.loop-i in
    sided_more _ l.sides l.i _ c.args.self.now.short l.invariant c.loop-i-test.true c.next_corner.ensures
