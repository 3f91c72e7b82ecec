-- `finding::stages::place_coords` meets its contract. Assumes nothing.
use Rattle.finding.proofs.Ends.{both}
use Rattle.finding.proofs.stages.place_coords.Goals as goal

pub returns-then-copy_at : goal.returns-then-copy_at
returns-then-copy_at c =
    let x = c.copy_at in
    let y = c.copy_at-then-copy_at in
    both c.args.sc.now c.args.cc.now c.args.oc.now x.result y.result x.new.dst y.new.dst x.ensures.fits c.if-copy_at.true x.ensures.after (y.ensures.fits, y.ensures.after)
