-- `passes::write_kinds` meets its contract. The laws stand here: by `using(..)` on the function the search doesn't find the pass that they are about. Assumes nothing.
use Rattle.passes.specs.Tags.{kind_by}
use Rattle.passes.proofs.Written.{none_written, one_more}
use Rattle.passes.proofs.write_kinds.Goals as goal

pub loop-i-init : goal.loop-i-init
loop-i-init c =
    let a = c.args in
    none_written (kind_by a.subject.now a.cutter.now) a.tags.now a.kinds.now c.requires

pub loop-i-preserved : goal.loop-i-preserved
loop-i-preserved c =
    let a = c.args in
    let l = c.loop-i in
    one_more (kind_by a.subject.now a.cutter.now) a.tags.now a.kinds.now c.requires l.kinds l.i l.invariant c.loop-i-test.true c.kind_by.result c.kind_by.ensures
