-- `passes::write_kinds` meets its contract: the loop's invariant: the first i tags are done. Assumes nothing.
use Rattle.passes.specs.Tags.{kind_by}
use Rattle.passes.proofs.Written.{Written}
use Rattle.passes.proofs.write_kinds.Given as goal

abbrev pub invariant-loop-i : goal.invariant-loop-i
invariant-loop-i l = Written (kind_by l.subject l.cutter) l.tags l.initial.kinds l.kinds l.i
