-- `passes::write_families` meets its contract: the loop's invariant: the first i tags are done. Assumes nothing.
use Rattle.passes.specs.Tags.{family_by}
use Rattle.passes.proofs.Written.{Written}
use Rattle.passes.proofs.write_families.Given as goal

abbrev pub invariant-loop-tag : goal.invariant-loop-tag
invariant-loop-tag l = Written (family_by l.subject l.cutter) l.initial.tags l.initial.tags l.tags l.tag-index
