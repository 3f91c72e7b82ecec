-- `passes::write_parents` meets its contract: the loop's invariant: the first i tags are done in both lists. Assumes nothing.
use Rattle.passes.specs.Tags.{mesh_by, cell_by}
use Rattle.passes.proofs.Written.{Written}
use Rattle.passes.proofs.write_parents.Given as goal

abbrev pub invariant-loop-i : goal.invariant-loop-i
invariant-loop-i l = Written (mesh_by l.n) l.tags l.initial.meshes l.meshes l.i × Written (cell_by l.n) l.tags l.initial.cells l.cells l.i
