-- `passes::write_parents` meets its contract. The laws stand here: by `using(..)` on the function the search doesn't find the pass that they are about. Assumes nothing.
use Rattle.passes.specs.Tags.{mesh_by, cell_by}
use Rattle.passes.proofs.Written.{none_written, one_more}
use Rattle.passes.proofs.write_parents.Goals as goal

pub loop-i-init : goal.loop-i-init
loop-i-init c =
    let a = c.args in
    (none_written (mesh_by a.n) a.tags.now a.meshes.now c.requires.0, none_written (cell_by a.n) a.tags.now a.cells.now c.requires.1)

pub loop-i-preserved : goal.loop-i-preserved
loop-i-preserved c =
    let a = c.args in
    let l = c.loop-i in (
      one_more (mesh_by a.n) a.tags.now a.meshes.now c.requires.0 l.meshes l.i l.invariant.0 c.loop-i-test.true c.mesh_by.result c.mesh_by.ensures,
      one_more (cell_by a.n) a.tags.now a.cells.now c.requires.1 l.cells l.i l.invariant.1 c.loop-i-test.true c.cell_by.result c.cell_by.ensures,
    )
