use Rattle.indexing.proofs.Written.{cells_asked, mesh_end_lem}
use Rattle.indexing.proofs.index_mesh.Goals as goal

pub index_run-cells-requires : goal.index_run-cells-requires
index_run-cells-requires c = cells_asked c.args.coords.now c.requires c.index_run-edges.ensures

pub returns : goal.returns
returns c = mesh_end_lem c.args.coords.now c.requires c.index_run-edges.ensures _ _ c.index_run-cells.ensures
