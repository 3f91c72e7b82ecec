use Rattle.indexing.proofs.Written.{cutter_asked, meshes_end}
use Rattle.indexing.proofs.index_meshes.Goals as goal

pub index_mesh-cutter-requires : goal.index_mesh-cutter-requires
index_mesh-cutter-requires c = cutter_asked c.args.coords.now _ _ _ _ c.requires c.index_mesh-subject.ensures

pub returns : goal.returns
returns c = meshes_end c.args.coords.now _ _ _ _ c.requires c.index_mesh-subject.ensures _ _ c.index_mesh-cutter.ensures
