-- `overlay::Call::prepare` meets its contract. Assumes nothing.
use Rattle.std.proofs.Common.{Ok, Err}
use Rattle.refusals.proofs.Residual.{passed_on}
use Rattle.overlay.proofs.Found.{find_asked, refusal_is, index_asked, points_fit, edges_within, met_within, layers_asked, prepared}
use Rattle.overlay.proofs.Call.prepare.Goals as goal

pub find-requires : goal.find-requires
find-requires c = find_asked _ _ _ _ c.requires.0

pub part-edges-requires : goal.part-edges-requires
part-edges-requires c = edges_within _ _ _ _ c.requires.0 _ _ _ _ c.in_ok-found.ensures

pub part-met-requires : goal.part-met-requires
part-met-requires c = met_within _ _ _ _ c.requires.0 _ _ _ _ c.in_ok-found.ensures

pub write_layers-requires : goal.write_layers-requires
write_layers-requires c =
    layers_asked _ _ _ _ c.requires.0 _ _ _ _ c.in_ok-found.ensures _ _ _ c.part-edges.ensures c.part-met.ensures c.requires.1 c.find.auto.coords

pub returns-in_err-found-clause-refusal : goal.returns-in_err-found-clause-refusal
returns-in_err-found-clause-refusal c =
    rw (passed_on _ _ c.from_residual.ensures.1) (refusal_is _ _ _ _ c.requires.0 _ _ _ (Err _) c.in_err-found.ensures)

pub first_nodes-points-requires : goal.first_nodes-points-requires
first_nodes-points-requires c = points_fit _ _ _ _ c.requires.0 _ _ _ _ c.in_ok-found.ensures

pub index_meshes-indexes-requires : goal.index_meshes-indexes-requires
index_meshes-indexes-requires c = index_asked _ _ _ _ c.requires.0 _ _ _ _ c.in_ok-found.ensures

pub returns-clause-refusal : goal.returns-clause-refusal
returns-clause-refusal c = refusal_is _ _ _ _ c.requires.0 _ _ _ (Ok c.in_ok-found.found) c.in_ok-found.ensures

pub returns-clause-prepared : goal.returns-clause-prepared
returns-clause-prepared c = prepared _ _ _ _ c.requires.0 _ _ _ _ c.in_ok-found.ensures _ _ (rw c.first_nodes-points.ensures at c.index_meshes-indexes.ensures)
    c.index_meshes-indexes.auto.w _ _ _ _ c.part-edges.ensures c.part-met.ensures c.write_layers.ensures
