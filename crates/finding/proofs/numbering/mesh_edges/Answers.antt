use Rattle.finding.proofs.Edged.{asked, written}
use Rattle.finding.proofs.numbering.mesh_edges.Goals as goal

pub compute_descending-count-requires : goal.compute_descending-count-requires
compute_descending-count-requires c =
    asked _ _ _ _ _ _ c.requires _ _ c.split_at_mut-before.ensures.front c.split_at_mut-before.ensures.back _ c.part.ensures

pub returns : goal.returns
returns c =
    let e = c.compute_descending-count.ensures in
    let is = written _ _ _ _ _ _ c.requires _ _ c.split_at_mut-before.ensures.front c.split_at_mut-before.ensures.back _ c.part.ensures _ _ e.count e.written in
    (is.0, is.1, e.clear_heads, e.clear_nexts)
