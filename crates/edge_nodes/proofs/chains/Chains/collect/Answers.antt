use Rattle.edge_nodes.proofs.Under.{part_put_in, part_fits, part_counted}
use Rattle.edge_nodes.proofs.chains.Chains.collect.Goals as goal

pub loop-part-preserved : goal.loop-part-preserved
loop-part-preserved c =
    let next = c.in-Some.ensures.steps in (
      part_counted _ _ _ _ next c.loop-part.invariant.0,
      part_fits _ _ _ _ _ _ _ _ next c.insert_all.ensures c.loop-part.invariant.1,
      part_put_in _ _ _ _ _ _ _ _ next c.insert_all.ensures c.loop-part.invariant.2,
    )
