use Rattle.edge_nodes.proofs.Slim.{slim_start, slim_turn, slim_end}
use Rattle.std.proofs.Common.{rules}
use Rattle.edge_nodes.proofs.nodes.dedup.Goals as goal

pub loop-p-init : goal.loop-p-init
loop-p-init c = slim_start c.args.items.now c.args.out.now

pub loop-p-preserved : goal.loop-p-preserved
loop-p-preserved c = search (rules, slim_turn)

pub returns : goal.returns
returns c = search (rules, slim_end)
