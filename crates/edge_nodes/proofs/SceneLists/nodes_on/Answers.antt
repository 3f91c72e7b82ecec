use Rattle.std.proofs.Common.{rules}
use Rattle.edge_nodes.proofs.InRegions.{read_nodes}
use Rattle.edge_nodes.proofs.SceneLists.nodes_on.Goals as goal

pub returns : goal.returns
returns c = search (rules, read_nodes)
