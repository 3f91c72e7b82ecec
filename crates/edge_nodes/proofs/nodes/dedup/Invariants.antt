use Rattle.edge_nodes.proofs.Slim.{Slimmed}
use Rattle.edge_nodes.proofs.nodes.dedup.Given as goal

abbrev pub invariant-loop-p : goal.invariant-loop-p
invariant-loop-p l = Slimmed l.items l.initial.out l.p-index l.k l.out
