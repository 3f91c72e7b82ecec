use lib.ListN.{length}
use Rattle.cutting.specs.Lent.{pairs}
use Rattle.edge_nodes.specs.Chained.{number}
use Rattle.edge_nodes.proofs.Linking.{Linking}
use Rattle.edge_nodes.proofs.sides.Meetings.link.Given as goal

abbrev pub invariant-loop-q : goal.invariant-loop-q
invariant-loop-q l = Linking (length l.fn.heads) (pairs l.self.edges.now) l.self.met.now (number l.self.side) l.q l.heads l.nexts
