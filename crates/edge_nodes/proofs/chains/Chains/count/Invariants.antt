use mathlib.Core.Path.{◌≡◌}
use Prim.Native.Nat.{◌+◌}
use lib.ListN.{length}
use Rattle.std.specs.List.{concat}
use Rattle.edge_nodes.specs.Chain.{chain_left}
use Rattle.edge_nodes.specs.Chained.{edge_of}
use Rattle.edge_nodes.specs.Lent.{under_in}
use Rattle.edge_nodes.proofs.chains.Chains.count.Given as goal

abbrev pub invariant-loop-part : goal.invariant-loop-part
invariant-loop-part l = l.n + length (concat (chain_left l.part-iterator)) ≡ length (under_in l.fn.self.meetings (edge_of l.fn.key))
