use mathlib.Core.Path.{◌≡◌}
use Prim.Native.Nat.{◌+◌, ◌≤◌}
use lib.ListN.{length}
use Rattle.std.specs.List.{concat}
use Rattle.lists.specs.Sort.{sort_onto}
use Rattle.edge_nodes.specs.Chain.{chain_left}
use Rattle.edge_nodes.specs.Chained.{edge_of}
use Rattle.edge_nodes.specs.Lent.{all_placed, stands_before, under_in}
use Rattle.edge_nodes.proofs.chains.Chains.collect.Given as goal

abbrev pub invariant-loop-part : goal.invariant-loop-part
invariant-loop-part l =
    let puts = all_placed l.grid l.coords (edge_of l.key) in
    let rest = concat (chain_left l.part-iterator) in
    (l.n + length rest ≡ length (under_in l.self.meetings (edge_of l.key)))
    × (length l.nodes + length rest ≤ 257)
    × (sort_onto stands_before l.nodes (puts rest) ≡ sort_onto stands_before l.initial.nodes (puts (under_in l.self.meetings (edge_of l.key))))
