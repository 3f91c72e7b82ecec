use mathlib.Core.Path.{◌≡◌}
use Prim.Native.Nat.{◌+◌, ◌≤◌}
use lib.ListN.{length, drop}
use Rattle.lists.specs.Sort.{sort_onto}
use Rattle.edge_nodes.specs.Chained.{edge_of}
use Rattle.edge_nodes.specs.Lent.{all_placed, stands_before}
use Rattle.edge_nodes.proofs.nodes.Nodes.insert_all.Given as goal

abbrev pub invariant-loop-v : goal.invariant-loop-v
invariant-loop-v l =
    let puts = all_placed l.grid l.coords (edge_of l.key) in
    (length l.self ≤ length l.initial.self + l.v-index) × (sort_onto stands_before l.self (puts (drop l.v-index l.nodes)) ≡ sort_onto stands_before l.initial.self (puts l.nodes))
