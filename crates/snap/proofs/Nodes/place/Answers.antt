-- `snap::Nodes::place` meets its contract. Assumes nothing.
use Rattle.std.proofs.Common.{rules}
use Rattle.snap.specs.Steps.{before, place_of}
use Rattle.snap.proofs.Orders.{place_turns}
use Rattle.snap.proofs.Partition.{partition_of}
use Rattle.snap.proofs.Nodes.place.Goals as goal

pub returns : goal.returns
unfolding place_of
returns c =
    let n = c.args.self.now in
    let r = c.partition_point in
    partition_of (before n.coords.now c.args.v) n.order.now r.result (place_turns n.coords.now n.order.now c.args.v n.ordered) r.ensures.partitioned
    (λ u t f k. search rules) r.ensures.bound
