-- `snap::Nodes::window_start` meets its contract. Assumes nothing.
use lib.Ieee.{lt}
use Rattle.std.proofs.Common.{rules}
use Rattle.rules.specs.Snap.{weld_eps}
use Rattle.snap.specs.Steps.{ahead, window_start}
use Rattle.snap.proofs.Near.{window_turns}
use Rattle.snap.proofs.Partition.{partition_of}
use Rattle.snap.proofs.Nodes.window_start.Goals as goal

pub returns : goal.returns
unfolding window_start
returns c =
    let n = c.args.self.now in
    let p = c.args.p in
    let r = c.partition_point in
    partition_of (λ v. lt (ahead n.coords.now p v) weld_eps) n.order.now r.result (window_turns n.coords.now n.order.now p n.ordered) r.ensures.partitioned
    (λ v t f k. search rules) r.ensures.bound
