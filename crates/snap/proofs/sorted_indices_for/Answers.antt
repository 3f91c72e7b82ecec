use mathlib.Core.Path.{ap}
use native.Mathlib.Omega.{arith}
use lib.ListN.{length}
use Rattle.snap.proofs.Blocks.{blocks_start, put_asks, rest_asks, rest_in_order, blocks_end, next_ready, next_full}
use Rattle.snap.proofs.sorted_indices_for.Goals as goal

pub loop-i-init : goal.loop-i-init
loop-i-init c = record { within = omega arith; free = omega (arith, ap length c.new-block.ensures); blocks = blocks_start _ _ _ c.new-block.ensures }

pub put_in_order-requires : goal.put_in_order-requires
put_in_order-requires c = put_asks _ _ c.requires.2 c.requires.1 _ _ _ _ c.loop-i.invariant c.requires.0 c.loop-i-test.true

pub merge_full-k-requires : goal.merge_full-k-requires
merge_full-k-requires c = next_ready _ _ c.requires.2 c.requires.1 _ _ _ _ c.loop-i.invariant c.loop-i-test.true _ c.put_in_order.ensures

pub loop-i-preserved : goal.loop-i-preserved
loop-i-preserved c =
    let full = c.merge_full-k.ensures in
    next_full _ _ c.requires.2 c.requires.1 _ _ _ _ c.loop-i.invariant c.loop-i-test.true _ c.put_in_order.ensures _ _ _ full.0 full.1 full.2

pub merge-requires : goal.merge-requires
merge-requires c = rest_asks _ _ c.requires.2 c.requires.1 _ _ _ _ c.loop-i.invariant _ c.as_slice.ensures.value

pub invariant_of-rest : goal.invariant_of-rest
invariant_of-rest c = record { ordered = rest_in_order _ _ c.requires.2 c.requires.1 _ _ _ _ c.loop-i.invariant _ c.as_slice.ensures.value }

pub returns : goal.returns
returns c = blocks_end _ _ c.requires.2 c.requires.1 _ _ _ _ c.loop-i.invariant c.loop-i-test.false _ c.as_slice.ensures.value _ c.merge.ensures _ c.len.ensures.value
