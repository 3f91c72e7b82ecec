-- `snap::sorted_indices_for` meets its contract. Assumes nothing.
use Rattle.snap.proofs.Blocks.{InBlocks}
use Rattle.snap.proofs.sorted_indices_for.Given as goal

abbrev pub invariant-loop-i : goal.invariant-loop-i
invariant-loop-i l = InBlocks l.coords l.initial.s l.s l.block.items l.k l.i
