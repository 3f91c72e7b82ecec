-- `segments::in_order` meets its contract: each turn takes the first exchange of those that are left. Assumes nothing.
use Rattle.std.proofs.Common.{[], ◌∷◌, arith, ℕ, drop-cons, add-one}
use Rattle.segments.proofs.in_order.Goals as goal

pub loop-i-preserved : goal.loop-i-preserved
loop-i-preserved c =
    let d = drop-cons {A = ℕ} (0 ∷ 1 ∷ 0 ∷ 2 ∷ 1 ∷ 0 ∷ []) c.loop-i.i-index 0 (omega arith) in
    rw (c.exchanged-ends.ensures.parameters, c.exchanged-ends.ensures.ids, add-one) (rw d at c.loop-i.invariant)
