-- `snap::put_in_order` meets its contract. Assumes nothing.
use mathlib.Core.Path.{ap, ◌∙◌}
use mathlib.Core.List.{List}
use Prim.Native.Nat.{ℕ}
use native.Mathlib.Omega.{arith}
use lib.ListN.{length}
use Rattle.lists.specs.Regions.{front}
use Rattle.lists.proofs.Regions.{take_front_of}
use Rattle.snap.specs.Steps.{place_of}
use Rattle.snap.proofs.Blocks.{put_in_lem}
use Rattle.snap.proofs.put_in_order.Goals as goal

pub returns : goal.returns
unfolding front
returns c =
    let ins = c.insert_at in
    let pl = c.place-p.ensures in
    let lent = c.as_slice.ensures.value in
    take_front_of c.push.new.self.items ins.new.xs _ (ins.auto.xs ∙ ap length c.as_mut_slice.ensures.value)
    ∙ put_in_lem _ _ c.args.block.now.items c.args.i _ _ _ _ c.if-marks-i-eq0.false (pl.0 ∙ ap (λ (l : List ℕ). place_of c.args.coords.now l c.args.i) lent)
    (omega (arith, pl.1, ap length lent)) c.len-n.ensures.value (c.as_mut_slice.ensures.value ∙ c.push.ensures.items) ins.ensures.after
