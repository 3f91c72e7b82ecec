use mathlib.Core.Path.{◌≡◌, ap, ◌∙◌}
use Prim.Native.Nat.{ℕ, ◌+◌, ◌-◌}
use native.Mathlib.Omega.{arith}
use lib.ListN.{length-take}
use Rattle.lists.specs.Regions.{run, put}
use Rattle.snap.proofs.Moves.{merge_ready, merge_turn, merge_end}
use Rattle.snap.proofs.merge.Goals as goal

pub invariant_of-nodes : goal.invariant_of-nodes
invariant_of-nodes c = record { ordered = merge_ready _ _ _ _ c.requires.0 _ _ _ c.loop-j.invariant c.requires.1 }

pub move_up-requires : goal.move_up-requires
move_up-requires c =
    let l = c.loop-j in
    (omega (arith, c.place-p.ensures.1, length-take l.end l.s), omega (arith, l.invariant.under, l.invariant.left, l.invariant.size, c.requires.0, c.loop-j-test.true))

pub loop-j-preserved : goal.loop-j-preserved
loop-j-preserved c =
    let l = c.loop-j in
    let p = c.place-p in
    merge_turn _ _ _ _ c.requires.0 _ _ _ l.invariant p.result _ c.loop-j-test.true c.args.more.now.ordered p.ensures.0 p.ensures.1
    (c.move_up.ensures
    ∙ ap (λ (n : ℕ). put l.s n (run l.s p.result (l.end - p.result))) (let e : p.result + (l.j - 1 + 1) ≡ p.result + l.j = omega (arith, c.loop-j-test.true) in e))

pub returns : goal.returns
returns c = merge_end _ _ _ _ c.requires.0 _ _ _ c.loop-j.invariant c.loop-j-test.false
