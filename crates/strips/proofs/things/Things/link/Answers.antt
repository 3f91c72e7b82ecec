use Prim.Native.Nat.{◌-◌}
use native.Mathlib.Omega.{arith}
use lib.ListN.{length}
use Rattle.strips.proofs.Linking.{chain_by_low, filled, link_start, link_turn, link_heads, link_nexts}
use Rattle.strips.proofs.things.Things.link.Goals as goal

pub loop-j-init : goal.loop-j-init
loop-j-init c =
    let n = length c.args.nexts.now in
    link_start _ _ _ n _ _ c.fill.ensures.len (omega arith) (filled _ n _ (c.fill.ensures.after (λ y e. e)))

pub loop-j-preserved : goal.loop-j-preserved
loop-j-preserved c =
    let a = c.args in
    let t = a.self.now in
    let l = c.loop-j in
    link_turn _ _ _ _ l.j l.heads l.nexts l.levels c.loop-j-test.true
    (omega (arith, chain_by_low t.coords.now a.xs.now a.ys.now t.nodes.now t.ends.now (l.j - 1), c.requires.0, c.requires.1)) l.auto.j l.invariant
    _ _ _ _ c.link_thing-l.ensures.head c.link_thing-l.ensures.next c.link_thing-l.ensures.level.0 c.link_thing-l.ensures.level.1 c.max-levels.ensures

pub returns-clause-head : goal.returns-clause-head
returns-clause-head c = let l = c.loop-j in link_heads _ _ _ _ l.j l.heads l.nexts l.levels l.invariant c.loop-j-test.false

pub returns-clause-next : goal.returns-clause-next
returns-clause-next c = let l = c.loop-j in link_nexts _ _ _ _ l.j l.heads l.nexts l.levels l.invariant c.loop-j-test.false
