use mathlib.Core.Path.{refl}
use native.Mathlib.Omega.{arith}
use lib.ListN.{length-set}
use Rattle.snap.proofs.Moves.{move_start, move_turn, move_end}
use Rattle.snap.proofs.move_up.Goals as goal

pub loop-i-init : goal.loop-i-init
loop-i-init c = (omega arith, refl, move_start _ _ _ (omega arith))

pub loop-i-preserved : goal.loop-i-preserved
loop-i-preserved c =
    let l = c.loop-i in
    let a = c.args in
    (omega arith, simp length-set l.invariant.1, move_turn a.s.now a.end a.by (omega arith) l.s l.i 0 (omega arith) (omega arith) l.invariant.2)

pub returns : goal.returns
returns c =
    let l = c.loop-i in
    let a = c.args in
    move_end a.s.now a.end a.by (omega arith) l.s a.from l.i l.invariant.0 c.loop-i-test.false l.invariant.2
