-- `lists::insert_at` meets its contract. Assumes nothing.
use mathlib.Core.Path.{refl, sym, ap, ◌∙◌}
use native.Mathlib.Omega.{arith}
use lib.ListN.{set, length-set}
use Rattle.lists.proofs.Insert.{insert_at_not, shift_start, shift_turn, shift_end}
use Rattle.lists.proofs.insert_at.Goals as goal

pub returns-then-n-k-clause-after : goal.returns-then-n-k-clause-after
returns-then-n-k-clause-after g c =
    let a = c.args in
    sym (insert_at_not a.xs.now a.n a.k a.x c.then-n-k.either)

pub loop-i-init : goal.loop-i-init
loop-i-init g c = (c.if-n-k.false, omega arith, refl, (_, shift_start c.args.x _ _ c.if-xs-n.false))

pub loop-i-preserved : goal.loop-i-preserved
loop-i-preserved g c =
    let v = c.loop-i.invariant in
    let x = c.index-xs-i in
    (omega arith, omega arith, simp length-set v.2, (_, ap (set c.loop-i.xs c.loop-i.i) x.is ∙ shift_turn x.result _ _ c.if-xs-n.false _ _ v.3.0 v.3.1 (omega arith) v.1))

pub returns-clause-after : goal.returns-clause-after
returns-clause-after g c =
    let a = c.args in
    let v = c.loop-i.invariant in
    (shift_end a.x _ _ c.if-xs-n.false _ _ _ v.3.0 _ v.3.1 (omega arith) c.if-n-k.false).1
