-- `lists::copy_at` meets its contract. Assumes nothing.
use mathlib.Core.Path.{refl, sym, ap, ◌∙◌}
use Prim.Native.Nat.{zero-le, ◌+◌}
use native.Mathlib.Omega.{arith}
use lib.ListN.{set, length-set}
use Rattle.lists.proofs.Regions.{copied_not, copy_start, copy_turn, copy_end}
use Rattle.lists.proofs.copy_at.Goals as goal

pub returns-then-dst-src-clause-after : goal.returns-then-dst-src-clause-after
returns-then-dst-src-clause-after g c =
    let a = c.args in
    sym (copied_not a.dst.now a.at a.src.now (omega arith))

pub loop-i-init : goal.loop-i-init
loop-i-init g c = (zero-le, refl, copy_start _ _ c.args.src.now (omega arith))

pub loop-i-preserved : goal.loop-i-preserved
loop-i-preserved g c =
    let a = c.args in
    let l = c.loop-i in
    let x = c.index-src-i in (
      omega arith,
      simp length-set l.invariant.1,
      ap (set l.dst (a.at + l.i)) x.is ∙ copy_turn a.dst.now a.at a.src.now (omega arith) l.dst l.i x.result c.loop-i-test.true l.invariant.2,
    )

pub returns-clause-after : goal.returns-clause-after
returns-clause-after g c =
    let a = c.args in
    let l = c.loop-i in
    copy_end a.dst.now a.at a.src.now (omega arith) l.dst l.i c.loop-i-test.false l.invariant.2
