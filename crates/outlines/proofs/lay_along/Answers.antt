use mathlib.Core.Path.{◌≡◌, sym, ap, ◌∙◌}
use mathlib.Core.Bool.{Bool}
use Prim.Native.Nat.{ℕ, ◌≤◌}
use native.Mathlib.Omega.{arith}
use lib.ListN.{length, take}
use Rattle.cutting.specs.Edges.{reversed_if}
use Rattle.cutting.specs.Lent.{pair_of}
use Rattle.outlines.proofs.Flat.{laying_turn, laying_end}
use Rattle.outlines.proofs.lay_along.Goals as goal
use Rattle.outlines.proofs.lay_along.Goals.{then-inv, else-inv}

pub loop-pair-preserved : goal.loop-pair-preserved
loop-pair-preserved c =
    let a = c.args in
    let l = c.loop-pair in
    let h = c.in-Some.ensures.steps in
    let p = c.in-Some.pair.now in
    let v = l.invariant.3 in
    let long : 2 ≤ length l.pair-iterator.rest.now = omega (arith, h.1.0, l.invariant.2) in
    let is : p ≡ take 2 l.pair-iterator.rest.now = h.1.1 ∙ ap (λ (n : ℕ). take n l.pair-iterator.rest.now) l.invariant.2 in
    let dart : c.if-inv.a ≡ reversed_if a.inv (pair_of p) = elim c.if-inv.branch [
      | then-inv w ↦ w.a-is ∙ sym (ap (λ (t : Bool). reversed_if t (pair_of p)) w.if-inv.true)
      | else-inv w ↦ w.a-is ∙ sym (ap (λ (t : Bool). reversed_if t (pair_of p)) w.if-inv.false)
    ] in (
      omega (arith, h.0, l.invariant.2),
      tt,
      h.0 ∙ l.invariant.2,
      laying_turn a.inv a.nodes.now a.darts.now l.darts l.pair-iterator.rest.now l.k v p c.next.new.self.rest.now c.if-inv.a long is h.1.2 dart
          (omega (arith, v.count, v.low, long, c.requires)),
    )

pub returns : goal.returns
returns c =
    let a = c.args in
    let l = c.loop-pair in
    laying_end a.inv a.nodes.now a.darts.now l.darts l.pair-iterator.rest.now l.k l.invariant.3 (omega (arith, c.in-None.ensures.steps.1.0, l.invariant.2))
