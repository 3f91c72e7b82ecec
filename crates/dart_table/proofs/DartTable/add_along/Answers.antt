use mathlib.Core.Path.{◌≡◌, sym, ap, ◌∙◌, subst}
use mathlib.Core.List.{List}
use Prim.Native.Nat.{ℕ}
use native.Mathlib.Omega.{arith}
use Rattle.std.specs.Slice.Iter.{windows_rest, windows_size}
use Rattle.dart_table.proofs.Adds.{Laying, lay_start, lay_room, lay_fits, lay_turn, lay_end}
use Rattle.dart_table.proofs.DartTable.add_along.Goals as goal

pub loop-pair-init : goal.loop-pair-init
loop-pair-init c =
    let a = c.args in
    let is = c.into_iter-pair-iterator.ensures.into_iter_gives in
    let size : windows_size c.into_iter-pair-iterator.result ≡ 2 = ap windows_size is ∙ c.windows-pair-items.ensures.size in
    let rest : windows_rest c.into_iter-pair-iterator.result ≡ a.nodes.now = ap windows_rest is ∙ c.windows-pair-items.ensures.rest in (
      omega (arith, size),
      tt,
      size,
      subst (λ (r : List ℕ). Laying a.coords.now a.inv a.nodes.now a.self.now r a.self.now) (sym rest) (lay_start a.coords.now a.inv a.nodes.now a.self.now),
    )

pub add_dart-requires : goal.add_dart-requires
add_dart-requires c =
    let a = c.args in
    let l = c.loop-pair in
    let step = c.in-Some.ensures.steps.1 in
    lay_room a.coords.now a.inv a.nodes.now a.self.now _ l.self l.invariant.3 c.in-Some.pair.now l.invariant.2 step.0 step.1 c.requires.0

pub outline_dart-requires : goal.outline_dart-requires
outline_dart-requires c =
    let a = c.args in
    let l = c.loop-pair in
    let step = c.in-Some.ensures.steps.1 in
    lay_fits a.coords.now a.inv a.nodes.now a.self.now _ l.self l.invariant.3 c.in-Some.pair.now l.invariant.2 step.0 step.1 _ c.turned-a.ensures _ c.add_dart.ensures c.requires.1 c.requires.0

pub loop-pair-preserved : goal.loop-pair-preserved
loop-pair-preserved c =
    let a = c.args in
    let l = c.loop-pair in
    let step = c.in-Some.ensures.steps.1 in
    let size : windows_size c.next.new.self ≡ 2 = c.in-Some.ensures.steps.0 ∙ l.invariant.2 in
    let turn = lay_turn a.coords.now a.inv a.nodes.now a.self.now _ l.self l.invariant.3 c.in-Some.pair.now l.invariant.2 step.0 step.1
    _ c.turned-a.ensures _ c.add_dart.ensures _ c.outline_dart.ensures in (
      omega (arith, size),
      tt,
      size,
      subst (λ (r : List ℕ). Laying a.coords.now a.inv a.nodes.now a.self.now r c.outline_dart.new.self) (sym step.2) turn,
    )

pub returns : goal.returns
returns c =
    let a = c.args in
    lay_end a.coords.now a.inv a.nodes.now a.self.now _ c.loop-pair.self c.loop-pair.invariant.3 c.loop-pair.invariant.2 c.in-None.ensures.steps.1.0
