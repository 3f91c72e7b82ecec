-- `lists::marks::mark_named` meets its contract. Assumes nothing.
use mathlib.Core.Path.{ap, ◌∙◌}
use Prim.Native.Nat.{◌-◌}
use native.Mathlib.Omega.{arith}
use lib.ListN.{length, get_or, set}
use Rattle.lists.specs.Marks.{marks_from}
use Rattle.lists.proofs.Marking.{length_marks, one_marked, none_more, all_marked}
use Rattle.lists.proofs.marks.mark_named.Goals as goal
use Rattle.lists.proofs.marks.mark_named.Goals.{then-first-v+then-v-first, else-first-v, else-first-v-via-then-first-v+else-v-first, else-first-v-via-else-first-v}

pub loop-v-preserved : goal.loop-v-preserved
loop-v-preserved c =
    let nodes = c.args.nodes.now in
    let first = c.args.first in
    let l = c.loop-v in
    let n = length c.fill.new.self in
    let long = ap length l.invariant ∙ length_marks nodes first n l.v-index in
    elim c.if-first-v.branch [
      | then-first-v+then-v-first w ↦
          w.marks-is ∙ ap (λ ms. set ms (get_or nodes l.v-index 0 - first) 1) l.invariant
          ∙ one_marked nodes first n l.v-index w.if-first-v.true (omega (arith, w.if-v-first.true, long))
      | else-first-v w ↦
          w.marks-is ∙ l.invariant ∙ none_more nodes first n l.v-index (elim w.else-first-v.branch [
            | else-first-v-via-then-first-v+else-v-first o ↦ λ a b. absurd (omega (arith, o.if-v-first.false, long, b))
            | else-first-v-via-else-first-v o ↦ λ a b. absurd (omega (arith, o.if-first-v.false, a))
          ])
    ]

pub returns : goal.returns
returns c =
    let l = c.loop-v in
    l.invariant ∙ all_marked c.args.nodes.now c.args.first (length c.fill.new.self) l.v-index (omega arith) ∙ ap (marks_from c.args.nodes.now c.args.first) c.fill.ensures.len
