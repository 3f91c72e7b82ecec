-- `snap::duplicates_from` meets its contract. Assumes nothing.
use mathlib.Core.Path.{◌≡◌, refl, sym, ap, ◌∙◌}
use Prim.Native.Nat.{◌/◌}
use lib.ListN.{length, drop}
use lib.Seq.{length-take-le}
use Rattle.lists.specs.Regions.{zeros}
use Rattle.snap.specs.Steps.{used}
use Rattle.snap.proofs.Whole.{within, whole}
use Rattle.snap.proofs.duplicates_from.Goals as goal
use Rattle.snap.proofs.duplicates_from.Goals.{After-mark_named-2}

-- the subject's marks
marks_are : (c : After-mark_named-2) → c.mark_named-2.new.marks ≡ used c.args.subject.now.nodes.now (length c.args.subject.now.coords.now / 2)
marks_are c = c.mark_named-2.ensures ∙ ap (used c.args.subject.now.nodes.now) c.split_at_mut-marks.ensures.front_len

pub slice_bounds-number_nodes-end : goal.slice_bounds-number_nodes-end
slice_bounds-number_nodes-end c =
    let o = c.sorted_indices_for-count in
    within c.args.subject.now.coords.now _ _ _ _ o.result (marks_are (goal.at.slice_bounds-number_nodes-end c).After-mark_named-2) o.ensures.0 o.ensures.1

pub slice_bounds-number_nodes-end-2 : goal.slice_bounds-number_nodes-end-2
slice_bounds-number_nodes-end-2 c = sym (length-take-le _ _ (slice_bounds-number_nodes-end c))

pub returns : goal.returns
returns c =
    let numbers = c.split_at_mut-numbers.ensures in
    let marks = c.split_at_mut-marks.ensures in
    let o = c.sorted_indices_for-count in
    let z = c.fill.ensures in
    whole _ _ _ _ _ o.result (marks_are (goal.at.returns c).After-mark_named-2) o.ensures.0 o.ensures.1
    _ _ _ _ _ _ (c.mark_named.ensures ∙ ap (used c.args.cutter.now.nodes.now) numbers.front_len) refl refl _ _ _ _ c.number_nodes.ensures
    (z.after (λ _ h. h) ∙ ap zeros (o.auto.s ∙ c.mark_named-2.auto.marks ∙ marks.front_len)) (marks.back ∙ ap (drop (length c.args.subject.now.coords.now / 2)) numbers.back)
