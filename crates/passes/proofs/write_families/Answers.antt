use mathlib.Core.Path.{ap, ◌∙◌}
use native.Mathlib.Nat.{le_refl}
use lib.ListN.{length}
use Rattle.passes.specs.Tags.{family_by}
use Rattle.passes.proofs.Written.{none_written, not_yet, one_more, all_written, in_place}
use Rattle.passes.proofs.write_families.Goals as goal

pub loop-tag-init : goal.loop-tag-init
loop-tag-init c =
    let a = c.args in
    none_written (family_by a.subject.now a.cutter.now) a.tags.now a.tags.now (le_refl (length a.tags.now))

pub loop-tag-preserved : goal.loop-tag-preserved
loop-tag-preserved c =
    let a = c.args in
    let l = c.loop-tag in
    let f = family_by a.subject.now a.cutter.now in
    let here = c.loop-tag-test.true in
    let same = not_yet f a.tags.now a.tags.now (le_refl (length a.tags.now)) l.tags l.tag-index l.invariant here in
    one_more f a.tags.now a.tags.now (le_refl (length a.tags.now)) l.tags l.tag-index l.invariant here c.family_by.result (c.family_by.ensures ∙ ap f same)

pub returns : goal.returns
returns c =
    let a = c.args in
    let l = c.loop-tag in
    let f = family_by a.subject.now a.cutter.now in
    all_written f a.tags.now a.tags.now (le_refl (length a.tags.now)) l.tags l.tag-index l.invariant c.loop-tag-test.false ∙ in_place f a.tags.now
