use mathlib.Core.Path.{sym, ap, ◌∙◌}
use lib.ListN.{length}
use Rattle.std.proofs.Common.{rules}
use Rattle.std.proofs.lemmas.Iterator.{YieldsList-from_slice, YieldsList-from_zip}
use Rattle.std.proofs.lemmas.Iterator.Consumers.{YieldsList-from_first}
use Rattle.std.proofs.lemmas.Iterator.Search.{all_from_yields_List}
use Rattle.lists.specs.Runs.{runs_left}
use Rattle.entry.specs.Refused.{kind_ok}
use Rattle.entry.proofs.Ends.{sorted_is}
use Rattle.entry.proofs.Runs.{kinds_are}
use Rattle.entry.proofs.kinds.kinds_ok.Goals as goal

pub returns-then-is_sorted : goal.returns-then-is_sorted
returns-then-is_sorted c =
    let m = c.args.mesh.now in
    all_from_yields_List (λ p. kind_ok c.args.lines p.0 (length p.1)) c.all.new.self _ c.all.result c.all.ensures.ran
    (YieldsList-from_zip (YieldsList-from_slice m.kinds.now cc) (YieldsList-from_first (λ x. x.now) runs_left _ (ap runs_left c.zip.ensures.second ∙ c.new.ensures)))
    (λ x b q k. search rules)
    ∙ kinds_are m.nodes.now c.args.lines m.kinds.now m.ends.now c.requires.as_many c.requires.ends _ (sym c.if-is_sorted.true ∙ sorted_is m.kinds.now c.is_sorted.result c.is_sorted.ensures.cases)

pub returns-else-is_sorted : goal.returns-else-is_sorted
returns-else-is_sorted c =
    let m = c.args.mesh.now in
    c.if-is_sorted.false
    ∙ kinds_are m.nodes.now c.args.lines m.kinds.now m.ends.now c.requires.as_many c.requires.ends _ (sym c.if-is_sorted.false ∙ sorted_is m.kinds.now c.is_sorted.result c.is_sorted.ensures.cases)
