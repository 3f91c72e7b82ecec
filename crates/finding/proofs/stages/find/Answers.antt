-- `finding::stages::find` meets its contract. Assumes nothing.
use mathlib.Core.Path.{sym, ◌∙◌}
use Rattle.finding.proofs.Ends.{cleared_all}
use Rattle.finding.proofs.stages.find.Goals as goal

pub returns-then-is_err : goal.returns-then-is_err
returns-then-is_err c =
    let x = c.stages-answer in
    let a = c.args in
    cleared_all _ _ _ a.work.now c.requires a.coords.now x.result x.new.coords x.new.work x.ensures
    (sym c.is_err.ensures.value ∙ c.if-is_err.true) x.auto.coords x.auto.work
    c.fill.new.self c.fill-then-is_err.new.self (c.fill.ensures.after (λ _ h. h)) (c.fill-then-is_err.ensures.after (λ _ h. h))
