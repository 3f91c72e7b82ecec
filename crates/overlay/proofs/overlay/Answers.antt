-- `overlay::overlay` meets its contract. Assumes nothing.
use Rattle.std.proofs.Common.{sym}
use Rattle.overlay.proofs.Returns.{cleared_all, at_stage, done}
use Rattle.overlay.proofs.overlay.Goals as goal
use Rattle.overlay.proofs.overlay.Goals.{then-is_err, else-is_err}

pub returns-clause-answer : goal.returns-clause-answer
returns-clause-answer c =
    let r = c.run-result in
    let work = c.fill.ensures.after (λ _ h. h) in
    elim c.if-is_err.branch [
      | then-is_err w ↦
          rw w.out-is
          (at_stage _ _ _ _ c.in_ok-entry.ensures _ r.result r.ensures.refusal (sym w.if-is_err.ensures.value)
          (cleared_all c.args.out.now r.new.out w.clear.new.self c.args.work.now r.new.work c.fill.new.self r.ensures.same_lists w.clear.ensures.cleared work r.auto.work))
      | else-is_err w ↦
          rw (w.out-is, work, r.auto.work)
          (done _ _ _ _ c.in_ok-entry.ensures _ r.result r.ensures.refusal (sym w.if-is_err.ensures.value) r.ensures.answer)
    ]
