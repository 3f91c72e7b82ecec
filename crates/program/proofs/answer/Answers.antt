-- `program::answer` meets its contract. Assumes nothing.
use Rattle.program.proofs.Answers.{read_printed}
use Rattle.program.proofs.answer.Goals as goal

pub returns : goal.returns
returns c =
    let r = c.in-Some in
    read_printed c.args.s.now r.input.settings _ _ _ _ c.args.out.now c.cut.new.out c.cut.result r.ensures.read c.cut.ensures
    c.view-subject.ensures.mesh c.view-cutter.ensures.mesh
