-- `program::cut` meets its contract. Assumes nothing.
use Rattle.std.proofs.Common.{arith, refl, rules}
use Rattle.entry.specs.Mesh.{mesh_of}
use Rattle.program.proofs.Answers.{nodes_fit_lem, cut_printed}
use Rattle.program.proofs.cut.Goals as goal

pub told-requires : goal.told-requires
told-requires c =
    let a = c.args in
    let r = c.overlay-answer in
    nodes_fit_lem a.settings (mesh_of a.subject.now) (mesh_of a.cutter.now) _ r.result _ r.ensures.answer (omega arith)

pub returns : goal.returns
returns c =
    let a = c.args in
    let r = c.overlay-answer in
    let p = c.print_answer in
    cut_printed a.settings (mesh_of a.subject.now) (mesh_of a.cutter.now) _ r.result _ r.ensures.answer _ p.result a.out.now p.new.out refl (search rules)
    (rw c.told.ensures at p.ensures)
