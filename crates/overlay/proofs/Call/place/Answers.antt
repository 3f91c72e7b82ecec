-- `overlay::Call::place` meets its contract. Assumes nothing.
use Rattle.std.proofs.Common.{arith, sym, ap, ◌∙◌, Ok, Err}
use lib.Seq.{length-take-le}
use Rattle.lists.specs.Search.{many}
use Rattle.refusals.proofs.Residual.{passed_on}
use Rattle.entry.proofs.Passed.{passed}
use Rattle.pieces.proofs.Placing.{code_met, all_placed, fit}
use Rattle.cutting_cells.proofs.Meshes.{meshes_steady}
use Rattle.overlay.proofs.Whole.{cells_met, yielded_events, placed_in}
use Rattle.overlay.proofs.Call.place.Goals as goal

pub returns-in_err-listed-clause-refusal : goal.returns-in_err-listed-clause-refusal
returns-in_err-listed-clause-refusal c =
    let ready = c.in_ok-p.ensures in
    let told = rw c.first_nodes.ensures at c.in_err-listed.ensures.placed in
    rw (passed_on _ _ c.from_residual-in_err-listed.ensures.1)
    (cells_met _ _ _ _ _ _ _ _ _ ready.refusal (yielded_events _ _ _ _ _ _ _ _ _ ready.prepared) (code_met _ _ _ _ _ (Err _) _ _ _ told))

pub returns-clause-refusal : goal.returns-clause-refusal
returns-clause-refusal c =
    let ready = c.in_ok-p.ensures in
    let told = rw c.first_nodes.ensures at c.in_ok-listed.ensures.placed in
    cells_met _ _ _ _ _ _ _ _ _ ready.refusal (yielded_events _ _ _ _ _ _ _ _ _ ready.prepared) (code_met _ _ _ _ _ (Ok c.in_ok-listed.listed) _ _ _ told)

pub slice_bounds-count_named-end : goal.slice_bounds-count_named-end
slice_bounds-count_named-end c =
    let told = rw c.first_nodes.ensures at c.in_ok-listed.ensures.placed in
    omega (arith, (fit _ _ _ _ _ _ _ _ _ told (meshes_steady _ _ _ _ _ _ _) (omega arith) (omega arith)).1, c.cut_meshes.auto.on)

pub slice_bounds-count_named-end-2 : goal.slice_bounds-count_named-end-2
slice_bounds-count_named-end-2 c = sym (length-take-le _ _ (slice_bounds-count_named-end c))

pub returns-clause-placed : goal.returns-clause-placed
returns-clause-placed c =
    let told = rw c.first_nodes.ensures at c.in_ok-listed.ensures.placed in
    placed_in _ _ _ _ _ _ _ _ _ c.in_ok-p.ensures.prepared _ (passed _ _ _ _ c.requires.entered) _ _ _ _ _ _ c.in_ok-listed.listed
    (all_placed _ _ _ _ _ _ _ _ _ told) (fit _ _ _ _ _ _ _ _ _ told (meshes_steady _ _ _ _ _ _ _) (omega arith) (omega arith)).0
    _ (c.count_named-points.ensures.count ∙ ap (many _) (length-take-le _ _ c.in_ok-p.ensures.prepared.marks))
