use mathlib.Core.Path.{sym, ap, ◌∙◌}
use Rattle.refusals.proofs.Residual.{passed_on}
use Rattle.lists.specs.Runs.{runs_left}
use Rattle.pieces.proofs.Runs.{runs_one_by_one}
use Rattle.pieces.proofs.Loops.{space_of, begin, next_space, skipped, unlaid}
use Rattle.pieces.proofs.piece_lists.PieceLists.place_run.Goals as goal

pub loop-piece-init : goal.loop-piece-init
loop-piece-init c =
    let a = c.args in
    begin _ _ c.requires.0 (space_of a.self.now _ c.requires.1) _
    (ap runs_left c.into_iter-piece-iterator.ensures.into_iter_gives ∙ c.new-piece-items.ensures ∙ runs_one_by_one a.runs.now a.stops.now)

pub place-requires : goal.place-requires
place-requires c =
    let a = c.args in
    let l = c.loop-piece in
    (next_space _ _ c.requires.0 (space_of a.self.now _ c.requires.1) l.invariant c.in-Some.ensures.steps).short

pub returns-in_err-place-clause-placed : goal.returns-in_err-place-clause-placed
returns-in_err-place-clause-placed c =
    let a = c.args in
    let l = c.loop-piece in
    rw (passed_on c.from_residual.result _ c.from_residual.ensures.1)
    (unlaid _ _ c.requires.0 (space_of a.self.now _ c.requires.1) l.invariant c.in-Some.ensures.steps
    (sym c.is_kept.ensures ∙ c.if-is_kept.true) _ c.in_err-place.ensures.placed)

pub loop-piece-preserved : goal.loop-piece-preserved
loop-piece-preserved c =
    let a = c.args in
    let l = c.loop-piece in
    skipped _ _ c.requires.0 (space_of a.self.now _ c.requires.1) l.invariant c.in-Some.ensures.steps
    (sym c.is_kept.ensures ∙ c.if-is_kept.false)
