use mathlib.Core.Path.{◌≡◌, ap, ◌∙◌}
use mathlib.Core.Logic.{inl}
use native.Mathlib.Omega.{arith}
use lib.ListN.{length}
use Rattle.refusals.proofs.Residual.{passed_on}
use Rattle.lists.specs.Runs.{runs_left}
use Rattle.pieces.specs.Pieces.{runs_of}
use Rattle.pieces.proofs.Runs.{length_runs, runs_one_by_one}
use Rattle.cutting_cells.proofs.Loop.{begin, next_cell, next_asks, turn, stopped, end}
use Rattle.cutting_cells.proofs.Treatment.cut_cells.Goals as goal

-- at first all cells are left
all_left : (c : goal.After-into_iter-i-iterator) → runs_left c.into_iter-i-iterator.result.iter ≡ runs_of c.args.own.now c.args.stops.now
all_left c =
    ap (λ e. runs_left e.iter) c.into_iter-i-iterator.ensures.into_iter_gives ∙ ap runs_left c.enumerate-i-items.ensures.source ∙ c.new.ensures
    ∙ runs_one_by_one c.args.own.now c.args.stops.now

pub loop-i-init : goal.loop-i-init
loop-i-init c = begin c.requires _ _ (ap (λ e. e.count) c.into_iter-i-iterator.ensures.into_iter_gives ∙ c.enumerate-i-items.ensures.count) (all_left c)

pub loop-i-init-derived : goal.loop-i-init-derived
loop-i-init-derived c = (
  (
    tt,
    tt,
    inl (omega (
      arith,
      ap length (all_left c),
      length_runs c.args.own.now c.args.stops.now,
      c.requires.most,
      ap (λ e. e.count) c.into_iter-i-iterator.ensures.into_iter_gives,
      c.enumerate-i-items.ensures.count,
    )),
  ),
  tt,
)

pub invariant_of-cell : goal.invariant_of-cell
invariant_of-cell c =
    let l = c.loop-i in
    let s = c.in-Some.ensures.steps in
    let n = next_cell c.requires l.invariant s.0 s.1 in
    record { numbered = n.0; short = n.1 }

pub overlay_cell-requires : goal.overlay_cell-requires
overlay_cell-requires c =
    let l = c.loop-i in
    let s = c.in-Some.ensures.steps in
    next_asks c.requires l.invariant s.0 s.1

pub returns-in_err-overlay_cell-clause-placed : goal.returns-in_err-overlay_cell-clause-placed
returns-in_err-overlay_cell-clause-placed c =
    let l = c.loop-i in
    let s = c.in-Some.ensures.steps in
    rw (passed_on c.from_residual.result _ c.from_residual.ensures.1)
    (stopped c.requires l.invariant s.0 s.1 _ c.overlay_cell.new.lists c.in_err-overlay_cell.ensures.placed)

pub loop-i-preserved : goal.loop-i-preserved
loop-i-preserved c =
    let l = c.loop-i in
    let s = c.in-Some.ensures.steps in
    let e = c.in_ok-overlay_cell.ensures in
    turn c.requires l.invariant s.0 s.1 _ e.placed e.few e.same_lists _ s.2

pub returns-clause-placed : goal.returns-clause-placed
returns-clause-placed c =
    let l = c.loop-i in
    end c.requires l.invariant c.in-None.ensures.steps.0.0
