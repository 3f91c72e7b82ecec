use mathlib.Core.Bool.{true}
use Rattle.std.proofs.Common.{rules}
use Rattle.rules.proofs.Accepts.{sound_copy}
use Rattle.cutting_cells.specs.Treated.{outcome_of}
use Rattle.cutting_cells.proofs.Copy.{out_cut}
use Rattle.cutting_cells.proofs.Outcomes.{outcome_sound, readable}
use Rattle.cutting_cells.proofs.Treatment.outcome.Goals as goal

pub returns-then-is_empty-clause-readable : goal.returns-then-is_empty-clause-readable
returns-then-is_empty-clause-readable c = readable _ (sound_copy true c.args.cell.corners.now) _ _ _ _ c.copy.result c.copy.ensures

pub returns-clause-readable : goal.returns-clause-readable
returns-clause-readable c =
    let t = c.args.self.now in
    let js = c.args.js.now in
    let cell = c.args.cell.corners.now in
    readable (outcome_of t js cell) (outcome_sound _ _ _ _ _ js cell) _ _ _ _ c.cut_cell.result (out_cut _ _ _ _ _ cell _ _ _ js (search rules) c.cut_cell.ensures)
