use native.Mathlib.Omega.{arith}
use Rattle.cutting_cells.proofs.Copy.{copied_as}
use Rattle.cutting_cells.proofs.Cell.copy.Goals as goal

pub returns : goal.returns
returns c =
    let a = c.args in
    copied_as a.self.now.corners.now a.runs.now a.stops.now _ c.repeats.ensures c.copy_at.new.dst c.if-repeats.false a.self.now.short (omega (arith, c.fits-runs))
    (omega (arith, c.fits-stops)) c.copy_at.ensures.after
