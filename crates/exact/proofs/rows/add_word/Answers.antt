-- `exact::rows::add_word` meets its contract. Assumes nothing.
use Rattle.exact.proofs.Cells.{grown}
use Rattle.exact.proofs.rows.add_word.Goals as goal

pub returns : goal.returns
returns c = grown _ _ _ c.ranges.v.fits c.told-acc c.requires.0
