-- `spatial_index::empty` meets its contract. Assumes nothing.
use mathlib.Core.Path.{refl}
use lib.Ieee.{of_bits}
use Rattle.rules.specs.SpatialIndex.{box_to}
use Rattle.spatial_index.proofs.empty.Goals as goal

pub returns : goal.returns
unfolding box_to of_bits
returns c = refl
