use Rattle.strips.proofs.Rows.{levels_asks, levels_end}
use Rattle.strips.proofs.gathering.Search.gather_levels.Goals as goal

pub gather_level-r-requires : goal.gather_level-r-requires
gather_level-r-requires c = search levels_asks

pub returns : goal.returns
returns c = search levels_end
