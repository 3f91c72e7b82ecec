use Rattle.strips.proofs.Rows.{level_start, level_asks, level_turn, level_end}
use Rattle.strips.proofs.gathering.Search.gather_level.Goals as goal

pub loop-y-init : goal.loop-y-init
loop-y-init c = search level_start

pub gather_row-r-requires : goal.gather_row-r-requires
gather_row-r-requires c = level_asks _ _ _ _ _ _ _ c.loop-y.invariant c.requires.0 c.loop-y-test.true

pub loop-y-preserved : goal.loop-y-preserved
loop-y-preserved c = search level_turn

pub returns : goal.returns
returns c = search level_end
