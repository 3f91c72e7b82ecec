use Rattle.strips.proofs.Rows.{row_start, row_risen, row_turn, row_end}
use Rattle.strips.proofs.gathering.Search.gather_row.Goals as goal

pub loop-x-init : goal.loop-x-init
loop-x-init c = search row_start

pub gather_chain-r-requires : goal.gather_chain-r-requires
gather_chain-r-requires c = (c.chain-c.ensures.1, search row_risen)

pub loop-x-preserved : goal.loop-x-preserved
loop-x-preserved c = search row_turn

pub returns : goal.returns
returns c = search row_end
