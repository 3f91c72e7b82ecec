use Rattle.std.proofs.Common.{rules}
use Rattle.cells.proofs.Cut.{read_front}
use Rattle.cells.proofs.Own.{few_at}
use Rattle.cells.proofs.Over.{laid_fits, laid_at}
use Rattle.cells.proofs.OwnEdges.lay.Goals as goal

pub nodes_on-count-requires : goal.nodes_on-count-requires
nodes_on-count-requires c = rw (c.next_corner-b.ensures) (few_at c.args.self.now c.args.i c.requires, search rules)

pub shared_ref_as_front-result : goal.shared_ref_as_front-result
shared_ref_as_front-result c =
    laid_fits c.args.self.now c.args.i c.requires c.next_corner-b.ensures (read_front c.nodes_on-count.ensures) _ c.lay_own_edge-entries.ensures.0

pub returns : goal.returns
returns c = laid_at c.args.self.now c.args.i c.requires c.next_corner-b.ensures (read_front c.nodes_on-count.ensures) _ c.lay_own_edge-entries.ensures
