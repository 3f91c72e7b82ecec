use Rattle.std.proofs.Common.{rules}
use Rattle.edge_nodes.proofs.Sorted.{none_under}
use Rattle.edge_nodes.proofs.chains.LinkedMeetings.sorted_nodes.Goals as goal

pub returns-then-by_subjects-by_cutters-eq0 : goal.returns-then-by_subjects-by_cutters-eq0
returns-then-by_subjects-by_cutters-eq0 c = search (rules, none_under)
