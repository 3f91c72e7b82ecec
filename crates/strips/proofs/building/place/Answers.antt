use mathlib.Core.Path.{ap, ◌∙◌}
use lib.ListN.{length}
use Rattle.std.proofs.Common.{unwrap_or}
use Rattle.strips.proofs.Samples.{placed}
use Rattle.strips.proofs.building.place.Goals as goal

pub returns-clause-place : goal.returns-clause-place
returns-clause-place c = placed _ _ _ _ _ (c.unwrap_or.ensures ∙ ap (λ r. unwrap_or r (length c.args.order.now)) c.position_of.ensures)
