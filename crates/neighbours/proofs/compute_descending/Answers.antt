use mathlib.Core.Path.{sym, ap, ◌∙◌}
use Rattle.lists.specs.Regions.{zeros}
use Rattle.neighbours.proofs.Holding.{chained_clear}
use Rattle.neighbours.proofs.compute_descending.Goals as goal

pub invariant_of-lists-clause-chained : goal.invariant_of-lists-clause-chained
invariant_of-lists-clause-chained c = chained_clear c.args.edges.now c.fill.new.self _ (c.fill.ensures.after (λ _ h. h) ∙ ap zeros (sym c.fill.ensures.len))
