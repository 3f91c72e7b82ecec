use mathlib.Core.Path.{◌∙◌}
use Rattle.std.proofs.Common.{rules}
use Rattle.std.proofs.lemmas.Iterator.Consumers.{YieldsList-from_first}
use Rattle.std.proofs.lemmas.Iterator.Search.{all_from_yields_List}
use Rattle.lists.specs.Runs.{runs_left}
use Rattle.entry.specs.Refused.{cell_ok}
use Rattle.entry.proofs.Runs.{cells_are}
use Rattle.entry.proofs.nodes.cells_ok.Goals as goal

pub returns : goal.returns
returns c =
    all_from_yields_List cell_ok c.all.new.self _ c.all.result c.all.ensures.ran (YieldsList-from_first (λ x. x.now) runs_left _ c.new.ensures) (λ x b q k. search rules)
    ∙ cells_are c.args.nodes.now c.args.ends.now
