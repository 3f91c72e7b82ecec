use mathlib.Core.Path.{◌∙◌}
use Rattle.std.proofs.Common.{rules}
use Rattle.std.proofs.lemmas.Iterator.Consumers.{YieldsList-from_first}
use Rattle.std.proofs.lemmas.Iterator.Search.{any_from_yields_List}
use Rattle.cutting.specs.Edges.{Edge, same_key}
use Rattle.neighbours.specs.Chain.{chain_left}
use Rattle.neighbours.proofs.Holding.{own_key}
use Rattle.neighbours.proofs.Walk.{search_along}
use Rattle.neighbours.proofs.EdgeLists.has_key.Goals as goal

pub returns : goal.returns
returns c =
    let e : Edge = (c.args.key.first, c.args.key.second) in
    any_from_yields_List (λ f. same_key f e) c.any.new.self _ c.any.result c.any.ensures.ran (YieldsList-from_first (λ f. f) chain_left _ c.chain.ensures)
    (λ f t q k. search (rules, own_key c.args.key)) ∙ search_along c.args.self.now c.args.key
