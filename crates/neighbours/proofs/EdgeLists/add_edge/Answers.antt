use mathlib.Core.Path.{refl}
use Rattle.std.proofs.Common.{rules}
use Rattle.neighbours.proofs.Holding.{hit, linked_yet, chained_yet, chained_now, missed}
use Rattle.neighbours.proofs.EdgeLists.add_edge.Goals as goal

pub returns-then-has_key : goal.returns-then-has_key
returns-then-has_key c = hit c.args.self.now _ _ c.new-key.result c.new-key.ensures _ c.has_key.ensures c.if-has_key.true

pub returns : goal.returns
returns c = missed c.args.self.now _ _ c.new-key.result c.new-key.ensures _ c.has_key.ensures c.requires c.if-has_key.false _ refl _ (search rules) refl refl

pub invariant_of-self-3-clause-chained : goal.invariant_of-self-3-clause-chained
invariant_of-self-3-clause-chained c = chained_yet c.args.self.now _ _ c.new-key.result c.new-key.ensures _ c.has_key.ensures c.requires c.if-has_key.false _ refl _

pub invariant_of-self-4-clause-chained : goal.invariant_of-self-4-clause-chained
invariant_of-self-4-clause-chained c =
    chained_now c.args.self.now _ _ c.new-key.result c.new-key.ensures _ c.has_key.ensures c.requires c.if-has_key.false _ refl _ c.chain-c.ensures.0

pub invariant_of-self-3-clause-linked : goal.invariant_of-self-3-clause-linked
invariant_of-self-3-clause-linked c = linked_yet c.args.self.now _
