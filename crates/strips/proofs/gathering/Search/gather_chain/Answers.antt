use mathlib.Core.Path.{ap, ◌∙◌}
use Rattle.strips.specs.Chain.{chain_left}
use Rattle.strips.proofs.Walk.{putting_start, putting_risen, putting_turn, next_low}
use Rattle.strips.proofs.gathering.Search.gather_chain.Goals as goal

pub loop-j-init : goal.loop-j-init
loop-j-init c = putting_start _ _ _ _ _ (ap chain_left c.into_iter-j-iterator.ensures.into_iter_gives ∙ c.chain-j-items.ensures) c.requires.1

pub gather_thing-r-requires : goal.gather_thing-r-requires
gather_thing-r-requires c = (next_low _ _ _ _ _ _ _ _ c.loop-j.invariant _ _ c.in-Some.ensures.steps, putting_risen _ _ _ _ _ _ _ c.loop-j.invariant)

pub loop-j-preserved : goal.loop-j-preserved
loop-j-preserved c = putting_turn _ _ _ _ _ _ _ c.loop-j.invariant _ _ c.in-Some.ensures.steps _ _ c.gather_thing-r.ensures
