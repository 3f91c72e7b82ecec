use Rattle.strips.proofs.Samples.{sorting_turn}
use Rattle.strips.proofs.things.Things.sort_samples.Goals as goal

pub loop-i-preserved : goal.loop-i-preserved
loop-i-preserved c = sorting_turn _ _ _ _ _ _ _ _ _ _ c.loop-i.invariant c.loop-i-test.true c.sample-v.ensures c.place-p.ensures.place c.insert_at.ensures.after
