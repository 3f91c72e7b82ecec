use Rattle.strips.proofs.Strips.{halving_end}
use Rattle.strips.proofs.squares.strip.Goals as goal

pub returns-clause-strip : goal.returns-clause-strip
returns-clause-strip c = halving_end _ _ _ _ _ _ c.loop-n.invariant c.loop-n-test.false
