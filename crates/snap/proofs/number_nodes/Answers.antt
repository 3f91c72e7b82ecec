use native.Mathlib.Omega.{arith}
use lib.ListN.{length-set}
use Rattle.snap.proofs.Numbers.{number_turn, number_end}
use Rattle.snap.proofs.number_nodes.Goals as goal

pub loop-j-preserved : goal.loop-j-preserved
loop-j-preserved c = (simp length-set c.loop-j.invariant.0, number_turn _ _ _ _ _ _ _ _ _ (omega arith) c.loop-j.invariant.1 c.number_of.ensures)

pub returns : goal.returns
returns c = number_end _ _ _ _ _ _ _ _ (omega arith) (omega arith) c.loop-j.invariant.1
