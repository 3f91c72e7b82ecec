-- `exact::rows::Rows::sign` meets its contract. Assumes nothing.
use lib.ListN.{length}
use Rattle.exact.proofs.Carries.{State}
use Rattle.exact.proofs.rows.Rows.sign.Given as goal

abbrev pub invariant-loop-p : goal.invariant-loop-p
invariant-loop-p l = State l.self.more l.self.less l.order l.u l.v (length l.yielded)
