-- The derived order of the refusals is that of their numbers. Assumes nothing.
use Rattle.std.proofs.Common.{◌≡◌, arith}
use mathlib.Core.Bool.{cond}
use lib.Dec.{leb}
use Rattle.std.specs.Ordering.{ord_min}
use Rattle.refusals.specs.declared.Refusal.{Refusal}
use Rattle.refusals.specs.Numbers.{number}
use Rattle.refusals.specs.contracts.RefusalOrd.TheImpl as order

pub lower_number : (r s : Refusal) → number (ord_min (order.ghosts).cmp r s) ≡ cond (leb (number r) (number s)) (number r) (number s)
lower_number r s = grind arith
