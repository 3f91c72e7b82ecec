-- No refusal has the number 0. Assumes nothing.
use Rattle.std.proofs.Common.{◌≡◌, ◌<◌, arith}
use Rattle.refusals.specs.declared.Refusal.{Refusal}
use Rattle.refusals.specs.Numbers.{number}

pub number_positive : (r : Refusal) → 0 < number r
number_positive r = grind arith

-- so it can stand for none
pub some_not_zero : (r : Refusal) → number r ≡ 0 → ⊥
some_not_zero r e = grind arith
