-- What the numbers tell. Assumes nothing.
use Rattle.std.proofs.Common.{◌≡◌, arith}
use Rattle.refusals.specs.declared.Refusal.{Refusal}
use Rattle.refusals.specs.Numbers.{number}

-- No two refusals have one number, so an answer's number tells which it is.
pub same_number : (r s : Refusal) → number r ≡ number s → r ≡ s
same_number r s e = grind arith
