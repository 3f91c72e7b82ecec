-- Whole numbers with signs: how far they are from multiples. Assumes nothing.
use mathlib.Core.Path.{◌≡◌, refl}
use mathlib.Core.Bool.{Bool, true, false}
use Prim.Native.Nat.{ℕ, suc, ◌+◌, ◌*◌}
use lib.IntN.{ℤ, pos, negsuc, nat_abs, ◌-ℤ◌, ◌*ℤ◌}
use Rattle.exact.specs.Exact.{signed}
use Rattle.rounding.proofs.Whole.{gap}
use Rattle.rounding.proofs.Sizes.{one_side, two_sides}

-- the multiple is on its side of 0, or on the other
pub data Multiple (s : Bool) (a g : ℕ) (z : ℤ) : Type 0 where
  same : (n : ℕ) → z *ℤ pos g ≡ signed s (n * g) → nat_abs (signed s a -ℤ z *ℤ pos g) ≡ gap a (n * g) → Multiple s a g z
  other : (n : ℕ) → nat_abs (signed s a -ℤ z *ℤ pos g) ≡ a + n * g → Multiple s a g z

pub multiple_of : (s : Bool) (a g : ℕ) (z : ℤ) → Multiple s a g z
multiple_of false a g (pos n) = same n refl (one_side false a (n * g))
multiple_of false a g (negsuc n) = other (suc n) (two_sides false a (suc n * g))
multiple_of true a g (pos n) = other n (two_sides true a (n * g))
multiple_of true a g (negsuc n) = same (suc n) refl (one_side true a (suc n * g))
