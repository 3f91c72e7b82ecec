-- The exact units lose nothing. Assumes nothing.
use mathlib.Core.Path.{◌≡◌, subst}
use mathlib.Core.Bool.{Bool, true}
use Prim.Native.Nat.{ℕ, ◌*◌, ◌^◌}
use lib.Dec.{T}
use lib.IntN.{nat_abs}
use lib.Ieee.{Float, binary64, fits}
use lib.Ieee.Exact.{HasValue}
use lib.Ieee.Scale.{finite}
use Rattle.exact.specs.Exact.{mag, minus, coord}
use Rattle.exact.proofs.Fields.{Read, read}
use Rattle.exact.proofs.Integers.{abs_signed}

by_parts : {x : Float} {s : Bool} {m e : ℕ} → Read x s m e → HasValue x (minus x) (mag x) (2 ^ 1074)
by_parts {x} {s} {m} {e} h =
    subst (λ (n : ℕ). HasValue x (minus x) n (2 ^ 1074)) h.taken.value (subst (λ (s : Bool). HasValue x s (m * 2 ^ e) (2 ^ 1074)) h.taken.sign h.exact)

-- Every finite f64 has the value mag x / 2 ^ 1074, or its negative where `minus x` is true: it is a whole number of 2 ^ -1074, and the division in `mag` drops nothing.
pub exact_units : (x : Float) → fits binary64 x ≡ true → T (finite x) → HasValue x (minus x) (mag x) (2 ^ 1074)
exact_units x h k = by_parts (read x h k)

pub size_coord : (x : Float) → nat_abs (coord x) ≡ mag x
unfolding coord
size_coord x = abs_signed (minus x) (mag x)
