-- Exact coordinates, which are whole numbers of 2 ^ -1074, and signs. Assumes nothing.
use Rattle.std.specs.Prelude.{Bool, true, false, cond, ℕ, zero, suc, ◌-◌, ◌*◌, ◌/◌, ◌^◌, ltb, ℤ, pos, negsuc, neg_ℤ, Float}
use Rattle.std.specs.Float.{nan, inf, fin}
use Rattle.std.specs.Float.Ieee.{up, down, size}
use Rattle.std.specs.declared.cmp.Ordering.{Ordering}
use Rattle.std.specs.declared.cmp.Ordering.TheVariants.{Less, Equal, Greater}
use Rattle.std.specs.Ordering.{is_lt, is_gt}

-- ---- a float in units of 2 ^ -1074. What is not finite counts as 0.

-- its size: m * 2 ^ e * 2 ^ 1074, which is whole for every f64 (`exact_units` in proofs/ExactUnits.antt)
unfoldable pub mag : Float → ℕ
mag nan = 0
mag (inf s) = 0
mag (fin s m e) = m * up e * 2 ^ 1074 / down e

-- its sign, which a zero has too
abbrev pub minus : Float → Bool
minus nan = false
minus (inf s) = false
minus (fin s m e) = s

-- n, or -n where s is true
abbrev pub signed : Bool → ℕ → ℤ
signed false n = pos n
signed true n = neg_ℤ (pos n)

-- the exact coordinate
unfoldable pub coord : Float → ℤ
coord x = signed (minus x) (mag x)

-- its sign, its significand of 53 binary digits at most, and its exponent, the count of digits beyond those
unfoldable pub take_apart : Float → Bool × ℕ × ℕ
take_apart x = (minus x, mag x / 2 ^ (size (mag x) - 53), size (mag x) - 53)

-- ---- three-way comparisons

unfoldable pub ordered : ℕ → ℕ → Ordering
ordered a b = cond (ltb a b) Less (cond (ltb b a) Greater Equal)

-- a whole number compared with 0
unfoldable pub sign : ℤ → Ordering
sign (pos zero) = Equal
sign (pos (suc n)) = Greater
sign (negsuc n) = Less

abbrev pub is_less : Ordering → Bool
is_less o = is_lt o

abbrev pub is_greater : Ordering → Bool
is_greater o = is_gt o

-- the number of each case as a sign: -1, 0 or 1
abbrev pub sign_number : Ordering → ℤ
sign_number Less = negsuc 0
sign_number Equal = pos 0
sign_number Greater = pos 1

-- the same of a whole number
unfoldable pub signum : ℤ → ℤ
signum (pos zero) = pos 0
signum (pos (suc n)) = pos 1
signum (negsuc n) = negsuc 0
