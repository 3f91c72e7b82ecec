-- Exact where it fits: what has 53 binary digits at most, and zeros behind them, is rounded to itself. Assumes nothing.
use mathlib.Core.Path.{◌≡◌, refl, ap, subst}
use mathlib.Core.Bool.{Bool, true}
use Prim.Native.Nat.{ℕ, ◌+◌, ◌*◌, ◌^◌, ◌≤◌, ◌<◌}
use native.Mathlib.Nat.{lt_of_lt_of_le}
use native.Mathlib.Omega.{arith}
use lib.Dec.{T}
use lib.Pow.{pow_pos, pow_mono, shl_lt}
use lib.Ieee.{Float, binary64, round, fits}
use lib.Ieee.Exact.{HasValue, round_exact}
use lib.Ieee.Scale.{finite}
use Rattle.exact.specs.Exact.{mag}
use Rattle.exact.specs.Inner.{Taken}
use Rattle.exact.proofs.Fields.{read}

-- x is n units of 2^-1074, or -n where s is true
abbrev pub HasUnits : Float → Bool → ℕ → Type 0
HasUnits x s n = HasValue x s n (2 ^ 1074)

-- n is m × 2^e, m of 53 binary digits at most, and below the number from which on all is infinite
pub record Fits (n : ℕ) : Type 0 where
  pub m : ℕ
  pub e : ℕ
  pub same : n ≡ m * 2 ^ e
  pub short : m < 2 ^ 53
  pub under : m * 2 ^ e < 2 ^ 2098

pub shifted_fits : (m e : ℕ) → m < 2 ^ 53 → e ≤ 2045 → Fits (m * 2 ^ e)
shifted_fits m e h l = record { m = m; e = e; same = refl; short = h; under = lt_of_lt_of_le (shl_lt 53 e h) (pow_mono {i = 53 + e} {j = 2098} (omega arith)) }

-- the size of an f64 fits
pub size_fits : (x : Float) → fits binary64 x ≡ true → T (finite x) → Fits (mag x)
size_fits x f t = go _ _ (read x f t).taken
  where
    go : {s : Bool} (m e : ℕ) → Taken x s m e → Fits (mag x)
    go m e t = let r = t.range in subst Fits t.value (shifted_fits m e t.digits (omega arith))

pub exact_where_it_fits : (s : Bool) (n : ℕ) → Fits n → HasUnits (round binary64 s n (2 ^ 1074)) s n
exact_where_it_fits s n f = round_exact binary64 s n (2 ^ 1074) f.m f.e (pow_pos 1074) f.short f.under (ap (λ (i : ℕ). i * 2 ^ 1074) f.same)
