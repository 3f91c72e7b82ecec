-- Which bits are a NaN's. Assumes nothing.
use mathlib.Core.Path.{◌≡◌, refl, sym, ◌∙◌}
use mathlib.Core.Bool.{true, false}
use Prim.Native.Nat.{ℕ, ◌/◌, ◌%◌, ◌<◌}
use native.Mathlib.Omega.{arith}
use borrow.Author.Tests.{eq-eqb, ne_eqb}
use lib.Ieee.{Float, nan, inf, fin, is_nan, nan_bits, of_bits, binary64}
use lib.Ieee.Bits.{nan_bits_is}

is_nan_lem : (v : Float) → is_nan v ≡ true → nan ≡ v
unfolding is_nan
is_nan_lem nan e = refl
is_nan_lem (inf s) e = sym (nope e)
  where
    nope : false ≡ true → inf s ≡ nan
    nope h = cc
is_nan_lem (fin s m e) h = sym (nope h)
  where
    nope : false ≡ true → fin s m e ≡ nan
    nope h = cc

all : (b : ℕ) → b % 9223372036854775808 / 4503599627370496 ≡ 2047 → (b % 4503599627370496 ≡ 0 → ⊥) → nan_bits binary64 b ≡ true
unfolding nan_bits
all b h k = rw (eq-eqb (b % 9223372036854775808 / 4503599627370496) 2047 h, ne_eqb (b % 4503599627370496) 0 k)

pub beyond : (b : ℕ) → 0x7ff0_0000_0000_0000 < b % 0x8000_0000_0000_0000 → nan ≡ of_bits binary64 b
beyond b h = is_nan_lem (of_bits binary64 b) (sym (nan_bits_is binary64 b) ∙ all b (omega arith) (λ z. omega (arith, z)))
