-- Digits: one turn of the loop that writes them from the right, and std's decimal text. Assumes nothing.
use mathlib.Core.Path.{◌≡◌, refl}
use mathlib.Core.List.{List, [], ◌∷◌, ◌++◌, append-nil, reverse}
use Prim.Native.Nat.{ℕ, suc, ◌+◌, ◌-◌, ◌^◌, ◌/◌, ◌%◌, ◌<◌, ◌≤◌}
use native.Mathlib.Omega.{arith}
use borrow.Author.Tests.{lt-ltb, le-ltb}
use lib.Ieee.{Float, nan, inf, fin, is_nan, to_bits, binary64}
use mathlib.Core.Bool.{true}
use Rattle.std.proofs.lemmas.Bool.{false≢true}
use lib.ListN.{length, set, take}
use lib.Seq.{append_snoc, take_all}
use Rattle.std.proofs.lemmas.List.{reverse-append, take_more_set}
use Rattle.std.specs.Fmt.{decimal as printed}
use Rattle.std.proofs.lemmas.Fmt.{AppendsLastDigit, decimal_from_appends, length-decimal-le}
use Rattle.text.specs.Text.{glyph, hex_to, hex, decimal_to, decimal}

-- one turn: the last of the i + 1 digits left is put behind those that the list holds already
pub hex_turn : (a : List ℕ) (i v g : ℕ) → length a ≡ 16 → i < 16 → g ≡ glyph (v % 16)
    → hex_to (16 - i) v ++ reverse (take i a) ≡ hex_to (16 - (i + 1)) (v / 16) ++ reverse (take (i + 1) (set a i g))
unfolding hex_to
hex_turn a i v g l h q =
    let left : 16 - i ≡ suc (16 - (i + 1)) = omega arith in
    let within : i < length a = omega arith in
    rw (left, take_more_set a i g within, reverse-append (take i a) (g ∷ []), q) (append_snoc (hex_to (16 - (i + 1)) (v / 16)) (glyph (v % 16)) (reverse (take i a)))

last_digit : AppendsLastDigit decimal_to
unfolding decimal_to
last_digit = record { one = λ k n h. rw (lt-ltb _ _ h); more = λ k n h. rw (le-ltb _ _ h) }

-- std's decimal text of a number of ten digits is ours
pub decimal_printed : (n : ℕ) → n < 2 ^ 32 → printed n ≡ decimal n
unfolding decimal
decimal_printed n h = let s : decimal_to 10 n ≡ printed n = decimal_from_appends decimal_to last_digit 10 n (omega arith) (length-decimal-le 10 n (omega arith) (omega arith) (omega arith)) in rw s

-- the first turn begins with no digit, the last leaves all
pub hex_start : (n : ℕ) → hex_to 16 n ++ [] ≡ hex n
unfolding hex
hex_start n = append-nil (hex_to 16 n)

pub hex_end : (a : List ℕ) (i v : ℕ) → length a ≡ 16 → length a ≤ i → hex_to (16 - i) v ++ reverse (take i a) ≡ reverse a
unfolding hex_to
hex_end a i v l h = let z : 16 - i ≡ 0 = omega arith in rw (z, take_all i a h) refl

-- the bits that are printed of a NaN
pub nan_bits : (x : Float) → is_nan x ≡ true → 9221120237041090560 ≡ to_bits binary64 x
unfolding to_bits is_nan
nan_bits nan e = refl
nan_bits (inf s) e = absurd (false≢true e)
nan_bits (fin s m k) e = absurd (false≢true e)
