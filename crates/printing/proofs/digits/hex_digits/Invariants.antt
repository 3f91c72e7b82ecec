-- `printing::digits::hex_digits` meets its contract. Assumes nothing.
use mathlib.Core.Path.{◌≡◌}
use mathlib.Core.List.{◌++◌, reverse}
use Prim.Native.Nat.{◌-◌}
use lib.ListN.{length, take}
use Rattle.text.specs.Text.{hex_to, hex}
use Rattle.printing.proofs.digits.hex_digits.Given as goal

abbrev pub invariant-loop-digit : goal.invariant-loop-digit
invariant-loop-digit l = (length l.digit-items ≡ 16) × (hex_to (16 - l.digit-index) l.left ++ reverse (take l.digit-index l.digit-items) ≡ hex l.n)
