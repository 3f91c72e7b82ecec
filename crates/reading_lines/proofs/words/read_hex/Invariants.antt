use Rattle.std.proofs.Common.{◌≡◌, ◌-◌, ◌++◌, drop}
use Rattle.text.specs.Read.{hex_from}
use Rattle.reading_lines.proofs.words.read_hex.Given as goal

abbrev pub invariant-loop-b : goal.invariant-loop-b
invariant-loop-b l = hex_from (16 - l.b-index) l.v (drop l.b-index l.digits ++ l.rest) ≡ hex_from 16 0 l.s
