use Rattle.std.proofs.Common.{ap}
use Rattle.text.specs.Read.{hex_from}
use Rattle.reading_lines.proofs.Loops.{parts_join}
use Rattle.reading_lines.proofs.words.read_hex.Goals as goal

pub loop-b-init : goal.loop-b-init
loop-b-init c =
    let e = c.in_ok-digits.ensures.cases in
    ap (hex_from 16 0) (parts_join c.args.s.now c.in_ok-digits.digits.now c.in_ok-digits.rest.now 16 e.1 e.2)
