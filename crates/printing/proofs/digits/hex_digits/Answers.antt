-- `printing::digits::hex_digits` meets its contract. Assumes nothing.
use mathlib.Core.Path.{sym, ◌∙◌}
use lib.ListN.{length-set}
use Rattle.printing.proofs.FromRight.{hex_turn}
use Rattle.printing.proofs.digits.hex_digits.Goals as goal

pub loop-digit-preserved : goal.loop-digit-preserved
loop-digit-preserved c =
    let l = c.loop-digit in (
      simp length-set l.invariant.0,
      sym (hex_turn l.digit-items l.digit-index l.left c.glyph_of.result l.invariant.0 c.loop-digit-test.true c.glyph_of.ensures) ∙ l.invariant.1,
    )
