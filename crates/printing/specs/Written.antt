-- Cited only by the contracts of inner functions: what a writer has written. Assumes nothing.
use Rattle.std.specs.Prelude.{◌≡◌, ℕ, List}
use Rattle.text.specs.Text.{PieceLine}
use Rattle.printing.specs.Page.{Page, page, page_with}
use Rattle.printing.specs.declared.lines.Piece.{Piece}
use Rattle.printing.specs.declared.writer.Writer.{Writer}

abbrev pub page_of : Writer → Page
page_of w = page w.place w.bytes.now

-- w has written the text t after what v wrote, in the same list
pub record Wrote (v w : Writer) (t : List ℕ) : Type 0 where
  pub text : page_of w ≡ page_with (page_of v) t
  pub list : w.bytes.ghost_name ≡ v.bytes.ghost_name

abbrev pub line_of : Piece → PieceLine
line_of p = record { kind = p.kind; family = p.family; mesh = p.mesh; cell = p.cell; nodes = p.nodes.now }
