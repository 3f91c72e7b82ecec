use Rattle.reading_lines.proofs.Loops.{stripped}
use Rattle.reading_lines.proofs.words.read_word.Goals as goal

pub returns : goal.returns
returns c = stripped c.args.w.now c.args.s.now c.strip_prefix.result c.strip_prefix.ensures.cases
