use mathlib.Core.Path.{refl, sym}
use Rattle.lists.proofs.Regions.{put_none}
use Rattle.finding.proofs.numbering.cutter_edges.Goals as goal

pub returns-then-lines : goal.returns-then-lines
returns-then-lines c = rw c.if-lines.true (refl, sym (put_none c.args.w.now c.args.from), c.requires.1, c.requires.2)
