use Rattle.std.proofs.Common.{◌≡◌, drop}
use Rattle.text.specs.Read.{more_from}
use Rattle.reading_lines.proofs.words.read_more.Given as goal

abbrev pub invariant-loop-i : goal.invariant-loop-i
invariant-loop-i l = more_from l.v (drop l.i l.s) ≡ more_from l.first l.s
