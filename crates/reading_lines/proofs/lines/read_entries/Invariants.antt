use Rattle.std.proofs.Common.{◌≡◌, ◌-◌, [], take}
use Rattle.text.specs.Read.{entries_from}
use Rattle.reading_lines.proofs.lines.read_entries.Given as goal

abbrev pub invariant-loop-k : goal.invariant-loop-k
invariant-loop-k l = entries_from (l.k-end - l.k) (take l.k l.nodes) l.rest ≡ entries_from l.k-end [] l.s
