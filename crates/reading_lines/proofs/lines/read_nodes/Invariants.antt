use Rattle.std.proofs.Common.{◌≡◌, ◌-◌}
use Rattle.text.specs.Read.{nodes_from, no_nodes}
use Rattle.reading_lines.specs.Lines.{nodes_of}
use Rattle.reading_lines.proofs.lines.read_nodes.Given as goal

abbrev pub invariant-loop-k : goal.invariant-loop-k
invariant-loop-k l = nodes_from (l.room - l.k) (nodes_of l.k l.coords l.layers) l.rest ≡ nodes_from l.room no_nodes l.s
