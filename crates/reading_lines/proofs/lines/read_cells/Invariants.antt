use Rattle.std.proofs.Common.{◌≡◌, ◌≤◌, ◌-◌, length}
use Rattle.text.specs.Read.{cells_from, empty}
use Rattle.reading_lines.specs.Lines.{SameCellLists, cells_of}
use Rattle.reading_lines.proofs.lines.read_cells.Given as goal

abbrev pub invariant-loop-k : goal.invariant-loop-k
invariant-loop-k l =
    let most = length l.initial.lists.nodes.now in
    record {
      entries : l.entries ≤ most;
      same_lists : SameCellLists l.lists l.initial.lists;
      so_far : cells_from most (l.room - l.k) (cells_of (record { cells = l.k; entries = l.entries }) l.lists) l.rest ≡ cells_from most l.room empty l.s;
    }
