-- `snap::number_nodes` meets its contract. The loop's invariant: the first j marks are numbers already. Assumes nothing.
use mathlib.Core.Path.{◌≡◌}
use lib.ListN.{length}
use Rattle.lists.specs.Gather.{each}
use Rattle.lists.specs.Regions.{front}
use Rattle.snap.proofs.Numbers.{number_in}
use Rattle.snap.proofs.number_nodes.Given as goal

abbrev pub invariant-loop-j : goal.invariant-loop-j
invariant-loop-j l = (length l.numbers ≡ length l.initial.numbers)
    × (l.numbers ≡ front l.initial.numbers (each l.j (number_in l.subject.coords.now l.subject.layers.now l.order l.cutter.coords.now l.cutter.layers.now l.initial.numbers)))
