-- `NearEdges::add_darts` meets its contract: the edges at the places so far are in the table, and the outline stays. Assumes nothing.
use mathlib.Core.Path.{◌≡◌}
use Rattle.cutting.specs.Lent.{pairs}
use Rattle.cells.proofs.Near.{Nearing}
use Rattle.cells.proofs.NearEdges.add_darts.Given as goal

abbrev pub invariant-loop-place : goal.invariant-loop-place
invariant-loop-place l = Nearing l.self (pairs l.initial.table.outline) l.table.slots l.place-index × (l.table.outline ≡ l.initial.table.outline)
