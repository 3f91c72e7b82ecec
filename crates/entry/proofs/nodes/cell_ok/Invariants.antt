-- No node so far stands among those before it. Assumes nothing.
use Rattle.std.proofs.Common.{◌≡◌, true, Bool, List, ℕ, take}
use lib.ListN.{get_or}
use Rattle.lists.specs.Search.{every}
use Rattle.entry.specs.Refused.{absent}
use Rattle.entry.proofs.nodes.cell_ok.Given as goal

abbrev pub new_at : List ℕ → ℕ → Bool
new_at cell j = absent (take j cell) (get_or cell j 0)

abbrev pub invariant-loop-j : goal.invariant-loop-j
invariant-loop-j l = every l.j (new_at l.cell) ≡ true
