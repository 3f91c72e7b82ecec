-- How many nodes are collected under a key, and whether they are too many. Assumes nothing.
use mathlib.Core.Path.{◌≡◌}
use mathlib.Core.List.{List}
use Prim.Native.Nat.{ℕ, ◌+◌, ◌*◌, ◌/◌, ◌≤◌}
use native.Mathlib.Omega.{arith}
use lib.ListN.{length, length-append}
use Rattle.cutting.specs.Edges.{Edge}
use Rattle.cutting.specs.Lent.{pairs}
use Rattle.edge_nodes.specs.declared.sides.Meetings.{Meetings}
use Rattle.edge_nodes.specs.Chained.{number}
use Rattle.edge_nodes.specs.Lent.{under, under_in, collected_in}
use Rattle.edge_nodes.proofs.Under.{under_bound}

-- a meeting takes five numbers, and has two nodes at most
pub under_bounded : (m : Meetings) (e : Edge) → 2 * length (under_in m e) ≤ length m.met.now
under_bounded m e = omega (arith, under_bound (pairs m.edges.now) m.met.now (number m.side) e (length m.met.now / 5))

-- ---- by both

module _ (subject cutter : List Edge) (met : List ℕ) where
  -- those by subject edges and those by cutter edges
  pub length_collected : (e : Edge) → length (collected_in subject cutter met e) ≡ length (under (length met / 5) subject met 0 e) + length (under (length met / 5) cutter met 1 e)
  unfolding collected_in
  length_collected e = length-append (under (length met / 5) subject met 0 e) (under (length met / 5) cutter met 1 e)
