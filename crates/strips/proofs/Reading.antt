-- The numbers of an index, read one after the other: they are all there. Assumes nothing.
use mathlib.Core.Path.{◌≡◌}
use Prim.Native.Nat.{◌-◌, ◌≤◌}
use native.Mathlib.Omega.{arith}
use lib.ListN.{length, get_or, take, drop, length-drop}
use lib.Seq.{length-take-le}
use Rattle.strips.specs.declared.gathering.Index.{Index}
use Rattle.strips.specs.Things.{thing_count}
use Rattle.strips.specs.Index.{strip_count, chain_count, index_size}
use Rattle.strips.proofs.Sizes.{side_range}
use Rattle.strips.proofs.IndexAt.{length_bounds}
use Rattle.strips.proofs.Searching.{index_long, side_read, levels_read, xs_read, ys_read, levels_few, search_found}

module _ (s : Index) where
  long : length s.numbers.now ≡ index_size (thing_count s.things.nodes.now s.things.ends.now)
  long = index_long s.things.coords.now s.things.nodes.now s.things.ends.now s.numbers.now s.is

  side : get_or s.numbers.now 0 0 ≡ strip_count (thing_count s.things.nodes.now s.things.ends.now)
  side = side_read s.things.coords.now s.things.nodes.now s.things.ends.now s.numbers.now s.is

  behind : 2 ≤ length s.numbers.now → length (take (length s.numbers.now - 2) (drop 2 s.numbers.now)) ≡ length s.numbers.now - 2
  behind h = length-take-le (length s.numbers.now - 2) (drop 2 s.numbers.now) (omega (arith, length-drop 2 s.numbers.now))

  -- the two counts
  pub counts_there : 2 ≤ length s.numbers.now
  counts_there = omega (arith, long)

  -- the nodes at which strips begin, by x and by y
  pub xs_there : get_or s.numbers.now 0 0 ≤ length (take (length s.numbers.now - 2) (drop 2 s.numbers.now))
  xs_there = omega (arith, long, side, behind counts_there)

  pub ys_there : get_or s.numbers.now 0 0 ≤ length (take (length s.numbers.now - 2) (drop 2 s.numbers.now)) - get_or s.numbers.now 0 0
  ys_there = omega (arith, long, side, behind counts_there)

  -- the heads of the chains
  pub heads_there : chain_count (thing_count s.things.nodes.now s.things.ends.now)
      ≤ length (take (length s.numbers.now - 2) (drop 2 s.numbers.now)) - get_or s.numbers.now 0 0 - get_or s.numbers.now 0 0
  heads_there = omega (arith, long, side, behind counts_there)

  pub few_levels : get_or s.numbers.now 1 0 ≤ 513
  few_levels = omega (
    arith,
    levels_read s.things.coords.now s.things.nodes.now s.things.ends.now s.numbers.now s.is,
    levels_few s.things.coords.now s.things.nodes.now s.things.ends.now,
  )

-- what `gather` reads them by
pub ruleset reading = (counts_there, xs_there, ys_there, heads_there, few_levels, search_found, levels_read, xs_read, ys_read, length_bounds, side_range)
