-- What requests changed in the rules. One set of definitions says what was and what is, by an edition of them. Assumes nothing.
use Rattle.std.specs.Prelude.{Bool, true, false}

pub record Edition : Type 0 where
  -- document 02, W1: a walk may turn back
  pub turning : Bool
  -- W14: a table has an edge once, and an outline that repeats is refused
  pub once : Bool
  -- W6: new points are booked on a grid, where an overlay sets one
  pub grids : Bool
  -- W7: nodes have layers
  pub layers : Bool

-- document 01 by itself, but for what W2, W5 and W7 added to the answer
abbrev pub base : Edition
base = record { turning = false; once = false; grids = false; layers = false }

-- the library's own
abbrev pub ours : Edition
ours = record { turning = true; once = true; grids = true; layers = true }
