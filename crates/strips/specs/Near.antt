-- What an iterator over the things near a box has left. Assumes nothing.
use Rattle.std.specs.Prelude.{Option, Some, None, List, [], ◌++◌, ℕ, take, drop}
use Rattle.strips.specs.declared.gathering.Index.{Index}
use Rattle.strips.specs.declared.near.Near.{Near}
use Rattle.rules.specs.declared.Bounds.{Bounds}
use Rattle.strips.specs.Meeting.{things_meeting}

-- those that a search from a number on finds, if there is one
abbrev pub searched : Index → Bounds → Option ℕ → List ℕ
searched i b None = []
searched i b (Some from) = things_meeting i.things.coords.now i.things.nodes.now i.things.ends.now b from

abbrev pub near_left : {N : ℕ} → Near N → List ℕ
near_left n = drop n.at (take n.count n.found) ++ searched n.index n.bounds n.from
