-- `polygons::climbs` meets its contract. Assumes nothing.
use lib.ListN.{length}
use lib.Ieee.{lt}
use Rattle.lists.specs.Gather.{tally}
use Rattle.lists.specs.Sort.{sorted}
use Rattle.corners.specs.Ring.{as_read}
use Rattle.polygons.specs.Interior.{heights}
use Rattle.polygons.specs.Scans.{exceeds}
use Rattle.polygons.proofs.Steps.{Climbed}
use Rattle.polygons.proofs.climbs.Given as goal

abbrev pub invariant-loop-y : goal.invariant-loop-y
invariant-loop-y l = Climbed (length (as_read l.ring)) (sorted lt (heights l.ring.coords.now (as_read l.ring))) l.c

abbrev pub decreases-loop-y : goal.decreases-loop-y
decreases-loop-y l = tally (exceeds l.c.at) (sorted lt (heights l.ring.coords.now (as_read l.ring)))
