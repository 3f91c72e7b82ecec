-- The meetings by the edges of either mesh, and what they collect. Assumes nothing.
use Rattle.std.specs.Prelude.{List, ℕ, Float}
use Rattle.grid.specs.Grid.{Grid}
use Rattle.cutting.specs.Edges.{Edge}
use Rattle.cutting.specs.Lent.{pairs}
use Rattle.edge_nodes.specs.Lent.{collected_in, sorted_in}
use Rattle.edge_nodes.specs.declared.sides.Side.TheVariants.{Subject, Cutter}
use Rattle.edge_nodes.specs.declared.sides.Meetings.{Meetings}
use Rattle.edge_nodes.specs.declared.chains.LinkedMeetings.{LinkedMeetings}

abbrev pub subject_meetings : LinkedMeetings → Meetings
subject_meetings m = record { edges = m.subject; met = m.met; side = Subject }

abbrev pub cutter_meetings : LinkedMeetings → Meetings
cutter_meetings m = record { edges = m.cutter; met = m.met; side = Cutter }

-- the nodes collected under the key of e, and those in order along it
abbrev pub collected_under : LinkedMeetings → Edge → List ℕ
collected_under m e = collected_in (pairs m.subject.now) (pairs m.cutter.now) m.met.now e

abbrev pub sorted_under : Grid → List Float → LinkedMeetings → Edge → List ℕ
sorted_under grid coords m e = sorted_in grid coords (pairs m.subject.now) (pairs m.cutter.now) m.met.now e
