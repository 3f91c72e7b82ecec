use Rattle.meetings.proofs.Loops.{Through}
use Rattle.meetings.proofs.Edges.add_for_edges.Given as goal

abbrev pub invariant-loop-i : goal.invariant-loop-i
invariant-loop-i l = Through l.self.grid l.self.cutter.things.coords.now l.self.subject.now l.self.cutter.things.nodes.now l.initial.lists l.lists l.i
