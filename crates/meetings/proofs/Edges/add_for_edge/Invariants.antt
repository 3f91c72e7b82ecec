use Rattle.cutting.specs.Edges.{edge_at}
use Rattle.cutting.specs.Lent.{pairs}
use Rattle.rules.specs.SpatialIndex.{edge_box, candidates}
use Rattle.strips.specs.Near.{near_left}
use Rattle.meetings.proofs.Loops.{from, Walked}
use Rattle.meetings.proofs.Edges.add_for_edge.Given as goal

abbrev pub invariant-loop-j : goal.invariant-loop-j
invariant-loop-j l =
    let g = l.self.grid in
    let cs = l.self.cutter.things.coords.now in
    let es = l.self.subject.now in
    let fs = l.self.cutter.things.nodes.now in
    (goal.iterator-loop-j).can_next l.j-iterator × (goal.iterator-loop-j).is_finite l.j-iterator
    × Walked g cs es fs l.i (from g cs es fs l.i l.initial.lists.found.points (candidates cs (pairs fs) (edge_box cs (edge_at (pairs es) l.i)))) l.initial.lists l.lists (near_left l.j-iterator)
