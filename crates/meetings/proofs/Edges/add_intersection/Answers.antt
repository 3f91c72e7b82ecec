use Rattle.meetings.proofs.Adding.{apart, at_one, at_two, at_new}
use Rattle.meetings.proofs.Edges.add_intersection.Goals as goal

pub returns-in-Apart : goal.returns-in-Apart
returns-in-Apart c = rw (← c.edge_at-s.ensures, ← c.edge_at-c.ensures) (apart _ _ c.args.i c.args.j _ _ _ _ c.edges_meet.ensures.meeting c.args.lists.now c.in-Apart.is)

pub returns-in-Existing : goal.returns-in-Existing
returns-in-Existing c =
    let x = c.add_known in
    rw (← c.edge_at-s.ensures, ← c.edge_at-c.ensures)
    (at_one _ _ c.args.i c.args.j _ _ _ _ c.edges_meet.ensures.meeting c.args.lists.now x.new.self x.result x.ensures.same_lists x.ensures.over
    c.in-Existing.p _ c.in-Existing.is c.node_of.ensures x.ensures.added)

pub returns-in-New : goal.returns-in-New
returns-in-New c =
    let x = c.add_new in
    rw (← c.edge_at-s.ensures, ← c.edge_at-c.ensures)
    (at_new _ _ c.args.i c.args.j _ _ _ _ c.edges_meet.ensures.meeting c.args.lists.now x.new.self x.result x.ensures.same_lists x.ensures.over
    c.in-New.x c.in-New.y c.in-New.is x.ensures.full x.ensures.added)

pub returns-in-Overlap : goal.returns-in-Overlap
returns-in-Overlap c =
    let x = c.add_known-in-Overlap in
    rw (← c.edge_at-s.ensures, ← c.edge_at-c.ensures)
    (at_two _ _ c.args.i c.args.j _ _ _ _ c.edges_meet.ensures.meeting c.args.lists.now x.new.self x.result x.ensures.same_lists x.ensures.over
    c.in-Overlap.p c.in-Overlap.q _ _ c.in-Overlap.is c.node_of-in-Overlap.ensures c.node_of-in-Overlap-2.ensures x.ensures.added)
