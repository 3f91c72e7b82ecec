-- `finding::stages::stages` meets its contract. Assumes nothing.
use mathlib.Core.Path.{ap}
use mathlib.Core.Bool.{not}
use native.Mathlib.Omega.{arith}
use Rattle.finding.proofs.Ends.{coords_lent, AfterNets, AfterMeet, AfterLink, after_nets}
use Rattle.finding.proofs.stages.stages.Goals as goal
use Rattle.finding.proofs.stages.stages.Goals.{After-nets-n, In_ok-f, After-link-g}

nets : (c : After-nets-n) → AfterNets c.args.settings _ _ c.args.work.now c.requires c.args.coords.now c.place_coords.new.oc c.nets-n.result c.nets-n.new.w
nets c =
    after_nets _ _ _ _ c.requires c.args.coords.now c.place_coords.result _ c.place_coords.ensures (ap not c.if-not-place_coords.false) _ _
    (rw c.takes_lines.ensures at c.nets-n.ensures)

met : (c : In_ok-f) → AfterMeet c.args.settings _ _ c.args.work.now c.requires c.args.coords.now c.nets-n.result c.in_ok-f.f c.meet.new.coords c.meet.new.work
met c = let m = c.meet in (nets (goal.at.In_ok-f c).After-nets-n).met _ _ _ m.ensures.code m.ensures.written m.auto.coords m.auto.work _ c.in_ok-f.was

link : (c : After-link-g) → AfterLink c.args.settings _ _ c.args.work.now c.requires c.args.coords.now c.in_ok-f.f c.meet.new.coords c.link-g.result c.link-g.new.w
link c = (met (goal.at.After-link-g c).In_ok-f).linked _ _ c.link-g.ensures

pub nets-n-requires : goal.nets-n-requires
nets-n-requires c =
    let ok = c.requires in
    let lent = coords_lent _ _ _ _ ok c.args.coords.now c.place_coords.result _ c.place_coords.ensures (ap not c.if-not-place_coords.false) c.place_coords.auto.oc in
    (ok.subject, rw c.takes_lines.ensures ok.cutter, omega (arith, ok.room), lent.1)

pub meet-requires : goal.meet-requires
meet-requires c = (nets (goal.at.meet-requires c).After-nets-n).asks

pub link-g-requires : goal.link-g-requires
link-g-requires c = (met (goal.at.link-g-requires c).In_ok-f).asks

pub crowded-requires : goal.crowded-requires
crowded-requires c = (link (goal.at.crowded-requires c).After-link-g).asks

pub overflow_add-result : goal.overflow_add-result
overflow_add-result c = omega (arith, c.well_formed, (met (goal.at.overflow_add-result c).In_ok-f).points, c.meet.auto.coords, c.place_coords.auto.oc)

pub returns : goal.returns
returns c = (link (goal.at.returns c).After-link-g).all _ c.crowded.ensures c.if-crowded.false
