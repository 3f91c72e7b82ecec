-- `finding::numbering::edges` meets its contract. Assumes nothing.
use mathlib.Core.Path.{refl, sym, ap, ◌∙◌}
use Prim.Native.Nat.{◌+◌}
use native.Mathlib.Omega.{arith}
use lib.ListN.{length, drop}
use Rattle.lists.specs.Regions.{zeros}
use Rattle.finding.specs.Nets.{plain_of}
use Rattle.finding.proofs.Whole.{Lent, entries_lent, subject_asks, cutter_asks, edges_end}
use Rattle.finding.proofs.numbering.edges.Goals as goal
use Rattle.finding.proofs.numbering.edges.Goals.{After-split_at_mut-nets}

-- the entries stand in the nets that are lent
lent : (c : After-split_at_mut-nets) → Lent c.args.lines (plain_of c.args.s.now) (plain_of c.args.c.now) c.requires.0 c.requires.1 _ c.requires.2
    c.split_at_mut-nets.result.0.now c.split_at_mut-nets.result.1.now
lent c =
    let nets = c.split_at_mut-nets.ensures in
    entries_lent c.args.lines (plain_of c.args.s.now) (plain_of c.args.c.now) _ _ _ _ _ _ _ c.duplicates_from.ensures c.renumber.ensures c.copy_at.ensures.after _ _ nets.front nets.back

pub mesh_edges-subject-requires : goal.mesh_edges-subject-requires
mesh_edges-subject-requires c =
    subject_asks _ _ _ _ _ _ _ _ _ (lent (goal.at.mesh_edges-subject-requires c).After-split_at_mut-nets) _ _ c.split_at_mut-heads.ensures.front_len c.split_at_mut-nexts.ensures.front_len

pub cutter_edges-cutter-requires : goal.cutter_edges-cutter-requires
cutter_edges-cutter-requires c =
    let subject = c.mesh_edges-subject in (
      cutter_asks _ _ _ _ _ _ _ _ _ (lent (goal.at.cutter_edges-cutter-requires c).After-split_at_mut-nets) _ _ _ _ _ _ subject.ensures _ _
          (omega (arith, subject.auto.heads, c.split_at_mut-heads.ensures.front_len)) (omega (arith, subject.auto.nexts, c.split_at_mut-nexts.ensures.front_len)),
      subject.ensures.2 ∙ ap zeros (sym subject.auto.heads),
      subject.ensures.3 ∙ ap zeros (sym subject.auto.nexts),
    )

pub returns : goal.returns
returns c =
    let heads = c.split_at_mut-heads.ensures in
    let nexts = c.split_at_mut-nexts.ensures in
    edges_end _ _ _ _ _ _ _ _ _ (lent (goal.at.returns c).After-split_at_mut-nets) _ _ _ _ _ _ c.mesh_edges-subject.ensures _ _ _ _ c.cutter_edges-cutter.ensures _ _ _
    heads.front_len nexts.front_len refl refl (nexts.back ∙ ap (drop (length c.args.s.now.nodes.now + length c.args.c.now.nodes.now)) heads.back)
