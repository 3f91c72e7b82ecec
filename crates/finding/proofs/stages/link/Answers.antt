-- `finding::stages::link` meets its contract. Assumes nothing.
use mathlib.Core.Path.{refl, ◌∙◌}
use Rattle.finding.specs.Found.{regions_by}
use Rattle.finding.proofs.Links.{links_asked, links_put}
use Rattle.finding.proofs.stages.link.Goals as goal

pub link_meetings-requires : goal.link_meetings-requires
link_meetings-requires c = links_asked _ _ _ _ c.requires _ _ c.split_at_mut-nets.ensures.front c.split_at_mut-nets.ensures.back _ c.part-3.ensures _ c.split_at_mut-links.ensures.front

pub returns : goal.returns
unfolding regions_by
returns c =
    let nets = c.split_at_mut-nets.ensures in
    let links = c.split_at_mut-links.ensures in (
      refl,
      links_put _ _ _ _ c.requires _ _ nets.front nets.back _ c.part-3.ensures _ _ _ _ c.part.ensures c.part-2.ensures (c.link_meetings.auto.links ∙ links.front_len)
          c.link_meetings.ensures links.back,
    )
