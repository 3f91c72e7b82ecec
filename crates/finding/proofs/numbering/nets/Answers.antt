-- `finding::numbering::nets` meets its contract. Assumes nothing.
use Rattle.finding.specs.Nets.{plain_of}
use Rattle.finding.proofs.Netted.{index_asked, nets_end}
use Rattle.finding.proofs.numbering.nets.Goals as goal

pub index_run-index-requires : goal.index_run-index-requires
index_run-index-requires c = let a = c.args in index_asked a.lines (plain_of a.s.now) (plain_of a.c.now) c.requires.0 c.requires.1 _ c.requires.2 _ _ c.edges-n.ensures

pub returns : goal.returns
returns c =
    let a = c.args in
    nets_end a.lines (plain_of a.s.now) (plain_of a.c.now) c.requires.0 c.requires.1 _ c.requires.2 _ _ c.edges-n.ensures _ c.requires.3 _ _ c.index_run-index.ensures
