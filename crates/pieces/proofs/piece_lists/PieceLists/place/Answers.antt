use Rattle.pieces.proofs.Piece.{has_place}
use Rattle.pieces.proofs.Loops.{space_of}
use Rattle.pieces.proofs.piece_lists.PieceLists.place.Goals as goal

pub returns-clause-placed : goal.returns-clause-placed
returns-clause-placed c =
    let a = c.args in
    has_place _ a.tag a.piece.now a.self.now (space_of a.self.now _ c.requires) c.if-self-next.false _ c.copy_at.ensures.fits c.if-not-copy_at.false _ c.copy_at.ensures.after
