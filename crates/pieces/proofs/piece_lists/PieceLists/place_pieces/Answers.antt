use Rattle.pieces.proofs.Loops.{left_cleared}
use Rattle.pieces.proofs.piece_lists.PieceLists.place_pieces.Goals as goal

pub returns-clause-placed : goal.returns-clause-placed
returns-clause-placed c =
    let run = c.place_run-placed in
    left_cleared _ _ c.args.self.now run.new.self _ run.ensures.placed c.if-is_ok.ensures.value run.ensures.same_lists c.clear.new.self c.clear.ensures.cleared
