-- Of the runs passed those that are kept are placed. Assumes nothing.
use Rattle.lists.specs.Runs.{runs_left}
use Rattle.pieces.specs.Pieces.{cells_in, runs_of, is_kept}
use Rattle.pieces.proofs.Loops.{Going}
use Rattle.pieces.proofs.piece_lists.PieceLists.place_run.Given as goal

abbrev pub invariant-loop-piece : goal.invariant-loop-piece
invariant-loop-piece l =
    Going (is_kept l.keep l.cells.things.coords.now (cells_in l.cells.things)) (runs_of l.runs l.stops) l.initial.self.placed l.tag l.initial.self l.self l.self.placed (runs_left l.piece-iterator)
