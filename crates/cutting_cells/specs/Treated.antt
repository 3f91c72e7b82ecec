-- A cell that is treated so, and cells: what only inner functions' contracts cite. Assumes nothing.
use Rattle.std.specs.Prelude.{List, [], ℕ, ◌+◌, ◌*◌, ◌^◌, ◌≤◌, ◌<◌, length, get_or, take}
use Rattle.cutting.specs.Outcome.{Outcome}
use Rattle.entry.specs.Mesh.{Rising}
use Rattle.dart_walk.specs.declared.Counts.{Counts}
use Rattle.pieces.specs.declared.piece_lists.PieceLists.{PieceLists}
use Rattle.pieces.specs.Pieces.{runs_of, Yield, all_of}
use Rattle.cutting_cells.specs.declared.Treatment.{Treatment}
use Rattle.cutting_cells.specs.Yields.{near_of, outcome_by, yield_of, CellsReady}

abbrev pub near_to : Treatment → List ℕ → List ℕ
near_to t = near_of t.scene.coords.now t.scene.work.now t.scene.regions t.other t.ends.now

abbrev pub outcome_of : Treatment → List ℕ → List ℕ → Outcome
outcome_of t = outcome_by t.scene.grid t.scene.coords.now t.scene.work.now t.scene.regions t.other.edges

-- the pieces that an answer counts can be read
pub record Readable (k : Counts) (runs stops : List ℕ) : Type 0 where
  pub corners : k.entries ≤ length runs
  pub ends : k.pieces ≤ length stops
  pub rise : Rising (take k.pieces stops) (length (take k.entries runs))

abbrev pub yield_for : Treatment → ℕ → List ℕ → Yield
yield_for t = yield_of t.scene.grid t.scene.coords.now t.scene.work.now t.scene.regions t.other t.ends.now t.keep

abbrev pub all_yield : Treatment → (own stops : List ℕ) → ℕ → Yield
all_yield t own stops from = all_of (length stops) (λ i. yield_for t (from + i) (get_or (runs_of own stops) i []))

-- the first has the number `from`; what they yield goes behind the pieces that stand there
pub record CellsAsk (t : Treatment) (own stops : List ℕ) (from : ℕ) (l : PieceLists) : Type 0 where
  pub cells : CellsReady t.scene.work.now t.scene.regions own stops
  pub rise : Rising stops (length own)
  pub most : from + length stops ≤ 32768
  pub short : l.placed.entries + 1024 * length stops < 2 ^ 32
