-- What the cells of the meshes yield (document 01, module 7): each is copied or cut, and those of its pieces that the operation keeps are placed. The
-- coordinates are a lent list, edges and corners stand in regions of the working list. Assumes nothing.
use Rattle.std.specs.Prelude.{◌≡◌, Bool, true, cond, List, [], ◌∷◌, ℕ, ◌+◌, ◌*◌, ◌≤◌, ◌<◌, ltb, length, get_or, Float}
use Rattle.lists.specs.Search.{bit}
use Rattle.lists.specs.Gather.{passing}
use Rattle.grid.specs.Grid.{Grid}
use Rattle.cutting.specs.Edges.{ring}
use Rattle.cutting.specs.Outcome.{Outcome, refusal, pieces, cut_outcome, copied_outcome}
use Rattle.entry.specs.Mesh.{cell_size}
use Rattle.rules.specs.Mesh.{Side, the_subject, the_cutter, other}
use Rattle.rules.specs.SpatialIndex.{box_of, candidates}
use Rattle.rules.specs.Operations.{cuts}
use Rattle.rules.specs.Refusals.{stop}
use Rattle.regions.specs.declared.Run.{Run}
use Rattle.regions.specs.declared.MeshRuns.{MeshRuns}
use Rattle.regions.specs.declared.Regions.{Regions}
use Rattle.regions.specs.declared.MeshIndex.{MeshIndex}
use Rattle.regions.specs.declared.Indexes.{Indexes}
use Rattle.regions.specs.Runs.{Within, run_in, mesh_edges}
use Rattle.indexing.specs.Indexes.{MeshIndexed}
use Rattle.cells.specs.Cells.{outline_in, table_in, edges_in, AllFew}
use Rattle.pieces.specs.declared.Keep.{Keep}
use Rattle.pieces.specs.declared.Listed.{Listed}
use Rattle.pieces.specs.Pieces.{runs_of, keep_of, is_kept, Yield, tagged, nothing, both, all_of}

-- ---- one cell

-- what it comes to: cut by those of the edges that stand at the places js, or copied where there is none
unfoldable pub outcome_by : Grid → List Float → List ℕ → Regions → Run → List ℕ → List ℕ → Outcome
outcome_by grid coords work g edges [] cell = copied_outcome cell
outcome_by grid coords work g edges (j ∷ js) cell = cut_outcome (outline_in grid coords work g cell) (table_in grid coords work g (edges_in work edges) (j ∷ js) cell)

-- by the other mesh, whose cells end at `ends`
module _ (coords : List Float) (work : List ℕ) (g : Regions) (o : MeshRuns) (ends : List ℕ) where
  -- where the edges near a cell stand
  abbrev pub near_of : List ℕ → List ℕ
  near_of cell = candidates coords (mesh_edges work o) (box_of coords cell)

  -- a cell is cut where there is one
  abbrev pub is_cut : List ℕ → Bool
  is_cut cell = ltb 0 (length (near_of cell))

  -- the pieces that are kept, all with one tag
  abbrev pub yield_by : Keep → ℕ → Outcome → Yield
  yield_by k t (refusal r) = record { events = stop r ∷ []; pieces = []; tags = [] }
  yield_by k t (pieces ps) = tagged t (passing (is_kept k coords (runs_of (run_in work o.entries) ends)) ps)

-- The cell with the number i among those of both meshes. The tag of a piece is twice that number, and one more where the cell is cut.
unfoldable pub yield_of : Grid → List Float → List ℕ → Regions → MeshRuns → List ℕ → Keep → ℕ → List ℕ → Yield
yield_of grid coords work g o ends k i cell =
    yield_by coords work g o ends k (2 * i + bit (is_cut coords work g o ends cell)) (outcome_by grid coords work g o.edges (near_of coords work g o ends cell) cell)

-- ---- all cells

abbrev pub runs_on : Regions → Side → MeshRuns
runs_on g the_subject = g.subject
runs_on g the_cutter = g.cutter

-- the subject's cells are numbered first; n is the number of the other mesh's
abbrev pub numbered_from : Side → ℕ → ℕ
numbered_from the_subject n = 0
numbered_from the_cutter n = n

-- those of one mesh, which end at `stops`, and the other's at `ends`
unfoldable pub cells_yield : ℕ → Grid → List Float → List ℕ → Regions → Side → (ends stops : List ℕ) → Yield
cells_yield op grid coords work g w ends stops =
    let cell : ℕ → List ℕ = λ i. get_or (runs_of (run_in work (runs_on g w).entries) stops) i [] in
    all_of (length stops) (λ i. yield_of grid coords work g (runs_on g (other w)) ends (keep_of op w) (numbered_from w (length ends) + i) (cell i))

-- the subject's, and then the cutter's where the operation cuts both meshes
unfoldable pub meshes_yield : ℕ → Grid → List Float → List ℕ → Regions → (se ce : List ℕ) → Yield
meshes_yield op grid coords work g se ce =
    both (cells_yield op grid coords work g the_subject ce se) (cond (cuts op the_cutter) (cells_yield op grid coords work g the_cutter se ce) nothing)

-- before the first cell
abbrev pub none_yet : Listed
none_yet = record { count = 0; entries = 0 }

-- at most 1,024 pieces and corners are counted for each of n cells
pub record Few (n : ℕ) (p r : Listed) : Type 0 where
  pub pieces : r.count ≤ p.count + 1024 * n
  pub corners : r.entries ≤ p.entries + 1024 * n

-- ---- what is asked of the lists

-- the other mesh stands in the working list with its indexes, and no key of its edges has too many nodes
pub record OtherReady (coords : List Float) (work : List ℕ) (g : Regions) (o : MeshRuns) (ends : List ℕ) (x : MeshIndex) : Type 0 where
  pub edges : Within o.edges (length work)
  pub entries : Within o.entries (length work)
  pub few : AllFew work g (mesh_edges work o)
  pub indexed : MeshIndexed coords work o ends x

-- no key of the edges of a mesh's cells has too many nodes, and no cell too many corners
abbrev pub CellsReady : List ℕ → Regions → List ℕ → List ℕ → Type 0
CellsReady work g own stops = (i : ℕ) → i < length stops → AllFew work g (ring (get_or (runs_of own stops) i [])) × (cell_size stops i ≤ 256)

-- for both
pub record MeshesReady (op : ℕ) (coords : List Float) (work : List ℕ) (g : Regions) (x : Indexes) (se ce : List ℕ) : Type 0 where
  pub subject : OtherReady coords work g g.subject se x.subject
  pub cutter : OtherReady coords work g g.cutter ce x.cutter
  pub subject_cells : CellsReady work g (run_in work g.subject.entries) se
  pub cutter_cells : cuts op the_cutter ≡ true → CellsReady work g (run_in work g.cutter.entries) ce
  pub most_subject : length se ≤ 16384
  pub most_cutter : length ce ≤ 16384
