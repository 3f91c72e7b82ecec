-- The indexes of both meshes, behind the links of the working list. Assumes nothing.
use Rattle.std.specs.Prelude.{List, [], ◌++◌, ℕ, ◌+◌, ◌≤◌, length, Float}
use Rattle.entry.specs.Mesh.{Rising}
use Rattle.regions.specs.declared.Run.{Run}
use Rattle.regions.specs.declared.MeshRuns.{MeshRuns}
use Rattle.regions.specs.declared.Regions.{Regions}
use Rattle.regions.specs.declared.MeshIndex.{MeshIndex}
use Rattle.regions.specs.declared.Indexes.{Indexes}
use Rattle.regions.specs.Runs.{Within, run_in}
use Rattle.strips.specs.Things.{thing_count}
use Rattle.strips.specs.Index.{index_size, index_of, Indexed}

-- of one mesh, whose cells end at `ends`: that of its edges, and that of its cells
module _ (coords : List Float) (w : List ℕ) (m : MeshRuns) (ends : List ℕ) where
  abbrev pub edge_index : List ℕ
  edge_index = index_of coords (run_in w m.edges) []

  abbrev pub cell_index : List ℕ
  cell_index = index_of coords (run_in w m.entries) ends

  abbrev pub mesh_index : List ℕ
  mesh_index = edge_index ++ cell_index

  -- where they stand, from `at` on
  abbrev pub mesh_index_at : ℕ → MeshIndex
  mesh_index_at at =
      let middle = at + length edge_index in
      record { edges = record { from = at; end = middle }; cells = record { from = middle; end = middle + length cell_index } }

-- of both
module _ (coords : List Float) (w : List ℕ) (g : Regions) (se ce : List ℕ) where
  abbrev pub indexes : List ℕ
  indexes = mesh_index coords w g.subject se ++ mesh_index coords w g.cutter ce

  unfoldable pub indexes_at : Indexes
  indexes_at =
      let subject = mesh_index_at coords w g.subject se g.links.end in
      record { subject = subject; cutter = mesh_index_at coords w g.cutter ce subject.cells.end }

-- the indexes of a mesh stand where x says
pub record MeshIndexed (coords : List Float) (w : List ℕ) (m : MeshRuns) (ends : List ℕ) (x : MeshIndex) : Type 0 where
  pub edges_within : Within x.edges (length w)
  pub edges : Indexed coords (run_in w m.edges) [] (run_in w x.edges)
  pub cells_within : Within x.cells (length w)
  pub cells : Indexed coords (run_in w m.entries) ends (run_in w x.cells)

-- ---- what is asked

-- how many numbers the indexes of a mesh take
abbrev pub mesh_size : List ℕ → MeshRuns → List ℕ → ℕ
mesh_size w m ends = index_size (thing_count (run_in w m.edges) []) + index_size (thing_count (run_in w m.entries) ends)

-- for the things of a run
pub record RunAsks (w : List ℕ) (r : Run) (ends : List ℕ) (at : ℕ) : Type 0 where
  pub lies : Within r at
  pub rising : Rising ends (length (run_in w r))
  pub few : thing_count (run_in w r) ends ≤ 65536
  pub room : at + index_size (thing_count (run_in w r) ends) ≤ length w

-- for a mesh
pub record MeshAsks (w : List ℕ) (m : MeshRuns) (ends : List ℕ) (at : ℕ) : Type 0 where
  pub edges : Within m.edges at
  pub entries : Within m.entries at
  pub rising : Rising ends (length (run_in w m.entries))
  pub few_edges : thing_count (run_in w m.edges) [] ≤ 65536
  pub few_cells : thing_count (run_in w m.entries) ends ≤ 65536
  pub room : at + mesh_size w m ends ≤ length w

-- for both
pub record Asks (w : List ℕ) (g : Regions) (se ce : List ℕ) : Type 0 where
  pub subject : MeshAsks w g.subject se g.links.end
  pub cutter : MeshAsks w g.cutter ce g.links.end
  pub room : g.links.end + (mesh_size w g.subject se + mesh_size w g.cutter ce) ≤ length w
