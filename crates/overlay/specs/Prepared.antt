-- What the cells are cut by, as it stands in the lists once both meshes are indexed: what only contracts of inner functions cite. Assumes nothing.
use Rattle.std.specs.Prelude.{◌≡◌, List, map, ℕ, ◌+◌, ◌-◌, ◌*◌, ◌/◌, ◌^◌, ◌≤◌, ◌<◌, length, take, Float}
use Rattle.lists.specs.Regions.{front}
use Rattle.cutting.specs.Edges.{Edge}
use Rattle.cutting.specs.Outcome.{flat, stops}
use Rattle.settings.specs.declared.Settings.{Settings}
use Rattle.entry.specs.Mesh.{Mesh, mesh_of, node_count}
use Rattle.entry.specs.Refused.{entry_of}
use Rattle.grid.specs.Grid.{Grid}
use Rattle.rules.specs.Mesh.{Side, the_subject, the_cutter, other, side_number}
use Rattle.rules.specs.Meetings.{Scene, net_of, added_by}
use Rattle.rules.specs.Layers.{layers_of}
use Rattle.rules.specs.Nodes.{sorted_nodes}
use Rattle.rules.specs.Operations.{Piece, scene_for, listing}
use Rattle.rules.specs.Overlay.{named_points}
use Rattle.regions.specs.declared.MeshRuns.{MeshRuns}
use Rattle.regions.specs.declared.Regions.{Regions}
use Rattle.regions.specs.Runs.{run_in, mesh_edges}
use Rattle.edge_nodes.specs.Lent.{nodes_on}
use Rattle.pieces.specs.Pieces.{runs_of}
use Rattle.cutting_cells.specs.Yields.{MeshesReady}
use Rattle.passes.specs.Tags.{kind_by, family_by, mesh_by, cell_by}
use Rattle.overlay.specs.declared.Call.{Call}
use Rattle.overlay.specs.declared.Counts.{Counts}
use Rattle.overlay.specs.declared.Prepared.{Prepared}

-- the meshes of a call
abbrev pub subject_of : Call → Mesh
subject_of c = mesh_of c.subject.now

abbrev pub cutter_of : Call → Mesh
cutter_of c = mesh_of c.cutter.now

-- the entry refuses nothing of it, with a working list of n numbers
abbrev pub Entered : Call → ℕ → Type 0
Entered c n = entry_of c.settings (subject_of c) (cutter_of c) n ≡ 0

-- What the cells of the mesh w are cut by: the grid, the coordinates, the sorted nodes of edges, and the other mesh's edges and cells.
pub record SceneIn (sc : Scene) (w : Side) (grid : Grid) (coords : List Float) (work : List ℕ) (g : Regions) (o : MeshRuns) (ends : List ℕ) : Type 0 where
  pub grid_is : sc.grid ≡ grid
  pub points : sc.coords ≡ coords
  pub nodes_are : (e : Edge) → nodes_on sc.grid sc.coords work g e ≡ sorted_nodes sc e
  pub near_edges : (net_of sc (other w)).edges ≡ mesh_edges work o
  pub near_cells : (net_of sc (other w)).cells ≡ runs_of (run_in work o.entries) ends

-- a scene whose meshes stand in the working list, with the ends of their cells
pub record MeshesIn (sc : Scene) (grid : Grid) (coords : List Float) (work : List ℕ) (g : Regions) (se ce : List ℕ) : Type 0 where
  pub subject_cut : SceneIn sc the_subject grid coords work g g.cutter ce
  pub cutter_cut : SceneIn sc the_cutter grid coords work g g.subject se
  pub subject_cells : sc.subject.cells ≡ runs_of (run_in work g.subject.entries) se
  pub cutter_cells : sc.cutter.cells ≡ runs_of (run_in work g.cutter.entries) ce

-- coordinates and layers of as many points
abbrev pub PointRoom : List Float → List ℕ → Type 0
PointRoom oc ol = length oc ≡ 2 * length ol

-- All coordinates stand in the front of oc, which was oc₀, all layers in that of ol, which was ol₀, and the scene in the working list w; p is what the
-- cells are asked with.
pub record PreparedIn (o : Settings) (s c : Mesh) (oc₀ : List Float) (ol₀ : List ℕ) (oc : List Float) (ol w : List ℕ) (p : Prepared) : Type 0 where
  pub placed : oc ≡ front oc₀ (scene_for o s c).coords
  pub layered : ol ≡ front ol₀ (layers_of (scene_for o s c) s c)
  pub long : length (scene_for o s c).coords ≡ 2 * p.next
  pub fits : 2 * p.next ≤ length oc
  pub least : (length s.coords + length c.coords) / 2 ≤ p.next
  pub most : p.next < 2 ^ 32
  pub marks : p.next - (length s.coords + length c.coords) / 2 ≤ length w
  pub stands : MeshesIn (scene_for o s c) o.grid (take (2 * p.next) oc) w p.regions s.ends c.ends
  pub ready : MeshesReady o.op (take (2 * p.next) oc) w p.regions p.indexes s.ends c.ends

abbrev pub runs_in : Settings → Mesh → Mesh → List (List ℕ)
runs_in o s c = map (λ p. p.nodes) (listing o s c)

-- what the tags ts say of the pieces ps
pub record Tagged (s c : Mesh) (ts : List ℕ) (ps : List Piece) : Type 0 where
  pub kinds : map (kind_by s.kinds c.kinds) ts ≡ map (λ p. p.kind) ps
  pub families : map (family_by s.families c.families) ts ≡ map (λ p. p.family) ps
  pub meshes : map (mesh_by (length s.ends)) ts ≡ map (λ p. side_number p.mesh) ps
  pub cells : map (cell_by (length s.ends)) ts ≡ map (λ p. p.cell) ps

-- All coordinates and layers, and the corners, ends and tags of the pieces, stand in the fronts of oc', ol', on', oe' and ot', which were oc, ol, on, oe
-- and ot; k counts pieces, the new points that they name, and all new points.
pub record PlacedIn (o : Settings) (s c : Mesh) (k : Counts) (oc : List Float) (ol on oe ot : List ℕ) (oc' : List Float) (ol' on' oe' ot' : List ℕ) : Type 0 where
  pub coords : oc' ≡ front oc (scene_for o s c).coords
  pub layers : ol' ≡ front ol (layers_of (scene_for o s c) s c)
  pub corners : on' ≡ front on (flat (runs_in o s c))
  pub ends : oe' ≡ front oe (stops 0 (runs_in o s c))
  pub pieces : k.pieces ≡ length (listing o s c)
  pub points : k.points ≡ length (named_points (node_count s + node_count c) (length (scene_for o s c).coords / 2) (listing o s c))
  pub added : k.added ≡ length (added_by (scene_for o s c).met) / 2
  pub room : k.pieces ≤ length oe
  pub tags : List ℕ
  pub tagged : ot' ≡ front ot tags
  pub say : Tagged s c tags (listing o s c)
