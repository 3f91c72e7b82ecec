-- Document 01, the public call: the answer, and every list at exit, for refusals too. Assumes nothing.
use Rattle.std.specs.Prelude.{cond, ◌&&◌, List, [], map, ℕ, ◌+◌, ◌/◌, min, eqb, leb, length, Float, None}
use Rattle.lists.specs.Search.{named}
use Rattle.lists.specs.Gather.{places}
use Rattle.lists.specs.Regions.{front, zeros, fzeros}
use Rattle.cutting.specs.Edition.{Edition, ours}
use Rattle.cutting.specs.Outcome.{flat, stops}
use Rattle.settings.specs.declared.Settings.{Settings}
use Rattle.entry.specs.Mesh.{Mesh, mesh, node_count}
use Rattle.entry.specs.Refused.{entry_of}
use Rattle.rules.specs.Mesh.{side_number}
use Rattle.rules.specs.Meetings.{added_by}
use Rattle.rules.specs.Layers.{layers_of}
use Rattle.rules.specs.Operations.{scene_for, Piece, listing_with, doubled_cells}
use Rattle.rules.specs.Refusals.{course_with, first_refusal}

-- The output lists and the working list. W2: "Each piece gets two more numbers in the output: 0 for subject or 1 for cutter, and the index of its cell
-- there". W7: "The answer lists every node's layer".
pub record Lists : Type 0 where
  pub coords : List Float
  pub layers : List ℕ
  pub nodes : List ℕ
  pub ends : List ℕ
  pub kinds : List ℕ
  pub families : List ℕ
  pub meshes : List ℕ
  pub cells : List ℕ
  pub work : List ℕ

-- the refusal's number or 0; the counts of pieces, of new points that a piece names, of doubled cells and of all new points; the lists at exit
pub record Result : Type 0 where
  pub code : ℕ
  pub pieces : ℕ
  pub points : ℕ
  pub doubled : ℕ
  pub added : ℕ
  pub lists : Lists

abbrev pub lent_lists : List Float → (l n e k f m i w : List ℕ) → Lists
lent_lists c l n e k f m i w = record { coords = c; layers = l; nodes = n; ends = e; kinds = k; families = f; meshes = m; cells = i; work = w }

abbrev pub result_of : ℕ → ℕ → ℕ → ℕ → ℕ → Lists → Result
result_of r p q d a l = record { code = r; pieces = p; points = q; doubled = d; added = a; lists = l }

-- ---- refused because of the state: "Counts are 0; output and working lists are all zero"

unfoldable pub cleared : Lists → Lists
cleared l =
    lent_lists (fzeros (length l.coords)) (zeros (length l.layers)) (zeros (length l.nodes)) (zeros (length l.ends)) (zeros (length l.kinds))
    (zeros (length l.families)) (zeros (length l.meshes)) (zeros (length l.cells)) (zeros (length l.work))

-- A point takes two numbers of the coordinates and, from W7 on, one of the layers.
abbrev pub point_room : Lists → ℕ
point_room l = min (length l.coords / 2) (length l.layers)

-- A piece takes a place in each of ends, kinds and families; W2: "Refusal 12 covers the added lists".
abbrev pub piece_room : Lists → ℕ
piece_room l = min (length l.ends) (min (length l.kinds) (min (length l.families) (min (length l.meshes) (length l.cells))))

-- Its number, or 0. A piece takes its node entries besides.
unfoldable pub state_with : Edition → Settings → Mesh → Mesh → Lists → ℕ
state_with v o s c l = first_refusal o.m (point_room l) (piece_room l) (length l.nodes) (course_with v o s c)

abbrev pub state_of : Settings → Mesh → Mesh → Lists → ℕ
state_of o s c l = state_with ours o s c l

-- ---- success: "places after the answer keep their content and the working list is zero"

-- all coordinates and layers, and the pieces one after the other, at the front of their lists
unfoldable pub written : List Float → List ℕ → List Piece → Lists → Lists
written coords layers ps l =
    let runs = map (λ p. p.nodes) ps in
    lent_lists (front l.coords coords) (front l.layers layers) (front l.nodes (flat runs)) (front l.ends (stops 0 runs))
    (front l.kinds (map (λ p. p.kind) ps)) (front l.families (map (λ p. p.family) ps))
    (front l.meshes (map (λ p. side_number p.mesh) ps)) (front l.cells (map (λ p. p.cell) ps)) (zeros (length l.work))

-- W5: "the added points that at least one listed piece names, each once", by their numbers, rising; of `all` nodes the first `lent` are lent, the others
-- added
unfoldable pub named_points : (lent all : ℕ) → List Piece → List ℕ
named_points lent all ps =
    let entries = flat (map (λ p. p.nodes) ps) in
    places (λ n. leb lent n && named entries n) all

-- "The answer also counts pieces, new points and doubled cells". W14: "The third count is 0 ever after", since no table of an accepted cell names a
-- neighbour twice (`never_doubled`, proofs/Demand3.antt). W5: "the answer counts all added points as a fourth number"; it is document 01's count of
-- new points, "all coordinates added".
unfoldable pub answered_with : Edition → Settings → Mesh → Mesh → Lists → Result
answered_with v o s c l =
    let sc = scene_for o s c in
    let ps = listing_with v o s c in
    let points = named_points (node_count s + node_count c) (length sc.coords / 2) ps in
    let doubled = cond v.once 0 (length (doubled_cells o s c)) in
    result_of 0 (length ps) (length points) doubled (length (added_by sc.met) / 2) (written sc.coords (layers_of sc s c) ps l)

abbrev pub answered : Settings → Mesh → Mesh → Lists → Result
answered o s c l = answered_with ours o s c l

-- ---- the whole

-- what an edition sees of the settings: before W6 no grid
abbrev pub seen_by : Edition → Settings → Settings
seen_by v o = cond v.grids o (record { op = o.op; m = o.m; grid = None })

-- and of a mesh and of the output: before W7 all nodes are of one layer, for which there is room
abbrev pub mesh_seen : Edition → Mesh → Mesh
mesh_seen v m = cond v.layers m (mesh m.coords (zeros (node_count m)) m.nodes m.ends m.kinds m.families)

abbrev pub lists_seen : Edition → Lists → Lists
lists_seen v l = cond v.layers l (lent_lists l.coords (zeros (length l.coords / 2)) l.nodes l.ends l.kinds l.families l.meshes l.cells l.work)

-- The settings (operation, meeting limit M, grid), subject, cutter, lists; by the edition. Refused because of the input (1 to 7 and 13): "Counts are 0 and
-- every list keeps its content".
unfoldable pub overlay_with : Edition → Settings → Mesh → Mesh → Lists → Result
overlay_with v settings subject cutter lists =
    let o = seen_by v settings in
    let s = mesh_seen v subject in
    let c = mesh_seen v cutter in
    let l = lists_seen v lists in
    let entry = entry_of o s c (length l.work) in
    let state = state_with v o s c l in
    cond (eqb entry 0)
    (cond (eqb state 0) (answered_with v o s c l) (result_of state 0 0 0 0 (cleared l)))
    (result_of entry 0 0 0 0 l)

-- a result but for the list of layers, of which an edition from before W7 has none
abbrev pub but_layers : Result → Result
but_layers r =
    let l = r.lists in
    result_of r.code r.pieces r.points r.doubled r.added (lent_lists l.coords [] l.nodes l.ends l.kinds l.families l.meshes l.cells l.work)

-- the overlay
abbrev pub overlay_of : Settings → Mesh → Mesh → Lists → Result
overlay_of o s c l = overlay_with ours o s c l
