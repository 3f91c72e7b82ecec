-- Both meshes under one numbering, in the working list. Assumes nothing.
use Rattle.std.specs.Prelude.{◌≡◌, Bool, true, false, cond, List, [], ◌++◌, map, ℕ, ◌+◌, ◌*◌, ◌≤◌, ◌<◌, eqb, length, get_or, Float}
use Rattle.lists.specs.Regions.{front, put, zeros}
use Rattle.cutting.specs.Edges.{Edge}
use Rattle.cutting.specs.Lent.{flat_edges}
use Rattle.views.specs.declared.MeshView.{MeshView}
use Rattle.settings.specs.declared.Settings.{Settings}
use Rattle.entry.specs.Mesh.{Mesh, mesh, node_count, prior, cell_size, Rising}
use Rattle.rules.specs.Snap.{weld}
use Rattle.snap.specs.Steps.{AllPlaced}
use Rattle.rules.specs.Mesh.{cells_of}
use Rattle.rules.specs.Neighbours.{compute_descending, subject_net, cutter_net}
use Rattle.regions.specs.declared.Run.{Run}
use Rattle.regions.specs.declared.MeshRuns.{MeshRuns}
use Rattle.regions.specs.Runs.{Within, run_in}
use Rattle.strips.specs.Index.{index_size, index_of}
use Rattle.finding.specs.declared.numbering.NetPlaces.{NetPlaces}

-- a mesh without its kinds and families, at which nothing here looks (proofs/Scenes.antt)
abbrev pub plain : List Float → (layers nodes ends : List ℕ) → Mesh
plain coords layers nodes ends = mesh coords layers nodes ends [] []

abbrev pub plain_of : MeshView → Mesh
plain_of v = plain v.coords.now v.layers.now v.nodes.now v.ends.now

-- ---- what passed the entry, as far as it is needed here (proofs/Passed.antt)

-- a mesh, of lines or of cells
pub record Fit (lines : Bool) (m : Mesh) : Type 0 where
  pub even : length m.coords ≡ 2 * node_count m
  pub rises : (i : ℕ) → i < length m.ends → prior m.ends i < get_or m.ends i 0
  pub within : (i : ℕ) → i < length m.ends → get_or m.ends i 0 ≤ length m.nodes
  pub last : prior m.ends (length m.ends) ≡ length m.nodes
  pub most_nodes : node_count m ≤ 16384
  pub placed : AllPlaced m.coords
  pub most_entries : length m.nodes ≤ 65536
  pub number : (i : ℕ) → i < length m.nodes → get_or m.nodes i 0 < node_count m
  pub two : lines ≡ true → (i : ℕ) → i < length m.ends → cell_size m.ends i ≡ 2

-- a working list of w numbers, for the edges on chains and the index of the cutter's, and for m meetings and their links
abbrev pub NetRoom : ℕ → Mesh → Mesh → ℕ → Type 0
NetRoom m s c w = 3 * (node_count s + node_count c) + 4 * (length s.nodes + length c.nodes) + (4 * length c.nodes + 12) + 7 * m + 2 ≤ w

-- what `find` asks
pub record FindAsks (o : Settings) (s c : Mesh) (work : ℕ) : Type 0 where
  pub most : o.m ≤ 65536
  pub subject : Fit false s
  pub cutter : Fit (eqb o.op 5) c
  pub room : NetRoom o.m s c work

-- ---- the regions

module _ (s c : Mesh) where
  -- the cutter's node entries under the numbers of module 4
  abbrev pub cutter_entries : List ℕ
  cutter_entries = map (λ n. get_or (weld s c) n 0) c.nodes

  -- where the regions behind them begin: the subject's entries, its edges, the cutter's edges, the index of these, the meetings
  abbrev pub copied_at : ℕ
  copied_at = node_count c + length c.nodes

  abbrev pub subject_at : ℕ
  subject_at = copied_at + length s.nodes

  abbrev pub cutter_at : ℕ
  cutter_at = subject_at + 2 * length s.nodes

  abbrev pub index_at : ℕ
  index_at = cutter_at + 2 * length c.nodes

  abbrev pub met_at : ℕ
  met_at = index_at + (4 * length c.nodes + 12)

  -- what edges on chains take there before the meetings: a chain for each node and one, and a number for each entry
  abbrev pub chain_room : ℕ
  chain_room = node_count s + node_count c + 1 + (length s.nodes + length c.nodes)

-- from a up to e
abbrev pub between : ℕ → ℕ → Run
between a e = record { from = a; end = e }

-- a mesh whose edges es stand from `from` on, and its entries
abbrev pub with_edges : Run → ℕ → List Edge → MeshRuns
with_edges entries from es = record { edges = between from (from + 2 * length es); entries = entries }

abbrev pub subject_runs : Mesh → Mesh → MeshRuns
subject_runs s c = with_edges (between (copied_at s c) (subject_at s c)) (subject_at s c) (subject_net s).edges

-- the edges of lines are their entries
abbrev pub cutter_runs : Bool → Mesh → Mesh → MeshRuns
cutter_runs lines s c = with_edges (between (node_count c) (copied_at s c)) (cond lines (node_count c) (cutter_at s c)) (cutter_net lines s c).edges

-- where both stand, and the index up to `end`
abbrev pub places_with : Bool → Mesh → Mesh → ℕ → NetPlaces
places_with lines s c end = record { subject = subject_runs s c; cutter = cutter_runs lines s c; index = between (index_at s c) end; behind = met_at s c }

unfoldable pub edges_of : Bool → Mesh → Mesh → NetPlaces
edges_of lines s c = places_with lines s c (met_at s c)

unfoldable pub nets_of : Bool → Mesh → Mesh → NetPlaces
nets_of lines s c = places_with lines s c (index_at s c + index_size (length (cutter_net lines s c).edges))

-- the working list w then: the numbers of the cutter's nodes (zeros behind them, which the entries overwrite), both meshes' entries, the edges, and zeros
unfoldable pub edged : Bool → Mesh → Mesh → List ℕ → List ℕ
edged lines s c w =
    let numbers = front w (weld s c ++ zeros (node_count s)) in
    let entries = put (put numbers (node_count c) (cutter_entries s c)) (copied_at s c) s.nodes in
    let edges = put (put entries (subject_at s c) (flat_edges (subject_net s).edges)) (cutter_at s c) (cond lines [] (flat_edges (cutter_net lines s c).edges)) in
    put edges (met_at s c) (zeros (chain_room s c))

-- with the index of the cutter's edges
unfoldable pub netted : Bool → Mesh → Mesh → List ℕ → List ℕ
netted lines s c w = put (edged lines s c w) (index_at s c) (index_of (s.coords ++ c.coords) (flat_edges (cutter_net lines s c).edges) [])

-- ---- what only an inner function's contract cites

-- the edges of the cells that end at `ends`, whose entries stand in the list
abbrev pub edges_from : List ℕ → List ℕ → Run → List Edge
edges_from w ends entries = compute_descending (cells_of (mesh [] [] (run_in w entries) ends [] []))

-- what writing them from `from` on asks: entries before, room for two numbers each, h chains and links for n edges
pub record EdgesAsk (w ends : List ℕ) (entries : Run) (from h n : ℕ) : Type 0 where
  pub lies : Within entries from
  pub room : from + 2 * length (run_in w entries) ≤ length w
  pub rising : Rising ends (length (run_in w entries))
  pub most : length (run_in w entries) ≤ 65536
  pub some : 0 < h
  pub links : length (run_in w entries) ≤ n
