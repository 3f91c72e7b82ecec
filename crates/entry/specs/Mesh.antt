-- "A mesh as read is a view over the caller's lists". Assumes nothing.
use Rattle.std.specs.Prelude.{ℕ, zero, suc, ◌-◌, ◌/◌, ◌≤◌, ◌<◌, List, length, get_or, Float}
use Rattle.views.specs.declared.MeshView.{MeshView}

-- coordinates (x then y), W7: each node's layer, node numbers (flat), cell ends, kinds, families
pub record Mesh : Type 0 where
  pub coords : List Float
  pub layers : List ℕ
  pub nodes : List ℕ
  pub ends : List ℕ
  pub kinds : List ℕ
  pub families : List ℕ

abbrev pub mesh : List Float → List ℕ → List ℕ → List ℕ → List ℕ → List ℕ → Mesh
mesh c l n e k f = record { coords = c; layers = l; nodes = n; ends = e; kinds = k; families = f }

-- the mesh that a view shows
abbrev pub mesh_of : MeshView → Mesh
mesh_of v = mesh v.coords.now v.layers.now v.nodes.now v.ends.now v.kinds.now v.families.now

abbrev pub node_count : Mesh → ℕ
node_count m = length m.coords / 2

-- the number before number i, 0 before the first; of ends: where cell i starts
unfoldable pub prior : List ℕ → ℕ → ℕ
prior l zero = 0
prior l (suc i) = get_or l i 0

-- how many node entries cell i has
abbrev pub cell_size : List ℕ → ℕ → ℕ
cell_size ends i = get_or ends i 0 - prior ends i

-- the ends rise, and stay within the count of entries
abbrev pub Rising : List ℕ → ℕ → Type 0
Rising ends total = (i : ℕ) → i < length ends → (prior ends i ≤ get_or ends i 0) × (get_or ends i 0 ≤ total)
