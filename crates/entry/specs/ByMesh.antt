-- Refusals 1 to 7 and 13 by the settings and mesh by mesh, as the code goes. `entry_of` is that of the settings, or the lowest of the others (proofs/Lowest.antt). Assumes nothing.
use Rattle.std.specs.Prelude.{ℕ, ◌≤◌, Bool, not, cond, leb, eqb, length}
use Rattle.settings.specs.declared.Settings.{Settings}
use Rattle.entry.specs.Mesh.{Mesh, node_count}
use Rattle.entry.specs.Refused.{call_ok, grid_ok, shape_ok, coords_ok, kinds_ok, nodes_ok, cells_ok}

-- 1 or 13, by the settings, or 0
unfoldable pub settings_refusal : Settings → ℕ
settings_refusal o = cond (not (call_ok o.op o.m)) 1 (cond (not (grid_ok o.grid)) 13 0)

-- the lowest of 2 to 6 that one mesh is refused for, or 0
unfoldable pub mesh_refusal : Bool → Mesh → ℕ
mesh_refusal lines m =
    cond (not (shape_ok m)) 2
    (cond (not (coords_ok m.coords)) 3
    (cond (not (kinds_ok lines m.kinds m.ends)) 4
    (cond (not (nodes_ok m.nodes (node_count m))) 5
    (cond (not (cells_ok m.nodes m.ends)) 6 0))))

-- the lower of two refusals, where 0 is none
unfoldable pub lower_refusal : ℕ → ℕ → ℕ
lower_refusal a b = cond (eqb a 0) b (cond (eqb b 0) a (cond (leb a b) a b))

-- a mesh within its limits, so that sums over two of them don't wrap; cited only by contracts of inner functions
pub record Few (m : Mesh) : Type 0 where
  pub nodes : node_count m ≤ 16384
  pub entries : length m.nodes ≤ 65536
