-- When the outline as cut is sure to lead round, so that refusal 11 can't come (proofs/NeverEleven.antt). Assumes nothing.
use Rattle.std.specs.Prelude.{◌≡◌, Bool, true, not, ℕ, ◌<◌, length, None, Some}
use Rattle.lists.specs.Gather.{all}
use Rattle.cutting.specs.Edges.{Edge, key, ring}
use Rattle.grid.specs.Grid.{Grid}
use Rattle.settings.specs.declared.Settings.{Settings}
use Rattle.entry.specs.Mesh.{Mesh}
use Rattle.rules.specs.Mesh.{Side, lent_mesh}
use Rattle.rules.specs.Meetings.{Scene}
use Rattle.rules.specs.Nodes.{projected, by_projection, collected}
use Rattle.rules.specs.Cell.{cell_of}
use Rattle.rules.specs.Operations.{cuts, scene_for}

-- no node collected under the edge's key projects before the key's first node; on a grid that node is put first (W6)
unfoldable pub forward_on : Grid → Scene → Edge → Bool
forward_on (Some k) sc e = true
forward_on None sc e =
    let at = projected sc.coords (key e) in
    all (λ n. not (by_projection (at n) (at (key e).0))) (collected sc e)

abbrev pub forward_edge : Scene → Edge → Bool
forward_edge sc e = forward_on sc.grid sc e

-- so of every edge of cell i of mesh w
unfoldable pub forward_cell : Scene → Side → ℕ → Bool
forward_cell sc w i = all (forward_edge sc) (ring (cell_of sc w i))

-- so in every cell of a mesh that the operation cuts
abbrev pub Forward : Settings → Mesh → Mesh → Type 0
Forward o s c = (w : Side) → cuts o.op w ≡ true → (i : ℕ) → i < length (lent_mesh s c w).ends → forward_cell (scene_for o s c) w i ≡ true
