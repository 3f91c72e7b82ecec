-- A cell's own edges and those near it: what only inner functions' contracts cite. Assumes nothing.
use Rattle.std.specs.Prelude.{◌≡◌, true, false, Result, is_err, List, map, ℕ, ◌<◌, length, get_or, drop}
use Rattle.corners.specs.Corners.{next_corner}
use Rattle.cutting.specs.Edges.{Edge, ring}
use Rattle.cutting.specs.Cell.{Laid, own_darts, outline_darts}
use Rattle.cutting.specs.declared.Slot.{Slot}
use Rattle.cutting.specs.Lent.{pair_of}
use Rattle.dart_table.specs.declared.Full.{Full}
use Rattle.cells.specs.declared.OwnEdges.{OwnEdges}
use Rattle.cells.specs.declared.NearEdges.{NearEdges}
use Rattle.cells.specs.Cells.{laid_in, outline_in, near_in}

-- the outline darts of the own edges
abbrev pub outline_of : OwnEdges → List Edge
outline_of o = outline_in o.scene.grid o.scene.coords.now o.scene.work.now o.scene.regions o.cell.now

-- those of the edge at corner i
abbrev pub darts_at : OwnEdges → ℕ → List Edge
darts_at o i = own_darts (laid_in o.scene.grid o.scene.coords.now o.scene.work.now o.scene.regions (get_or o.cell.now i 0, next_corner o.cell.now i))

-- those of the edges from edge k on
unfoldable pub outline_from : OwnEdges → ℕ → List Edge
outline_from o k = outline_darts (map (laid_in o.scene.grid o.scene.coords.now o.scene.work.now o.scene.regions) (drop k (ring o.cell.now)))

-- the edges near the cell, with their sorted nodes
abbrev pub laid_near : NearEdges → List Laid
laid_near n = near_in n.scene.grid n.scene.coords.now n.scene.work.now n.scene.regions (map pair_of n.edges.now) n.places.now

-- A table holds the slots t, unless an edge was refused: then t has over 1,024.
pub record Held (t : List Slot) (r : Result (Unit {0}) Full) (table : List Slot) : Type 0 where
  pub fits : is_err r ≡ false → table ≡ t
  pub over : is_err r ≡ true → 1024 < length t
