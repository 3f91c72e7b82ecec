-- (a) of demand 3, cell by cell: the pieces of a cell that isn't refused close up to its outline as cut. Assumes nothing.
use mathlib.Core.Path.{◌≡◌, ◌∙◌}
use mathlib.Core.Bool.{Bool, true, false}
use mathlib.Core.List.{List, [], ◌∷◌}
use Prim.Native.Nat.{ℕ, ◌<◌}
use native.Mathlib.Omega.{arith}
use lib.Dec.{eqb}
use lib.ListN.{length, length-map}
use Rattle.lists.specs.Gather.{each}
use Rattle.lists.proofs.Gather.{length_each}
use Rattle.cutting.specs.Edges.{Edge}
use Rattle.cutting.specs.Edition.{ours}
use Rattle.cutting.specs.Cell.{Laid, doubled, repeats}
use Rattle.cutting.specs.declared.Slot.{Slot}
use Rattle.cutting.specs.Outcome.{Outcome}
use Rattle.cutting.specs.Areas.{ClosesUp}
use Rattle.cutting.proofs.Closing.{accepted_once, accepted_closes_up, never_doubled, copy_once, copy_closes_up, copy_never_doubled}
use Rattle.grid.specs.Grid.{Grid}
use Rattle.settings.specs.declared.Settings.{Settings}
use Rattle.entry.specs.Mesh.{Mesh}
use Rattle.rules.specs.Mesh.{cell_at, cells_of, Side, the_subject, the_cutter, other, lent_mesh}
use Rattle.rules.specs.Neighbours.{subject_net, cutter_net}
use Rattle.rules.specs.Meetings.{Scene, net_of, scene_of}
use Rattle.rules.specs.Cell.{darts_of, near_edges, cell_of, near_of, treated_by, treated, outline_of, table_of, outcome_of}
use Rattle.rules.specs.Operations.{cuts, scene_for, outcome_pieces}
use Rattle.rules.specs.Overlay.{Lists}
use Rattle.rules.specs.Demand3.{Accepted, CellCloses}
use Rattle.rules.proofs.Accepts.{accepted, Made, made_is, all_made}

-- by the theorems of the cutting layer, whether the cell is copied or cut
module _ (sc : Scene) (w : Side) (i : ℕ) where
  abbrev cell : List ℕ
  cell = cell_of sc w i

  abbrev near : ℕ → List ℕ → List Laid
  near j js = near_edges sc (net_of sc (other w)).edges (j ∷ js)

  abbrev outline : List ℕ → List Edge
  outline js = (treated_by sc w i js).outline

  abbrev table : List ℕ → List Slot
  table js = (treated_by sc w i js).table true

  abbrev outcome : List ℕ → Outcome
  outcome js = (treated_by sc w i js).outcome ours

  cell_closes : (js : List ℕ) → Made (outcome js) → ClosesUp sc.coords (outline js) (outcome_pieces (outcome js))
  cell_closes [] made = copy_closes_up sc.coords cell (outcome_pieces (outcome [])) (made_is (outcome []) made)
  cell_closes (j ∷ js) made = accepted_closes_up sc.coords (darts_of sc cell) (near j js) (outcome_pieces (outcome (j ∷ js))) (made_is (outcome (j ∷ js)) made)

  -- its outline doesn't repeat
  cell_once : (js : List ℕ) → Made (outcome js) → repeats (outline js) ≡ false
  cell_once [] made = copy_once cell (outcome_pieces (outcome [])) (made_is (outcome []) made)
  cell_once (j ∷ js) made = accepted_once (darts_of sc cell) (table (j ∷ js)) (outcome_pieces (outcome (j ∷ js))) (made_is (outcome (j ∷ js)) made)

  -- and its table names no neighbour twice
  cell_single : (js : List ℕ) → Made (outcome js) → doubled (table js) ≡ false
  cell_single [] made = copy_never_doubled cell (cell_once [] made)
  cell_single (j ∷ js) made = never_doubled sc.coords (darts_of sc cell) (near j js) (cell_once (j ∷ js) made)

-- the cells of a net are those lent
pub cells_lent : (g : Grid) (lines : Bool) (s c : Mesh) (w : Side) → length (net_of (scene_of g lines s c) w).cells ≡ length (lent_mesh s c w).ends
unfolding scene_of subject_net cutter_net cells_of
cells_lent g lines s c the_subject = length_each (length s.ends) (cell_at s)
cells_lent g lines s c the_cutter = length-map (each (length c.ends) (cell_at c)) _ ∙ length_each (length c.ends) (cell_at c)

-- in every cell of a mesh that the operation cuts, if the overlay is accepted
module _ (o : Settings) (s c : Mesh) (l : Lists) (h : Accepted o s c l) (w : Side) (e : cuts o.op w ≡ true) (i : ℕ) (k : i < length (lent_mesh s c w).ends) where
  abbrev sc : Scene
  sc = scene_for o s c

  made : Made (outcome_of sc w i)
  made = all_made ours o s c l (accepted ours o s c l h).state w e i (omega (arith, k, cells_lent o.grid (eqb o.op 5) s c w))

  pub accepted_closes : CellCloses sc w i
  unfolding treated
  accepted_closes = cell_closes sc w i (near_of sc w i) made

  pub outline_once : repeats (outline_of sc w i) ≡ false
  unfolding treated
  outline_once = cell_once sc w i (near_of sc w i) made

  pub table_single : doubled (table_of sc w i) ≡ false
  unfolding treated
  table_single = cell_single sc w i (near_of sc w i) made
