-- One cell cut by the other mesh's edges near it (document 01, modules 6 and 7), where edges, meetings and links stand in regions of the working list.
-- Assumes nothing.
use Rattle.std.specs.Prelude.{Result, Ok, Err, List, map, ℕ, ◌<◌, length, get_or, Float}
use Rattle.lists.specs.Regions.{front, zeros}
use Rattle.grid.specs.Grid.{Grid}
use Rattle.cutting.specs.Edges.{Edge, edge_at, ring}
use Rattle.cutting.specs.Cell.{Laid, outline_darts, cell_table}
use Rattle.cutting.specs.declared.Slot.{Slot}
use Rattle.cutting.specs.Outcome as Outcome
use Rattle.cutting.specs.Outcome.{Outcome, pieces, refusal, cut_outcome, flat}
use Rattle.cutting.specs.Lent.{pairs}
use Rattle.regions.specs.declared.Run.{Run}
use Rattle.regions.specs.declared.Regions.{Regions}
use Rattle.regions.specs.Runs.{run_in}
use Rattle.edge_nodes.specs.Lent.{nodes_on, Few}
use Rattle.refusals.specs.declared.Refusal.{Refusal}
use Rattle.refusals.specs.Numbers.{number}
use Rattle.dart_walk.specs.declared.Counts.{Counts}

module _ (grid : Grid) (coords : List Float) (work : List ℕ) (g : Regions) where
  -- an edge with its sorted nodes
  abbrev pub laid_in : Edge → Laid
  laid_in e = record { edge = e; nodes = nodes_on grid coords work g e }

  -- the outline darts of a cell
  unfoldable pub outline_in : List ℕ → List Edge
  outline_in cell = outline_darts (map laid_in (ring cell))

  -- the edges es at the places js, with their sorted nodes
  unfoldable pub near_in : List Edge → List ℕ → List Laid
  near_in es js = map (λ j. laid_in (edge_at es j)) js

  -- the table of a cell that they cut
  unfoldable pub table_in : List Edge → List ℕ → List ℕ → List Slot
  table_in es js cell = cell_table coords (outline_in cell) (near_in es js)

-- the edges that a run of the working list holds
abbrev pub edges_in : List ℕ → Run → List Edge
edges_in work r = pairs (run_in work r)

-- js are places of the edges es
abbrev pub Places : List ℕ → List Edge → Type 0
Places js es = (k : ℕ) → k < length js → get_or js k 0 < length es

-- ---- what a cell comes to: the answer, and the lists of its pieces' corners and of where they end

-- the refusal's number or 0, how many pieces there are, and corners in them
pub record Numbers : Type 0 where
  pub code : ℕ
  pub pieces : ℕ
  pub entries : ℕ

abbrev pub numbers : Result Counts Refusal → Numbers
numbers (Ok k) = record { code = 0; pieces = k.pieces; entries = k.entries }
numbers (Err r) = record { code = number r; pieces = 0; entries = 0 }

pub record Cut : Type 0 where
  pub answer : Numbers
  pub corners : List ℕ
  pub stops : List ℕ

abbrev pub cut_to : Numbers → List ℕ → List ℕ → Cut
cut_to k on os = record { answer = k; corners = on; stops = os }

abbrev pub cut : Result Counts Refusal → List ℕ → List ℕ → Cut
cut r on os = cut_to (numbers r) on os

-- the pieces in front of the two lists; zeros on a refusal
unfoldable pub cut_as : Outcome → List ℕ → List ℕ → Cut
cut_as (pieces ps) on os = cut_to (record { code = 0; pieces = length ps; entries = length (flat ps) }) (front on (flat ps)) (front os (Outcome.stops 0 ps))
cut_as (refusal k) on os = cut_to (record { code = k; pieces = 0; entries = 0 }) (zeros (length on)) (zeros (length os))

-- a cell with the outline and the table t
unfoldable pub cut_by : List Edge → List Slot → List ℕ → List ℕ → Cut
cut_by outline t on os = cut_as (cut_outcome outline t) on os

-- a cell that those of the edges cut that stand at the places js
unfoldable pub cut_cell : Grid → List Float → List ℕ → Regions → Run → List ℕ → List ℕ → List ℕ → List ℕ → Cut
cut_cell grid coords work g edges js cell on os = cut_by (outline_in grid coords work g cell) (table_in grid coords work g (edges_in work edges) js cell) on os

-- The meetings are chained, and under no key of the edges es over 256 nodes were collected (refusal 9).
abbrev pub AllFew : List ℕ → Regions → List Edge → Type 0
AllFew work g es = (i : ℕ) → i < length es → Few work g (edge_at es i)
