-- Document 01, modules 6 and 7 (cut.rs, `cut_with_intersections`): what each cell is cut by, and what it comes to. A cell's darts, its table, its walk
-- and refusals 19, 10 and 11 are the cutting layer's. Assumes nothing.
use Rattle.std.specs.Prelude.{Bool, true, List, [], ◌∷◌, map, ℕ, get_or}
use Rattle.cutting.specs.Edges.{Edge, edge_at, ring}
use Rattle.cutting.specs.Edition.{Edition, ours}
use Rattle.cutting.specs.Cell.{Laid, outline_darts, cell_table_with, copied_table}
use Rattle.cutting.specs.declared.Slot.{Slot}
use Rattle.cutting.specs.Outcome.{Outcome, cut_outcome_with, copied_outcome_with}
use Rattle.rules.specs.Mesh.{Side, other}
use Rattle.rules.specs.SpatialIndex.{box_of, candidates}
use Rattle.rules.specs.Meetings.{Scene, net_of}
use Rattle.rules.specs.Nodes.{sorted_nodes}

-- an edge with its sorted nodes
abbrev pub laid : Scene → Edge → Laid
laid sc e = record { edge = e; nodes = sorted_nodes sc e }

-- "Outline darts are those that `build_cell_dart_map` takes from the cell's own edges along their sorted nodes, in the direction it gives them"
unfoldable pub darts_of : Scene → List ℕ → List Edge
darts_of sc cell = outline_darts (map (laid sc) (ring cell))

-- those of the edges es at the places js, with their sorted nodes
abbrev pub near_edges : Scene → List Edge → List ℕ → List Laid
near_edges sc es js = map (λ j. laid sc (edge_at es j)) js

-- ---- cell i of mesh w: where the other mesh has no edge near it, it is copied; any other is cut

pub record Treated : Type 0 where
  -- "The outline as cut is the list of outline darts, or the cell's own edges where it is copied"
  pub outline : List Edge
  -- "A copied cell's table is that of its own edges"; by whether a table has an edge once
  pub table : Bool → List Slot
  -- "A cell's pieces before any are dropped are all that its walk closes, in that order, or the cell itself where it is copied"; or 19, 10 or 11
  pub outcome : Edition → Outcome
  -- a copied cell keeps its kind, and what is cut out of a cell is a PGON
  pub kind : ℕ

module _ (sc : Scene) (w : Side) (i : ℕ) where
  abbrev pub cell_of : List ℕ
  cell_of = get_or (net_of sc w).cells i []

  -- the other mesh's edges whose box meets that of the cell's corners
  unfoldable pub near_of : List ℕ
  near_of = candidates sc.coords (net_of sc (other w)).edges (box_of sc.coords cell_of)

  -- by the edges near it
  abbrev pub treated_by : List ℕ → Treated
  treated_by [] =
      record {
        outline = ring cell_of;
        table = λ once. copied_table cell_of;
        outcome = λ v. copied_outcome_with v.once cell_of;
        kind = get_or (net_of sc w).kinds i 0;
      }
  treated_by (j ∷ js) =
      let outline = darts_of sc cell_of in
      let table : Bool → List Slot = λ once. cell_table_with once sc.coords outline (near_edges sc (net_of sc (other w)).edges (j ∷ js)) in
      record { outline = outline; table = table; outcome = λ v. cut_outcome_with v outline (table v.once); kind = 11 }

  unfoldable pub treated : Treated
  treated = treated_by near_of

  abbrev pub outline_of : List Edge
  outline_of = treated.outline

  abbrev pub table_with : Bool → List Slot
  table_with once = treated.table once

  abbrev pub table_of : List Slot
  table_of = table_with true

  abbrev pub kind_of : ℕ
  kind_of = treated.kind

-- what it comes to, by the edition
abbrev pub outcome_with : Edition → Scene → Side → ℕ → Outcome
outcome_with v sc w i = (treated sc w i).outcome v

abbrev pub outcome_of : Scene → Side → ℕ → Outcome
outcome_of sc w i = outcome_with ours sc w i
