-- Document 01, module 5 (neighbours.rs): the edges of cells, each key once. Assumes nothing.
use Rattle.std.specs.Prelude.{Bool, cond, List, [], ◌∷◌, ◌++◌, map, ℕ, zero, suc, length, get_or}
use Rattle.lists.specs.Search.{has}
use Rattle.cutting.specs.Edges.{Edge, edge_at, same_key, ring}
use Rattle.entry.specs.Mesh.{Mesh}
use Rattle.rules.specs.Mesh.{cells_of}
use Rattle.rules.specs.Snap.{weld}

-- ---- `compute_descending`

-- "the first edge of a key stays": an edge goes behind the others, unless one of them has its key
unfoldable pub added : List Edge → Edge → List Edge
added es e = cond (has (λ i. same_key (edge_at es i) e) (length es)) es (es ++ e ∷ [])

unfoldable pub added_all : List Edge → List Edge → List Edge
added_all es [] = es
added_all es (f ∷ fs) = added_all (added es f) fs

-- the edges of the first i cells: "consecutive corners, last to first"
unfoldable pub descending_to : ℕ → List (List ℕ) → List Edge
descending_to zero cells = []
descending_to (suc i) cells = added_all (descending_to i cells) (ring (get_or cells i []))

abbrev pub compute_descending : List (List ℕ) → List Edge
compute_descending cells = descending_to (length cells) cells

-- the lines of operation 5 are edges as they are, none dropped
abbrev pub line_edges : List (List ℕ) → List Edge
line_edges lines = map (λ l. (get_or l 0 0, get_or l 1 0)) lines

-- ---- a mesh under the numbers of module 4: its cells with their kinds and families, and its edges

pub record Net : Type 0 where
  pub cells : List (List ℕ)
  pub kinds : List ℕ
  pub families : List ℕ
  pub edges : List Edge

abbrev pub renumbered : List ℕ → List (List ℕ) → List (List ℕ)
renumbered numbers cells = map (map (λ n. get_or numbers n 0)) cells

-- the subject's nodes keep their numbers
unfoldable pub subject_net : Mesh → Net
subject_net s = record { cells = cells_of s; kinds = s.kinds; families = s.families; edges = compute_descending (cells_of s) }

unfoldable pub cutter_net : Bool → Mesh → Mesh → Net
cutter_net lines s c =
    let cells = renumbered (weld s c) (cells_of c) in
    record { cells = cells; kinds = c.kinds; families = c.families; edges = cond lines (line_edges cells) (compute_descending cells) }
