-- The edges that are being written to a list, and what becomes of the lists. Assumes nothing.
use Rattle.std.specs.Prelude.{◌≡◌, List, [], ◌∷◌, ℕ, ◌+◌, ◌*◌, ◌≤◌, length, take}
use Rattle.lists.specs.Regions.{front}
use Rattle.lists.specs.Same.{SameList}
use Rattle.cutting.specs.Edges.{Edge, ring}
use Rattle.cutting.specs.Lent.{pairs, flat_edges}
use Rattle.rules.specs.Neighbours.{added_all}
use Rattle.neighbours.specs.declared.EdgeLists.{EdgeLists}

-- the edges that the lists hold
abbrev pub edges_in : EdgeLists → List Edge
edges_in l = pairs (take (2 * l.count) l.edges.now)

-- there is room for n more
pub record Room (n : ℕ) (l : EdgeLists) : Type 0 where
  pub edges : 2 * (l.count + n) ≤ length l.edges.now
  pub nexts : l.count + n ≤ length l.nexts.now
  pub few : l.count + n ≤ 65536

pub record SameLists (l m : EdgeLists) : Type 0 where
  pub edges : SameList l.edges m.edges
  pub heads : SameList l.heads m.heads
  pub nexts : SameList l.nexts m.nexts

-- l has become m: the edges es stand at the front, and nothing behind them has changed
pub record Holds (es : List Edge) (l m : EdgeLists) : Type 0 where
  pub count : m.count ≡ length es
  pub edges : m.edges.now ≡ front l.edges.now (flat_edges es)
  pub same : SameLists m l

-- the edges of cells, added to others
unfoldable pub cells_added : List Edge → List (List ℕ) → List Edge
cells_added es [] = es
cells_added es (cell ∷ cells) = cells_added (added_all es (ring cell)) cells
