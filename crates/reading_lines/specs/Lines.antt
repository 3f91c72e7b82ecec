-- The answers of the code that reads words and lines, as what was read and the rest of the text. Assumes nothing.
use Rattle.std.specs.Prelude.{ℕ, ◌*◌, List, take, [], ◌∷◌, Float, Option, option_map}
use denote.Ref.{Bor}
use Rattle.lists.specs.Same.{SameList}
use Rattle.text.specs.Read.{Heading, Cell}
use Rattle.text.specs.Given.{Parsed, Nodes, Cells}
use Rattle.reading_lines.specs.declared.lines.Node.{Node}
use Rattle.reading_lines.specs.declared.lines.Heading.{Heading as HeadingRead}
use Rattle.reading_lines.specs.declared.lines.Cell.{Cell as CellRead}
use Rattle.reading_lines.specs.declared.lines.CellLists.{CellLists}
use Rattle.reading_lines.specs.declared.lines.CellCounts.{CellCounts}

-- what f makes of the value read, and the text after it
abbrev pub read_by : {A B : Type 0} → (A → B) → Option (A × Bor (List ℕ)) → Parsed B
read_by f r = option_map (λ p. (f p.0, p.1.now)) r

abbrev pub read_as : {A : Type 0} → Option (A × Bor (List ℕ)) → Parsed A
read_as r = read_by (λ x. x) r

abbrev pub node_of : Node → Nodes
node_of n = record { coords = n.x ∷ n.y ∷ []; layers = n.layer ∷ [] }

-- the n nodes in the front of the lists
abbrev pub nodes_of : ℕ → List Float → List ℕ → Nodes
nodes_of n cs ls = record { coords = take (2 * n) cs; layers = take n ls }

abbrev pub heading_of : HeadingRead → Heading
heading_of h = record { kind = h.kind; family = h.family }

-- a cell, whose corners are the first of ns
abbrev pub cell_of : CellRead → List ℕ → Cell
cell_of c ns = record { heading = heading_of c.heading; nodes = take c.corners ns }

-- the cells in the front of the lists
abbrev pub cells_of : CellCounts → CellLists → Cells
cells_of n l =
    record { nodes = take n.entries l.nodes.now; ends = take n.cells l.ends.now; kinds = take n.cells l.kinds.now; families = take n.cells l.families.now }

pub record SameCellLists (l m : CellLists) : Type 0 where
  pub nodes : SameList l.nodes m.nodes
  pub ends : SameList l.ends m.ends
  pub kinds : SameList l.kinds m.kinds
  pub families : SameList l.families m.families
