-- A cell's outline and its table: document 01, module 6, up to the walk; document 02, W14. Assumes nothing.
use Rattle.std.specs.Prelude.{Bool, true, false, not, ◌&&◌, ◌||◌, List, [], ◌∷◌, ◌++◌, map, ℕ, ltb, eqb, get_or, Float}
use Rattle.lists.specs.Gather.{tally, passing, joined}
use Rattle.lists.specs.Sort.{sorted}
use Rattle.exact.specs.Exact.{is_less}
use Rattle.exact.specs.Angle.{angles}
use Rattle.plane.specs.Plane.{between, point_at}
use Rattle.plane.specs.declared.Point.{Point}
use Rattle.cutting.specs.declared.Slot.{Slot}
use Rattle.cutting.specs.Edges.{Edge, key, same_key, reversed_if, hops, ring}

-- an edge with its sorted nodes; none where nothing was collected on it
pub record Laid : Type 0 where
  pub edge : Edge
  pub nodes : List ℕ

-- ---- `build_cell_dart_map`: the darts

-- from each node to the next
abbrev pub windows : List ℕ → List Edge
windows [] = []
windows (n ∷ ns) = hops n ns

-- an edge's two nodes, where it has no sorted ones
abbrev pub or_ends : Edge → List ℕ → List ℕ
or_ends e [] = e.0 ∷ e.1 ∷ []
or_ends e (n ∷ ns) = n ∷ ns

-- `inv`: each window the other way where the edge's second node is the first of the nodes
unfoldable pub darts_along : ℕ → List ℕ → List Edge
darts_along second ns = map (reversed_if (eqb second (get_or ns 0 0))) (windows ns)

-- of one of the cell's own edges
unfoldable pub own_darts : Laid → List Edge
own_darts l = darts_along l.edge.1 (or_ends l.edge l.nodes)

unfoldable pub outline_darts : List Laid → List Edge
outline_darts own = joined own_darts own

-- of an edge of the other mesh near the cell: its windows; or the whole edge, in its key's order
abbrev pub or_whole : Edge → List ℕ → List Edge
or_whole e [] = key e ∷ []
or_whole e (n ∷ ns) = hops n ns

unfoldable pub near_darts : Laid → List Edge
near_darts l = or_whole l.edge l.nodes

-- ---- edges between the same two nodes, in either direction

unfoldable pub among : Edge → List Edge → Bool
among e [] = false
among e (f ∷ fs) = same_key f e || among e fs

-- W14, 19: "an outline as cut that itself passes between the same two nodes twice or from a node to itself"
unfoldable pub repeats : List Edge → Bool
repeats [] = false
repeats (e ∷ es) = eqb e.0 e.1 || among e es || repeats es

-- ---- the table

-- each edge has an unmarked slot at its first node, and one at its second, marked if `back` is true
unfoldable pub edge_slots : Bool → List Edge → List Slot
edge_slots back [] = []
edge_slots back (e ∷ es) = record { src = e.0; dst = e.1; marked = false } ∷ record { src = e.1; dst = e.0; marked = back } ∷ edge_slots back es

-- the mark of the reverse of an outline dart: never walked
abbrev pub reverse_mark : Bool
reverse_mark = true

unfoldable pub table : List Edge → List Edge → List Slot
table outline inside = edge_slots reverse_mark outline ++ edge_slots false inside

-- a slot from a to b
abbrev pub names : ℕ → ℕ → Slot → Bool
names a b s = eqb s.src a && eqb s.dst b

-- ---- which edges near the cell the table takes

-- W14: "an edge already in the cell's table, in either direction, is not added again .., and a candidate edge that welding left from a node to itself
-- is never added" (an edge in the table has a slot at both its ends)
unfoldable pub is_new : List Slot → Edge → Bool
is_new t e = not (eqb e.0 e.1) && eqb (tally (names e.0 e.1) t) 0

-- those of some edges that a table takes, one after the other
unfoldable pub new_to : List Slot → List Edge → List Edge
new_to t [] = []
new_to t (e ∷ es) = elim (is_new t e) [ true ↦ e ∷ new_to (edge_slots false (e ∷ []) ++ t) es | false ↦ new_to t es ]

-- before W14: the windows that the outline hasn't, and a whole edge always
abbrev pub unless_outline : List Edge → Edge → List ℕ → List Edge
unless_outline outline e [] = key e ∷ []
unless_outline outline e (n ∷ ns) = passing (λ f. not (among f outline)) (hops n ns)

-- by whether a table has an edge once
unfoldable pub inner_with : Bool → List Edge → List Laid → List Edge
inner_with true outline near = new_to (table outline []) (joined near_darts near)
inner_with false outline near = joined (λ l. unless_outline outline l.edge l.nodes) near

abbrev pub inner : List Edge → List Laid → List Edge
inner outline near = inner_with true outline near

-- ---- `sort_cell_dart_map`: by falling angle of the rounded differences, at one node

abbrev pub direction : List Float → ℕ → ℕ → Point
direction coords a b = between (point_at coords a) (point_at coords b)

-- the slot from a to b stands before the one from c to d
unfoldable pub stands : List Float → ℕ → ℕ → ℕ → ℕ → Bool
stands coords a b c d =
    let v = direction coords a b in
    let w = direction coords c d in
    eqb a c && is_less (angles v.x v.y w.x w.y)

abbrev pub stands_before : List Float → Slot → Slot → Bool
stands_before coords s u = stands coords s.src s.dst u.src u.dst

-- the table of a cell that is cut: its outline darts and the edges near it
unfoldable pub cell_table_with : Bool → List Float → List Edge → List Laid → List Slot
cell_table_with once coords outline near = sorted (stands_before coords) (table outline (inner_with once outline near))

abbrev pub cell_table : List Float → List Edge → List Laid → List Slot
cell_table coords outline near = cell_table_with true coords outline near

-- the table of a cell that is copied: its own edges, each with a slot at both its ends
unfoldable pub copied_table : List ℕ → List Slot
copied_table cell = table (ring cell) []

-- doubled: a table names a neighbour twice at some node
unfoldable pub doubled : List Slot → Bool
doubled [] = false
doubled (s ∷ t) = ltb 0 (tally (names s.src s.dst) t) || doubled t
