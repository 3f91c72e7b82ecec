-- "Refused because of the input", 1 to 7, in document 01's order, and document 02's 13: what each of them lets pass. Assumes nothing.
use Rattle.std.specs.Prelude.{ℕ, ◌+◌, ◌*◌, ◌%◌, ◌^◌, Bool, true, false, ◌&&◌, ◌||◌, not, cond, List, length, get_or, take, leb, ltb, eqb, Float, Option, None, Some}
use Rattle.std.specs.List.{list_all, list_any}
use Rattle.std.specs.Float.{nan, inf, fin}
use Rattle.std.specs.Float.Ieee.{up, down}
use Rattle.lists.specs.Search.{every}
use Rattle.lists.specs.Regions.{run}
use Rattle.settings.specs.declared.Settings.{Settings}
use Rattle.entry.specs.Mesh.{Mesh, node_count, prior, cell_size}

-- 1: the operation, and the meeting limit M within 1..65,536
unfoldable pub call_ok : ℕ → ℕ → Bool
call_ok op m = leb op 5 && leb 1 m && leb m 65536

-- W6, 13: "k above 10 where a grid is set, directly after 1"
unfoldable pub grid_ok : Option ℕ → Bool
grid_ok None = true
grid_ok (Some k) = leb k 10

-- 2: each end above the one before (the first: above 0), the last the count of node entries (no cells: no entries)
unfoldable pub ends_ok : List ℕ → ℕ → Bool
ends_ok ends n = every (length ends) (λ i. ltb (prior ends i) (get_or ends i 0)) && eqb (prior ends (length ends)) n

-- 2: an even count of coordinate numbers, the ends, ends, kinds and families of one length, at most 16,384 nodes, 16,384 cells and 65,536 entries.
-- W7: "Refusal 2 includes a layer list of the wrong length"
unfoldable pub shape_ok : Mesh → Bool
shape_ok m =
    eqb (length m.coords % 2) 0
    && ends_ok m.ends (length m.nodes)
    && eqb (length m.kinds) (length m.ends)
    && eqb (length m.families) (length m.ends)
    && eqb (length m.layers) (node_count m)
    && leb (node_count m) 16384
    && leb (length m.ends) 16384
    && leb (length m.nodes) 65536

-- 3: finite, at most 2^40 in size, not −0
unfoldable pub coord_ok : Float → Bool
coord_ok nan = false
coord_ok (inf s) = false
coord_ok (fin s m e) = leb (m * up e) (2 ^ 40 * down e) && not (s && eqb m 0)

unfoldable pub coords_ok : List Float → Bool
coords_ok = list_all coord_ok

-- 4: kind k with n nodes: 5 TRI3, 8 QUAD4, 11 PGON with 3..256; where lines are asked for, 1 SEG2
unfoldable pub kind_ok : Bool → ℕ → ℕ → Bool
kind_ok true k n = eqb k 1 && eqb n 2
kind_ok false k n = (eqb k 5 && eqb n 3) || (eqb k 8 && eqb n 4) || (eqb k 11 && leb 3 n && leb n 256)

-- 4: none below the one before
unfoldable pub kinds_ok : Bool → List ℕ → List ℕ → Bool
kinds_ok lines kinds ends = every (length ends) (λ i. leb (prior kinds i) (get_or kinds i 0) && kind_ok lines (get_or kinds i 0) (cell_size ends i))

-- 5: each node number below the node count
unfoldable pub nodes_ok : List ℕ → ℕ → Bool
nodes_ok nodes n = list_all (λ x. ltb x n) nodes

-- 6: x stands nowhere in a list
unfoldable pub absent : List ℕ → ℕ → Bool
absent nodes x = not (list_any (λ y. eqb y x) nodes)

-- 6: no node of a cell or line stands among those before it
unfoldable pub cell_ok : List ℕ → Bool
cell_ok cell = every (length cell) (λ j. absent (take j cell) (get_or cell j 0))

unfoldable pub cells_ok : List ℕ → List ℕ → Bool
cells_ok nodes ends = every (length ends) (λ i. cell_ok (run nodes (prior ends i) (cell_size ends i)))

-- 7: a working list of w numbers is no shorter than 16 × (N + E + M) + 64
unfoldable pub work_ok : ℕ → Mesh → Mesh → ℕ → Bool
work_ok m s c w = leb (16 * ((node_count s + node_count c) + (length s.nodes + length c.nodes) + m) + 64) w

-- the refusal, or 0: "the lowest number wins, whichever mesh". Operation 5's cutter has lines
unfoldable pub entry_of : Settings → Mesh → Mesh → ℕ → ℕ
entry_of o s c w =
    cond (not (call_ok o.op o.m)) 1
    (cond (not (grid_ok o.grid)) 13
    (cond (not (shape_ok s && shape_ok c)) 2
    (cond (not (coords_ok s.coords && coords_ok c.coords)) 3
    (cond (not (kinds_ok false s.kinds s.ends && kinds_ok (eqb o.op 5) c.kinds c.ends)) 4
    (cond (not (nodes_ok s.nodes (node_count s) && nodes_ok c.nodes (node_count c))) 5
    (cond (not (cells_ok s.nodes s.ends && cells_ok c.nodes c.ends)) 6
    (cond (not (work_ok o.m s c w)) 7 0)))))))
