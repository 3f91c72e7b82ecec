-- Edges and their keys (document 01, module 3), and the directed edges of pieces. Assumes nothing.
use Rattle.std.specs.Prelude.{Bool, true, false, ◌&&◌, List, [], ◌∷◌, ◌++◌, ℕ, ◌+◌, min, max, eqb, get_or}
use Rattle.lists.specs.Search.{bit}

abbrev pub Edge : Type 0
Edge = ℕ × ℕ

abbrev pub edge_at : List Edge → ℕ → Edge
edge_at es i = get_or es i (0, 0)

-- module 3: the two node numbers, smaller first
abbrev pub key : Edge → Edge
key e = (min e.0 e.1, max e.0 e.1)

abbrev pub same_key : Edge → Edge → Bool
same_key e f = eqb (key e).0 (key f).0 && eqb (key e).1 (key f).1

-- the other way where the flag is true
abbrev pub reversed_if : Bool → Edge → Edge
reversed_if true e = (e.1, e.0)
reversed_if false e = e

-- from x through the nodes ys
unfoldable pub hops : ℕ → List ℕ → List Edge
hops x [] = []
hops x (y ∷ ys) = (x, y) ∷ hops y ys

-- a piece's directed edges: from each corner to the next and from the last to the first
unfoldable pub ring : List ℕ → List Edge
ring [] = []
ring (x ∷ xs) = hops x (xs ++ x ∷ [])

-- those of all pieces
unfoldable pub rings : List (List ℕ) → List Edge
rings [] = []
rings (p ∷ ps) = ring p ++ rings ps

-- 1 where the edge from x to y is the one from a to b
abbrev pub hit : ℕ → ℕ → ℕ → ℕ → ℕ
hit a b x y = bit (eqb x a && eqb y b)

-- how often the edge from a to b stands in a list
unfoldable pub times : ℕ → ℕ → List Edge → ℕ
times a b [] = 0
times a b (e ∷ es) = hit a b e.0 e.1 + times a b es
