-- What a piece's tag says of it: twice the number of its cell among those of both meshes, the subject's first, and one more where the cell is cut.
-- Assumes nothing.
use Rattle.std.specs.Prelude.{cond, List, ◌++◌, ℕ, ◌-◌, ◌*◌, ◌/◌, eqb, ltb, get_or}

-- "A copied cell keeps its kind, and what is cut out of a cell is a PGON" (11); by the kinds of the subject's and of the cutter's cells
abbrev pub kind_by : List ℕ → List ℕ → ℕ → ℕ
kind_by sk ck t = cond (eqb (2 * (t / 2)) t) (get_or (sk ++ ck) (t / 2) 0) 11

-- a piece has its cell's family
abbrev pub family_by : List ℕ → List ℕ → ℕ → ℕ
family_by sf cf t = get_or (sf ++ cf) (t / 2) 0

-- W2, a piece's parent, by how many cells the subject has: "0 for subject or 1 for cutter, and the index of its cell there"
abbrev pub mesh_by : ℕ → ℕ → ℕ
mesh_by n t = cond (ltb (t / 2) n) 0 1

abbrev pub cell_by : ℕ → ℕ → ℕ
cell_by n t = cond (ltb (t / 2) n) (t / 2) (t / 2 - n)
