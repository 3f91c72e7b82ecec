-- The layers of all nodes, by the meetings as they stand in the working list. Assumes nothing.
use Rattle.std.specs.Prelude.{cond, List, [], ◌∷◌, ◌++◌, ℕ, zero, suc, ◌+◌, ◌*◌, eqb, length, get_or}

-- the layer of the first node of the subject's edge i: its nodes have the layers ss, and es are its edges, two node numbers each
abbrev pub layer_at : (ss es : List ℕ) → ℕ → ℕ
layer_at ss es i = get_or ss (get_or es (2 * i) 0) 0

-- By the first k meetings: five numbers each, the first that of a subject edge and the fourth a node, which is a new point where it has the next number.
-- The cutter's nodes have the layers cs.
unfoldable pub layers_to : ℕ → (ss cs es met : List ℕ) → List ℕ
layers_to zero ss cs es met = ss ++ cs
layers_to (suc k) ss cs es met =
    let before = layers_to k ss cs es met in
    cond (eqb (get_or met (5 * k + 3) 0) (length before)) (before ++ layer_at ss es (get_or met (5 * k) 0) ∷ []) before
