-- A ring by the places of its corners: its edges lead from each corner to the one after it. Assumes nothing.
use mathlib.Core.Path.{◌≡◌, refl, sym, ap, ap₂, ◌∙◌}
use mathlib.Core.Bool.{Bool, true, false, cond}
use mathlib.Core.List.{List, [], ◌∷◌, ◌++◌, append_assoc}
use Prim.Native.Nat.{ℕ, zero, suc, ◌+◌, ◌≤◌, ◌<◌}
use native.Mathlib.Numerals.{add-one}
use native.Mathlib.Omega.{arith}
use lib.Dec.{ltb}
use lib.ListN.{length, get_or, drop, length-append, get_or-append}
use lib.Seq.{drop-cons, get_or_at}
use borrow.Author.Tests.{ltb-true, ltb-false}
use Rattle.lists.specs.Gather.{gathered, each}
use Rattle.lists.proofs.Gather.{each_head, each_ext, length_each, get_or_each}
use Rattle.corners.specs.Corners.{corner_after, next_corner}
use Rattle.cutting.specs.Edges.{Edge, edge_at, hops, ring}

-- the edge from corner i to the one after it, and those of the first i corners
abbrev pub side : List ℕ → ℕ → Edge
side cell i = (get_or cell i 0, next_corner cell i)

abbrev pub sides : List ℕ → ℕ → List Edge
sides cell i = each i (side cell)

-- from each of the nodes to the next
hops_each : (x : ℕ) (ys : List ℕ) → hops x ys ≡ each (length ys) (λ i. (get_or (x ∷ ys) i 0, get_or (x ∷ ys) (suc i) 0))
unfolding hops gathered
hops_each x [] = refl
hops_each x (y ∷ ys) =
    ap (λ (es : List Edge). (x, y) ∷ es) (hops_each y ys) ∙ sym (each_head (length ys) (λ i. (get_or (x ∷ y ∷ ys) i 0, get_or (x ∷ y ∷ ys) (suc i) 0)))

-- the nodes behind a first corner, it again behind the last, are the corners after each
after_first : (x : ℕ) (xs : List ℕ) (i : ℕ) → i < suc (length xs) → get_or (xs ++ x ∷ []) i 0 ≡ next_corner (x ∷ xs) i
unfolding next_corner corner_after
after_first x xs i h = go (ltb (i + 1) (suc (length xs))) refl
  where
    go : (b : Bool) → ltb (i + 1) (suc (length xs)) ≡ b → get_or (xs ++ x ∷ []) i 0 ≡ get_or (x ∷ xs) (cond b (i + 1) 0) 0
    go true e =
        let below : i < length xs = omega (arith, ltb-true (i + 1) (suc (length xs)) e) in
        get_or-append xs (x ∷ []) 0 i below ∙ ap (λ (k : ℕ). get_or (x ∷ xs) k 0) (sym (add-one i))
    go false e =
        let at : length xs ≡ i = omega (arith, ltb-false (i + 1) (suc (length xs)) e) in
        get_or_at xs x [] 0 i at

pub ring_each : (cell : List ℕ) → ring cell ≡ sides cell (length cell)
unfolding ring gathered
ring_each [] = refl
ring_each (x ∷ xs) =
    let n : length (xs ++ x ∷ []) ≡ suc (length xs) = simp length-append (omega arith) in
    hops_each x (xs ++ x ∷ [])
    ∙ ap (λ (k : ℕ). each k (λ i. (get_or (x ∷ (xs ++ x ∷ [])) i 0, get_or (x ∷ (xs ++ x ∷ [])) (suc i) 0))) n
    ∙ each_ext (suc (length xs)) _ _ (λ i h. ap₂ (λ (a b : ℕ). (a, b)) (get_or-append (x ∷ xs) (x ∷ []) 0 i h) (after_first x xs i h))

-- as many edges as corners
pub length_ring : (cell : List ℕ) → length (ring cell) ≡ length cell
length_ring cell = ap length (ring_each cell) ∙ length_each (length cell) (side cell)

pub ring_at : (cell : List ℕ) (i : ℕ) → i < length cell → edge_at (ring cell) i ≡ side cell i
ring_at cell i h = ap (λ (es : List Edge). edge_at es i) (ring_each cell) ∙ get_or_each (length cell) (side cell) i (0, 0) h

-- the edges from corner i on
pub ring_from : (cell : List ℕ) (i : ℕ) → i < length cell → drop i (ring cell) ≡ side cell i ∷ drop (i + 1) (ring cell)
ring_from cell i h =
    drop-cons (ring cell) i (0, 0) (omega (arith, h, length_ring cell)) ∙ ap₂ (λ (e : Edge) (k : ℕ). e ∷ drop k (ring cell)) (ring_at cell i h) (sym (add-one i))

-- the first i edges and those from corner i on
sides_from : (cell : List ℕ) (i : ℕ) → i ≤ length cell → sides cell i ++ drop i (ring cell) ≡ ring cell
unfolding gathered
sides_from cell zero h = refl
sides_from cell (suc i) h =
    append_assoc (sides cell i) (side cell i ∷ []) (drop (suc i) (ring cell))
    ∙ ap (λ (es : List Edge). sides cell i ++ es) (ap (λ (k : ℕ). side cell i ∷ drop k (ring cell)) (sym (add-one i)) ∙ sym (ring_from cell i (omega (arith, h))))
    ∙ sides_from cell i (omega (arith, h))

-- the first i edges, the next one and the rest
pub sides_next : (cell : List ℕ) (i : ℕ) → i < length cell → sides cell i ++ side cell i ∷ drop (i + 1) (ring cell) ≡ ring cell
sides_next cell i h = ap (λ (es : List Edge). sides cell i ++ es) (sym (ring_from cell i h)) ∙ sides_from cell i (omega (arith, h))
