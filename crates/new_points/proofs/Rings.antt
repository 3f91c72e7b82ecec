-- The ends of a ring's edges are its corners; an edge that pieces use is an edge of one of them, and one of a mesh an edge of a cell. Assumes nothing.
use mathlib.Core.Path.{◌≡◌, refl, sym, ap, ap₂, ◌∙◌}
use mathlib.Core.Logic.{◌⊎◌, inl, inr}
use mathlib.Core.Bool.{Bool, true, false, ◌&&◌}
use mathlib.Core.List.Memᴰ
use mathlib.Core.List.{
  List,
  [],
  ◌∷◌,
  Memᴰ,
}
use Prim.Native.Nat.{ℕ, ◌+◌, ◌<◌}
use native.Mathlib.Nat.{le_refl}
use native.Mathlib.Omega.{arith}
use lib.Dec.{eqb}
use lib.ListN.{length, get_or}
use Rattle.lists.specs.Search.{bit}
use Rattle.cutting.specs.Edges.{Edge, ring, rings, hit, times}
use Rattle.cutting.proofs.EdgeLaws.{both, hit_self}
use Rattle.rules.specs.Neighbours.{compute_descending}
use Rattle.coordinates.proofs.Points.{ring_each, descending_each}

-- ---- corners

-- both ends of a ring's edge are its corners
pub ring_ends : (p : List ℕ) (e : Edge) → Memᴰ e (ring p) → Memᴰ e.0 p × Memᴰ e.1 p
ring_ends p = ring_each (λ (x : ℕ). Memᴰ x p) p (λ x m. m)

-- ---- edges that are used

-- an edge of a list is used
pub times_in : (e : Edge) (es : List Edge) → Memᴰ e es → 0 < times e.0 e.1 es
unfolding times
times_in e [] m = absurd (Memᴰ.not-nil m)
times_in e (f ∷ fs) m = go (λ i. times_in e fs i) (Memᴰ.cases_cons m)
  where
    go : (Memᴰ e fs → 0 < times e.0 e.1 fs) → (e ≡ f) ⊎ Memᴰ e fs → 0 < hit e.0 e.1 f.0 f.1 + times e.0 e.1 fs
    go ih (inl q) = let one : hit e.0 e.1 f.0 f.1 ≡ 1 = ap (λ (g : Edge). hit e.0 e.1 g.0 g.1) (sym q) ∙ hit_self e.0 e.1 in omega (arith, one)
    go ih (inr i) = omega (arith, ih i)

-- and one that is used stands there
pub in_times : (a b : ℕ) (es : List Edge) → 0 < times a b es → Memᴰ (a, b) es
unfolding times
in_times a b [] h = absurd (omega arith)
in_times a b (e ∷ es) h = go (eqb e.0 a && eqb e.1 b) refl (λ l. in_times a b es l) h
  where
    go : (t : Bool) → eqb e.0 a && eqb e.1 b ≡ t → (0 < times a b es → Memᴰ (a, b) es) → 0 < bit t + times a b es → Memᴰ (a, b) (e ∷ es)
    go true q ih l = let at = both e.0 a e.1 b q in Memᴰ.head (ap₂ (λ (x y : ℕ). (x, y)) (sym at.0) (sym at.1))
    go false q ih l = Memᴰ.tail (ih (omega (arith, l)))

-- an edge of some pieces is one of a piece's
pub in_rings : (e : Edge) (ps : List (List ℕ)) → Memᴰ e (rings ps) → (p : List ℕ) × Memᴰ p ps × Memᴰ e (ring p)
unfolding rings
in_rings e [] m = absurd (Memᴰ.not-nil m)
in_rings e (p ∷ ps) m = go (λ i. in_rings e ps i) (Memᴰ.append_cases (ring p) m)
  where
    go : (Memᴰ e (rings ps) → (q : List ℕ) × Memᴰ q ps × Memᴰ e (ring q)) → Memᴰ e (ring p) ⊎ Memᴰ e (rings ps)
        → (q : List ℕ) × Memᴰ q (p ∷ ps) × Memᴰ e (ring q)
    go ih (inl i) = (p, Memᴰ.head refl, i)
    go ih (inr i) = let r = ih i in (r.0, Memᴰ.tail r.1, r.2)

-- ---- edges of cells

-- those that `compute_descending` keeps
pub descending_in : (cells : List (List ℕ)) (e : Edge) → Memᴰ e (compute_descending cells) → (i : ℕ) × (i < length cells) × Memᴰ e (ring (get_or cells i []))
descending_in cells =
    descending_each (λ (e : Edge). (i : ℕ) × (i < length cells) × Memᴰ e (ring (get_or cells i []))) (length cells) cells (le_refl (length cells)) (λ j h e m. (j, h, m))
