-- Edges that lead from one node to another: but for these two, as many of them lead from each node as to it. Assumes nothing.
use mathlib.Core.Path.{◌≡◌, refl, sym, ap, subst}
use mathlib.Core.Bool.{Bool, true, false}
use mathlib.Core.List.{List, [], ◌∷◌, ◌++◌, map}
use Prim.Native.Nat.{ℕ, ◌+◌, min, max}
use native.Mathlib.Omega.{arith}
use lib.Dec.{eqb}
use borrow.Author.Tests.{eqb-true, eqb-false}
use Rattle.lists.specs.Search.{bit}
use Rattle.lists.specs.Gather.{tally, slim_after}
use Rattle.lists.proofs.Gather.{tally_append}
use Rattle.cutting.specs.Edges.{Edge, reversed_if, hops}
use Rattle.cutting.specs.Areas.{leaving, entering}

abbrev pub Leads : ℕ → ℕ → List Edge → Type 0
Leads x z es = (a : ℕ) → leaving a es + bit (eqb z a) ≡ entering a es + bit (eqb x a)

-- one after the other
pub leads_on : (x y z : ℕ) (es fs : List Edge) → Leads x y es → Leads y z fs → Leads x z (es ++ fs)
leads_on x y z es fs h k a = omega (arith, h a, k a, tally_append (λ e. eqb e.0 a) es fs, tally_append (λ e. eqb e.1 a) es fs)

pub leads_none : (x : ℕ) → Leads x x []
unfolding tally
leads_none x a = refl

pub leads_edge : (x z : ℕ) → Leads x z ((x, z) ∷ [])
unfolding tally
leads_edge x z a = omega arith

-- the other way
leaving_turned : (a : ℕ) (es : List Edge) → leaving a (map (reversed_if true) es) ≡ entering a es
unfolding tally
leaving_turned a [] = refl
leaving_turned a (e ∷ es) = ap (λ (k : ℕ). bit (eqb e.1 a) + k) (leaving_turned a es)

entering_turned : (a : ℕ) (es : List Edge) → entering a (map (reversed_if true) es) ≡ leaving a es
unfolding tally
entering_turned a [] = refl
entering_turned a (e ∷ es) = ap (λ (k : ℕ). bit (eqb e.0 a) + k) (entering_turned a es)

not_turned : (es : List Edge) → map (reversed_if false) es ≡ es
not_turned [] = refl
not_turned (e ∷ es) = ap (λ (l : List Edge). e ∷ l) (not_turned es)

pub leads_turned : (x z : ℕ) (es : List Edge) (t : Bool) → (t ≡ true → Leads z x es) → (t ≡ false → Leads x z es) → Leads x z (map (reversed_if t) es)
leads_turned x z es true h k = λ a. omega (arith, h refl a, leaving_turned a es, entering_turned a es)
leads_turned x z es false h k = subst (Leads x z) (sym (not_turned es)) (k refl)

-- along nodes, adjacent equals dropped
pub leads_hops : (x : ℕ) (ys : List ℕ) (z : ℕ) → Leads x z (hops x (slim_after eqb x (ys ++ z ∷ [])))
unfolding slim_after hops tally
leads_hops x [] z = go (eqb x z) refl
  where
    go : (t : Bool) → eqb x z ≡ t → Leads x z (hops x (elim t [ true ↦ slim_after eqb x [] | false ↦ z ∷ slim_after eqb z [] ]))
    go true e = λ a. omega (arith, ap (λ (v : ℕ). bit (eqb v a)) (eqb-true x z e))
    go false e = leads_edge x z
leads_hops x (y ∷ ys) z = go (eqb x y) (leads_hops x ys z) (leads_hops y ys z)
  where
    go : (t : Bool) → Leads x z (hops x (slim_after eqb x (ys ++ z ∷ []))) → Leads y z (hops y (slim_after eqb y (ys ++ z ∷ [])))
        → Leads x z (hops x (elim t [ true ↦ slim_after eqb x (ys ++ z ∷ []) | false ↦ y ∷ slim_after eqb y (ys ++ z ∷ []) ]))
    go true h k = h
    go false h k = leads_on x y z ((x, y) ∷ []) (hops y (slim_after eqb y (ys ++ z ∷ []))) (leads_edge x y) k

-- `inv` turns what leads along the key into what leads along the edge
pub leads_key : (x z : ℕ) (es : List Edge) → Leads (min x z) (max x z) es → Leads x z (map (reversed_if (eqb z (min x z))) es)
leads_key x z es h = leads_turned x z es (eqb z (min x z)) turned kept
  where
    at : (a u v : ℕ) → u ≡ v → bit (eqb u a) ≡ bit (eqb v a)
    at a u v e = ap (λ (n : ℕ). bit (eqb n a)) e

    turned : eqb z (min x z) ≡ true → Leads z x es
    turned t = let low = eqb-true z (min x z) t in λ a. omega (arith, h a, at a z (min x z) low, at a x (max x z) (omega (arith, low)))

    kept : eqb z (min x z) ≡ false → Leads x z es
    kept f = let high = eqb-false z (min x z) f in λ a. omega (arith, h a, at a x (min x z) (omega (arith, high)), at a z (max x z) (omega (arith, high)))
