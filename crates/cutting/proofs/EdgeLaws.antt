-- How often an edge is used. Assumes nothing.
use mathlib.Core.Path.{◌≡◌, refl, ap}
use mathlib.Core.Bool.{Bool, true, false, not, ◌&&◌, and_comm}
use mathlib.Core.List.{List, [], ◌∷◌, ◌++◌}
use Prim.Native.Nat.{ℕ, ◌+◌}
use native.Mathlib.Omega.{arith}
use lib.Dec.{eqb}
use borrow.Author.Tests.{eqb-true, eq-eqb}
use Rattle.std.proofs.lemmas.Bool.{not-true}
use Rattle.lists.specs.Search.{bit}
use Rattle.lists.proofs.Search.{and_true}
use Rattle.cutting.specs.Edges.{Edge, hops, ring, rings, hit, times}

pub hit_back : (a b x y : ℕ) → hit a b x y ≡ hit b a y x
hit_back a b x y = ap bit (and_comm (eqb x a) (eqb y b))

pub times_append : (a b : ℕ) (es fs : List Edge) → times a b (es ++ fs) ≡ times a b es + times a b fs
unfolding times
times_append a b [] fs = omega arith
times_append a b (e ∷ es) fs = let tail = times_append a b es fs in omega arith

-- the last node of a path
unfoldable pub end : ℕ → List ℕ → ℕ
end x [] = x
end x (y ∷ ys) = end y ys

pub end_snoc : (x : ℕ) (ys : List ℕ) (y : ℕ) → end x (ys ++ y ∷ []) ≡ y
unfolding end
end_snoc x [] y = refl
end_snoc x (z ∷ zs) y = end_snoc z zs y

pub times_snoc : (a b x : ℕ) (ys : List ℕ) (y : ℕ) → times a b (hops x (ys ++ y ∷ [])) ≡ times a b (hops x ys) + hit a b (end x ys) y
unfolding times hops end
times_snoc a b x [] y = omega arith
times_snoc a b x (z ∷ zs) y = let tail = times_snoc a b z zs y in omega arith

pub rings_snoc : (a b : ℕ) (ps : List (List ℕ)) (p : List ℕ) → times a b (rings (ps ++ p ∷ [])) ≡ times a b (rings ps) + times a b (ring p)
unfolding rings times
rings_snoc a b [] p = omega (arith, times_append a b (ring p) [])
rings_snoc a b (q ∷ qs) p =
    let tail = rings_snoc a b qs p in
    omega (arith, times_append a b (ring q) (rings (qs ++ p ∷ [])), times_append a b (ring q) (rings qs))

pub both : (x a y b : ℕ) → eqb x a && eqb y b ≡ true → (x ≡ a) × (y ≡ b)
both x a y b e = let t = and_true (eqb x a) (eqb y b) e in (eqb-true x a t.0, eqb-true y b t.1)

-- an unmarked slot at the node a
pub open_both : (x a : ℕ) (m : Bool) → eqb x a && not m ≡ true → (x ≡ a) × (m ≡ false)
open_both x a m e = let t = and_true (eqb x a) (not m) e in (eqb-true x a t.0, not-true m t.1)

pub hit_self : (a b : ℕ) → hit a b a b ≡ 1
hit_self a b = rw (eq-eqb a a refl, eq-eqb b b refl)
