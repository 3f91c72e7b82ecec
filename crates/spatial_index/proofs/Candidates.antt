-- The candidates as a search that is repeated. Assumes nothing.
use mathlib.Core.Path.{◌≡◌, refl, sym, ap, ap₂, ◌∙◌}
use mathlib.Core.Bool.{Bool, true, false, cond, ◌&&◌, ◌||◌}
use mathlib.Core.List.{List, [], ◌∷◌, ◌++◌}
use Prim.Native.Nat.{ℕ, zero, suc, ◌+◌, ◌-◌, ◌≤◌, ◌<◌}
use native.Mathlib.Nat.{zero-add}
use native.Mathlib.Omega.{arith}
use lib.Dec.{ltb}
use lib.ListN.{length}
use lib.Ieee.{Float}
use borrow.Author.Tests.{lt-ltb, le-ltb}
use Rattle.std.specs.List.{list_any}
use Rattle.lists.specs.Search.{seek, first, has}
use Rattle.lists.specs.Gather.{gathered, places}
use Rattle.lists.proofs.Search.{seek_range}
use Rattle.lists.proofs.Gather.{gathered_ext, gathered_head}
use Rattle.cutting.specs.Edges.{Edge}
use Rattle.plane.specs.declared.Point.{Point}
use Rattle.rules.specs.declared.Bounds.{Bounds}
use Rattle.rules.specs.SpatialIndex.{candidates, boxes_meet, box_holds}
use Rattle.spatial_index.specs.Candidates.{places_among, places_from, meets, point_box}

-- ---- the numbers that pass, one after the other

among_is : (p : ℕ → Bool) (k m : ℕ) → places_among p k m ≡ gathered m (λ i. cond (p (k + i)) ((k + i) ∷ []) [])
unfolding places_among gathered
among_is p k zero = refl
among_is p k (suc m) =
    let here : k ≡ k + zero = omega arith in
    let next : places_among p (suc k) m ≡ gathered m (λ i. cond (p (k + suc i)) ((k + suc i) ∷ []) []) =
    among_is p (suc k) m ∙ gathered_ext m _ _ (λ i l. ap (λ (j : ℕ). cond (p j) (j ∷ []) []) (omega arith)) in
    ap₂ (λ (xs ys : List ℕ). xs ++ ys) (ap (λ (j : ℕ). cond (p j) (j ∷ []) []) here) next ∙ sym (gathered_head m (λ i. cond (p (k + i)) ((k + i) ∷ []) []))

-- all of them
pub places_from_lem : (p : ℕ → Bool) (n : ℕ) → places_from p 0 n ≡ places p n
places_from_lem p n =
    let whole : n - 0 ≡ n = omega arith in
    ap (places_among p 0) whole ∙ among_is p 0 n ∙ gathered_ext n _ _ (λ i l. ap (λ (j : ℕ). cond (p j) (j ∷ []) []) (zero-add i))

among_next : (p : ℕ → Bool) (k m : ℕ) → seek p k m < k + m → places_among p k m ≡ seek p k m ∷ places_among p (seek p k m + 1) (k + m - (seek p k m + 1))
unfolding places_among seek
among_next p k zero h = absurd (omega arith)
among_next p k (suc m) h = go (p k) (λ l. among_next p (suc k) m l) h
  where
    go : (t : Bool) → (seek p (suc k) m < suc k + m → places_among p (suc k) m ≡ seek p (suc k) m ∷ places_among p (seek p (suc k) m + 1) (suc k + m - (seek p (suc k) m + 1)))
        → let r : ℕ = elim t [ true ↦ k | false ↦ seek p (suc k) m ] in r < k + suc m
        → cond t (k ∷ []) [] ++ places_among p (suc k) m ≡ r ∷ places_among p (r + 1) (k + suc m - (r + 1))
    go true ih l =
        let one : suc k ≡ k + 1 = omega arith in
        let left : m ≡ k + suc m - (k + 1) = omega arith in
        ap₂ (λ (i n : ℕ). k ∷ places_among p i n) one left
    go false ih l =
        let same : suc k + m ≡ k + suc m = omega arith in
        ih (omega arith) ∙ ap (λ (n : ℕ). seek p (suc k) m ∷ places_among p (seek p (suc k) m + 1) (n - (seek p (suc k) m + 1))) same

-- the first that the search finds, and those after it
pub places_next : (p : ℕ → Bool) (k n j : ℕ) → first p k n ≡ j → j < n → places_from p k n ≡ j ∷ places_from p (j + 1) n
unfolding first
places_next p k n j e h =
    let r = seek_range p k (n - k) in
    let all : k + (n - k) ≡ n = omega (arith, r.0) in
    let at : seek p k (n - k) < k + (n - k) = omega arith in
    among_next p k (n - k) at ∙ ap₂ (λ (i m : ℕ). i ∷ places_among p (i + 1) (m - (i + 1))) e all

among_none : (p : ℕ → Bool) (k m : ℕ) → k + m ≤ seek p k m → places_among p k m ≡ []
unfolding places_among seek
among_none p k zero h = refl
among_none p k (suc m) h = go (p k) (λ l. among_none p (suc k) m l) h
  where
    go : (t : Bool) → (suc k + m ≤ seek p (suc k) m → places_among p (suc k) m ≡ [])
        → let r : ℕ = elim t [ true ↦ k | false ↦ seek p (suc k) m ] in k + suc m ≤ r → cond t (k ∷ []) [] ++ places_among p (suc k) m ≡ []
    go true ih l = absurd (omega arith)
    go false ih l = ih (omega arith)

-- none where the search finds none
pub places_end : (p : ℕ → Bool) (k n : ℕ) → n ≤ first p k n → places_from p k n ≡ []
unfolding first
places_end p k n h = among_none p k (n - k) (omega (arith, seek_range p k (n - k)))

-- ---- one of those that pass

any_among : (p q : ℕ → Bool) (k m : ℕ) → list_any q (places_among p k m) ≡ ltb (seek (λ i. p i && q i) k m) (k + m)
unfolding places_among seek
any_among p q k zero = sym (le-ltb k (k + zero) (omega arith))
any_among p q k (suc m) = go (p k) (q k) refl (any_among p q (suc k) m)
  where
    r : ℕ
    r = seek (λ i. p i && q i) (suc k) m

    on : (b : Bool) → b ≡ ltb r (suc k + m) → b ≡ ltb r (k + suc m)
    on b e = let z : suc k + m ≡ k + suc m = omega arith in e ∙ ap (ltb r) z

    go : (a b : Bool) → q k ≡ b → list_any q (places_among p (suc k) m) ≡ ltb r (suc k + m)
        → list_any q (cond a (k ∷ []) [] ++ places_among p (suc k) m) ≡ ltb (elim (a && b) [ true ↦ k | false ↦ r ]) (k + suc m)
    go true true e ih = ap (λ (t : Bool). t || list_any q (places_among p (suc k) m)) e ∙ sym (lt-ltb k (k + suc m) (omega arith))
    go true false e ih = ap (λ (t : Bool). t || list_any q (places_among p (suc k) m)) e ∙ on _ ih
    go false b e ih = on _ ih

-- some number that passes p passes q too
pub any_from : (p q : ℕ → Bool) (n : ℕ) → list_any q (places_from p 0 n) ≡ has (λ i. p i && q i) n
unfolding first
any_from p q n =
    let whole : 0 + (n - 0) ≡ n = omega arith in
    any_among p q 0 (n - 0) ∙ ap (ltb (seek (λ i. p i && q i) 0 (n - 0))) whole

-- ---- the candidates of a box

-- those from k on, and all of them
pub candidates_from_lem : (coords : List Float) (es : List Edge) (b : Bounds) → places_from (meets coords es b) 0 (length es) ≡ candidates coords es b
unfolding candidates
candidates_from_lem coords es b = places_from_lem (meets coords es b) (length es)

-- ---- a point

-- its box meets the boxes that hold it
pub point_meets : (a : Bounds) (p : Point) → boxes_meet a (point_box p) ≡ box_holds a p
unfolding boxes_meet box_holds
point_meets a p = refl
