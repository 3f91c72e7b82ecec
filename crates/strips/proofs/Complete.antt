-- All things that are wanted, put in one after the other in any order, are those that pass the test, rising. Assumes nothing.
use mathlib.Core.Path.{◌≡◌, refl, sym, ap, ap₂, ◌∙◌}
use mathlib.Core.Bool.{Bool, true, false, cond, ◌&&◌, ◌||◌, and-false}
use mathlib.Core.List.Memᴰ
use mathlib.Core.List.{List, [], ◌∷◌, ◌++◌, Memᴰ}
use mathlib.Core.Logic.{◌⊎◌, inl, inr}
use Prim.Native.Nat.{ℕ, zero, suc, ◌+◌, ◌-◌, ◌≤◌, ◌<◌}
use native.Mathlib.Decide.{ℕ_discrete}
use native.Mathlib.Omega.{arith}
use lib.Dec.{ltb, leb, eqb}
use lib.ListN.{take}
use lib.Seq.{take-take}
use borrow.Author.Tests.{lt-ltb, le-ltb, eq-eqb, ne_eqb, le-leb, leb-true}
use Rattle.lists.proofs.Search.{and_true}
use Rattle.spatial_index.specs.Candidates.{places_among, places_from}
use Rattle.strips.specs.Gathering.{put_rising, with_thing, with_things}
use Rattle.strips.proofs.Gathered.{with_not, with_put}

-- ---- one more among those that pass

pub among_ext : (p q : ℕ → Bool) (k m : ℕ) → ((i : ℕ) → k ≤ i → i < k + m → p i ≡ q i) → places_among p k m ≡ places_among q k m
unfolding places_among
among_ext p q k zero h = refl
among_ext p q k (suc m) h =
    ap₂ (λ (t : Bool) (l : List ℕ). cond t (k ∷ []) [] ++ l) (h k (omega arith) (omega arith)) (among_ext p q (suc k) m (λ i a b. h i (omega arith) (omega arith)))

-- below all of them
put_first : (q : ℕ → Bool) (v k m : ℕ) → v < k → put_rising v (places_among q k m) ≡ v ∷ places_among q k m
unfolding places_among put_rising
put_first q v k zero h = refl
put_first q v k (suc m) h = go (q k) (put_first q v (suc k) m (omega arith))
  where
    go : (t : Bool) → put_rising v (places_among q (suc k) m) ≡ v ∷ places_among q (suc k) m
        → put_rising v (cond t (k ∷ []) [] ++ places_among q (suc k) m) ≡ v ∷ (cond t (k ∷ []) [] ++ places_among q (suc k) m)
    go true ih =
        ap (λ (t : Bool). let l : List ℕ = elim t [
          | true ↦ k ∷ put_rising v (places_among q (suc k) m)
          | false ↦ cond (eqb k v) (k ∷ places_among q (suc k) m)
              (v ∷ k ∷ places_among q (suc k) m)
        ] in l)
        (le-ltb k v (omega arith)) ∙ ap (λ (t : Bool). cond t (k ∷ places_among q (suc k) m) (v ∷ k ∷ places_among q (suc k) m)) (ne_eqb k v (λ e. omega (arith, e)))
    go false ih = ih

abbrev with : (ℕ → Bool) → ℕ → ℕ → Bool
with q j i = q i || eqb i j

or_false : (b : Bool) → b || false ≡ b
or_false true = refl
or_false false = refl

or_true : (b : Bool) → b || true ≡ true
or_true true = refl
or_true false = refl

with_other : (q : ℕ → Bool) (v i : ℕ) → (i ≡ v → ⊥) → with q v i ≡ q i
with_other q v i n = ap (λ (t : Bool). q i || t) (ne_eqb i v n) ∙ or_false (q i)

with_same : (q : ℕ → Bool) (v : ℕ) → with q v v ≡ true
with_same q v = ap (λ (t : Bool). q v || t) (eq-eqb v v refl) ∙ or_true (q v)

put_among : (q : ℕ → Bool) (v k m : ℕ) → k ≤ v → v < k + m → put_rising v (places_among q k m) ≡ places_among (λ i. q i || eqb i v) k m
unfolding places_among put_rising
put_among q v k zero h l = absurd (omega arith)
put_among q v k (suc m) h l = go (ℕ_discrete v k) (λ a. put_among q v (suc k) m a (omega arith))
  where
    rest : List ℕ
    rest = places_among q (suc k) m

    here : (t : Bool) → v ≡ k → put_rising v (cond t (k ∷ []) [] ++ rest) ≡ v ∷ rest
    here true e =
        ap (λ (b : Bool). let u : List ℕ = elim b [ true ↦ k ∷ put_rising v rest | false ↦ cond (eqb k v) (k ∷ rest) (v ∷ k ∷ rest) ] in u) (le-ltb k v (omega (arith, e)))
        ∙ ap (λ (b : Bool). cond b (k ∷ rest) (v ∷ k ∷ rest)) (eq-eqb k v (sym e)) ∙ ap (λ (i : ℕ). i ∷ rest) (sym e)
    here false e = put_first q v (suc k) m (omega (arith, e))

    later : (t : Bool) → k < v → put_rising v rest ≡ places_among (with q v) (suc k) m
        → put_rising v (cond t (k ∷ []) [] ++ rest) ≡ cond t (k ∷ []) [] ++ places_among (with q v) (suc k) m
    later true a ih =
        ap (λ (b : Bool). let u : List ℕ = elim b [ true ↦ k ∷ put_rising v rest | false ↦ cond (eqb k v) (k ∷ rest) (v ∷ k ∷ rest) ] in u) (lt-ltb k v a)
        ∙ ap (λ (u : List ℕ). k ∷ u) ih
    later false a ih = ih

    go : Dec (v ≡ k) → (suc k ≤ v → put_rising v rest ≡ places_among (with q v) (suc k) m)
        → put_rising v (cond (q k) (k ∷ []) [] ++ rest) ≡ cond (with q v k) (k ∷ []) [] ++ places_among (with q v) (suc k) m
    go (yes e) ih =
        let on : with q v k ≡ true = ap (λ (i : ℕ). with q v i) (sym e) ∙ with_same q v in
        here (q k) e ∙ ap₂ (λ (i : ℕ) (u : List ℕ). i ∷ u) e (among_ext q (with q v) (suc k) m (λ i a b. sym (with_other q v i (λ z. omega (arith, z, e)))))
        ∙ ap (λ (t : Bool). cond t (k ∷ []) [] ++ places_among (with q v) (suc k) m) (sym on)
    go (no n) ih =
        let a : suc k ≤ v = omega (arith, n) in
        later (q k) a (ih a) ∙ ap (λ (t : Bool). cond t (k ∷ []) [] ++ places_among (with q v) (suc k) m) (sym (with_other q v k (λ z. n (sym z))))

-- what is cut off is not missed
take_put : (most v : ℕ) (xs : List ℕ) → take most (put_rising v (take most xs)) ≡ take most (put_rising v xs)
unfolding put_rising
take_put zero v xs = refl
take_put (suc m) v [] = refl
take_put (suc m) v (x ∷ xs) = go (ltb x v) (take_put m v xs)
  where
    front : (k : ℕ) → take k (x ∷ take (suc k) xs) ≡ take k (x ∷ xs)
    front zero = refl
    front (suc k) = ap (λ (l : List ℕ). x ∷ l) (take-take k (suc (suc k)) xs (omega arith))

    shorter : (k : ℕ) → take k (x ∷ take k xs) ≡ take k (x ∷ xs)
    shorter zero = refl
    shorter (suc k) = ap (λ (l : List ℕ). x ∷ l) (take-take k (suc k) xs (omega arith))

    same : (t : Bool) → take (suc m) (cond t (x ∷ take m xs) (v ∷ x ∷ take m xs)) ≡ take (suc m) (cond t (x ∷ xs) (v ∷ x ∷ xs))
    same true = ap (λ (l : List ℕ). x ∷ l) (take-take m m xs (omega arith))
    same false = ap (λ (l : List ℕ). v ∷ l) (shorter m)

    go : (t : Bool) → take m (put_rising v (take m xs)) ≡ take m (put_rising v xs)
        → (let a : List ℕ = elim t [ true ↦ x ∷ put_rising v (take m xs) | false ↦ cond (eqb x v) (x ∷ take m xs) (v ∷ x ∷ take m xs) ] in
        let b : List ℕ = elim t [ true ↦ x ∷ put_rising v xs | false ↦ cond (eqb x v) (x ∷ xs) (v ∷ x ∷ xs) ] in take (suc m) a ≡ take (suc m) b)
    go true ih = ap (λ (l : List ℕ). x ∷ l) ih
    go false ih = same (eqb x v)

-- ---- all of them

module _ (most : ℕ) (p : ℕ → Bool) (k m : ℕ) where
  -- those that passed q, and the things js that pass p
  marked : (ℕ → Bool) → List ℕ → ℕ → Bool
  marked q [] = q
  marked q (j ∷ js) = marked (λ i. q i || (eqb i j && p j)) js

  all_put : (q : ℕ → Bool) (js : List ℕ) → ((j : ℕ) → Memᴰ j js → p j ≡ true → (k ≤ j) × (j < k + m))
      → with_things most p (take most (places_among q k m)) js ≡ take most (places_among (marked q js) k m)
  unfolding with_things marked
  all_put q [] within = refl
  all_put q (j ∷ js) within = go (p j) refl ∙ all_put (λ i. q i || (eqb i j && p j)) js (λ i h e. within i (Memᴰ.tail h) e)
    where
      go : (t : Bool) → p j ≡ t → with_things most p (with_thing most p (take most (places_among q k m)) j) js ≡ with_things most p
          (take most (places_among (λ i. q i || (eqb i j && p j)) k m)) js
      go false e =
          let none : (i : ℕ) → q i ≡ q i || (eqb i j && p j) =
          λ i. sym (ap (λ (t : Bool). q i || (eqb i j && t)) e ∙ ap (λ (t : Bool). q i || t) (and-false (eqb i j)) ∙ or_false (q i)) in
          ap (λ (l : List ℕ). with_things most p l js) (with_not most p (take most (places_among q k m)) j e ∙ ap (take most) (among_ext q _ k m (λ i a b. none i)))
      go true e =
          let in_range = within j (Memᴰ.head refl) e in
          let one : (i : ℕ) → with q j i ≡ q i || (eqb i j && p j) = λ i. ap (λ (t : Bool). q i || t) (sym (ap (λ (t : Bool). eqb i j && t) e ∙ and_one (eqb i j))) in
          ap (λ (l : List ℕ). with_things most p l js) (with_put most p (take most (places_among q k m)) j e ∙ take_put most j (places_among q k m)
          ∙ ap (take most) (put_among q j k m in_range.0 in_range.1 ∙ among_ext (with q j) _ k m (λ i a b. one i)))
        where
          and_one : (t : Bool) → t && true ≡ t
          and_one true = refl
          and_one false = refl

  marked_stays : (q : ℕ → Bool) (js : List ℕ) (i : ℕ) → q i ≡ true → marked q js i ≡ true
  unfolding marked
  marked_stays q [] i e = e
  marked_stays q (j ∷ js) i e = marked_stays (λ i. q i || (eqb i j && p j)) js i (ap (λ (t : Bool). t || (eqb i j && p j)) e)

  marked_each : (q : ℕ → Bool) (js : List ℕ) (i : ℕ) → Memᴰ i js → p i ≡ true → marked q js i ≡ true
  unfolding marked
  marked_each q [] i h e = absurd (Memᴰ.not-nil h)
  marked_each q (j ∷ js) i h e = go (Memᴰ.cases_cons h) (λ l. marked_each (λ i. q i || (eqb i j && p j)) js i l e)
    where
      go : (i ≡ j) ⊎ Memᴰ i js → (Memᴰ i js → marked (λ i. q i || (eqb i j && p j)) js i ≡ true) → marked (λ i. q i || (eqb i j && p j)) js i ≡ true
      go (inr l) ih = ih l
      go (inl s) ih =
          let on : q i || (eqb i j && p j) ≡ true = ap₂ (λ (a b : Bool). q i || (a && b)) (eq-eqb i j s) (ap p (sym s) ∙ e) ∙ or_true (q i) in
          marked_stays (λ i. q i || (eqb i j && p j)) js i on

  marked_only : (q : ℕ → Bool) (js : List ℕ) (i : ℕ) → q i ≡ false → p i ≡ false → marked q js i ≡ false
  unfolding marked
  marked_only q [] i e f = e
  marked_only q (j ∷ js) i e f = marked_only (λ i. q i || (eqb i j && p j)) js i (off (ℕ_discrete i j)) f
    where
      off : Dec (i ≡ j) → q i || (eqb i j && p j) ≡ false
      off (yes s) = ap₂ (λ (a b : Bool). a || (eqb i j && b)) e (ap p (sym s) ∙ f) ∙ and-false (eqb i j)
      off (no s) = ap₂ (λ (a b : Bool). a || (b && p j)) e (ne_eqb i j s)

none_among : (k m : ℕ) → places_among (λ _. false) k m ≡ []
unfolding places_among
none_among k zero = refl
none_among k (suc m) = none_among (suc k) m

-- js are things below n, with each that passes and is no lower than `from`
pub all_found : (most : ℕ) (meets : ℕ → Bool) (from n : ℕ) (js : List ℕ) → ((j : ℕ) → Memᴰ j js → j < n) → ((j : ℕ) → j < n → meets j ≡ true → Memᴰ j js)
    → with_things most (λ j. leb from j && meets j) [] js ≡ take most (places_from meets from n)
all_found most meets from n js below each =
    let none : [] ≡ take most (places_among (λ _. false) from (n - from)) = sym (ap (take most) (none_among from (n - from)) ∙ nothing most) in
    ap (λ (l : List ℕ). with_things most wanted l js) none ∙ all_put most wanted from (n - from) (λ _. false) js within
    ∙ ap (take most) (among_ext (marked most wanted from (n - from) (λ _. false) js) meets from (n - from) same)
  where
    wanted : ℕ → Bool
    wanted j = leb from j && meets j

    nothing : (k : ℕ) → take {A = ℕ} k [] ≡ []
    nothing zero = refl
    nothing (suc k) = refl

    within : (j : ℕ) → Memᴰ j js → leb from j && meets j ≡ true → (from ≤ j) × (j < from + (n - from))
    within j h e =
        let l : from ≤ j = leb-true from j (and_true (leb from j) (meets j) e).0 in
        (l, omega (arith, l, below j h))

    same : (i : ℕ) → from ≤ i → i < from + (n - from) → marked most wanted from (n - from) (λ _. false) js i ≡ meets i
    same i a b = go (meets i) refl
      where
        go : (t : Bool) → meets i ≡ t → marked most wanted from (n - from) (λ _. false) js i ≡ meets i
        go true e =
            marked_each most wanted from (n - from) (λ _. false) js i (each i (omega arith) e) (ap₂ (λ (x y : Bool). x && y) (le-leb from i a) e) ∙ sym e
        go false e =
            marked_only most wanted from (n - from) (λ _. false) js i refl (ap (λ (y : Bool). leb from i && y) e ∙ and-false (leb from i)) ∙ sym e
