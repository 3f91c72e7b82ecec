-- Numbers that rise, and one put among them. Assumes nothing.
use mathlib.Core.Path.{◌≡◌, refl, sym, ap, ap₂, ◌∙◌}
use mathlib.Core.Bool.{Bool, true, false, cond, ◌&&◌}
use mathlib.Core.List.{List, [], ◌∷◌, ◌++◌}
use Prim.Native.Nat.{ℕ, zero, suc, ◌+◌, ◌-◌, ◌≤◌, ◌<◌}
use native.Mathlib.Nat.{le_antisymm, min-le_left, min-le_right}
use native.Mathlib.Decide.{dec_lt}
use native.Mathlib.Omega.{arith}
use lib.Dec.{ltb, leb, eqb}
use lib.ListN.{length, get_or, take, drop, length-take}
use lib.Seq.{take_all, take_at, take-take, get_or-take, length-take-le}
use borrow.Author.Tests.{ltb-true, ltb-false, eqb-false, eq-eqb, ne_eqb, lt-ltb, le-ltb, le-leb, lt-leb}
use Rattle.std.specs.List.Sorted.{IsBinarySearchResult}
use Rattle.std.specs.Ordering.{nat_cmp}
use Rattle.std.proofs.lemmas.List.Sorted.{searched}
use Rattle.std.proofs.Common.{Result, Ok, Err}
use Rattle.lists.specs.Search.{seek, first}
use Rattle.lists.specs.Regions.{front, put_in, insert_at, FrontIs}
use Rattle.lists.proofs.Search.{first_le, first_turn, first_here, first_shift}
use Rattle.lists.proofs.Insert.{insert_at_fits, length_put_in}
use Rattle.lists.proofs.Regions.{front_take, front_front, length_front, take_front_of}
use Rattle.strips.specs.Gathering.{Rises, Risen, PlaceAmong, put_rising}

-- ---- where it goes

module _ (xs : List ℕ) (v : ℕ) where
  -- v stands at i
  pub place_there : Rises xs → (i : ℕ) → i < length xs → get_or xs i 0 ≡ v
      → (i ≡ first (λ k. leb v (get_or xs k 0)) 0 (length xs)) × ((ltb i (length xs) && eqb (get_or xs i 0) v) ≡ true)
  place_there rise i h e = (
    first_turn (λ k. leb v (get_or xs k 0)) 0 i (length xs) (omega arith) (omega arith) (λ k _ m. lt-leb v (get_or xs k 0) (omega (arith, rise k i m h, e)))
        (λ _. le-leb v (get_or xs i 0) (omega (arith, e))),
    ap₂ (λ (a b : Bool). a && b) (lt-ltb i (length xs) h) (eq-eqb (get_or xs i 0) v e),
  )

  -- it goes to p: those before are below it, and those from there on above
  pub place_new : (p : ℕ) → p ≤ length xs → ((k : ℕ) → k < p → get_or xs k 0 < v) → ((k : ℕ) → p ≤ k → k < length xs → v < get_or xs k 0)
      → (p ≡ first (λ k. leb v (get_or xs k 0)) 0 (length xs)) × ((ltb p (length xs) && eqb (get_or xs p 0) v) ≡ false)
  place_new p h below over = (
    first_turn (λ k. leb v (get_or xs k 0)) 0 p (length xs) (omega arith) h (λ k _ m. lt-leb v (get_or xs k 0) (below k m))
        (λ l. le-leb v (get_or xs p 0) (omega (arith, over p (omega arith) l))),
    none (dec_lt p (length xs)),
  )
    where
      none : Dec (p < length xs) → (ltb p (length xs) && eqb (get_or xs p 0) v) ≡ false
      none (yes l) = ap₂ (λ (a b : Bool). a && b) (lt-ltb p (length xs) l) (ne_eqb (get_or xs p 0) v (λ e. omega (arith, e, over p (omega arith) l)))
      none (no l) = ap (λ (a : Bool). a && eqb (get_or xs p 0) v) (le-ltb p (length xs) (omega arith))

  risen : Rises xs → (i j : ℕ) → i ≤ j → j < length xs → get_or xs i 0 ≤ get_or xs j 0
  risen rise i j h l = go (dec_lt i j)
    where
      go : Dec (i < j) → get_or xs i 0 ≤ get_or xs j 0
      go (yes a) = omega (arith, rise i j a l)
      go (no a) =
          let z : i ≡ j = omega (arith, a, h) in
          omega (arith, ap (λ (k : ℕ). get_or xs k 0) z)

-- ---- where it is sought by halving

pub halved_place : (xs : List ℕ) (v : ℕ) → Rises xs → (r : Result ℕ ℕ) → IsBinarySearchResult (λ y. nat_cmp y v) xs r → PlaceAmong xs v r
halved_place xs v rise r h = searched xs v r h (risen xs v rise)

-- ---- what that says among the first k

module _ (found : List ℕ) (k v : ℕ) (rise : Rises (take k found)) where
  found_there : (i : ℕ) → PlaceAmong (take k found) v (Ok i)
      → (i ≡ first (λ j. leb v (get_or (take k found) j 0)) 0 (length (take k found)))
      × ((ltb i (length (take k found)) && eqb (get_or (take k found) i 0) v) ≡ true)
  found_there i at = place_there (take k found) v rise i at.0 at.1

  found_new : (p : ℕ) → PlaceAmong (take k found) v (Err p)
      → (p ≡ first (λ j. leb v (get_or (take k found) j 0)) 0 (length (take k found)))
      × ((ltb p (length (take k found)) && eqb (get_or (take k found) p 0) v) ≡ false)
  found_new p at = place_new (take k found) v p at.0 at.1 at.2

-- ---- put in at its place

abbrev place_of : ℕ → List ℕ → ℕ
place_of v xs = first (λ k. leb v (get_or xs k 0)) 0 (length xs)

abbrev stands_at : List ℕ → ℕ → ℕ → Bool
stands_at xs p v = ltb p (length xs) && eqb (get_or xs p 0) v

put_is : (v : ℕ) (xs : List ℕ) → put_rising v xs ≡ cond (stands_at xs (place_of v xs) v) xs (put_in (place_of v xs) v xs)
unfolding put_rising put_in first seek
put_is v [] = refl
put_is v (x ∷ xs) = go (ltb x v) refl (put_is v xs)
  where
    on : ltb x v ≡ true → place_of v (x ∷ xs) ≡ suc (place_of v xs)
    on e = first_shift (λ i. leb v (get_or (x ∷ xs) i 0)) (length xs) (lt-leb v x (ltb-true x v e))

    here : ltb x v ≡ false → place_of v (x ∷ xs) ≡ 0
    here e = first_here (λ i. leb v (get_or (x ∷ xs) i 0)) 0 (length (x ∷ xs)) (omega arith) (le-leb v x (ltb-false x v e))

    later : (t : Bool) → put_rising v xs ≡ cond t xs (put_in (place_of v xs) v xs) → x ∷ put_rising v xs ≡ cond t (x ∷ xs) (put_in (suc (place_of v xs)) v (x ∷ xs))
    later true ih = ap (λ (l : List ℕ). x ∷ l) ih
    later false ih = ap (λ (l : List ℕ). x ∷ l) ih

    go : (t : Bool) → ltb x v ≡ t → put_rising v xs ≡ cond (stands_at xs (place_of v xs) v) xs (put_in (place_of v xs) v xs)
        → (let l : List ℕ = elim t [ true ↦ x ∷ put_rising v xs | false ↦ cond (eqb x v) (x ∷ xs) (v ∷ x ∷ xs) ] in
        l ≡ cond (stands_at (x ∷ xs) (place_of v (x ∷ xs)) v) (x ∷ xs) (put_in (place_of v (x ∷ xs)) v (x ∷ xs)))
    go true e ih = later (stands_at xs (place_of v xs) v) ih
        ∙ sym (ap (λ (p : ℕ). cond (stands_at (x ∷ xs) p v) (x ∷ xs) (put_in p v (x ∷ xs))) (on e) ∙ ap (λ (t : Bool). cond (t && eqb (get_or xs (place_of v xs) 0) v) (x ∷ xs)
        (put_in (suc (place_of v xs)) v (x ∷ xs))) (shift (place_of v xs) (length xs)))
      where
        shift : (a b : ℕ) → ltb (suc a) (suc b) ≡ ltb a b
        shift a b = by (dec_lt a b)
          where
            by : Dec (a < b) → ltb (suc a) (suc b) ≡ ltb a b
            by (yes h) = lt-ltb (suc a) (suc b) (omega arith) ∙ sym (lt-ltb a b h)
            by (no h) = le-ltb (suc a) (suc b) (omega arith) ∙ sym (le-ltb a b (omega arith))
    go false e ih =
        sym (ap (λ (p : ℕ). cond (stands_at (x ∷ xs) p v) (x ∷ xs) (put_in p v (x ∷ xs))) (here e)
        ∙ ap (λ (t : Bool). cond (t && eqb x v) (x ∷ xs) (v ∷ x ∷ xs)) (lt-ltb 0 (length (x ∷ xs)) (omega arith)))

-- one of m + 1 places is the new one's
take_put_in : (v p m : ℕ) (xs : List ℕ) → p ≤ m → p ≤ length xs → take (suc m) (put_in p v xs) ≡ put_in p v (take m xs)
unfolding put_in
take_put_in v zero m xs h l = refl
take_put_in v (suc p) m [] h l = absurd (omega arith)
take_put_in v (suc p) zero (x ∷ xs) h l = absurd (omega arith)
take_put_in v (suc p) (suc m) (x ∷ xs) h l = ap (λ (t : List ℕ). x ∷ t) (take_put_in v p m xs (omega arith) (omega arith))

-- ---- a list comes to hold others in front

pub front_here : (out : List ℕ) (k : ℕ) → k ≤ length out → FrontIs (take k out) out k out
front_here out k h = record { count = sym (length-take-le k out h); fits = h; held = sym (front_take out k h) }

pub front_taken : (ys out out' : List ℕ) (r : ℕ) → FrontIs ys out r out' → take r out' ≡ ys
front_taken ys out out' r e = ap (take r) e.held ∙ take_front_of out ys r (sym e.count)

pub front_long : (ys out out' : List ℕ) (r : ℕ) → FrontIs ys out r out' → length out' ≡ length out
front_long ys out out' r e = ap length e.held ∙ length_front out ys (omega (arith, e.count, e.fits))

-- more of them hide those that it held before
pub front_then : (ys zs out out' out'' : List ℕ) (r q : ℕ) → FrontIs ys out r out' → length ys ≤ length zs → FrontIs zs out' q out'' → FrontIs zs out q out''
front_then ys zs out out' out'' r q one more two =
    record {
      count = two.count;
      fits = omega (arith, two.fits, front_long ys out out' r one);
      held = two.held ∙ ap (λ (u : List ℕ). front u zs) one.held ∙ front_front out ys zs more;
    }

-- ---- `put_rising`: p is where v goes among the first k

module _ (found : List ℕ) (k p v : ℕ) (low : k ≤ length found) (p-is : p ≡ first (λ i. leb v (get_or (take k found) i 0)) 0 (length (take k found))) where
  abbrev xs : List ℕ
  xs = take k found

  length_xs : length xs ≡ k
  length_xs = length-take-le k found low

  p_low : p ≤ k
  p_low = omega (arith, p-is, length_xs, first_le (λ i. leb v (get_or xs i 0)) 0 (length xs) (omega arith))

  there : (ltb p (length xs) && eqb (get_or xs p 0) v) ≡ true → put_rising v xs ≡ xs
  there e =
      put_is v xs ∙ ap (λ (q : ℕ). cond (stands_at xs q v) xs (put_in q v xs)) (sym p-is) ∙ ap (λ (t : Bool). cond t xs (put_in p v xs)) e

  not_there : (ltb p (length xs) && eqb (get_or xs p 0) v) ≡ false → put_rising v xs ≡ put_in p v xs
  not_there e =
      put_is v xs ∙ ap (λ (q : ℕ). cond (stands_at xs q v) xs (put_in q v xs)) (sym p-is) ∙ ap (λ (t : Bool). cond t xs (put_in p v xs)) e

  held_as : (ys found' : List ℕ) (r : ℕ) → take (length found) (put_rising v xs) ≡ ys → FrontIs ys found r found' → FrontIs (take (length found) (put_rising v xs)) found r found'
  held_as ys found' r e = rw e (λ z. z)

  put_there : (ltb p (length (take k found)) && eqb (get_or (take k found) p 0) v) ≡ true → FrontIs (take (length found) (put_rising v (take k found))) found k found
  put_there e = held_as xs found k (ap (take (length found)) (there e) ∙ take_all (length found) xs (omega (arith, length_xs))) (front_here found k low)

  put_more : (ltb p (length (take k found)) && eqb (get_or (take k found) p 0) v) ≡ false → k < length found → (found' : List ℕ) → found' ≡ insert_at found k p v
      → FrontIs (take (length found) (put_rising v (take k found))) found (k + 1) found'
  put_more e h found' is =
      let n : length (put_in p v xs) ≡ k + 1 = length_put_in p v xs (omega (arith, p_low, length_xs)) ∙ omega (arith, length_xs) in
      held_as (put_in p v xs) found' (k + 1) (ap (take (length found)) (not_there e) ∙ take_all (length found) (put_in p v xs) (omega (arith, n)))
      record { count = sym n; fits = omega arith; held = is ∙ insert_at_fits found k p v p_low h }

  put_full : (ltb p (length (take k found)) && eqb (get_or (take k found) p 0) v) ≡ false → length found ≤ k → p < k → (found' : List ℕ) → found' ≡ insert_at found (k - 1) p v
      → FrontIs (take (length found) (put_rising v (take k found))) found k found'
  put_full e h l found' is =
      let m : length found ≡ suc (k - 1) = omega (arith, low) in
      let short : take (k - 1) xs ≡ take (k - 1) found = take-take (k - 1) k found (omega arith) in
      let n : length (take (k - 1) found) ≡ k - 1 = length-take-le (k - 1) found (omega arith) in
      let made : take (length found) (put_rising v xs) ≡ put_in p v (take (k - 1) found) =
      ap₂ take m (not_there e) ∙ take_put_in v p (k - 1) xs (omega arith) (omega (arith, length_xs)) ∙ ap (put_in p v) short in
      held_as (put_in p v (take (k - 1) found)) found' k made
      record {
        count = sym (length_put_in p v (take (k - 1) found) (omega (arith, n)) ∙ omega (arith, n));
        fits = low;
        held = is ∙ insert_at_fits found (k - 1) p v (omega arith) (omega arith);
      }

  put_behind : (ltb p (length (take k found)) && eqb (get_or (take k found) p 0) v) ≡ false → length found ≤ k → k ≤ p
      → FrontIs (take (length found) (put_rising v (take k found))) found k found
  unfolding put_in
  put_behind e h l =
      let z : p ≡ k = le_antisymm {n = p} {m = k} p_low l in
      let m : length found ≡ k = omega (arith, low) in
      let whole : take p xs ≡ xs = take_all p xs (omega (arith, length_xs)) in
      let made : take (length found) (put_rising v xs) ≡ xs =
      ap₂ take m (not_there e ∙ ap (λ (u : List ℕ). u ++ v ∷ drop p xs) whole) ∙ take_at xs (v ∷ drop p xs) k length_xs in
      held_as xs found k made (front_here found k low)

-- ---- what a binary search among the first k says of it

module _ (found : List ℕ) (k v : ℕ) (risen : Risen k found) where
  pub v_there : (i : ℕ) → PlaceAmong (take k found) v (Ok i) → FrontIs (take (length found) (put_rising v (take k found))) found k found
  v_there i h = let at = found_there found k v risen.rises i h in put_there found k i v risen.fits at.0 at.1

  module _ (p : ℕ) (h : PlaceAmong (take k found) v (Err p)) where
    at : (p ≡ first (λ j. leb v (get_or (take k found) j 0)) 0 (length (take k found))) × ((ltb p (length (take k found)) && eqb (get_or (take k found) p 0) v) ≡ false)
    at = found_new found k v risen.rises p h

    pub v_more : k < length found → (found' : List ℕ) → found' ≡ insert_at found k p v → FrontIs (take (length found) (put_rising v (take k found))) found (k + 1) found'
    v_more = put_more found k p v risen.fits at.0 at.1

    pub v_full : length found ≤ k → p < k → (found' : List ℕ) → found' ≡ insert_at found (k - 1) p v
        → FrontIs (take (length found) (put_rising v (take k found))) found k found'
    v_full = put_full found k p v risen.fits at.0 at.1

    pub v_behind : length found ≤ k → k ≤ p → FrontIs (take (length found) (put_rising v (take k found))) found k found
    v_behind = put_behind found k p v risen.fits at.0 at.1

-- ---- they go on rising

abbrev Above : ℕ → List ℕ → Type 0
Above y xs = (k : ℕ) → k < length xs → y < get_or xs k 0

rises_tail : (x : ℕ) (xs : List ℕ) → Rises (x ∷ xs) → Rises xs
rises_tail x xs r i k h l = r (suc i) (suc k) (omega arith) (omega arith)

rises_head : (x : ℕ) (xs : List ℕ) → Rises (x ∷ xs) → Above x xs
rises_head x xs r k l = r 0 (suc k) (omega arith) (omega arith)

rises_cons : (x : ℕ) (xs : List ℕ) → Above x xs → Rises xs → Rises (x ∷ xs)
rises_cons x xs a r i zero h l = absurd (omega arith)
rises_cons x xs a r zero (suc k) h l = a k (omega arith)
rises_cons x xs a r (suc i) (suc k) h l = r i k (omega arith) (omega arith)

above_put : (y v : ℕ) (xs : List ℕ) → y < v → Above y xs → Above y (put_rising v xs)
unfolding put_rising
above_put y v [] h a zero l = h
above_put y v [] h a (suc k) l = absurd (omega arith)
above_put y v (x ∷ xs) h a k l = go (ltb x v) (above_put y v xs h (λ j m. a (suc j) (omega arith))) k l
  where
    same : (t : Bool) → Above y (cond t (x ∷ xs) (v ∷ x ∷ xs))
    same true k l = a k l
    same false zero l = h
    same false (suc k) l = a k (omega arith)

    go : (t : Bool) → Above y (put_rising v xs) → Above y (elim t [ true ↦ x ∷ put_rising v xs | false ↦ cond (eqb x v) (x ∷ xs) (v ∷ x ∷ xs) ])
    go true ih zero l = a 0 (omega arith)
    go true ih (suc k) l = ih k (omega arith)
    go false ih k l = same (eqb x v) k l

pub rises_put : (v : ℕ) (xs : List ℕ) → Rises xs → Rises (put_rising v xs)
unfolding put_rising
rises_put v [] r i zero h l = absurd (omega arith)
rises_put v [] r i (suc k) h l = absurd (omega arith)
rises_put v (x ∷ xs) r i k h l = go (ltb x v) refl (rises_put v xs (rises_tail x xs r)) i k h l
  where
    same : (t : Bool) → eqb x v ≡ t → ltb x v ≡ false → Rises (cond t (x ∷ xs) (v ∷ x ∷ xs))
    same true e f = r
    same false e f = rises_cons v (x ∷ xs) over r
      where
        less : v < x
        less = omega (arith, ltb-false x v f, eqb-false x v e)

        over : Above v (x ∷ xs)
        over zero l = less
        over (suc k) l = omega (arith, less, rises_head x xs r k (omega arith))

    go : (t : Bool) → ltb x v ≡ t → Rises (put_rising v xs) → Rises (elim t [ true ↦ x ∷ put_rising v xs | false ↦ cond (eqb x v) (x ∷ xs) (v ∷ x ∷ xs) ])
    go true e ih = rises_cons x (put_rising v xs) (above_put x v xs (ltb-true x v e) (rises_head x xs r)) ih
    go false e ih = same (eqb x v) refl e

pub rises_take : (m : ℕ) (xs : List ℕ) → Rises xs → Rises (take m xs)
rises_take m xs r i k h l =
    let short : length (take m xs) ≤ m = omega (arith, length-take m xs, min-le_left m (length xs)) in
    let less : length (take m xs) ≤ length xs = omega (arith, length-take m xs, min-le_right m (length xs)) in
    omega (arith, r i k h (omega arith), get_or-take m xs i 0 (omega arith), get_or-take m xs k 0 (omega arith))
