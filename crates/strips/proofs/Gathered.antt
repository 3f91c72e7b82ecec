-- Things put in one after the other: what becomes of the list that holds them. Assumes nothing.
use mathlib.Core.Path.{◌≡◌, refl, sym, ap, ap₂, ◌∙◌}
use mathlib.Core.Bool.{Bool, true, false, cond}
use mathlib.Core.List.{List, [], ◌∷◌, ◌++◌}
use Prim.Native.Nat.{ℕ, ◌≤◌}
use native.Mathlib.Decide.{dec_le}
use native.Mathlib.Omega.{arith}
use lib.Dec.{ltb, eqb}
use lib.ListN.{length, take}
use lib.Seq.{take_all, length-take-le}
use Rattle.strips.specs.Gathering.{Rises, Risen, put_rising, with_thing, with_things}
use Rattle.strips.proofs.Rising.{front_here, front_taken, front_long, front_then, rises_put, rises_take}
use Rattle.lists.specs.Regions.{FrontIs}

length_put : (v : ℕ) (xs : List ℕ) → length xs ≤ length (put_rising v xs)
unfolding put_rising
length_put v [] = omega arith
length_put v (x ∷ xs) = go (ltb x v) (length_put v xs)
  where
    same : (t : Bool) → length (x ∷ xs) ≤ length (cond t (x ∷ xs) (v ∷ x ∷ xs))
    same true = omega arith
    same false = omega arith

    go : (t : Bool) → length xs ≤ length (put_rising v xs)
        → (let l : List ℕ = elim t [ true ↦ x ∷ put_rising v xs | false ↦ cond (eqb x v) (x ∷ xs) (v ∷ x ∷ xs) ] in length (x ∷ xs) ≤ length l)
    go true ih = omega arith
    go false ih = same (eqb x v)

module _ (most : ℕ) (p : ℕ → Bool) where
  pub with_not : (xs : List ℕ) (j : ℕ) → p j ≡ false → with_thing most p xs j ≡ xs
  unfolding with_thing
  with_not xs j e = ap (λ (t : Bool). cond t (take most (put_rising j xs)) xs) e

  pub with_put : (xs : List ℕ) (j : ℕ) → p j ≡ true → with_thing most p xs j ≡ take most (put_rising j xs)
  unfolding with_thing
  with_put xs j e = ap (λ (t : Bool). cond t (take most (put_rising j xs)) xs) e

  pub with_append : (xs js ks : List ℕ) → with_things most p xs (js ++ ks) ≡ with_things most p (with_things most p xs js) ks
  unfolding with_things
  with_append xs [] ks = refl
  with_append xs (j ∷ js) ks = with_append (with_thing most p xs j) js ks

  -- the list grows, and never beyond `most`
  with_grows : (xs : List ℕ) (j : ℕ) → length xs ≤ most → (length xs ≤ length (with_thing most p xs j)) × (length (with_thing most p xs j) ≤ most)
  unfolding with_thing
  with_grows xs j h = go (p j) (dec_le (length (put_rising j xs)) most)
    where
      go : (t : Bool) → Dec (length (put_rising j xs) ≤ most)
          → (length xs ≤ length (cond t (take most (put_rising j xs)) xs)) × (length (cond t (take most (put_rising j xs)) xs) ≤ most)
      go false d = (omega arith, h)
      go true (yes l) = omega (arith, ap length (take_all most (put_rising j xs) l), length_put j xs)
      go true (no l) = omega (arith, length-take-le most (put_rising j xs) (omega arith))

  pub all_grow : (xs js : List ℕ) → length xs ≤ most → (length xs ≤ length (with_things most p xs js)) × (length (with_things most p xs js) ≤ most)
  unfolding with_things
  all_grow xs [] h = (omega arith, h)
  all_grow xs (j ∷ js) h =
      let one = with_grows xs j h in
      let rest = all_grow (with_thing most p xs j) js one.1 in
      (omega (arith, one.0, rest.0), rest.1)

  with_rises : (xs : List ℕ) (j : ℕ) → Rises xs → Rises (with_thing most p xs j)
  unfolding with_thing
  with_rises xs j r = go (p j)
    where
      go : (t : Bool) → Rises (cond t (take most (put_rising j xs)) xs)
      go true = rises_take most (put_rising j xs) (rises_put j xs r)
      go false = r

  pub all_rise : (xs js : List ℕ) → Rises xs → Rises (with_things most p xs js)
  unfolding with_things
  all_rise xs [] r = r
  all_rise xs (j ∷ js) r = all_rise (with_thing most p xs j) js (with_rises xs j r)

-- ---- in a lent list

module _ (p : ℕ → Bool) where
  -- the things js have been put in, from xs on
  abbrev pub Holds : List ℕ → List ℕ → List ℕ → ℕ → List ℕ → Type 0
  Holds xs js found₀ r found = FrontIs (with_things (length found₀) p xs js) found₀ r found

  module _ (xs js found₀ found : List ℕ) (r : ℕ) (h : Holds xs js found₀ r found) where
    holds_long : length found ≡ length found₀
    holds_long = front_long (with_things (length found₀) p xs js) found₀ found r h

    pub holds_risen : Rises xs → Risen r found
    holds_risen rise =
        record { fits = omega (arith, h.fits, holds_long); rises = rw (front_taken (with_things (length found₀) p xs js) found₀ found r h) (all_rise (length found₀) p xs js rise) }

    -- and the things ks
    pub holds_more : (ks found' : List ℕ) (q : ℕ) → length xs ≤ length found₀ → FrontIs (with_things (length found) p (take r found) ks) found q found'
        → Holds xs (js ++ ks) found₀ q found'
    holds_more ks found' q low next =
        let ys : List ℕ = with_things (length found₀) p xs js in
        let taken : take r found ≡ ys = front_taken ys found₀ found r h in
        let same : with_things (length found) p (take r found) ks ≡ with_things (length found₀) p xs (js ++ ks) =
        ap₂ (λ (m : ℕ) (zs : List ℕ). with_things m p zs ks) holds_long taken ∙ sym (with_append (length found₀) p xs js ks) in
        let whole : FrontIs (with_things (length found₀) p xs (js ++ ks)) found q found' = rw (sym same) next in
        let grown : length ys ≤ length (with_things (length found₀) p xs (js ++ ks)) =
        omega (arith, ap length (with_append (length found₀) p xs js ks), (all_grow (length found₀) p ys ks (all_grow (length found₀) p xs js low).1).0) in
        front_then ys (with_things (length found₀) p xs (js ++ ks)) found₀ found found' r q h grown whole

  pub holds_none : (found : List ℕ) (k : ℕ) → k ≤ length found → Holds (take k found) [] found k found
  unfolding with_things
  holds_none found k h = front_here found k h

-- one thing
pub one_thing : (most : ℕ) (p : ℕ → Bool) (xs : List ℕ) (j : ℕ) → with_thing most p xs j ≡ with_things most p xs (j ∷ [])
unfolding with_things
one_thing most p xs j = refl
