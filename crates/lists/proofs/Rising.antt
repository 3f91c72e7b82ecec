-- A sorted list is in order: no element stands before an earlier one. For a test `before` that is asymmetric, and that goes on, where it fails, through
-- the elements in question. Assumes nothing.
use mathlib.Core.Path.{◌≡◌, refl}
use mathlib.Core.Bool.{Bool, true, false}
use mathlib.Core.List.{List, [], ◌∷◌}
use Prim.Native.Nat.{ℕ, zero, suc, ◌<◌}
use native.Mathlib.Omega.{arith}
use lib.Dec.{T}
use lib.ListN.{length, get_or, take, drop}
use Rattle.lists.specs.Sort.{insert, sort_onto, sorted}

-- each element has P
abbrev pub All : {A : Type 0} → (A → Type 0) → List A → Type 0
All P [] = T true
All P (x ∷ xs) = P x × All P xs

module _ {A : Type 0} where
  pub all_at : (P : A → Type 0) (xs : List A) → All P xs → (i : ℕ) (d : A) → i < length xs → P (get_or xs i d)
  all_at P [] h i d l = absurd (omega arith)
  all_at P (x ∷ xs) h zero d l = h.0
  all_at P (x ∷ xs) h (suc i) d l = all_at P xs h.1 i d (omega arith)

  pub all_of : (P : A → Type 0) (xs : List A) (d : A) → ((i : ℕ) → i < length xs → P (get_or xs i d)) → All P xs
  all_of P [] d h = tt
  all_of P (x ∷ xs) d h = (h 0 (omega arith), all_of P xs d (λ i l. h (suc i) (omega arith)))

  pub all_take : (P : A → Type 0) (n : ℕ) (xs : List A) → All P xs → All P (take n xs)
  all_take P zero xs h = tt
  all_take P (suc n) [] h = tt
  all_take P (suc n) (x ∷ xs) h = (h.0, all_take P n xs h.1)

  pub all_drop : (P : A → Type 0) (n : ℕ) (xs : List A) → All P xs → All P (drop n xs)
  all_drop P zero xs h = h
  all_drop P (suc n) [] h = tt
  all_drop P (suc n) (x ∷ xs) h = all_drop P n xs h.1

  all_map : (P Q : A → Type 0) → ((x : A) → P x → Q x) → (xs : List A) → All P xs → All Q xs
  all_map P Q f [] h = tt
  all_map P Q f (x ∷ xs) h = (f x h.0, all_map P Q f xs h.1)

  pub all_map₂ : (P Q R : A → Type 0) → ((x : A) → P x → Q x → R x) → (xs : List A) → All P xs → All Q xs → All R xs
  all_map₂ P Q R f [] h k = tt
  all_map₂ P Q R f (x ∷ xs) h k = (f x h.0 k.0, all_map₂ P Q R f xs h.1 k.1)

module _ {A : Type 0} (before : A → A → Bool) where
  abbrev pub Rising : List A → Type 0
  Rising [] = T true
  Rising (x ∷ xs) = All (λ (y : A). before y x ≡ false) xs × Rising xs

  pub rising_at : (xs : List A) → Rising xs → (i j : ℕ) (d : A) → i < j → j < length xs → before (get_or xs j d) (get_or xs i d) ≡ false
  rising_at [] h i j d l m = absurd (omega arith)
  rising_at (x ∷ xs) h i zero d l m = absurd (omega arith)
  rising_at (x ∷ xs) h zero (suc j) d l m = all_at (λ (y : A). before y x ≡ false) xs h.0 j d (omega arith)
  rising_at (x ∷ xs) h (suc i) (suc j) d l m = rising_at xs h.1 i j d (omega arith) (omega arith)

  pub insert_all : (P : A → Type 0) (x : A) (xs : List A) → P x → All P xs → All P (insert before x xs)
  unfolding insert
  insert_all P x [] p h = (p, tt)
  insert_all P x (y ∷ ys) p h = go (before x y) (insert_all P x ys p h.1)
    where
      go : (t : Bool) → All P (insert before x ys) → All P (elim t [ true ↦ x ∷ y ∷ ys | false ↦ y ∷ insert before x ys ])
      go true ih = (p, h)
      go false ih = (h.0, ih)

  pub onto_all : (P : A → Type 0) (done xs : List A) → All P done → All P xs → All P (sort_onto before done xs)
  unfolding sort_onto
  onto_all P done [] d h = d
  onto_all P done (x ∷ xs) d h = onto_all P (insert before x done) xs (insert_all P x done h.0 d) h.1

  pub sorted_all : (P : A → Type 0) (xs : List A) → All P xs → All P (sorted before xs)
  sorted_all P xs h = onto_all P [] xs tt h

  module _ (Good : A → Type 0) (asym : (x y : A) → before x y ≡ true → before y x ≡ false)
      (through : (x y z : A) → Good y → before x y ≡ false → before y z ≡ false → before x z ≡ false) where
    pub insert_rising : (x : A) (xs : List A) → All Good xs → Rising xs → Rising (insert before x xs)
    unfolding insert
    insert_rising x [] g r = (tt, tt)
    insert_rising x (y ∷ ys) g r = go (before x y) refl (insert_rising x ys g.1 r.1)
      where
        go : (t : Bool) → before x y ≡ t → Rising (insert before x ys) → Rising (elim t [ true ↦ x ∷ y ∷ ys | false ↦ y ∷ insert before x ys ])
        go true e ih = ((asym x y e, all_map _ _ (λ z h. through z y x g.0 h (asym x y e)) ys r.0), r)
        go false e ih = (insert_all (λ (z : A). before z y ≡ false) x ys e r.0, ih)

    onto_rising : (done xs : List A) → All Good done → All Good xs → Rising done → Rising (sort_onto before done xs)
    unfolding sort_onto
    onto_rising done [] d g r = r
    onto_rising done (x ∷ xs) d g r = onto_rising (insert before x done) xs (insert_all Good x done g.0 d) g.1 (insert_rising x done d r)

    pub sorted_rising : (xs : List A) → All Good xs → Rising (sorted before xs)
    sorted_rising xs g = onto_rising [] xs tt g tt
