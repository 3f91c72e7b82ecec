-- The laws of the stable order. Assumes nothing.
use mathlib.Core.Path.{◌≡◌, refl, sym, ap, ◌∙◌}
use mathlib.Core.Bool.{Bool, true, false, not, true≢false}
use mathlib.Core.List.{List, [], ◌∷◌, ◌++◌, map}
use Prim.Native.Nat.{ℕ, zero, suc, ◌+◌, ◌≤◌, ◌<◌}
use native.Mathlib.Omega.{arith}
use lib.ListN.{length, get_or, take}
use lib.Seq.{length-take-le, get_or-take}
use Rattle.lists.specs.Search.{bit, seek, first}
use Rattle.lists.specs.Gather.{gathered, each, all, tally}
use Rattle.lists.specs.Sort.{insert, sort_onto, sorted, moved}
use Rattle.lists.specs.Regions.{front, put_in, insert_at}
use Rattle.lists.proofs.Search.{first_here, first_shift, first_le, first_ext}
use Rattle.lists.proofs.Gather.{each_head, all_both}
use Rattle.lists.proofs.Insert.{insert_at_fits}

module _ {A : Type 0} (before : A → A → Bool) where
  -- ---- an insertion

  pub length_insert : (x : A) (xs : List A) → length (insert before x xs) ≡ length xs + 1
  unfolding insert
  length_insert x [] = refl
  length_insert x (y ∷ ys) = go (before x y) (length_insert x ys)
    where
      go : (t : Bool) → length (insert before x ys) ≡ length ys + 1
          → (let l : List A = elim t [ true ↦ x ∷ y ∷ ys | false ↦ y ∷ insert before x ys ] in length l ≡ length (y ∷ ys) + 1)
      go true ih = omega arith
      go false ih = omega arith

  -- it is put in at its place: before the first that it stands before
  pub insert_is : (x : A) (xs : List A) (d : A) → insert before x xs ≡ put_in (first (λ i. before x (get_or xs i d)) 0 (length xs)) x xs
  unfolding insert put_in first seek
  insert_is x [] d = refl
  insert_is x (y ∷ ys) d = go (before x y) refl (insert_is x ys d)
    where
      go : (t : Bool) → before x y ≡ t → insert before x ys ≡ put_in (first (λ i. before x (get_or ys i d)) 0 (length ys)) x ys
          → (let l : List A = elim t [ true ↦ x ∷ y ∷ ys | false ↦ y ∷ insert before x ys ] in l ≡ put_in (first (λ i. before x (get_or (y ∷ ys) i d)) 0 (length (y ∷ ys))) x (y ∷ ys))
      go true e ih = ap (λ (k : ℕ). put_in k x (y ∷ ys)) (sym (first_here (λ i. before x (get_or (y ∷ ys) i d)) 0 (length (y ∷ ys)) (omega arith) e))
      go false e ih = ap (λ (l : List A). y ∷ l) ih ∙ ap (λ (k : ℕ). put_in k x (y ∷ ys)) (sym (first_shift (λ i. before x (get_or (y ∷ ys) i d)) (length ys) e))

  -- the same for a list that is given element by element
  pub insert_each : (x : A) (n : ℕ) (f : ℕ → A) → insert before x (each n f) ≡ each (suc n) (moved f x (first (λ i. before x (f i)) 0 n))
  unfolding gathered insert moved first seek
  insert_each x zero f = refl
  insert_each x (suc n) f = ap (insert before x) (each_head n f) ∙ go (before x (f zero)) refl (insert_each x n (λ i. f (suc i)))
    where
      go : (t : Bool) → before x (f zero) ≡ t → insert before x (each n (λ i. f (suc i))) ≡ each (suc n) (moved (λ i. f (suc i)) x (first (λ i. before x (f (suc i))) 0 n))
          → (let l : List A = elim t [ true ↦ x ∷ f zero ∷ each n (λ i. f (suc i)) | false ↦ f zero ∷ insert before x (each n (λ i. f (suc i))) ] in
          l ≡ each (suc (suc n)) (moved f x (first (λ i. before x (f i)) 0 (suc n))))
      go true e ih =
          ap (λ (l : List A). x ∷ l) (sym (each_head n f)) ∙ sym (each_head (suc n) (moved f x zero))
          ∙ ap (λ (k : ℕ). each (suc (suc n)) (moved f x k)) (sym (first_here (λ i. before x (f i)) 0 (suc n) (omega arith) e))
      go false e ih =
          ap (λ (l : List A). f zero ∷ l) ih ∙ sym (each_head (suc n) (moved f x (suc (first (λ i. before x (f (suc i))) 0 n))))
          ∙ ap (λ (k : ℕ). each (suc (suc n)) (moved f x k)) (sym (first_shift (λ i. before x (f i)) n e))

  -- in a list lent with n elements in front
  pub insert_at_is : (w : List A) (n p : ℕ) (x d : A) → n < length w → p ≡ first (λ i. before x (get_or w i d)) 0 n → insert_at w n p x ≡ front w (insert before x (take n w))
  insert_at_is w n p x d h e =
      let len : length (take n w) ≡ n = length-take-le n w (omega arith) in
      let same : first (λ i. before x (get_or w i d)) 0 n ≡ first (λ i. before x (get_or (take n w) i d)) 0 n =
      first_ext _ _ n (λ i l. ap (before x) (sym (get_or-take n w i d l))) in
      let at : p ≡ first (λ i. before x (get_or (take n w) i d)) 0 (length (take n w)) = e ∙ same ∙ ap (first (λ i. before x (get_or (take n w) i d)) 0) (sym len) in
      let le : p ≤ n = omega (arith, e, first_le (λ i. before x (get_or w i d)) 0 n (omega arith)) in
      insert_at_fits w n p x le h ∙ ap (front w) (ap (λ (k : ℕ). put_in k x (take n w)) at ∙ sym (insert_is x (take n w) d))

  -- how many pass a test
  pub insert_tally : (p : A → Bool) (x : A) (xs : List A) → tally p (insert before x xs) ≡ bit (p x) + tally p xs
  unfolding insert tally
  insert_tally p x [] = refl
  insert_tally p x (y ∷ ys) = go (before x y) (insert_tally p x ys)
    where
      go : (t : Bool) → tally p (insert before x ys) ≡ bit (p x) + tally p ys
          → tally p (elim t [ true ↦ x ∷ y ∷ ys | false ↦ y ∷ insert before x ys ]) ≡ bit (p x) + tally p (y ∷ ys)
      go true ih = refl
      go false ih = omega arith

  -- ---- the sort

  pub sort_onto_append : (done xs ys : List A) → sort_onto before done (xs ++ ys) ≡ sort_onto before (sort_onto before done xs) ys
  unfolding sort_onto
  sort_onto_append done [] ys = refl
  sort_onto_append done (x ∷ xs) ys = sort_onto_append (insert before x done) xs ys

  -- one element more
  pub sort_onto_snoc : (done xs : List A) (x : A) → sort_onto before done (xs ++ x ∷ []) ≡ insert before x (sort_onto before done xs)
  unfolding sort_onto
  sort_onto_snoc done xs x = sort_onto_append done xs (x ∷ [])

  pub sorted_snoc : (xs : List A) (x : A) → sorted before (xs ++ x ∷ []) ≡ insert before x (sorted before xs)
  sorted_snoc xs x = sort_onto_snoc [] xs x

  pub length_sort_onto : (done xs : List A) → length (sort_onto before done xs) ≡ length done + length xs
  unfolding sort_onto
  length_sort_onto done [] = omega arith
  length_sort_onto done (x ∷ xs) = omega (arith, length_sort_onto (insert before x done) xs, length_insert x done)

  pub length_sorted : (xs : List A) → length (sorted before xs) ≡ length xs
  length_sorted xs = omega (arith, length_sort_onto [] xs)

  -- however many of the elements pass a test, so many of the sorted do
  pub sort_tally : (p : A → Bool) (done xs : List A) → tally p (sort_onto before done xs) ≡ tally p done + tally p xs
  unfolding sort_onto tally
  sort_tally p done [] = omega arith
  sort_tally p done (x ∷ xs) = omega (arith, sort_tally p (insert before x done) xs, insert_tally p x done)

  pub sorted_tally : (p : A → Bool) (xs : List A) → tally p (sorted before xs) ≡ tally p xs
  unfolding tally
  sorted_tally p xs = omega (arith, sort_tally p [] xs)

  -- ---- a list sorted in its place, by insertion of the next element into those before it

  -- ---- what stands first stays first, where nothing that is put in stands before it

  module _ (x : A) where
    insert_behind : (y : A) (zs : List A) → not (before y x) ≡ true → insert before y (x ∷ zs) ≡ x ∷ insert before y zs
    unfolding insert
    insert_behind y zs h = go (before y x) h
      where
        go : (t : Bool) → not t ≡ true → (let l : List A = elim t [ true ↦ y ∷ x ∷ zs | false ↦ x ∷ insert before y zs ] in l ≡ x ∷ insert before y zs)
        go true e = absurd (true≢false (sym e))
        go false e = refl

    onto_behind : {B : Type 0} (f : B → A) (done : List A) (ys : List B) → all (λ y. not (before (f y) x)) ys ≡ true
        → sort_onto before (x ∷ done) (map f ys) ≡ x ∷ sort_onto before done (map f ys)
    unfolding sort_onto
    onto_behind f done [] h = refl
    onto_behind f done (y ∷ ys) h =
        let b = all_both (λ z. not (before (f z) x)) y ys h in
        ap (λ (l : List A). sort_onto before l (map f ys)) (insert_behind (f y) done b.0) ∙ onto_behind f (insert before (f y) done) ys b.1

    pub sorted_head : {B : Type 0} (f : B → A) (ys : List B) → all (λ y. not (before (f y) x)) ys ≡ true → sorted before (x ∷ map f ys) ≡ x ∷ sorted before (map f ys)
    unfolding sort_onto insert
    sorted_head f ys h = onto_behind f [] ys h
