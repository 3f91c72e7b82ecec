-- Two sorted lists make one: what is put in among those in order may itself be in order, and may come from the last down. For a test `before` as in
-- `Rising`. Assumes nothing.
use mathlib.Core.Path.{◌≡◌, refl, sym, ap, ◌∙◌}
use mathlib.Core.Bool.{Bool, true, false, true≢false}
use mathlib.Core.List.{List, [], ◌∷◌, ◌++◌}
use lib.Dec.{T}
use Rattle.lists.specs.Sort.{insert, sort_onto, sorted}
use Rattle.lists.proofs.Sort.{sort_onto_append, sort_onto_snoc}
use Rattle.lists.proofs.Rising.{All, Rising, all_map₂, insert_all, onto_all, insert_rising}

module _ {A : Type 0} (before : A → A → Bool) where
  insert_here : (x y : A) (ys : List A) → before x y ≡ true → insert before x (y ∷ ys) ≡ x ∷ y ∷ ys
  unfolding insert
  insert_here x y ys h = rw (insert, h) refl

  insert_on : (x y : A) (ys : List A) → before x y ≡ false → insert before x (y ∷ ys) ≡ y ∷ insert before x ys
  unfolding insert
  insert_on x y ys h = rw (insert, h) refl

  -- ---- in front of elements that stand behind

  -- x stands before the first of them
  abbrev pub Ahead : A → List A → Type 0
  Ahead x [] = T true
  Ahead x (y ∷ ys) = before x y ≡ true

  insert_ahead : (x : A) (xs ds : List A) → Ahead x ds → insert before x (xs ++ ds) ≡ insert before x xs ++ ds
  unfolding insert
  insert_ahead x [] [] h = refl
  insert_ahead x [] (d ∷ ds) h = rw h refl
  insert_ahead x (y ∷ ys) ds h = go (before x y) (insert_ahead x ys ds h)
    where
      go : (t : Bool) → insert before x (ys ++ ds) ≡ insert before x ys ++ ds
          → (let l : List A = elim t [ true ↦ x ∷ y ∷ (ys ++ ds) | false ↦ y ∷ insert before x (ys ++ ds) ] in
          let r : List A = elim t [ true ↦ x ∷ y ∷ ys | false ↦ y ∷ insert before x ys ] in l ≡ r ++ ds)
      go true ih = refl
      go false ih = ap (λ (l : List A). y ∷ l) ih

  onto_ahead : (xs ds ys : List A) → All (λ (y : A). Ahead y ds) ys → sort_onto before (xs ++ ds) ys ≡ sort_onto before xs ys ++ ds
  unfolding sort_onto
  onto_ahead xs ds [] h = refl
  onto_ahead xs ds (y ∷ ys) h = ap (λ (l : List A). sort_onto before l ys) (insert_ahead y xs ds h.0) ∙ onto_ahead (insert before y xs) ds ys h.1

  insert_between : (x : A) (xs ds : List A) → All (λ (y : A). before x y ≡ false) xs → Ahead x ds → insert before x (xs ++ ds) ≡ xs ++ x ∷ ds
  unfolding insert
  insert_between x [] [] h a = refl
  insert_between x [] (d ∷ ds) h a = rw a refl
  insert_between x (y ∷ ys) ds h a = rw h.0 (ap (λ (l : List A). y ∷ l) (insert_between x ys ds h.1 a))

  -- the last of those put in goes to its place, the others before it
  pub onto_last : (xs ds ys : List A) (x : A) → All (λ (y : A). Ahead y ds) ys → Ahead x ds → All (λ (y : A). before x y ≡ false) xs → All (λ (y : A). before x y ≡ false) ys
      → sort_onto before (xs ++ ds) (ys ++ x ∷ []) ≡ sort_onto before xs ys ++ x ∷ ds
  onto_last xs ds ys x h a f g =
      sort_onto_snoc before (xs ++ ds) ys x ∙ ap (insert before x) (onto_ahead xs ds ys h)
      ∙ insert_between x (sort_onto before xs ys) ds (onto_all before (λ (y : A). before x y ≡ false) xs ys f g) a

  module _ (Good : A → Type 0) (asym : (x y : A) → before x y ≡ true → before y x ≡ false)
      (through : (x y z : A) → Good y → before x y ≡ false → before y z ≡ false → before x z ≡ false) where
    -- x before y, and z not before y
    pub before_on : (x y z : A) → Good z → before x y ≡ true → before z y ≡ false → before x z ≡ true
    before_on x y z g h k = go (before x z) refl
      where
        go : (t : Bool) → before x z ≡ t → before x z ≡ true
        go true e = e
        go false e = absurd (true≢false (sym h ∙ through x z y g e k))

    -- ---- the order in which elements are put in doesn't count, but for level ones

    insert_swap : (x y : A) (ds : List A) → All Good ds → before x y ≡ true → insert before x (insert before y ds) ≡ insert before y (insert before x ds)
    unfolding insert
    insert_swap x y [] g h = rw (h, asym x y h) refl
    insert_swap x y (d ∷ ds) g h = go (before y d) refl (before x d) refl (insert_swap x y ds g.1 h)
      where
        go : (s : Bool) → before y d ≡ s → (t : Bool) → before x d ≡ t → insert before x (insert before y ds) ≡ insert before y (insert before x ds)
            → insert before x (elim s [ true ↦ y ∷ d ∷ ds | false ↦ d ∷ insert before y ds ]) ≡ insert before y (elim t [ true ↦ x ∷ d ∷ ds | false ↦ d ∷ insert before x ds ])
        go true e true f ih = insert_here x y (d ∷ ds) h ∙ sym (insert_on y x (d ∷ ds) (asym x y h) ∙ ap (λ (l : List A). x ∷ l) (insert_here y d ds e))
        go true e false f ih = absurd (true≢false (sym (before_on x y d g.0 h (asym y d e)) ∙ f))
        go false e true f ih = insert_here x d (insert before y ds) f ∙ sym (insert_on y x (d ∷ ds) (asym x y h) ∙ ap (λ (l : List A). x ∷ l) (insert_on y d ds e))
        go false e false f ih = insert_on x d (insert before y ds) f ∙ ap (λ (l : List A). d ∷ l) ih ∙ sym (insert_on y d (insert before x ds) e)

    onto_first : (x : A) (ds ys : List A) → All Good ds → All Good ys → All (λ (y : A). before x y ≡ true) ys
        → sort_onto before (insert before x ds) ys ≡ insert before x (sort_onto before ds ys)
    unfolding sort_onto
    onto_first x ds [] g k h = refl
    onto_first x ds (y ∷ ys) g k h =
        ap (λ (l : List A). sort_onto before l ys) (sym (insert_swap x y ds g h.0))
        ∙ onto_first x (insert before y ds) ys (insert_all before Good y ds k.0 g) k.1 h.1

    onto_insert : (x : A) (ds ys : List A) → All Good ds → All Good ys → Good x → Rising before ys
        → sort_onto before ds (insert before x ys) ≡ insert before x (sort_onto before ds ys)
    unfolding sort_onto insert
    onto_insert x ds [] g k p r = refl
    onto_insert x ds (y ∷ ys) g k p r = go (before x y) refl (onto_insert x (insert before y ds) ys (insert_all before Good y ds k.0 g) k.1 p r.1)
      where
        go : (t : Bool) → before x y ≡ t → sort_onto before (insert before y ds) (insert before x ys) ≡ insert before x (sort_onto before (insert before y ds) ys)
            → sort_onto before ds (elim t [ true ↦ x ∷ y ∷ ys | false ↦ y ∷ insert before x ys ]) ≡ insert before x (sort_onto before (insert before y ds) ys)
        go true e ih = onto_first x ds (y ∷ ys) g k (
          e,
          all_map₂ Good (λ (z : A). before z y ≡ false) (λ (z : A). before x z ≡ true)
              (λ z a b. before_on x y z a e b) ys k.1 r.0,
        )
        go false e ih = ih

    onto_onto : (ds ys xs : List A) → All Good ds → All Good ys → All Good xs → Rising before ys
        → sort_onto before ds (sort_onto before ys xs) ≡ sort_onto before (sort_onto before ds ys) xs
    unfolding sort_onto
    onto_onto ds ys [] g k p r = refl
    onto_onto ds ys (x ∷ xs) g k p r =
        onto_onto ds (insert before x ys) xs g (insert_all before Good x ys p.0 k) p.1 (insert_rising before Good asym through x ys k r)
        ∙ ap (λ (l : List A). sort_onto before l xs) (onto_insert x ds ys g k p.0 r)

    -- those put in among sorted ones may be sorted before
    pub sorted_both : (xs ys : List A) → All Good xs → All Good ys → sort_onto before (sorted before xs) (sorted before ys) ≡ sorted before (xs ++ ys)
    unfolding sort_onto
    sorted_both xs ys g k =
        onto_onto (sorted before xs) [] ys (onto_all before Good [] xs tt g) tt k tt ∙ sym (sort_onto_append before [] xs ys)
