-- The stable order of a list by a test `before`: x stands before y. Every sort of the library is this one, with another test. Assumes nothing.
use Rattle.std.specs.Prelude.{Bool, true, false, List, [], ◌∷◌, ℕ, zero, suc}

module _ {A : Type 0} (before : A → A → Bool) where
  -- x put in before the first that it stands before
  unfoldable pub insert : A → List A → List A
  insert x [] = x ∷ []
  insert x (y ∷ ys) = elim (before x y) [ true ↦ x ∷ y ∷ ys | false ↦ y ∷ insert x ys ]

  -- put into `done` one after the other, so that equals stay in the order in which they came
  unfoldable pub sort_onto : List A → List A → List A
  sort_onto done [] = done
  sort_onto done (x ∷ xs) = sort_onto (insert x done) xs

  abbrev pub sorted : List A → List A
  sorted xs = sort_onto [] xs

-- f 0, f 1, .. with x put in at k
module _ {A : Type 0} where
  unfoldable pub moved : (ℕ → A) → A → ℕ → ℕ → A
  moved f x zero zero = x
  moved f x zero (suc i) = f i
  moved f x (suc k) zero = f zero
  moved f x (suc k) (suc i) = moved (λ j. f (suc j)) x k i
