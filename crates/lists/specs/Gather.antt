-- Lists put together from lists, and what is left of a list after a test. Assumes nothing.
use Rattle.std.specs.Prelude.{Bool, true, false, cond, List, [], ◌∷◌, ◌++◌, ℕ, zero, suc, ◌+◌}
use Rattle.lists.specs.Search.{bit}

module _ {A : Type 0} where
  -- the lists f 0, f 1, .., f (n - 1), one after the other
  unfoldable pub gathered : ℕ → (ℕ → List A) → List A
  gathered zero f = []
  gathered (suc n) f = gathered n f ++ f n

  -- f 0, f 1, .., f (n - 1)
  abbrev pub each : ℕ → (ℕ → A) → List A
  each n f = gathered n (λ i. f i ∷ [])

  -- The next three are std's `list_all`, `filter` and `count_by` (proofs/Library), written by cases, as the proofs of ten crates unfold them.

  -- all of them pass
  unfoldable pub all : (A → Bool) → List A → Bool
  all p [] = true
  all p (x ∷ xs) = elim (p x) [ true ↦ all p xs | false ↦ false ]

  -- those that pass
  unfoldable pub passing : (A → Bool) → List A → List A
  passing p [] = []
  passing p (x ∷ xs) = elim (p x) [ true ↦ x ∷ passing p xs | false ↦ passing p xs ]

  -- how many of them pass
  unfoldable pub tally : (A → Bool) → List A → ℕ
  tally p [] = 0
  tally p (x ∷ xs) = bit (p x) + tally p xs

  -- adjacent equals dropped: the first of them stays
  unfoldable pub slim_after : (A → A → Bool) → A → List A → List A
  slim_after same x [] = []
  slim_after same x (y ∷ ys) = elim (same x y) [ true ↦ slim_after same x ys | false ↦ y ∷ slim_after same y ys ]

  unfoldable pub slim : (A → A → Bool) → List A → List A
  slim same [] = []
  slim same (x ∷ xs) = x ∷ slim_after same x xs

-- the lists f x for each x, one after the other
module _ {A B : Type 0} where
  unfoldable pub joined : (A → List B) → List A → List B
  joined f [] = []
  joined f (x ∷ xs) = f x ++ joined f xs

-- the numbers below n that pass p, rising
abbrev pub places : (ℕ → Bool) → ℕ → List ℕ
places p n = gathered n (λ i. cond (p i) (i ∷ []) [])
