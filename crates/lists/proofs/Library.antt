-- What the words of the library say of lists by element is what this crate's say by index: for code that goes by `all`, `any`, `position`, `filter`.
-- Assumes nothing.
use mathlib.Core.Path.{◌≡◌, refl, sym, ap, ap₂, ◌∙◌}
use mathlib.Core.Bool.{Bool, true, false, cond, not, ◌&&◌, ◌||◌}
use mathlib.Core.List.{List, [], ◌∷◌, map}
use Prim.Native.Nat.{ℕ, zero, suc, ◌+◌}
use native.Mathlib.Decide.{dec_lt}
use native.Mathlib.Omega.{arith}
use lib.Dec.{ltb}
use lib.ListN.{length, get_or}
use borrow.Author.Tests.{lt-ltb, le-ltb}
use Rattle.std.proofs.lemmas.List.Sums.{length-filter}
use Rattle.std.specs.List.{list_all, list_any, filter, count_by, position_or_len, zip}
use Rattle.lists.specs.Search.{first, has, every}
use Rattle.lists.specs.Gather.{gathered, each, all, passing, tally}
use Rattle.lists.proofs.Search.{first_here, first_shift, first_end_lem}
use Rattle.lists.proofs.Gather.{each_head, length_passing}

-- the first index apart from the others
every_head : (p : ℕ → Bool) (n : ℕ) → every (suc n) p ≡ p zero && every n (λ i. p (suc i))
unfolding every
every_head p zero = go (p zero)
  where
    go : (t : Bool) → true && t ≡ t && true
    go true = refl
    go false = refl
every_head p (suc n) = ap (λ (t : Bool). t && p (suc n)) (every_head p n) ∙ go (p zero) (every n (λ i. p (suc i))) (p (suc n))
  where
    go : (a b c : Bool) → (a && b) && c ≡ a && (b && c)
    go true b c = refl
    go false b c = refl

lt_suc : (a b : ℕ) → ltb (suc a) (suc b) ≡ ltb a b
lt_suc a b = elim (dec_lt a b) [
  | yes h ↦ lt-ltb (suc a) (suc b) (omega arith) ∙ sym (lt-ltb a b h)
  | no h ↦ le-ltb (suc a) (suc b) (omega arith) ∙ sym (le-ltb a b (omega arith))
]

has_head : (p : ℕ → Bool) (n : ℕ) → has p (suc n) ≡ p zero || has (λ i. p (suc i)) n
has_head p n = go (p zero) refl
  where
    go : (t : Bool) → p zero ≡ t → ltb (first p 0 (suc n)) (suc n) ≡ t || ltb (first (λ i. p (suc i)) 0 n) n
    go true e = lt-ltb (first p 0 (suc n)) (suc n) (omega (arith, first_here p 0 (suc n) (omega arith) e))
    go false e = ap (λ (k : ℕ). ltb k (suc n)) (first_shift p n e) ∙ lt_suc (first (λ i. p (suc i)) 0 n) n

module _ {A : Type 0} where
  -- ---- tests of each element

  pub every_list : (p : A → Bool) (xs : List A) (d : A) → every (length xs) (λ i. p (get_or xs i d)) ≡ list_all p xs
  unfolding every
  every_list p [] d = refl
  every_list p (x ∷ xs) d = every_head (λ i. p (get_or (x ∷ xs) i d)) (length xs) ∙ ap (λ (t : Bool). p x && t) (every_list p xs d)

  pub has_list : (p : A → Bool) (xs : List A) (d : A) → has (λ i. p (get_or xs i d)) (length xs) ≡ list_any p xs
  has_list p [] d = le-ltb (first (λ i. p (get_or {A = A} [] i d)) 0 0) 0 (omega arith)
  has_list p (x ∷ xs) d = has_head (λ i. p (get_or (x ∷ xs) i d)) (length xs) ∙ ap (λ (t : Bool). p x || t) (has_list p xs d)

  pub all_list : (p : A → Bool) (xs : List A) → all p xs ≡ list_all p xs
  unfolding all
  all_list p [] = refl
  all_list p (x ∷ xs) = go (p x) (all_list p xs)
    where
      go : (t : Bool) → all p xs ≡ list_all p xs → elim t [ true ↦ all p xs | false ↦ false ] ≡ t && list_all p xs
      go true ih = ih
      go false ih = refl

  -- ---- those that pass

  pub passing_list : (p : A → Bool) (xs : List A) → passing p xs ≡ filter p xs
  unfolding passing
  passing_list p [] = refl
  passing_list p (x ∷ xs) = go (p x) (passing_list p xs)
    where
      go : (t : Bool) → passing p xs ≡ filter p xs → elim t [ true ↦ x ∷ passing p xs | false ↦ passing p xs ] ≡ cond t (x ∷ filter p xs) (filter p xs)
      go true ih = ap (λ (l : List A). x ∷ l) ih
      go false ih = ih

  pub tally_list : (p : A → Bool) (xs : List A) → tally p xs ≡ count_by p xs
  tally_list p xs = sym (length_passing p xs) ∙ ap length (passing_list p xs) ∙ length-filter p xs

  -- ---- the first that passes

  pub first_list : (p : A → Bool) (xs : List A) (d : A) → first (λ i. p (get_or xs i d)) 0 (length xs) ≡ position_or_len p xs
  first_list p [] d = first_end_lem (λ i. p (get_or {A = A} [] i d)) 0 0 (omega arith)
  first_list p (x ∷ xs) d = go (p x) refl (first_list p xs d)
    where
      go : (t : Bool) → p x ≡ t → first (λ i. p (get_or xs i d)) 0 (length xs) ≡ position_or_len p xs
          → first (λ i. p (get_or (x ∷ xs) i d)) 0 (suc (length xs)) ≡ cond (not t) (1 + position_or_len p xs) 0
      go true e ih = first_here (λ i. p (get_or (x ∷ xs) i d)) 0 (suc (length xs)) (omega arith) e
      go false e ih =
          let later : first (λ i. p (get_or (x ∷ xs) i d)) 0 (suc (length xs)) ≡ suc (first (λ i. p (get_or xs i d)) 0 (length xs)) =
          first_shift (λ i. p (get_or (x ∷ xs) i d)) (length xs) e in
          omega (arith, later, ih)

  -- ---- an element for each

  pub each_map : {B : Type 0} (f : A → B) (xs : List A) (d : A) → each (length xs) (λ i. f (get_or xs i d)) ≡ map f xs
  unfolding gathered
  each_map f [] d = refl
  each_map f (x ∷ xs) d = each_head (length xs) (λ i. f (get_or (x ∷ xs) i d)) ∙ ap (λ (l : List _). f x ∷ l) (each_map f xs d)

  pub every_each : (p : A → Bool) (n : ℕ) (f : ℕ → A) → every n (λ i. p (f i)) ≡ list_all p (each n f)
  unfolding every gathered
  every_each p zero f = refl
  every_each p (suc n) f =
      every_head (λ i. p (f i)) n ∙ ap (λ (t : Bool). p (f zero) && t) (every_each p n (λ i. f (suc i))) ∙ ap (list_all p) (sym (each_head n f))

  pub zip_each : {B : Type 0} (n : ℕ) (f : ℕ → A) (g : ℕ → B) → zip (each n f) (each n g) ≡ each n (λ i. (f i, g i))
  unfolding gathered
  zip_each zero f g = refl
  zip_each {B} (suc n) f g =
      ap₂ (λ (xs : List A) (ys : List B). zip xs ys) (each_head n f) (each_head n g) ∙ ap (λ (l : List (A × B)). (f zero, g zero) ∷ l) (zip_each n (λ i. f (suc i)) (λ i. g (suc i)))
      ∙ sym (each_head n (λ i. (f i, g i)))
