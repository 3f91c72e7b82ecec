-- An element put in its place among those in order, where std's `position` finds the first that it stands before. Assumes nothing.
use mathlib.Core.Path.{◌≡◌, refl, sym, ap, ap₂, ◌∙◌}
use mathlib.Core.Bool.{Bool, true, false, cond, not}
use mathlib.Core.List.{List, [], ◌∷◌, ◌++◌}
use Prim.Native.Nat.{ℕ, suc, ◌+◌, ◌≤◌}
use native.Mathlib.Omega.{arith}
use lib.ListN.{length, take, drop, length-append}
use lib.Seq.{take_at}
use borrow.Author.Tests.{ltb-false}
use Rattle.std.proofs.Common.{Option, Some, None, unwrap_or, nat_lt}
use Rattle.std.specs.List.{position, position_or_len, refill}
use Rattle.lists.specs.Sort.{insert}
use Rattle.lists.specs.Regions.{put_in, insert_at}
use Rattle.lists.proofs.Insert.{insert_at_last}
use Rattle.lists.proofs.Sort.{length_insert}

one_more : (k : ℕ) → suc k ≡ 1 + k
one_more k = omega arith

module _ {A : Type 0} where
  -- before the first that it stands before
  insert_there : (before : A → A → Bool) (x : A) (xs : List A) → insert before x xs ≡ put_in (position_or_len (before x) xs) x xs
  unfolding insert put_in
  insert_there before x [] = refl
  insert_there before x (y ∷ ys) = go (before x y) (insert_there before x ys)
    where
      go : (t : Bool) → insert before x ys ≡ put_in (position_or_len (before x) ys) x ys
          → (let l : List A = elim t [ true ↦ x ∷ y ∷ ys | false ↦ y ∷ insert before x ys ] in l ≡ put_in (cond (not t) (1 + position_or_len (before x) ys) 0) x (y ∷ ys))
      go true ih = refl
      go false ih = ap (λ (l : List A). y ∷ l) ih ∙ ap (λ (k : ℕ). take k (y ∷ ys) ++ x ∷ drop k (y ∷ ys)) (one_more (position_or_len (before x) ys))

  place_le : (p : A → Bool) (xs : List A) → position_or_len p xs ≤ length xs
  place_le p [] = omega arith
  place_le p (x ∷ xs) = go (p x) (place_le p xs)
    where
      go : (t : Bool) → position_or_len p xs ≤ length xs → cond (not t) (1 + position_or_len p xs) 0 ≤ length (x ∷ xs)
      go true ih = omega arith
      go false ih = omega (arith, ih)

  pub place_is : (p : A → Bool) (xs : List A) → unwrap_or (position p xs) (length xs) ≡ position_or_len p xs
  place_is p xs = go (nat_lt (position_or_len p xs) (length xs)) refl
    where
      go : (t : Bool) → nat_lt (position_or_len p xs) (length xs) ≡ t → unwrap_or (cond t (Some (position_or_len p xs)) None) (length xs) ≡ position_or_len p xs
      go true e = refl
      go false e = omega (arith, ltb-false (position_or_len p xs) (length xs) e, place_le p xs)

  -- one put behind all n, and then, in the slice that is lent, in the place that `position` finds, or left behind all: it is put in their order
  pub put_among : (before : A → A → Bool) (x : A) (xs ys zs : List A) (n k : ℕ) (p : Option ℕ) → p ≡ position (before x) xs → n ≡ length xs → k ≡ unwrap_or p n
      → ys ≡ xs ++ x ∷ [] → zs ≡ insert_at ys n k x → refill (length ys) ys zs ≡ insert before x xs
  put_among before x xs ys zs n k p p-is n-is k-is more e =
      let at : k ≡ position_or_len (before x) xs = k-is ∙ ap₂ unwrap_or p-is n-is ∙ place_is (before x) xs in
      let done : zs ≡ insert before x xs = e ∙ ap₂ (λ (l : List A) (i : ℕ). insert_at l i k x) more n-is ∙ ap (λ (j : ℕ). insert_at (xs ++ x ∷ []) (length xs) j x) at
      ∙ insert_at_last xs (position_or_len (before x) xs) x x (place_le (before x) xs) ∙ sym (insert_there before x xs) in
      let long : length zs ≡ length ys = omega (arith, ap length done, length_insert before x xs, ap length more, length-append xs (x ∷ [])) in
      take_at zs (drop (length zs) ys) (length ys) long ∙ done
