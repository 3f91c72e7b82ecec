-- Whether a slot is found in a table, and how many there are. Assumes nothing.
use mathlib.Core.Path.{◌≡◌, refl, sym, ap, ◌∙◌}
use mathlib.Core.Bool.{Bool, true, false, cond, not}
use mathlib.Core.List.{List, [], ◌∷◌}
use Prim.Native.Nat.{ℕ, ◌+◌, ◌≤◌, ◌<◌}
use native.Mathlib.Omega.{arith}
use lib.ListN.{length}
use borrow.Author.Tests.{ltb-true, ltb-false}
use Rattle.std.proofs.Common.{Option, Some, None, is_some, nat_lt}
use Rattle.std.specs.List.{position, position_or_len}
use Rattle.lists.specs.Search.{bit}
use Rattle.lists.specs.Gather.{tally}

module _ {A : Type 0} where
  -- how many pass, by whether one is found
  tally_at : (p : A → Bool) (xs : List A) → ((position_or_len p xs < length xs → 0 < tally p xs) × (length xs ≤ position_or_len p xs → tally p xs ≡ 0))
  unfolding tally
  tally_at p [] = ((λ h. absurd (omega (arith, h))), (λ h. refl))
  tally_at p (x ∷ xs) = go (p x) (tally_at p xs)
    where
      go : (t : Bool) → ((position_or_len p xs < length xs → 0 < tally p xs) × (length xs ≤ position_or_len p xs → tally p xs ≡ 0))
          → let k = cond (not t) (1 + position_or_len p xs) 0 in ((k < length (x ∷ xs) → 0 < bit t + tally p xs) × (length (x ∷ xs) ≤ k → bit t + tally p xs ≡ 0))
      go true ih = ((λ h. omega arith), (λ h. absurd (omega (arith, h))))
      go false ih = ((λ h. omega (arith, ih.0 (omega (arith, h)))), (λ h. omega (arith, ih.1 (omega (arith, h)))))

  pub found : (p : A → Bool) (xs : List A) (r : Option ℕ) → r ≡ position p xs → is_some r ≡ true → 0 < tally p xs
  found p xs r e h = go (nat_lt (position_or_len p xs) (length xs)) refl (ap is_some (sym e) ∙ h)
    where
      go : (t : Bool) → nat_lt (position_or_len p xs) (length xs) ≡ t → is_some {T = ℕ} (cond t (Some (position_or_len p xs)) None) ≡ true → 0 < tally p xs
      go true e h = (tally_at p xs).0 (ltb-true (position_or_len p xs) (length xs) e)
      go false e h = cc

  pub found_not : (p : A → Bool) (xs : List A) (r : Option ℕ) → r ≡ position p xs → is_some r ≡ false → tally p xs ≡ 0
  found_not p xs r e h = go (nat_lt (position_or_len p xs) (length xs)) refl (ap is_some (sym e) ∙ h)
    where
      go : (t : Bool) → nat_lt (position_or_len p xs) (length xs) ≡ t → is_some {T = ℕ} (cond t (Some (position_or_len p xs)) None) ≡ false → tally p xs ≡ 0
      go true e h = cc
      go false e h = (tally_at p xs).1 (ltb-false (position_or_len p xs) (length xs) e)
