-- The things near a box, some at a time. Assumes nothing.
use mathlib.Core.Path.{◌≡◌, sym, ap, ◌∙◌}
use mathlib.Core.Bool.{Bool}
use mathlib.Core.List.{List, [], ◌∷◌, ◌++◌, append-nil}
use Prim.Native.Nat.{ℕ, suc, ◌+◌, ◌≤◌, ◌<◌}
use native.Mathlib.Nat.{min-le_left}
use native.Mathlib.Numerals.{add-one}
use native.Mathlib.Omega.{arith}
use lib.ListN.{length, get_or, take, drop, length-take, drop_of_length-le}
use lib.Seq.{drop-cons, get_or-take, length-take-le}
use Rattle.spatial_index.specs.Candidates.{places_from}
use Rattle.strips.proofs.Rising.{front_taken}
use Rattle.strips.proofs.Uses.{all_taken, goes_on}
use Rattle.lists.specs.Regions.{FrontIs}

-- those found are given
pub used_up : (k i : ℕ) (xs : List ℕ) → k ≤ i → drop i (take k xs) ≡ []
used_up k i xs h = drop_of_length-le (take k xs) (omega (arith, length-take k xs, min-le_left k (length xs)))

-- one of them is given
pub one_given : (k i : ℕ) (xs : List ℕ) → i < k → k ≤ length xs → drop i (take k xs) ≡ get_or xs i 0 ∷ drop (i + 1) (take k xs)
one_given k i xs h l =
    rw add-one (drop-cons (take k xs) i 0 (omega (arith, length-take-le k xs l)) ∙ ap (λ x. x ∷ drop (suc i) (take k xs)) (get_or-take k xs i 0 h))

-- a search finds r numbers of those that pass: `found` holds them in front
module _ (p : ℕ → Bool) (from n r : ℕ) (out found : List ℕ) (got : FrontIs (take (length out) (places_from p from n)) out r found) where
  are : take r found ≡ take (length out) (places_from p from n)
  are = front_taken _ out found r got

  -- they are all where they are fewer than there is room for
  pub round_last : r < length out → take r found ++ [] ≡ places_from p from n
  round_last h = append-nil (take r found) ∙ are ∙ all_taken p from n (length out) (omega (arith, h, got.count))

  -- behind a full list come those from its last + 1 on
  pub round_full : (k : ℕ) → length out ≡ suc k → suc k ≤ r → take r found ++ places_from p (get_or found k 0 + 1) n ≡ places_from p from n
  round_full k e h =
      let some : take r found ≡ take (suc k) (places_from p from n) = are ∙ ap (λ m. take m (places_from p from n)) e in
      let full : length (take (suc k) (places_from p from n)) ≡ suc k = ap length (sym some) ∙ ap length are ∙ sym got.count ∙ omega (arith, h, e, got.fits) in
      let last : get_or found k 0 ≡ get_or (take (suc k) (places_from p from n)) k 0 = sym (get_or-take r found k 0 h) ∙ ap (λ xs. get_or xs k 0) some in
      rw (some, last) (sym (goes_on p from n k full))
