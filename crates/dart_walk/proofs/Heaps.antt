-- The heap as a list with its end first, and filled from an outline's edges as arrays of two. Assumes nothing.
use mathlib.Core.Path.{◌≡◌, refl, sym, ap, ap₂, ◌∙◌}
use mathlib.Core.Bool.{true, false}
use mathlib.Core.List.{List, [], ◌∷◌, ◌++◌, map, reverse}
use Prim.Native.Nat.{ℕ, ◌+◌, ◌≤◌, ◌<◌}
use native.Mathlib.Numerals.{add-one}
use native.Mathlib.Omega.{arith}
use lib.ListN.{length, get_or, drop}
use lib.Seq.{drop-cons}
use Rattle.std.proofs.lemmas.List.{drop_all, reverse-append}
use Rattle.lists.proofs.Search.{first_le}
use Rattle.cutting.specs.Edges.{Edge}
use Rattle.cutting.specs.Walk.{slot, leads, starts}
use Rattle.cutting.specs.Lent.{pair_of}

-- one taken off the end was first on the heap, and one put there is
pub at_end : (xs ys : List ℕ) (i : ℕ) → xs ≡ ys ++ i ∷ [] → reverse xs ≡ i ∷ reverse ys
at_end xs ys i e = ap reverse e ∙ reverse-append ys (i ∷ [])

pub at_none : (xs : List ℕ) → (0 < length xs → false ≡ true) → reverse xs ≡ []
at_none [] h = refl
at_none (x ∷ xs) h = let more = h (omega arith) in cc

module _ (n : ℕ) (src dst : List ℕ) where
  pub slot_le : (a b s : ℕ) → s ≡ slot n src dst a b → s ≤ n
  unfolding slot
  slot_le a b s e = rw e (first_le (leads src dst a b) 0 n (omega arith))

  pub length_starts : (es : List Edge) (heap : List ℕ) → length (starts n src dst es heap) ≡ length es + length heap
  unfolding starts
  length_starts [] heap = omega arith
  length_starts (e ∷ es) heap = omega (arith, length_starts es (slot n src dst e.0 e.1 ∷ heap))

  -- edge i of those in the arrays
  module _ (es : List (List ℕ)) (i : ℕ) (heap : List ℕ) {target : List ℕ} (inv : starts n src dst (map pair_of (drop i es)) (reverse heap) ≡ target) where
    pub start_turn : (d : List ℕ) {s : ℕ} (heap' : List ℕ) → i < length es → s ≡ slot n src dst (get_or (get_or es i d) 0 0) (get_or (get_or es i d) 1 0)
        → heap' ≡ heap ++ s ∷ [] → starts n src dst (map pair_of (drop (i + 1) es)) (reverse heap') ≡ target
    unfolding starts
    start_turn d {s} heap' h e pushed =
        ap (starts n src dst (map pair_of (drop (i + 1) es))) (at_end heap' heap s pushed)
        ∙ ap₂ (λ (k r : ℕ). starts n src dst (map pair_of (drop k es)) (r ∷ reverse heap)) (add-one i) e
        ∙ sym (ap (λ (l : List (List ℕ)). starts n src dst (map pair_of l) (reverse heap)) (drop-cons es i d h)) ∙ inv

    pub start_end : length es ≤ i → reverse heap ≡ target
    unfolding starts
    start_end h = sym (ap (λ (l : List (List ℕ)). starts n src dst (map pair_of l) (reverse heap)) (drop_all i es h)) ∙ inv
