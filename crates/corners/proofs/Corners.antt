-- Lists read backwards, and the steps from corner to corner. Assumes nothing.
use mathlib.Core.Path.{◌≡◌, refl, sym, ap, ◌∙◌, subst}
use mathlib.Core.Bool.{Bool, true, false, not, beq, false≢true}
use mathlib.Core.List.{List}
use Prim.Native.Nat.{ℕ, ◌+◌, ◌-◌, ◌≤◌}
use native.Mathlib.Omega.{arith}
use lib.ListN.{length, get_or, length-reverse}
use borrow.Author.Tests.{le-ltb}
use Rattle.std.proofs.lemmas.List.{reverse-reverse, get_or-reverse, get_or_past}
use Rattle.corners.specs.Corners.{corner_after, oriented}

pub length_oriented : (b : Bool) (ps : List ℕ) → length (oriented b ps) ≡ length ps
unfolding oriented
length_oriented false ps = refl
length_oriented true ps = length-reverse ps

pub backward : (b : Bool) (ps : List ℕ) (i k : ℕ) → b ≡ true → i + k + 1 ≡ length ps → get_or ps k 0 ≡ get_or (oriented b ps) i 0
unfolding oriented
backward true ps i k e h = let z : k ≡ length ps - 1 - i = omega arith in ap (λ (j : ℕ). get_or ps j 0) z ∙ sym (get_or-reverse ps i 0 (omega arith))
backward false ps i k e h = absurd (false≢true e)

pub forward : (b : Bool) (ps : List ℕ) (i : ℕ) → b ≡ false → get_or ps i 0 ≡ get_or (oriented b ps) i 0
unfolding oriented
forward false ps i e = refl
forward true ps i e = absurd (false≢true (sym e))

pub no_corner : (b : Bool) (ps : List ℕ) (i : ℕ) → length ps ≤ i → 0 ≡ get_or (oriented b ps) i 0
no_corner b ps i h = sym (get_or_past (oriented b ps) i 0 (subst (λ (n : ℕ). n ≤ i) (sym (length_oriented b ps)) h))

pub after_over : (n i : ℕ) → n ≤ i → 0 ≡ corner_after n i
unfolding corner_after
after_over n i h = rw (le-ltb (i + 1) n (omega arith)) refl

-- read backwards, and turned
pub turned_again : (b t : Bool) (ps : List ℕ) → oriented (not (beq b t)) ps ≡ oriented t (oriented b ps)
unfolding oriented
turned_again false false ps = refl
turned_again false true ps = refl
turned_again true false ps = refl
turned_again true true ps = sym (reverse-reverse ps)
