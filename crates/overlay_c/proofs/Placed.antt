-- The counts in their places, over plain values. Assumes nothing.
use mathlib.Core.Path.{◌≡◌, ap, ◌∙◌}
use mathlib.Core.List.{List, [], ◌∷◌, ◌++◌}
use Prim.Native.Nat.{ℕ, ◌+◌, ◌≤◌, min}
use native.Mathlib.Nat.{min-le_left}
use native.Mathlib.Omega.{arith}
use lib.ListN.{length, take, drop}
use Rattle.std.proofs.lemmas.List.{length-take, take_min}
use Rattle.lists.specs.Regions.{front, put, copied}
use Rattle.lists.proofs.Regions.{copied_fits}
use Rattle.overlay_c.specs.Answer.{placed}

-- the first n counts, and what stood behind them, where n is the list's length and at most 4
pub in_places : (p q d a n : ℕ) (l firsts r : List ℕ) → n ≡ min (length l) 4 → firsts ≡ take n (p ∷ q ∷ d ∷ a ∷ []) → r ≡ copied l 0 firsts → r ≡ placed p q d a l
unfolding placed front put
in_places p q d a n l firsts r few all is =
    let cut : firsts ≡ take (length l) (p ∷ q ∷ d ∷ a ∷ []) = rw few at all ∙ take_min (length l) (p ∷ q ∷ d ∷ a ∷ []) in
    let fits : 0 + length firsts ≤ length l = omega (arith, ap length cut, length-take (length l) (p ∷ q ∷ d ∷ a ∷ []), min-le_left (length l) 4) in
    is ∙ copied_fits l 0 firsts fits ∙ ap (λ (xs : List ℕ). xs ++ drop (length xs) l) cut
