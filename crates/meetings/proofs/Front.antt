-- One new point more at the front of a list whose first ones are on the grid. Assumes nothing.
use mathlib.Core.Path.{◌≡◌, sym, ap, ◌∙◌, subst}
use mathlib.Core.Bool.{Bool, false, cond}
use mathlib.Core.List.{List, [], ◌∷◌}
use Prim.Native.Nat.{ℕ, suc, ◌+◌, ◌*◌, ◌≤◌, ◌<◌}
use native.Mathlib.Omega.{arith}
use native.Mathlib.Decide.{dec_le}
use lib.Dec.{leb}
use lib.ListN.{length, get_or}
use lib.Ieee.{Float, nan}
use Rattle.lists.specs.Regions.{put, copied}
use Rattle.lists.proofs.Regions.{put_before, put_in_lem}
use Rattle.grid.specs.Grid.{Grid, OnGrid}
use Rattle.meetings.specs.Front.{AllOnGrid}

pub one_more : (g : Grid) (n : ℕ) (ps : List Float) (x y : Float) → AllOnGrid g (2 * n) ps → 2 * n + 2 ≤ length ps → OnGrid g x → OnGrid g y
    → AllOnGrid g (2 * (n + 1)) (put ps (2 * n) (x ∷ y ∷ []))
one_more g n ps x y h fits a b i k = go (dec_le (suc i) (2 * n)) (dec_le (suc i) (2 * n + 1))
  where
    xs : List Float
    xs = x ∷ y ∷ []

    at : (j : ℕ) → 2 * n + j ≡ i → j < 2 → OnGrid g (get_or xs j nan) → OnGrid g (get_or (put ps (2 * n) xs) i nan)
    at j e l q = subst (λ (m : ℕ). OnGrid g (get_or (put ps (2 * n) xs) m nan)) e
        (subst (OnGrid g) (sym (put_in_lem ps (2 * n) (omega arith) xs j nan l)) q)

    go : Dec (suc i ≤ 2 * n) → Dec (suc i ≤ 2 * n + 1) → OnGrid g (get_or (put ps (2 * n) xs) i nan)
    go (yes l) d = subst (OnGrid g) (sym (put_before ps (2 * n) (omega arith) xs i nan l)) (h i l)
    go (no l) (yes m) = at 0 (omega arith) (omega arith) a
    go (no l) (no m) = at 1 (omega arith) (omega arith) b

-- what is not written leaves them
pub still_those : (g : Grid) (n b : ℕ) (ps qs xs : List Float) → AllOnGrid g n ps → qs ≡ copied ps b xs → leb (b + length xs) (length ps) ≡ false → AllOnGrid g n qs
unfolding copied
still_those g n b ps qs xs h e f i k = subst (λ (l : List Float). OnGrid g (get_or l i nan)) (sym (e ∙ ap (λ (t : Bool). cond t (put ps b xs) ps) f)) (h i k)
