-- A law of regions that the lists' own laws lack. Assumes nothing.
use mathlib.Core.Path.{◌≡◌, sym, ap₂, ◌∙◌}
use mathlib.Core.List.{List, ◌++◌}
use Prim.Native.Nat.{ℕ, ◌+◌, ◌≤◌}
use native.Mathlib.Omega.{arith}
use lib.ListN.{length}
use Rattle.lists.specs.Regions.{front, put}
use Rattle.lists.proofs.Regions.{put_append, front_put}

-- a region right behind the front
pub put_front : {A : Type 0} (n : ℕ) (w xs ys : List A) → length xs ≡ n → n ≤ length w → put (front w xs) n ys ≡ front w (xs ++ ys)
put_front n w xs ys l h =
    let at : n ≡ 0 + length xs = omega arith in
    ap₂ (λ (u : List _) (j : ℕ). put u j ys) (sym (front_put w xs)) at ∙ put_append w 0 (omega arith) xs ys (omega arith) ∙ front_put w (xs ++ ys)
