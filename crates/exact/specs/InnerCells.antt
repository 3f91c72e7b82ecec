-- Cited only by the contracts of inner functions: a row of cells, each of which counts 2 ^ 32 times the one before, and the number that it stands for. Assumes nothing.
use Rattle.std.specs.Prelude.{◌≡◌, List, [], ◌∷◌, ℕ, ◌+◌, ◌*◌, ◌^◌, ◌≤◌, max, length}

unfoldable pub value : List ℕ → ℕ
value [] = 0
value (x ∷ xs) = x + 2 ^ 32 * value xs

-- the greatest cell of a row
unfoldable pub greatest : List ℕ → ℕ
greatest [] = 0
greatest (x ∷ xs) = max x (greatest xs)

-- A row is as long as it was, and its number has grown by t, in some steps, each of which adds at most 2 ^ 34 to a cell.
pub record RowGrown (steps t : ℕ) (xs ys : List ℕ) : Type 0 where
  pub long : length ys ≡ length xs
  pub total : value ys ≡ value xs + t
  pub low : greatest ys ≤ greatest xs + steps * 2 ^ 34
