-- An answer as a number and counts in a lent list, for C. Assumes nothing.
use Rattle.std.specs.Prelude.{◌≡◌, cond, List, [], ◌∷◌, ℕ, eqb, length, take, Option, None, Some}
use Rattle.lists.specs.Regions.{front}
use Rattle.settings.specs.declared.Settings.{Settings}
use Rattle.rules.specs.Overlay.{Lists, Result}

-- For C a grid is a number: the largest is no grid, any other is k.
abbrev pub grid_of : ℕ → Option ℕ
grid_of k = cond (eqb k 4294967295) None (Some k)

abbrev pub settings_of : ℕ → ℕ → ℕ → Settings
settings_of op m k = record { op = op; m = m; grid = grid_of k }

-- the counts of pieces, of new points that a piece names, 0, and of all new points, as many as the list has places for
unfoldable pub placed : ℕ → ℕ → ℕ → ℕ → List ℕ → List ℕ
placed p q d a l = front l (take (length l) (p ∷ q ∷ d ∷ a ∷ []))

-- The number, the lists and the list of counts at exit are those of the answer; `before` is the list of counts at entry.
abbrev pub AnswerOf : Result → List ℕ → ℕ → Lists → List ℕ → Type 0
AnswerOf a before code lists counts =
    (code ≡ a.code) × (lists ≡ a.lists) × (counts ≡ placed a.pieces a.points a.doubled a.added before)
