-- The plane cut into strips by x and by y, and their squares on levels: on each level they are twice as wide as on the one before. Assumes nothing.
use Rattle.std.specs.Prelude.{Bool, true, false, cond, ◌||◌, List, ℕ, zero, suc, ◌+◌, ◌*◌, ◌-◌, ◌/◌, ◌≤◌, ◌<◌, ltb, length, get_or, Float}
use Rattle.std.specs.Float.{nan}
use Rattle.std.specs.Float.Ieee.{le}
use Rattle.rules.specs.declared.Bounds.{Bounds}
use Rattle.strips.specs.declared.squares.Axis.{Axis}
use Rattle.strips.specs.declared.squares.Axis.TheVariants.{X, Y}
use Rattle.strips.specs.declared.squares.Span.{Span}

-- a coordinate of node v: x or y
unfoldable pub coordinate_of : List Float → Axis → ℕ → Float
coordinate_of coords X v = get_or coords (2 * v) nan
coordinate_of coords Y v = get_or coords (2 * v + 1) nan

-- the strip of v among the n strips from lo on, by f halvings; strip k begins at t k
unfoldable pub strip : ℕ → (ℕ → Float) → Float → ℕ → ℕ → ℕ
strip zero t v lo n = lo
strip (suc f) t v lo n = elim (le (t (lo + n / 2)) v) [ true ↦ strip f t v (lo + n / 2) (n - n / 2) | false ↦ strip f t v lo (n - n / 2) ]

-- where strips begin at the nodes in `bounds`
unfoldable pub strip_of : List Float → List ℕ → Axis → Float → ℕ
strip_of coords bounds axis v = strip (length bounds) (λ i. coordinate_of coords axis (get_or bounds i 0)) v 0 (length bounds)

-- the strips that a box reaches, on the first level
unfoldable pub span_of : List Float → List ℕ → List ℕ → Bounds → Span
span_of coords xs ys b =
    record {
      x0 = strip_of coords xs X b.left;
      x1 = strip_of coords xs X b.right;
      y0 = strip_of coords ys Y b.low;
      y1 = strip_of coords ys Y b.high;
      at = 0;
      side = length xs;
      level = 0;
    }

-- on the next level
abbrev pub halved : Span → Span
halved s =
    record {
      x0 = s.x0 / 2;
      x1 = s.x1 / 2;
      y0 = s.y0 / 2;
      y1 = s.y1 / 2;
      at = s.at + s.side * s.side;
      side = (s.side + 1) / 2;
      level = s.level + 1;
    }

-- over two strips by x or by y
abbrev pub is_wide : Span → Bool
is_wide s = ltb (s.x0 + 1) s.x1 || ltb (s.y0 + 1) s.y1

-- on the first of f levels where it is not so wide
unfoldable pub narrowed : ℕ → Span → Span
narrowed zero s = s
narrowed (suc f) s = elim (is_wide s) [ true ↦ narrowed f (halved s) | false ↦ s ]

-- the chain of a square, of h chains; chain 0 where there are no more
unfoldable pub square_chain : ℕ → Span → ℕ → ℕ → ℕ
square_chain h s x y = let c = s.at + y * s.side + x in cond (ltb c h) c 0

-- no number of it is large
pub record Small (s : Span) : Type 0 where
  pub x0_small : s.x0 < 256
  pub x1_small : s.x1 < 256
  pub y0_small : s.y0 < 256
  pub y1_small : s.y1 < 256
  pub side_small : s.side ≤ 256
  pub at_small : s.at ≤ 65536 * s.level
  pub level_small : s.level ≤ 1024
