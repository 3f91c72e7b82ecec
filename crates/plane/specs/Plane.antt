-- The plane in binary64: each operation rounds once, in the order of document 01, module 1. Assumes nothing.
use Rattle.std.specs.Prelude.{Bool, cond, ◌&&◌, List, ℕ, ◌+◌, ◌*◌, get_or, Float}
use Rattle.std.specs.Float.{nan, binary64}
use Rattle.std.specs.Float.Ieee.{add, sub, mul, div, neg, lt, le, eq, of_bits}
use Rattle.plane.specs.declared.Point.{Point}

infixl 20 ◌⊕◌ ◌⊖◌
infixl 30 ◌⊗◌ ◌⊘◌
abbrev pub ◌⊕◌ : Float → Float → Float
x ⊕ y = add binary64 x y

abbrev pub ◌⊖◌ : Float → Float → Float
x ⊖ y = sub binary64 x y

abbrev pub ◌⊗◌ : Float → Float → Float
x ⊗ y = mul binary64 x y

abbrev pub ◌⊘◌ : Float → Float → Float
x ⊘ y = div binary64 x y

-- 0, 1, 2, 4, 64 and 2 ^ -52
abbrev pub zero_f : Float
zero_f = of_bits binary64 0

abbrev pub one_f : Float
one_f = of_bits binary64 0x3ff0_0000_0000_0000

abbrev pub two_f : Float
two_f = of_bits binary64 0x4000_0000_0000_0000

abbrev pub four_f : Float
four_f = of_bits binary64 0x4010_0000_0000_0000

abbrev pub sixty_four : Float
sixty_four = of_bits binary64 0x4050_0000_0000_0000

abbrev pub ulp : Float
ulp = of_bits binary64 0x3cb0_0000_0000_0000

-- x is a number, which equals itself
abbrev pub is_number : Float → Bool
is_number x = eq x x

-- The size of x. -0 stays -0, which no comparison tells from +0.
unfoldable pub magnitude : Float → Float
magnitude x = cond (lt x zero_f) (neg x) x

-- The larger of the two; x where one is no number. Where a component is no number there is no meeting, whichever is taken.
unfoldable pub larger : Float → Float → Float
larger x y = cond (lt x y) y x

abbrev pub in_unit : Float → Bool
in_unit t = le zero_f t && le t one_f

-- ---- points and directions

-- from p to q
unfoldable pub between : Point → Point → Point
between p q = record { x = q.x ⊖ p.x; y = q.y ⊖ p.y }

abbrev pub dot : Point → Point → Float
dot v w = (v.x ⊗ w.x) ⊕ (v.y ⊗ w.y)

abbrev pub cross : Point → Point → Float
cross v w = (v.x ⊗ w.y) ⊖ (v.y ⊗ w.x)

-- p + t v
unfoldable pub along : Point → Float → Point → Point
along p t v = record { x = p.x ⊕ t ⊗ v.x; y = p.y ⊕ t ⊗ v.y }

-- the largest absolute component of v and w
unfoldable pub scale : Point → Point → Float
scale v w = larger (larger (larger (magnitude v.x) (magnitude v.y)) (magnitude w.x)) (magnitude w.y)

-- eps = (64 × (scale × scale)) × 2 ^ -52
unfoldable pub tolerance : Point → Point → Float
tolerance v w = (sixty_four ⊗ (scale v w ⊗ scale v w)) ⊗ ulp

-- ---- the coordinates of a node in the flat list, x then y; those of a node without a place there are no numbers

abbrev pub x_of : List Float → ℕ → Float
x_of cs n = get_or cs (2 * n) nan

abbrev pub y_of : List Float → ℕ → Float
y_of cs n = get_or cs (2 * n + 1) nan

unfoldable pub point_at : List Float → ℕ → Point
point_at cs n = record { x = x_of cs n; y = y_of cs n }
