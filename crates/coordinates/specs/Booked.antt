-- Document 02, W11: "How far a booked point may be off". It is stated "over whole numbers, in units fine enough for all terms": coordinates and t are
-- whole numbers of 2^-1074, products of two of them of 2^-2148. Assumes nothing.
use Rattle.std.specs.Prelude.{◌≡◌, Bool, true, ℕ, ◌+◌, ◌-◌, ◌*◌, ◌^◌, max, leb, Float, pos, nat_abs, ◌+ℤ◌, ◌-ℤ◌, ◌*ℤ◌, None, Some}
use Rattle.std.specs.Float.{binary64}
use Rattle.std.specs.Float.Ieee.{fits}
use Rattle.exact.specs.Exact.{mag, coord}
use Rattle.plane.specs.Plane.{◌⊘◌, between, cross}
use Rattle.grid.specs.Grid.{Grid}
use Rattle.segments.specs.declared.Segment.{Segment}
use Rattle.entry.specs.Refused.{coord_ok}

-- "coordinates that 3 allows": an f64 that refusal 3 lets pass
pub record Allowed (x : Float) : Type 0 where
  pub fit : fits binary64 x ≡ true
  pub ok : coord_ok x ≡ true

-- a segment of allowed coordinates
pub record AllowedEnds (s : Segment) : Type 0 where
  pub ax : Allowed s.a.x
  pub ay : Allowed s.a.y
  pub bx : Allowed s.b.x
  pub by : Allowed s.b.y

-- "t as computed": cross32 / cross12
abbrev pub parameter : Segment → Segment → Float
parameter s o =
    let v1 = between s.a s.b in
    let v2 = between o.a o.b in
    cross (between s.a o.a) v2 ⊘ cross v1 v2

-- "M here the largest size among the coordinates of P1 and P2", in units of 2^-1074
abbrev pub largest : Segment → ℕ
largest s = max (max (mag s.a.x) (mag s.a.y)) (max (mag s.b.x) (mag s.b.y))

-- how far x is from "the exact value of p1 + t × (p2 − p1)", in units of 2^-2148
abbrev pub off_by : (x p q t : Float) → ℕ
off_by x p q t = nat_abs (coord x *ℤ pos (2 ^ 1074) -ℤ (coord p *ℤ pos (2 ^ 1074) +ℤ coord t *ℤ (coord q -ℤ coord p)))

-- "With W6's grid, add half a step": 2^-(k+1), in those units
abbrev pub half_a_step : Grid → ℕ
half_a_step None = 0
half_a_step (Some k) = 2 ^ (2147 - k)

-- "M × 2^-50 + 2^-1074", in those units, and on a grid half a step more
abbrev pub allowance : Grid → ℕ → ℕ
allowance g m = m * 2 ^ 1024 + 2 ^ 1074 + half_a_step g

unfoldable pub is_within : Grid → ℕ → (x p q t : Float) → Bool
is_within g m x p q t = leb (off_by x p q t) (allowance g m)

-- "each coordinate is to be shown within": (x, y) is the new point of the segments s, from P1 to P2, and o
pub record PointWithin (g : Grid) (s o : Segment) (x y : Float) : Type 0 where
  pub first : is_within g (largest s) x s.a.x s.b.x (parameter s o) ≡ true
  pub second : is_within g (largest s) y s.a.y s.b.y (parameter s o) ≡ true
