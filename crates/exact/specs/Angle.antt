-- Module 2's `orient2d`, and module 6's order of directions by falling angle. Assumes nothing.
use Rattle.std.specs.Prelude.{cond, ℕ, ltb, ℤ, pos, negsuc, ◌-ℤ◌, ◌*ℤ◌, Float}
use Rattle.std.specs.Float.{binary64}
use Rattle.std.specs.Float.Ieee.{sub}
use Rattle.exact.specs.Exact.{coord, sign, signum, ordered}
use Rattle.std.specs.declared.cmp.Ordering.{Ordering}
use Rattle.std.specs.declared.cmp.Ordering.TheVariants.{Less, Equal, Greater}

-- ---- `orient2d` gives the exact sign of (ax−cx)(by−cy) − (ay−cy)(bx−cx)

-- the determinant, of exact coordinates a whole number of 2 ^ -2148
abbrev pub det : (ax ay bx by cx cy : ℤ) → ℤ
det ax ay bx by cx cy = (ax -ℤ cx) *ℤ (by -ℤ cy) -ℤ (ay -ℤ cy) *ℤ (bx -ℤ cx)

unfoldable pub orientation : (ax ay bx by cx cy : Float) → Ordering
orientation ax ay bx by cx cy = sign (det (coord ax) (coord ay) (coord bx) (coord by) (coord cx) (coord cy))

-- ---- falling angle in (−180°, 180°]

-- The part of the plane that a direction points into, by the signs of x and y: 0 for the angles above 0 up to 180°, west among them;
-- 1 for east, and for a zero direction; 2 for the angles below 0.
abbrev pub part_at : (x y : Ordering) → ℕ
part_at x Greater = 0
part_at Less Equal = 0
part_at Equal Equal = 1
part_at Greater Equal = 1
part_at x Less = 2

abbrev pub cross_product : (x y x' y' : ℤ) → ℤ
cross_product x y x' y' = x *ℤ y' -ℤ y *ℤ x'

-- Less where the direction x, y stands before x', y': by the order of their parts, and within one part by the sign of the cross product.
abbrev pub within : Ordering → ℤ → Ordering
within Less z = Less
within Equal z = sign z
within Greater z = Greater

abbrev pub turn : (x y x' y' : ℤ) → Ordering
turn x y x' y' = within (ordered (part_at (sign x) (sign y)) (part_at (sign x') (sign y'))) (cross_product x y x' y')

-- its number, by the parts' numbers and the cross product: −1 where x, y stands before x', y', 0 where neither does, 1 where it stands after
abbrev pub turn_number : (x y x' y' : ℤ) → ℤ
turn_number x y x' y' =
    let p = part_at (sign x) (sign y) in
    let q = part_at (sign x') (sign y') in
    cond (ltb p q) (negsuc 0) (cond (ltb q p) (pos 1) (signum (cross_product x y x' y')))

unfoldable pub angles : (x y x' y' : Float) → Ordering
angles x y x' y' = turn (coord x) (coord y) (coord x') (coord y')

abbrev pub angles_number : (x y x' y' : Float) → ℤ
angles_number x y x' y' = turn_number (coord x) (coord y) (coord x') (coord y')

-- the same of the directions from p to a and from p to b. A direction is the rounded difference of two points.
abbrev pub around : (px py ax ay bx by : Float) → Ordering
around px py ax ay bx by = angles (sub binary64 ax px) (sub binary64 ay py) (sub binary64 bx px) (sub binary64 by py)

abbrev pub around_number : (px py ax ay bx by : Float) → ℤ
around_number px py ax ay bx by = angles_number (sub binary64 ax px) (sub binary64 ay py) (sub binary64 bx px) (sub binary64 by py)
