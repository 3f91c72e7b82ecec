-- The winding number by computation: a square both ways round about points inside, outside, on its sides and its corners. Assumes nothing.
use mathlib.Core.Path.{◌≡◌, refl}
use mathlib.Core.List.{List, [], ◌∷◌, map}
use Prim.Native.Nat.{ℕ, ◌*◌, ◌^◌}
use lib.IntN.{ℤ, pos, negsuc}
use lib.Ieee.{Float, binary64, of_bits}
use Rattle.exact.specs.Exact.{coord, mag, sign}
use Rattle.plane.specs.Plane.{point_at}
use Rattle.cutting.specs.Edges.{hops, ring}
use Rattle.winding.specs.Winding.{Spot, rises_past, winding, winding_of}

abbrev f0 : Float
f0 = of_bits binary64 0

abbrev f1 : Float
f1 = of_bits binary64 0x3ff0_0000_0000_0000

abbrev f2 : Float
f2 = of_bits binary64 0x4000_0000_0000_0000

-- the square 0 1 2 3 from (0,0) to (2,2), and 4 and 5, the middles of its lower and upper side
abbrev square : List Float
square = f0 ∷ f0 ∷ f2 ∷ f0 ∷ f2 ∷ f2 ∷ f0 ∷ f2 ∷ f1 ∷ f0 ∷ f1 ∷ f2 ∷ []

-- the point (x, y)
abbrev at : ℕ → ℕ → Spot
at x y = record { x = pos (x * 2 ^ 1074); y = pos (y * 2 ^ 1074) }

-- one step of 2 ^ -1074 to the left of (0, 1), and to the right of it
abbrev beside : Spot
beside = record { x = negsuc 0; y = pos (2 ^ 1074) }

abbrev within : Spot
within = record { x = pos 1; y = pos (2 ^ 1074) }

unfoldable about : List ℕ → Spot → ℤ
unfolding winding rises_past ring hops coord mag sign point_at of_bits
about p s = winding_of square s p

-- inside, outside on all sides and by a step, on the left and lower sides, on the right and upper ones, at the four corners
counterclockwise :
    map (about (0 ∷ 1 ∷ 2 ∷ 3 ∷ [])) (at 1 1 ∷ within ∷ at 3 1 ∷ beside ∷ at 1 3 ∷ at 0 1 ∷ at 1 0 ∷ at 2 1 ∷ at 1 2 ∷ at 0 0 ∷ at 2 0 ∷ at 2 2 ∷ at 0 2 ∷ [])
    ≡ pos 1 ∷ pos 1 ∷ pos 0 ∷ pos 0 ∷ pos 0 ∷ pos 1 ∷ pos 1 ∷ pos 0 ∷ pos 0 ∷ pos 1 ∷ pos 0 ∷ pos 0 ∷ pos 0 ∷ []
unfolding about
counterclockwise = refl

-- the same points, clockwise
clockwise :
    map (about (3 ∷ 2 ∷ 1 ∷ 0 ∷ [])) (at 1 1 ∷ within ∷ at 3 1 ∷ beside ∷ at 1 3 ∷ at 0 1 ∷ at 1 0 ∷ at 2 1 ∷ at 1 2 ∷ at 0 0 ∷ at 2 0 ∷ at 2 2 ∷ at 0 2 ∷ [])
    ≡ negsuc 0 ∷ negsuc 0 ∷ pos 0 ∷ pos 0 ∷ pos 0 ∷ negsuc 0 ∷ negsuc 0 ∷ pos 0 ∷ pos 0 ∷ negsuc 0 ∷ pos 0 ∷ pos 0 ∷ pos 0 ∷ []
unfolding about
clockwise = refl

-- twice round; K1's two halves about a point of each and one of their common side
others :
    about (0 ∷ 1 ∷ 2 ∷ 3 ∷ 0 ∷ 1 ∷ 2 ∷ 3 ∷ []) (at 1 1) ∷ about (3 ∷ 0 ∷ 4 ∷ 5 ∷ []) within ∷ about (5 ∷ 4 ∷ 1 ∷ 2 ∷ []) within
    ∷ about (3 ∷ 0 ∷ 4 ∷ 5 ∷ []) (at 1 1) ∷ about (5 ∷ 4 ∷ 1 ∷ 2 ∷ []) (at 1 1) ∷ []
    ≡ pos 2 ∷ pos 1 ∷ pos 0 ∷ pos 0 ∷ pos 1 ∷ []
unfolding about
others = refl
