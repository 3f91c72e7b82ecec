-- How often directed edges wind about a point. Everything is exact: coordinates are whole numbers of 2^-1074. Assumes nothing.
use Rattle.std.specs.Prelude.{◌≡◌, Bool, true, false, not, ◌&&◌, List, [], ◌∷◌, ℕ, suc, zero, ◌<◌, ℤ, pos, negsuc, ◌+ℤ◌, ◌-ℤ◌, length, get_or, Float}
use Rattle.lists.specs.Search.{bit}
use Rattle.exact.specs.Exact.{coord, is_greater, sign}
use Rattle.exact.specs.Angle.{det}
use Rattle.plane.specs.Plane.{point_at}
use Rattle.cutting.specs.Edges.{Edge, ring}

-- any point with exact coordinates, whether a float has them or not
pub record Spot : Type 0 where
  pub x : ℤ
  pub y : ℤ

-- where a node lies
abbrev pub spot_at : List Float → ℕ → Spot
spot_at coords n = let p = point_at coords n in record { x = coord p.x; y = coord p.y }

-- p lies above the height of s; at that height it doesn't
abbrev pub above : Spot → Spot → Bool
above s p = is_greater (sign (p.y -ℤ s.y))

-- s lies strictly to the left of the line from p to q: the exact sign of `orient2d`
abbrev pub on_the_left : Spot → Spot → Spot → Bool
on_the_left s p q = is_greater (sign (det p.x p.y q.x q.y s.x s.y))

-- The edge from p to q goes up past s, to the right of it: from s's height or below to above it, with s strictly on the left.
unfoldable pub rises_past : Spot → Spot → Spot → Bool
rises_past s p q = not (above s p) && above s q && on_the_left s p q

-- 1 for an edge that goes up past s to the right of it, −1 for one that goes down there (turned round it goes up), 0 for any other
abbrev pub crosses_ray : Spot → Spot → Spot → ℤ
crosses_ray s p q = pos (bit (rises_past s p q)) -ℤ pos (bit (rises_past s q p))

-- The winding number of directed edges about s: their crossings of the ray from s to the right, added up. Of a closed list of edges it says how often they go
-- round s counterclockwise, where s is on none of them. Where s is on an edge the half-open rule decides: of a counterclockwise square
-- the left and lower sides belong to the inside, the right and upper ones to the outside.
unfoldable pub winding : List Float → Spot → List Edge → ℤ
winding coords s [] = pos 0
winding coords s (e ∷ es) = crosses_ray s (spot_at coords e.0) (spot_at coords e.1) +ℤ winding coords s es

-- that of a piece
abbrev pub winding_of : List Float → Spot → List ℕ → ℤ
winding_of coords s p = winding coords s (ring p)

-- those of all pieces together
unfoldable pub windings : List Float → Spot → List (List ℕ) → ℤ
windings coords s [] = pos 0
windings coords s (p ∷ ps) = winding_of coords s p +ℤ windings coords s ps

-- ---- what the theorems of proofs/Windings.antt say

abbrev pub negative : ℤ → Bool
negative (pos n) = false
negative (negsuc n) = true

abbrev pub positive : ℤ → Bool
positive (pos zero) = false
positive (pos (suc n)) = true
positive (negsuc n) = false

-- the windings of the pieces about every point add up to that of the outline
abbrev pub WindsUp : List Float → List Edge → List (List ℕ) → Type 0
WindsUp coords outline ps = (s : Spot) → windings coords s ps ≡ winding coords s outline

-- no piece winds clockwise about s
abbrev pub NoneBackward : List Float → Spot → List (List ℕ) → Type 0
NoneBackward coords s ps = (j : ℕ) → j < length ps → negative (winding_of coords s (get_or ps j [])) ≡ false

-- one piece winds about s, once, and no other does
pub record OneWinds (coords : List Float) (s : Spot) (ps : List (List ℕ)) : Type 0 where
  pub at : ℕ
  pub below : at < length ps
  pub once : winding_of coords s (get_or ps at []) ≡ pos 1
  pub others : (j : ℕ) → j < length ps → (j ≡ at → ⊥) → winding_of coords s (get_or ps j []) ≡ pos 0
