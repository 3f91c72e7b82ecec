-- The cases of an inner point, by document 01's numbers and values. An orientation's is `sign_number` of the crate exact. Assumes nothing.
use Rattle.std.specs.Prelude.{Option, None, Some, List, [], ◌∷◌, ℕ}
use Rattle.std.specs.Float.{binary64}
use Rattle.std.specs.Float.Ieee.{to_bits}
use Rattle.plane.specs.declared.Point.{Point}

-- 0: none. 1: the inner point, with the bits of its two coordinates.
unfoldable pub inner_code : Option Point → List ℕ
inner_code None = 0 ∷ []
inner_code (Some p) = 1 ∷ to_bits binary64 p.x ∷ to_bits binary64 p.y ∷ []
