-- The cases of a meeting, by document 01's numbers and values. Assumes nothing.
use Rattle.std.specs.Prelude.{List, [], ◌∷◌, ℕ, ◌+◌, ◌*◌}
use Rattle.std.specs.Float.{binary64}
use Rattle.std.specs.Float.Ieee.{to_bits}
use Rattle.segments.specs.declared.PointId.{PointId}
use Rattle.segments.specs.declared.PointId.TheVariants.{P1, P2, P3, P4}
use Rattle.segments.specs.declared.Meeting.{Meeting}
use Rattle.segments.specs.declared.Meeting.TheVariants.{Apart, Existing, New, Overlap}

-- P1 to P4
abbrev pub id_code : PointId → ℕ
id_code P1 = 1
id_code P2 = 2
id_code P3 = 3
id_code P4 = 4

-- 0: none. 1: one of P1 to P4. 2: new, with the bits of its two coordinates. 3: two of P1 to P4.
unfoldable pub meeting_code : Meeting → List ℕ
meeting_code Apart = 0 ∷ []
meeting_code (Existing p) = 1 ∷ id_code p ∷ []
meeting_code (New x y) = 2 ∷ to_bits binary64 x ∷ to_bits binary64 y ∷ []
meeting_code (Overlap p q) = 3 ∷ id_code p ∷ id_code q ∷ []

-- As one number: 0 none, 1 to 4 one of P1 to P4, 5 a new point, 10 p + q two of P1 to P4.
abbrev pub meeting_number : Meeting → ℕ
meeting_number Apart = 0
meeting_number (Existing p) = id_code p
meeting_number (New x y) = 5
meeting_number (Overlap p q) = 10 * id_code p + id_code q
