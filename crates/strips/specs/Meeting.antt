-- The things whose boxes meet a box, rising: what `gather` finds. Assumes nothing.
use Rattle.std.specs.Prelude.{List, ℕ, Float}
use Rattle.rules.specs.declared.Bounds.{Bounds}
use Rattle.spatial_index.specs.Candidates.{places_from}
use Rattle.strips.specs.Things.{thing_count, thing_meets}

-- the things from `from` on whose boxes meet b, rising
abbrev pub things_meeting : List Float → List ℕ → List ℕ → Bounds → ℕ → List ℕ
things_meeting coords nodes ends b from = places_from (thing_meets coords nodes ends b) from (thing_count nodes ends)
