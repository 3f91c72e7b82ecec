-- Document 01, "Refused because of the state": what happens in an overlay, in the order of module 7, and the first refusal met. Assumes nothing.
use Rattle.std.specs.Prelude.{true, false, cond, List, [], ◌∷◌, ◌++◌, map, ℕ, zero, suc, ◌-◌, ◌/◌, leb, length, replicate}
use Rattle.lists.specs.Gather.{joined}
use Rattle.cutting.specs.Edition.{Edition, ours}
use Rattle.cutting.specs.Outcome.{Outcome, refusal, pieces}
use Rattle.settings.specs.declared.Settings.{Settings}
use Rattle.entry.specs.Mesh.{Mesh}
use Rattle.rules.specs.Mesh.{Side, the_subject, the_cutter}
use Rattle.rules.specs.Meetings.{Met}
use Rattle.rules.specs.Nodes.{crowded}
use Rattle.rules.specs.Cell.{outcome_with}
use Rattle.rules.specs.Operations.{scene_for, Piece, kept_with, over_cells}

pub data Event : Type 0 where
  meeting : Event  -- a meeting is found
  point : Event  -- a point is placed
  piece : ℕ → Event  -- a piece is placed, with so many node entries
  stop : ℕ → Event  -- a refusal that no list and no M decides: 9, 10, 11, 19

-- 8 is "checked before its point is placed"
abbrev pub of_meeting : Met → List Event
of_meeting m = meeting ∷ replicate (length m.point / 2) point

-- 19, 10 or 11; or the cell's kept pieces, "placed after its whole walk"
abbrev pub of_cell : Outcome → List Piece → List Event
of_cell (refusal r) ps = stop r ∷ []
of_cell (pieces qs) ps = map (λ p. piece (length p.nodes)) ps

-- "first both meshes' coordinates are placed"; the meetings; 9, "looked at after the last meeting"; "then the cells"
unfoldable pub course_with : Edition → Settings → Mesh → Mesh → List Event
course_with v o s c =
    let sc = scene_for o s c in
    let cut : Side → ℕ → List Event = λ w i. of_cell (outcome_with v sc w i) (kept_with v sc w o.op i) in
    replicate (length (s.coords ++ c.coords) / 2) point
    ++ joined of_meeting sc.met
    ++ cond (crowded sc) (stop 9 ∷ []) []
    ++ (over_cells o.op sc the_subject (cut the_subject) ++ over_cells o.op sc the_cutter (cut the_cutter))

abbrev pub course : Settings → Mesh → Mesh → List Event
course o s c = course_with ours o s c

-- The first refusal met, or 0, with room for m more meetings, p points, q pieces and n node entries. 8: a meeting beyond M. 12: the next item has no
-- place.
unfoldable pub first_refusal : (m p q n : ℕ) → List Event → ℕ
first_refusal m p q n [] = 0
first_refusal zero p q n (meeting ∷ es) = 8
first_refusal (suc m) p q n (meeting ∷ es) = first_refusal m p q n es
first_refusal m zero q n (point ∷ es) = 12
first_refusal m (suc p) q n (point ∷ es) = first_refusal m p q n es
first_refusal m p zero n (piece k ∷ es) = 12
first_refusal m p (suc q) n (piece k ∷ es) = elim (leb k n) [ true ↦ first_refusal m p q (n - k) es | false ↦ 12 ]
first_refusal m p q n (stop r ∷ es) = r
