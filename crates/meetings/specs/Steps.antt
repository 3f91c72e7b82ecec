-- What only the contracts of inner functions cite: how meetings are added to those found so far. Assumes nothing.
use Rattle.std.specs.Prelude.{◌≡◌, MatchResult, Result, List, [], ◌∷◌, ◌++◌, ℕ, ◌+◌, ◌*◌, ◌-◌, ◌/◌, length, Float}
use Rattle.lists.specs.Gather.{joined}
use Rattle.lists.specs.Regions.{put}
use Rattle.refusals.specs.declared.Refusal.{Refusal}
use Rattle.refusals.specs.Numbers.{number}
use Rattle.grid.specs.Grid.{Grid}
use Rattle.cutting.specs.Edges.{Edge}
use Rattle.lists.specs.Same.{SameList}
use Rattle.rules.specs.Meetings.{Met, segment_of, meeting_on, recorded, added_by}
use Rattle.rules.specs.Refusals.{Event, of_meeting, first_refusal}
use Rattle.meetings.specs.declared.MetLists.{MetLists}
use Rattle.meetings.specs.InNumbers.{in_numbers}

-- the meeting of the edge e, number i, with the edge f, number j; none where they are apart
abbrev pub met_of : Grid → List Float → ℕ → ℕ → ℕ → Edge → Edge → List Met
met_of g coords i j next e f = recorded i j next e f (meeting_on g (segment_of coords e) (segment_of coords f))

-- those of the edge e, number i, with the edges js, where edge j is f j and `next` is the number of the next new point
unfoldable pub met_with : Grid → List Float → ℕ → Edge → (ℕ → Edge) → ℕ → List ℕ → List Met
met_with g coords i e f next [] = []
met_with g coords i e f next (j ∷ js) =
    let x = met_of g coords i j next e (f j) in
    x ++ met_with g coords i e f (next + length (added_by x) / 2) js

pub record SameLists (l m : MetLists) : Type 0 where
  pub grid : l.grid ≡ m.grid
  pub points : SameList l.points m.points
  pub met : SameList l.met m.met

-- the first refusal among more events, with what room is left
abbrev pub refusal_in : MetLists → (q n : ℕ) → List Event → ℕ
refusal_in l q n es = first_refusal (length l.met.now / 5 - l.found.met) (length l.points.now / 2 - l.found.points) q n es

-- l has become l': the meetings ms are added
pub record Grown (ms : List Met) (l l' : MetLists) : Type 0 where
  pub met : l'.found.met ≡ l.found.met + length ms
  pub new : 2 * l'.found.points ≡ 2 * l.found.points + length (added_by ms)
  pub points : l'.points.now ≡ put l.points.now (2 * l.found.points) (added_by ms)
  pub numbers : l'.met.now ≡ put l.met.now (5 * l.found.met) (in_numbers ms)
  pub goes : (q n : ℕ) (es : List Event) → refusal_in l q n (joined of_meeting ms ++ es) ≡ refusal_in l' q n es
  pub same : SameLists l' l

-- They are, or the answer is the first refusal among them.
abbrev pub Answered : List Met → MetLists → MetLists → Result (Unit {0}) Refusal → Type 0
Answered ms l l' r = MatchResult r (λ _. Grown ms l l') (λ e. (q n : ℕ) → number e ≡ refusal_in l q n (joined of_meeting ms))
