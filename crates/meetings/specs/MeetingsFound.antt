-- What finding the meetings asks, and what it leaves. Assumes nothing.
use Rattle.std.specs.Prelude.{cond, List, Result, Ok, Err, ℕ, ◌/◌, eqb, length, Float}
use Rattle.lists.specs.Gather.{joined}
use Rattle.lists.specs.Regions.{front, zeros, fzeros}
use Rattle.rules.specs.Meetings.{Met, added_by}
use Rattle.rules.specs.Refusals.{of_meeting, first_refusal}
use Rattle.meetings.specs.declared.Found.{Found}
use Rattle.meetings.specs.InNumbers.{in_numbers}

-- what finding the meetings leaves: the answer or the refusal's number, the new points and the meetings
pub record MeetingsFound : Type 0 where
  pub answer : Result Found ℕ
  pub points : List Float
  pub met : List ℕ

-- the new points and the meetings ms stand at the front of two lists, of which the second has room for as many as the limit M; or the first refusal, and zeros
unfoldable pub meetings_found : List Met → List Float → List ℕ → MeetingsFound
meetings_found ms ps w =
    let code = first_refusal (length w / 5) (length ps / 2) 0 0 (joined of_meeting ms) in
    cond (eqb code 0)
    (record {
      answer = Ok (record { met = length ms; points = length (added_by ms) / 2 });
      points = front ps (added_by ms);
      met = front w (in_numbers ms);
    })
    (record { answer = Err code; points = fzeros (length ps); met = zeros (length w) })
