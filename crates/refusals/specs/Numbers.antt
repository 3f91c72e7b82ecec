-- The refusals' numbers. Assumes nothing.
use Rattle.std.specs.Prelude.{ℕ, Result, Ok, Err}
use Rattle.refusals.specs.declared.Refusal.{Refusal}
use Rattle.refusals.specs.declared.Refusal.TheVariants.{
  Call,
  Lists,
  Coordinates,
  Kinds,
  NodeNumbers,
  NodeTwice,
  WorkingList,
  TooManyMeetings,
  CrowdedEdge,
  FullTable,
  OpenWalk,
  NoPlace,
  FineGrid,
  RepeatedEdge,
}

-- document 01's number; document 02's 13 (W6) and 19 (W14)
abbrev pub number : Refusal → ℕ
number Call = 1
number Lists = 2
number Coordinates = 3
number Kinds = 4
number NodeNumbers = 5
number NodeTwice = 6
number WorkingList = 7
number TooManyMeetings = 8
number CrowdedEdge = 9
number FullTable = 10
number OpenWalk = 11
number NoPlace = 12
number FineGrid = 13
number RepeatedEdge = 19

-- Two words for an answer: `by_number` keeps what is answered, `refused_with` is the number alone, as C has it. `numbers` of cells/specs/Cells has it among the
-- counts of a cut cell.

-- an answer with its refusal's number
abbrev pub by_number : {A : Type 0} → Result A Refusal → Result A ℕ
by_number (Ok x) = Ok x
by_number (Err r) = Err (number r)

-- the number of the refusal that a result is, or 0
abbrev pub refused_with : {X : Type 0} → Result X Refusal → ℕ
refused_with (Ok x) = 0
refused_with (Err r) = number r
