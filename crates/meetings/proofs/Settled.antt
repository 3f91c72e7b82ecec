-- What `meetings_found` comes to: where nothing is refused, where something is, and its number. Assumes nothing.
use mathlib.Core.Path.{◌≡◌, ap, ◌∙◌, sym}
use mathlib.Core.Bool.{Bool, cond}
use mathlib.Core.List.{List}
use Prim.Native.Nat.{ℕ, ◌/◌}
use native.Mathlib.Decide.{ℕ_discrete}
use lib.ListN.{length}
use lib.Ieee.{Float}
use borrow.Author.Tests.{eq-eqb, ne_eqb}
use Rattle.std.specs.Prelude.{Result, Ok, Err}
use Rattle.lists.specs.Gather.{joined}
use Rattle.lists.specs.Regions.{front, zeros, fzeros}
use Rattle.rules.specs.Meetings.{Met, added_by}
use Rattle.rules.specs.Refusals.{of_meeting, first_refusal}
use Rattle.meetings.specs.declared.Found.{Found}
use Rattle.meetings.specs.InNumbers.{in_numbers}
use Rattle.meetings.specs.MeetingsFound.{MeetingsFound, meetings_found}

abbrev pub leaves : Result Found ℕ → List Float → List ℕ → MeetingsFound
leaves r ps w = record { answer = r; points = ps; met = w }

-- the refusal's number, or 0
abbrev pub code_of : {A : Type 0} → Result A ℕ → ℕ
code_of (Ok x) = 0
code_of (Err k) = k

-- what an answer has found, or else x
abbrev pub found_in : {A : Type 0} → A → Result A ℕ → A
found_in x (Ok y) = y
found_in x (Err k) = x

module _ (met : List Met) (ps : List Float) (w : List ℕ) where
  abbrev code : ℕ
  code = first_refusal (length w / 5) (length ps / 2) 0 0 (joined of_meeting met)

  abbrev all : MeetingsFound
  all = leaves (Ok (record { met = length met; points = length (added_by met) / 2 })) (front ps (added_by met)) (front w (in_numbers met))

  abbrev cleared : MeetingsFound
  cleared = leaves (Err code) (fzeros (length ps)) (zeros (length w))

  pub all_left : code ≡ 0 → meetings_found met ps w ≡ all
  unfolding meetings_found
  all_left z = ap (λ (t : Bool). cond t all cleared) (eq-eqb code 0 z)

  pub zeros_left : (code ≡ 0 → ⊥) → meetings_found met ps w ≡ cleared
  unfolding meetings_found
  zeros_left z = ap (λ (t : Bool). cond t all cleared) (ne_eqb code 0 z)

  pub code_left : code_of (meetings_found met ps w).answer ≡ code
  code_left = go (ℕ_discrete code 0)
    where
      go : Dec (code ≡ 0) → code_of (meetings_found met ps w).answer ≡ code
      go (yes z) = ap (λ (x : MeetingsFound). code_of x.answer) (all_left z) ∙ sym z
      go (no z) = ap (λ (x : MeetingsFound). code_of x.answer) (zeros_left z)
