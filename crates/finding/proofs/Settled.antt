-- What `found_of` comes to: where nothing is refused, where something is, and its number. Assumes nothing.
use mathlib.Core.Path.{◌≡◌, ap, ◌∙◌, sym}
use mathlib.Core.Bool.{Bool, cond}
use mathlib.Core.List.{List}
use Prim.Native.Nat.{ℕ, ◌/◌}
use native.Mathlib.Decide.{ℕ_discrete}
use lib.ListN.{length}
use lib.Ieee.{Float}
use borrow.Author.Tests.{eq-eqb, ne_eqb}
use Rattle.std.specs.Prelude.{Result, Ok}
use Rattle.lists.specs.Regions.{front}
use Rattle.settings.specs.declared.Settings.{Settings}
use Rattle.entry.specs.Mesh.{Mesh}
use Rattle.rules.specs.Operations.{scene_for}
use Rattle.rules.specs.Refusals.{first_refusal}
use Rattle.meetings.proofs.Settled.{code_of}
use Rattle.finding.specs.declared.stages.Found.{Found}
use Rattle.finding.specs.Found.{found_events, found_as, worked, FoundLists, refused_lists, found_of}

abbrev pub leaves : Result Found ℕ → List Float → List ℕ → FoundLists
leaves r oc w = record { answer = r; coords = oc; work = w }

module _ (o : Settings) (s c : Mesh) (oc : List Float) (w : List ℕ) where
  abbrev code : ℕ
  code = first_refusal o.m (length oc / 2) 0 0 (found_events o s c)

  abbrev all : FoundLists
  all = leaves (Ok (found_as o s c)) (front oc (scene_for o s c).coords) (worked o s c w)

  pub all_left : code ≡ 0 → found_of o s c oc w ≡ all
  unfolding found_of
  all_left z = ap (λ (t : Bool). cond t all (refused_lists code oc w)) (eq-eqb code 0 z)

  pub zeros_left : (code ≡ 0 → ⊥) → found_of o s c oc w ≡ refused_lists code oc w
  unfolding found_of
  zeros_left z = ap (λ (t : Bool). cond t all (refused_lists code oc w)) (ne_eqb code 0 z)

  pub code_left : code_of (found_of o s c oc w).answer ≡ code
  code_left = go (ℕ_discrete code 0)
    where
      go : Dec (code ≡ 0) → code_of (found_of o s c oc w).answer ≡ code
      go (yes z) = ap (λ (x : FoundLists). code_of x.answer) (all_left z) ∙ sym z
      go (no z) = ap (λ (x : FoundLists). code_of x.answer) (zeros_left z)
