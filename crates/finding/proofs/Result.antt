-- What the stages behind `find` cite, for meshes with their kinds and families: where it refuses nothing, what its answer is and what the lists hold. Assumes
-- nothing.
use mathlib.Core.Path.{◌≡◌, refl, sym, ap, ◌∙◌}
use mathlib.Core.Bool.{false, cond}
use mathlib.Core.List.{List, [], ◌∷◌, ◌++◌}
use Prim.Native.Nat.{ℕ, ◌-◌, ◌/◌, ◌≤◌}
use native.Mathlib.Omega.{arith}
use native.Mathlib.Decide.{dec_le}
use lib.ListN.{length, replicate}
use lib.Ieee.{Float}
use Rattle.std.specs.Prelude.{Result, Ok, Err}
use Rattle.lists.specs.Gather.{joined}
use Rattle.lists.specs.Regions.{front, zeros, fzeros}
use Rattle.settings.specs.declared.Settings.{Settings}
use Rattle.entry.specs.Mesh.{Mesh}
use Rattle.refusals.specs.declared.Refusal.{Refusal}
use Rattle.refusals.specs.Numbers.{by_number, refused_with}
use Rattle.rules.specs.Meetings.{Scene}
use Rattle.rules.specs.Nodes.{crowded}
use Rattle.rules.specs.Operations.{scene_for}
use Rattle.rules.specs.Refusals.{point, stop, of_meeting, first_refusal}
use Rattle.rules.proofs.Course.{points_fit, points_over}
use Rattle.regions.specs.Runs.{Lies}
use Rattle.meetings.proofs.Early.{early_append, early_points, early_met}
use Rattle.meetings.proofs.Settled.{code_of, found_in}
use Rattle.finding.specs.declared.stages.Found.{Found}
use Rattle.finding.specs.Nets.{NetRoom, FindAsks}
use Rattle.finding.specs.Found.{found_events, found_as, worked, FoundLists, refused_lists, found_of}
use Rattle.finding.proofs.Passed.{bare}
use Rattle.finding.proofs.Held.{Holds, Low, length_worked, regions_lie, regions_low, worked_holds}
use Rattle.finding.proofs.Events.{first_passes, no_nine, few_met}
use Rattle.finding.proofs.Scenes.{met_bare, coords_bare, events_bare, found_bare, worked_bare, holds_bare, low_bare, found_any_room}
use Rattle.finding.proofs.Settled.{leaves, all_left, zeros_left, code_left}

-- the refusal's number is that of the answer by numbers
pub number_of : (r : Result Found Refusal) → refused_with r ≡ code_of (by_number r)
number_of (Ok f) = refl
number_of (Err e) = refl

module _ (o : Settings) (s c : Mesh) where
  abbrev scene : Scene
  scene = scene_for o s c

  abbrev points : ℕ
  points = length (s.coords ++ c.coords) / 2

  module _ (p q n : ℕ) (passed : first_refusal o.m p q n (found_events o s c) ≡ 0) where
    -- no edge has too many nodes
    pub not_crowded : crowded scene ≡ false
    unfolding found_events
    not_crowded =
        no_nine (replicate points point ++ joined of_meeting scene.met) (crowded scene) o.m p q n
        (early_append (replicate points point) (joined of_meeting scene.met) (early_points points) (early_met scene.met)) passed

    pub met_few : length scene.met ≤ o.m
    unfolding found_events
    met_few =
        let first = first_passes (replicate points point ++ joined of_meeting scene.met) (cond (crowded scene) (stop 9 ∷ []) []) o.m p q n passed in
        go (dec_le points p) first
      where
        go : Dec (points ≤ p) → first_refusal o.m p q n (replicate points point ++ joined of_meeting scene.met) ≡ 0 → length scene.met ≤ o.m
        go (yes h) e = few_met scene.met o.m (p - points) q n (sym (points_fit points (joined of_meeting scene.met) o.m p q n h) ∙ e)
        go (no h) e = absurd (omega (arith, sym (points_over points (joined of_meeting scene.met) o.m p q n (omega (arith, h))) ∙ e))

    -- what stands in the working list
    module _ (w₀ : List ℕ) (ok : FindAsks o (bare s) (bare c) (length w₀)) where
      room₀ : NetRoom 0 (bare s) (bare c) (length w₀)
      room₀ = omega (arith, ok.room)

      few : length (scene_for o (bare s) (bare c)).met ≤ o.m
      few = omega (arith, ap length (met_bare o s c), met_few)

      -- the regions have their places
      pub found_lies : Lies (found_as o s c).regions (length w₀)
      found_lies =
          rw (found_bare o s c) at
          (regions_lie o (bare s) (bare c) ok.subject ok.cutter w₀ room₀ ok.room few)

      pub worked_long : length (worked o s c w₀) ≡ length w₀
      worked_long =
          rw (worked_bare o s c w₀) at
          (length_worked o (bare s) (bare c) ok.subject ok.cutter w₀ room₀ ok.room few)

      pub found_low : Low o s c (found_as o s c).regions
      found_low =
          rw (found_bare o s c) at
          (low_bare o s c _ (regions_low o (bare s) (bare c) ok.subject ok.cutter w₀ room₀ ok.room few))

      -- and hold both nets, the meetings and their links
      pub found_holds : Holds o s c (found_as o s c).regions (worked o s c w₀)
      found_holds =
          rw (found_bare o s c, worked_bare o s c w₀) at
          (holds_bare o s c _ _
          (worked_holds o (bare s) (bare c) ok.subject ok.cutter w₀ room₀ ok.room few ok.most))

  -- the contract of `find`, for the meshes without kinds and families as it has them
  module _ (w₀ : List ℕ) (ok : FindAsks o (bare s) (bare c) (length w₀)) (oc oc' : List Float) (w' : List ℕ) (r : Result Found Refusal)
      (told : leaves (by_number r) oc' w' ≡ found_of o (bare s) (bare c) oc w₀) where
    code_bare : refused_with r ≡ first_refusal o.m (length oc / 2) 0 0 (found_events o (bare s) (bare c))
    code_bare = number_of r ∙ ap (λ (x : FoundLists). code_of x.answer) told ∙ code_left o (bare s) (bare c) oc w₀

    pub code_is : (q n : ℕ) → refused_with r ≡ first_refusal o.m (length oc / 2) q n (found_events o s c)
    code_is q n = code_bare ∙ ap (first_refusal o.m (length oc / 2) 0 0) (events_bare o s c) ∙ sym (found_any_room o s c o.m (length oc / 2) q n)

    -- a refusal
    module _ (z : refused_with r ≡ 0 → ⊥) where
      zeroed : leaves (by_number r) oc' w' ≡ refused_lists (refused_with r) oc w₀
      zeroed = told ∙ zeros_left o (bare s) (bare c) oc w₀ (λ y. z (code_bare ∙ y)) ∙ ap (λ (k : ℕ). refused_lists k oc w₀) (sym code_bare)

      pub refused_is : by_number r ≡ Err (refused_with r)
      refused_is = ap (λ (x : FoundLists). x.answer) zeroed

      pub coords_zero : oc' ≡ fzeros (length oc)
      coords_zero = ap (λ (x : FoundLists). x.coords) zeroed

      pub work_zero : w' ≡ zeros (length w₀)
      work_zero = ap (λ (x : FoundLists). x.work) zeroed

    -- none
    module _ (f : Found) (is : r ≡ Ok f) where
      all : leaves (by_number r) oc' w' ≡ leaves (Ok (found_as o (bare s) (bare c))) (front oc (scene_for o (bare s) (bare c)).coords) (worked o (bare s) (bare c) w₀)
      all = told ∙ all_left o (bare s) (bare c) oc w₀ (sym code_bare ∙ ap refused_with is)

      pub answer_is : f ≡ found_as o s c
      answer_is = ap (found_in f) (sym (ap by_number is) ∙ ap (λ (x : FoundLists). x.answer) all) ∙ found_bare o s c

      pub coords_are : oc' ≡ front oc scene.coords
      coords_are = ap (λ (x : FoundLists). x.coords) all ∙ ap (front oc) (coords_bare o s c)

      pub work_is : w' ≡ worked o s c w₀
      work_is = ap (λ (x : FoundLists). x.work) all ∙ worked_bare o s c w₀

      none : first_refusal o.m (length oc / 2) 0 0 (found_events o s c) ≡ 0
      none = sym (code_is 0 0) ∙ ap refused_with is

      pub calm : crowded scene ≡ false
      calm = not_crowded (length oc / 2) 0 0 none

      -- what the regions of the answer hold, and that they have their places
      pub holds : Holds o s c f.regions w'
      holds = rw (answer_is, work_is) (found_holds (length oc / 2) 0 0 none w₀ ok)

      pub low : Low o s c f.regions
      low = rw answer_is (found_low (length oc / 2) 0 0 none w₀ ok)
