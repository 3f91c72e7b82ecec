-- The three ways in which an overlay ends: refused because of the input, refused because of the state, answered. Assumes nothing.
use mathlib.Core.Path.{◌≡◌, refl}
use mathlib.Core.Bool.{Bool, true, false, cond}
use Prim.Native.Nat.{ℕ}
use lib.Dec.{eqb}
use lib.ListN.{length}
use borrow.Author.Tests.{eqb-true, eqb-false, eq-eqb, ne_eqb}
use Rattle.cutting.specs.Edition.{Edition}
use Rattle.settings.specs.declared.Settings.{Settings}
use Rattle.entry.specs.Mesh.{Mesh}
use Rattle.entry.specs.Refused.{entry_of}
use Rattle.rules.specs.Overlay.{Lists, Result, result_of, cleared, answered_with, state_with, seen_by, mesh_seen, lists_seen, overlay_with}

-- what an overlay comes to, by the refusals of its input and of its state, and by its answer
abbrev pub told : Lists → ℕ → ℕ → Result → Result
told l entry state answer = cond (eqb entry 0) (cond (eqb state 0) answer (result_of state 0 0 0 0 (cleared l))) (result_of entry 0 0 0 0 l)

-- by the settings, the meshes and the lists as the edition sees them
module _ (v : Edition) (settings : Settings) (subject cutter : Mesh) (lists : Lists) where
  abbrev o : Settings
  o = seen_by v settings

  abbrev s : Mesh
  s = mesh_seen v subject

  abbrev c : Mesh
  c = mesh_seen v cutter

  abbrev l : Lists
  l = lists_seen v lists

  abbrev entry : ℕ
  entry = entry_of o s c (length l.work)

  abbrev state : ℕ
  state = state_with v o s c l

  -- by the two tests
  abbrev end : Bool → Bool → Result
  end x y = cond x (cond y (answered_with v o s c l) (result_of state 0 0 0 0 (cleared l))) (result_of entry 0 0 0 0 l)

  -- which the overlay is: each of its ways by itself
  decided : (x y : Bool) → eqb entry 0 ≡ x → eqb state 0 ≡ y → overlay_with v settings subject cutter lists ≡ end x y
  unfolding overlay_with
  decided false y e f = rw e refl
  decided true true e f = rw (e, f) refl
  decided true false e f = rw (e, f) refl

  -- so it is what the refusals and the answer make of it
  pub overlay_told : overlay_with v settings subject cutter lists ≡ told l (entry_of o s c (length l.work)) (state_with v o s c l) (answered_with v o s c l)
  overlay_told = decided (eqb entry 0) (eqb state 0) refl refl

  pub input_refused : (entry_of o s c (length l.work) ≡ 0 → ⊥) → overlay_with v settings subject cutter lists ≡ result_of (entry_of o s c (length l.work)) 0 0 0 0 l
  input_refused n = decided false (eqb state 0) (ne_eqb entry 0 n) refl

  pub state_refused : entry_of o s c (length l.work) ≡ 0 → (state_with v o s c l ≡ 0 → ⊥) → overlay_with v settings subject cutter lists ≡ result_of (state_with v o s c l) 0 0 0 0 (cleared l)
  state_refused e n = decided true false (eq-eqb entry 0 e) (ne_eqb state 0 n)

  pub succeeds : entry_of o s c (length l.work) ≡ 0 → state_with v o s c l ≡ 0 → overlay_with v settings subject cutter lists ≡ answered_with v o s c l
  succeeds e f = decided true true (eq-eqb entry 0 e) (eq-eqb state 0 f)

  -- so what is answered has the code 0
  pub no_refusal : (answered_with v o s c l).code ≡ 0
  unfolding answered_with
  no_refusal = refl

  pub data Ending : Type 0 where
    input : (entry_of o s c (length l.work) ≡ 0 → ⊥) → Ending
    state_met : entry_of o s c (length l.work) ≡ 0 → (state_with v o s c l ≡ 0 → ⊥) → Ending
    success : entry_of o s c (length l.work) ≡ 0 → state_with v o s c l ≡ 0 → Ending

  pub ending : Ending
  ending = go (eqb entry 0) (eqb state 0) refl refl
    where
      go : (x y : Bool) → eqb entry 0 ≡ x → eqb state 0 ≡ y → Ending
      go true true e f = success (eqb-true entry 0 e) (eqb-true state 0 f)
      go true false e f = state_met (eqb-true entry 0 e) (eqb-false state 0 f)
      go false y e f = input (eqb-false entry 0 e)
