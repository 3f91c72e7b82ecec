-- What the returns of `overlay` come to. Assumes nothing.
use Rattle.std.proofs.Common.{◌≡◌, sym, ◌∙◌, ℕ, List, length, true, false, Result, Ok, Err, IfOk}
use mathlib.Core.Bool.{false≢true}
use Rattle.std.specs.Result.{is_err}
use Rattle.lists.specs.Regions.{zeros}
use Rattle.refusals.specs.declared.Refusal.{Refusal}
use Rattle.refusals.specs.Numbers.{number, refused_with}
use Rattle.refusals.proofs.Numbers.{some_not_zero}
use Rattle.cutting.specs.Edition.{ours}
use Rattle.settings.specs.declared.Settings.{Settings}
use Rattle.entry.specs.Mesh.{Mesh}
use Rattle.entry.specs.Refused.{entry_of}
use Rattle.rules.specs.Overlay.{Lists, cleared, state_of, answered, overlay_of}
use Rattle.rules.proofs.Endings.{input_refused, state_refused, succeeds}
use Rattle.views.specs.declared.OutputView.{OutputView}
use Rattle.views.specs.Same.{SameLists, Cleared}
use Rattle.overlay.specs.declared.Counts.{Counts}
use Rattle.overlay.specs.Shown.{lists_of, answer_of}

-- what cleared lists hold, o, o₁ and o₂ one after the other
pub cleared_all : (o o₁ o₂ : OutputView) (w w₁ w₂ : List ℕ) → SameLists o₁ o → Cleared o₁ o₂ → w₂ ≡ zeros (length w₁) → length w₁ ≡ length w
    → lists_of o₂ w₂ ≡ cleared (lists_of o w)
unfolding cleared
cleared_all o o₁ o₂ w w₁ w₂ same gone work long =
    rw (
      gone.coords,
      gone.layers,
      gone.nodes,
      gone.ends,
      gone.kinds,
      gone.families,
      gone.meshes,
      gone.cells,
      work,
      same.coords.long,
      same.layers.long,
      same.nodes.long,
      same.ends.long,
      same.kinds.long,
      same.families.long,
      same.meshes.long,
      same.cells.long,
      long,
    )

module _ (o : Settings) (s c : Mesh) (l : Lists) where
  -- refused at the entry: every list is as it was
  pub at_entry : (r : Refusal) → number r ≡ entry_of o s c (length l.work) → answer_of (Err r) l ≡ overlay_of o s c l
  at_entry r e = rw e (sym (input_refused ours o s c l (λ z. some_not_zero r (e ∙ z))))

  module _ (entered : 0 ≡ entry_of o s c (length l.work)) (l₁ : Lists) where
    -- refused by a stage: the lists are zero
    pub at_stage : (r : Result Counts Refusal) → refused_with r ≡ state_of o s c l → is_err r ≡ true → l₁ ≡ cleared l → answer_of r l₁ ≡ overlay_of o s c l
    at_stage (Err r) e h z = rw (z, e) (sym (state_refused ours o s c l (sym entered) (λ y. some_not_zero r (e ∙ y))))
    at_stage (Ok k) e h z = absurd (false≢true h)

    -- success
    pub done : (r : Result Counts Refusal) → refused_with r ≡ state_of o s c l → is_err r ≡ false → IfOk r (λ k. answer_of (Ok k) l₁ ≡ answered o s c l)
        → answer_of r l₁ ≡ overlay_of o s c l
    done (Ok k) e h a = a ∙ sym (succeeds ours o s c l (sym entered) (sym e))
    done (Err r) e h a = absurd (false≢true (sym h))
