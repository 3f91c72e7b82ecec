-- The events before the cells, over plain variables: k lent points, the meetings' events js, and 9 where t. Assumes nothing.
use mathlib.Core.Path.{◌≡◌, refl, sym, ap, ◌∙◌}
use mathlib.Core.Bool.{Bool, true, false, cond}
use mathlib.Core.List.{List, [], ◌∷◌, ◌++◌, append_assoc}
use Prim.Native.Nat.{ℕ, zero, suc, ◌-◌, ◌/◌, ◌≤◌, ◌<◌}
use native.Mathlib.Omega.{arith}
use native.Mathlib.Decide.{dec_le}
use lib.ListN.{length, replicate}
use Rattle.lists.specs.Gather.{joined}
use Rattle.rules.specs.Meetings.{Met}
use Rattle.rules.specs.Refusals.{Event, meeting, point, piece, stop, of_meeting, first_refusal}
use Rattle.meetings.proofs.Early.{Early}
use Rattle.rules.proofs.Course.{refused_first, points_fit, points_over}

pub early_nine : (t : Bool) → Early (cond t (stop 9 ∷ []) [])
early_nine true = (λ e. absurd (omega (arith, e)), tt)
early_nine false = tt

-- where they aren't refused, pieces and node entries keep their room
pub passes : (es : List Event) (m p q n : ℕ) → Early es → first_refusal m p q n es ≡ 0
    → (m' : ℕ) × (p' : ℕ) × ((fs : List Event) → first_refusal m p q n (es ++ fs) ≡ first_refusal m' p' q n fs)
unfolding first_refusal
passes [] m p q n a e = (m, p, λ fs. refl)
passes (meeting ∷ es) zero p q n a e = absurd (omega (arith, e))
passes (meeting ∷ es) (suc m) p q n a e = passes es m p q n a e
passes (point ∷ es) m zero q n a e = absurd (omega (arith, e))
passes (point ∷ es) m (suc p) q n a e = passes es m p q n a e
passes (piece k ∷ es) m p q n a e = absurd a
passes (stop r ∷ es) m p q n a e = absurd (a.0 e)

nine : (t : Bool) (m p q n : ℕ) → first_refusal m p q n (cond t (stop 9 ∷ []) []) ≡ cond t 9 0
unfolding first_refusal
nine true m p q n = refl
nine false m p q n = refl

-- where all is passed, so is a first part, and there is no 9 behind it
pub first_passes : (es fs : List Event) (m p q n : ℕ) → first_refusal m p q n (es ++ fs) ≡ 0 → first_refusal m p q n es ≡ 0
first_passes es fs m p q n e = go (first_refusal m p q n es) refl
  where
    go : (r : ℕ) → first_refusal m p q n es ≡ r → first_refusal m p q n es ≡ 0
    go zero h = h
    go (suc r) h = absurd (omega (arith, sym (refused_first es fs m p q n r h) ∙ e))

pub no_nine : (es : List Event) (t : Bool) (m p q n : ℕ) → Early es → first_refusal m p q n (es ++ cond t (stop 9 ∷ []) []) ≡ 0 → t ≡ false
no_nine es t m p q n a e =
    let r = passes es m p q n a (first_passes es (cond t (stop 9 ∷ []) []) m p q n e) in
    go t (sym (nine t r.0 r.1 q n) ∙ sym (r.2 (cond t (stop 9 ∷ []) [])) ∙ e)
  where
    go : (u : Bool) → (let r : ℕ = cond u 9 0 in r ≡ 0) → u ≡ false
    go true h = absurd (omega (arith, h))
    go false h = refl

-- meetings that aren't refused are no more than m
pub few_met : (ms : List Met) (m p q n : ℕ) → first_refusal m p q n (joined of_meeting ms) ≡ 0 → length ms ≤ m
unfolding first_refusal joined
few_met [] m p q n e = omega arith
few_met (x ∷ ms) zero p q n e = absurd (omega (arith, e))
few_met (x ∷ ms) (suc m) p q n e = go (dec_le j p) (λ h f. few_met ms m (p - j) q n (sym (points_fit j (joined of_meeting ms) m p q n h) ∙ f)) e
  where
    j : ℕ
    j = length x.point / 2

    go : Dec (j ≤ p) → (j ≤ p → first_refusal m p q n (replicate j point ++ joined of_meeting ms) ≡ 0 → length ms ≤ m)
        → first_refusal m p q n (replicate j point ++ joined of_meeting ms) ≡ 0 → length (x ∷ ms) ≤ suc m
    go (yes h) ih f = omega (arith, ih h f)
    go (no h) ih f = absurd (omega (arith, sym (points_over j (joined of_meeting ms) m p q n (omega (arith, h))) ∙ f))

module _ (k m p : ℕ) (js : List Event) (t : Bool) where
  abbrev last : List Event
  last = cond t (stop 9 ∷ []) []

  abbrev pub events : List Event
  events = replicate k point ++ js ++ last

  regroup : events ≡ replicate k point ++ (js ++ last)
  regroup = append_assoc (replicate k point) js last

  pub no_place : p < k → (q n : ℕ) → 12 ≡ first_refusal m p q n events
  no_place h q n = sym (ap (first_refusal m p q n) regroup ∙ points_over k (js ++ last) m p q n h)

  module _ (h : k ≤ p) where
    placed : (q n : ℕ) → first_refusal m p q n events ≡ first_refusal m (p - k) q n (js ++ last)
    placed q n = ap (first_refusal m p q n) regroup ∙ points_fit k (js ++ last) m p q n h

    pub met_refused : (code : ℕ) → (code ≡ 0 → ⊥) → (q n : ℕ) → code ≡ first_refusal m (p - k) q n js → code ≡ first_refusal m p q n events
    met_refused zero z q n e = absurd (z refl)
    met_refused (suc code) z q n e = sym (placed q n ∙ refused_first js last m (p - k) q n code (sym e))

    pub met_all : Early js → (q n : ℕ) → 0 ≡ first_refusal m (p - k) q n js → cond t 9 0 ≡ first_refusal m p q n events
    met_all a q n e =
        let r = passes js m (p - k) q n a (sym e) in
        sym (placed q n ∙ r.2 last ∙ nine t r.0 r.1 q n)
