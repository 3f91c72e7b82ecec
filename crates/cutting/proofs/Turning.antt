-- A walk that ends without turning back is the same where it may turn back, and so is the outcome of its cell. Assumes nothing.
use mathlib.Core.Path.{◌≡◌, refl, sym, ap, ◌∙◌, subst}
use mathlib.Core.Logic.{◌⊎◌, inl, inr}
use mathlib.Core.Bool.{Bool, true, false, cond, not, ◌&&◌}
use mathlib.Core.List.{List}
use Prim.Native.Nat.{ℕ, zero, suc, ◌+◌, ◌<◌}
use native.Mathlib.Omega.{arith}
use lib.Dec.{ltb}
use lib.ListN.{length, get_or, set}
use Rattle.lists.specs.Search.{first}
use Rattle.cutting.specs.Edges.{Edge}
use Rattle.cutting.specs.Cell.{repeats, doubled}
use Rattle.cutting.specs.declared.Slot.{Slot}
use Rattle.cutting.specs.Walk.{State, Next, more, closed, stuck, broken, or_else, open_at, next_open, step, walk_steps, walk_from, walk_with}
use Rattle.cutting.proofs.Ways.{reverse_of, Way, ends, missing, passes, begins, lost, closes, goes, stops, way, way_step, go_on}
use Rattle.cutting.specs.Outcome.{Outcome, refusal, of_walk, after_walk, too_many, cut_outcome_with}

-- the second is the first, unless the first has no way on
abbrev pub Agrees : Next → Next → Type 0
Agrees (more s) v = v ≡ more s
Agrees (closed ps) v = v ≡ closed ps
Agrees stuck v = Unit {0}
Agrees broken v = v ≡ broken

-- a slot found without turning back is found
pub next_open_same : (n : ℕ) (src : List ℕ) (marks : List Bool) (a r : ℕ) → next_open false n src marks a r < n → next_open true n src marks a r ≡ next_open false n src marks a r
unfolding next_open
next_open_same n src marks a r l = late (ltb (first test (r + 1) n) n) l
  where
    test : ℕ → Bool
    test = open_at src marks a

    last : ℕ
    last = or_else (not (get_or marks r false)) r n

    early : (t : Bool) → or_else t (first test 0 r) n < n → or_else t (first test 0 r) last ≡ or_else t (first test 0 r) n
    early true l = refl
    early false l = absurd (omega arith)

    late : (t : Bool) → or_else t (first test (r + 1) n) (or_else (ltb (first test 0 r) r) (first test 0 r) n) < n
        → or_else t (first test (r + 1) n) (or_else (ltb (first test 0 r) r) (first test 0 r) last) ≡ or_else t (first test (r + 1) n)
        (or_else (ltb (first test 0 r) r) (first test 0 r) n)
    late true l = refl
    late false l = early (ltb (first test 0 r) r) l

module _ (n : ℕ) (src dst : List ℕ) where
  step_agrees : {s : State} {t : Next} → Way false n src dst s t → Agrees t (step true n src dst s)
  step_agrees ends = way_step true n src dst ends
  step_agrees (missing h) = way_step true n src dst (missing h)
  step_agrees (passes i< e) = way_step true n src dst (passes i< e)
  step_agrees (begins i< e) = way_step true n src dst (begins i< e)
  step_agrees (lost h) = way_step true n src dst (lost h)
  step_agrees (closes r< back) = way_step true n src dst (closes r< back)
  step_agrees (goes {marks = marks} {i = i} r< apart {j = j} found j<) =
      let same = next_open_same n src (set marks i true) (get_or dst i 0) (reverse_of n src dst i) (subst (λ (x : ℕ). x < n) found j<) in
      way_step true n src dst (goes r< apart (found ∙ sym same) j<)
  step_agrees (stops r< apart none) = tt

  next_agrees : (k : ℕ) → ((u : State) → Agrees (walk_steps false n src dst k u) (walk_steps true n src dst k u)) → (t v : Next) → Agrees t v
      → Agrees (go_on false n src dst k t) (go_on true n src dst k v)
  next_agrees k again (more u) v e = subst (λ (x : Next). Agrees (walk_steps false n src dst k u) (go_on true n src dst k x)) (sym e) (again u)
  next_agrees k again (closed ps) v e = ap (go_on true n src dst k) e
  next_agrees k again stuck v e = tt
  next_agrees k again broken v e = ap (go_on true n src dst k) e

  steps_agree : (k : ℕ) (s : State) → Agrees (walk_steps false n src dst k s) (walk_steps true n src dst k s)
  unfolding walk_steps
  steps_agree zero s = refl
  steps_agree (suc k) s = next_agrees k (λ u. steps_agree k u) (step false n src dst s) (step true n src dst s) (step_agrees (way false n src dst s))

module _ (outline : List Edge) (t : List Slot) where
  walk_agrees : Agrees (walk_with false outline t) (walk_with true outline t)
  unfolding walk_with walk_from
  walk_agrees = steps_agree _ _ _ _ _

  -- A cell that isn't refused 11 without a turn back comes to the same with it.
  pub outcome_turned : (once grids layers : Bool)
      → let by : Bool → Outcome = λ turning. cut_outcome_with (record { turning = turning; once = once; grids = grids; layers = layers }) outline t in
      (by false ≡ refusal 11) ⊎ (by true ≡ by false)
  unfolding cut_outcome_with
  outcome_turned once grids layers = go (once && repeats outline) (too_many (length t)) (walk_with false outline t) (walk_with true outline t) walk_agrees
    where
      by : Bool → Bool → Next → Outcome
      by x b u = cond x (refusal 19) (cond b (refusal 10) (after_walk outline (not once && doubled t) (of_walk u)))

      go : (x b : Bool) (u v : Next) → Agrees u v → (by x b u ≡ refusal 11) ⊎ (by x b v ≡ by x b u)
      go true b u v h = inr refl
      go false true u v h = inr refl
      go false false (closed qs) v h = inr (ap (by false false) h)
      go false false stuck v h = inl refl
      go false false broken v h = inr (ap (by false false) h)
      go false false (more s) v h = inr (ap (by false false) h)
