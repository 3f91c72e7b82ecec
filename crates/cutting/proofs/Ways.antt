-- The ways of a step: what it leads to, by the tests that it passes. Each proof about walks goes by these. Assumes nothing.
use mathlib.Core.Path.{◌≡◌, refl, sym, ap, subst}
use mathlib.Core.Bool.{Bool, true, false}
use mathlib.Core.List.{List, [], ◌∷◌, ◌++◌}
use Prim.Native.Nat.{ℕ, zero, suc, ◌≤◌, ◌<◌}
use lib.Dec.{eqb, ltb}
use lib.ListN.{get_or, set}
use borrow.Author.Tests.{ltb-true, ltb-false, lt-ltb, le-ltb, eqb-true, eqb-false, eq-eqb, ne_eqb}
use Rattle.cutting.specs.Walk.{Phase, resting, on_slot, State, state, Next, more, closed, stuck, broken, slot, next_open, begin, rest, onward, arrive, follow, step, walk_steps}

-- the slot that leads back along the slot i
abbrev pub reverse_of : ℕ → List ℕ → List ℕ → ℕ → ℕ
reverse_of n src dst i = slot n src dst (get_or dst i 0) (get_or src i 0)

pub data Way (turning : Bool) (n : ℕ) (src dst : List ℕ) : State → Next → Type 0 where
  -- between two pieces: the heap is empty, or its end is no slot, a marked one, an unmarked one
  ends : {marks : List Bool} {done : List (List ℕ)} → Way turning n src dst (state marks [] done resting) (closed done)
  missing : {marks : List Bool} {heap : List ℕ} {done : List (List ℕ)} {i : ℕ} → n ≤ i → Way turning n src dst (state marks (i ∷ heap) done resting) broken
  passes : {marks : List Bool} {heap : List ℕ} {done : List (List ℕ)} {i : ℕ} → i < n → get_or marks i false ≡ true
      → Way turning n src dst (state marks (i ∷ heap) done resting) (more (state marks heap done resting))
  begins : {marks : List Bool} {heap : List ℕ} {done : List (List ℕ)} {i : ℕ} → i < n → get_or marks i false ≡ false
      → Way turning n src dst (state marks (i ∷ heap) done resting) (more (state marks heap done (on_slot (get_or src i 0) [] i)))
  -- on a slot: it has no reverse, or the piece closes, goes on, can't go on
  lost : {marks : List Bool} {heap : List ℕ} {done : List (List ℕ)} {start i : ℕ} {mid : List ℕ} → n ≤ reverse_of n src dst i
      → Way turning n src dst (state marks heap done (on_slot start mid i)) broken
  closes : {marks : List Bool} {heap : List ℕ} {done : List (List ℕ)} {start i : ℕ} {mid : List ℕ} → reverse_of n src dst i < n → get_or dst i 0 ≡ start
      → Way turning n src dst (state marks heap done (on_slot start mid i))
      (more (state (set marks i true) (reverse_of n src dst i ∷ heap) (done ++ (start ∷ mid) ∷ []) resting))
  goes : {marks : List Bool} {heap : List ℕ} {done : List (List ℕ)} {start i : ℕ} {mid : List ℕ} → reverse_of n src dst i < n → (get_or dst i 0 ≡ start → ⊥) → {j : ℕ}
      → j ≡ next_open turning n src (set marks i true) (get_or dst i 0) (reverse_of n src dst i) → j < n
      → Way turning n src dst (state marks heap done (on_slot start mid i))
      (more (state (set marks i true) (reverse_of n src dst i ∷ heap) done (on_slot start (mid ++ get_or dst i 0 ∷ []) j)))
  stops : {marks : List Bool} {heap : List ℕ} {done : List (List ℕ)} {start i : ℕ} {mid : List ℕ} → reverse_of n src dst i < n → (get_or dst i 0 ≡ start → ⊥)
      → n ≤ next_open turning n src (set marks i true) (get_or dst i 0) (reverse_of n src dst i)
      → Way turning n src dst (state marks heap done (on_slot start mid i)) stuck

module _ (turning : Bool) (n : ℕ) (src dst : List ℕ) where
  -- a step goes one of these ways
  pub way : (s : State) → Way turning n src dst s (step turning n src dst s)
  unfolding step rest begin follow arrive onward
  way s = by s.phase s.marks s.heap s.done
    where
      off : (marks : List Bool) (heap : List ℕ) (done : List (List ℕ)) (i : ℕ) → Way turning n src dst (state marks (i ∷ heap) done resting)
          (begin turning n src dst (state marks heap done resting) i)
      off marks heap done i = pick (ltb i n) refl (get_or marks i false) refl
        where
          pick : (t : Bool) → ltb i n ≡ t → (u : Bool) → get_or marks i false ≡ u
              → let from : Phase = elim u [ true ↦ resting | false ↦ on_slot (get_or src i 0) [] i ] in
              let to : Next = elim t [ true ↦ more (state marks heap done from) | false ↦ broken ] in
              Way turning n src dst (state marks (i ∷ heap) done resting) to
          pick true e true f = passes (ltb-true i n e) f
          pick true e false f = begins (ltb-true i n e) f
          pick false e u f = missing (ltb-false i n e)

      along : (marks : List Bool) (heap : List ℕ) (done : List (List ℕ)) (start : ℕ) (mid : List ℕ) (i : ℕ)
          → let s = state marks heap done (on_slot start mid i) in Way turning n src dst s (follow turning n src dst s start mid i)
      along marks heap done start mid i = pick (ltb r n) refl (eqb y start) refl (ltb j n) refl
        where
          y : ℕ
          y = get_or dst i 0

          r : ℕ
          r = reverse_of n src dst i

          j : ℕ
          j = next_open turning n src (set marks i true) y r

          pick : (t : Bool) → ltb r n ≡ t → (u : Bool) → eqb y start ≡ u → (v : Bool) → ltb j n ≡ v
              → let to : Next = elim t [
                | true ↦ elim u [
                  | true ↦ more (state (set marks i true) (r ∷ heap) (done ++ (start ∷ mid) ∷ []) resting)
                  | false ↦ elim v [ true ↦ more (state (set marks i true) (r ∷ heap) done (on_slot start (mid ++ y ∷ []) j)) | false ↦ stuck ]
                ]
                | false ↦ broken
              ] in
              Way turning n src dst (state marks heap done (on_slot start mid i)) to
          pick true e true f v g = closes (ltb-true r n e) (eqb-true y start f)
          pick true e false f true g = goes (ltb-true r n e) (eqb-false y start f) refl (ltb-true j n g)
          pick true e false f false g = stops (ltb-true r n e) (eqb-false y start f) (ltb-false j n g)
          pick false e u f v g = lost (ltb-false r n e)

      by : (phase : Phase) (marks : List Bool) (heap : List ℕ) (done : List (List ℕ))
          → Way turning n src dst (state marks heap done phase)
          (step turning n src dst (state marks heap done phase))
      by resting marks [] done = ends
      by resting marks (i ∷ heap) done = off marks heap done i
      by (on_slot start mid i) marks heap done = along marks heap done start mid i

  -- and where these tests pass, it goes that way
  pub way_step : {s : State} {t : Next} → Way turning n src dst s t → step turning n src dst s ≡ t
  unfolding step rest begin follow arrive onward
  way_step ends = refl
  way_step (missing {i = i} h) = rw (le-ltb i n h, rest, begin)
  way_step (passes {marks = marks} {i = i} h e) = rw (lt-ltb i n h, e, rest, begin)
  way_step (begins {marks = marks} {i = i} h e) = rw (lt-ltb i n h, e, rest, begin)
  way_step (lost {i = i} h) = rw (le-ltb (reverse_of n src dst i) n h, follow)
  way_step (closes {start = start} {i = i} h e) = rw (lt-ltb (reverse_of n src dst i) n h, eq-eqb (get_or dst i 0) start e, follow, arrive)
  way_step (goes {marks = marks} {heap = heap} {done = done} {start = start} {i = i} {mid = mid} h e {j = j} f l) =
      let y = get_or dst i 0 in
      let r = reverse_of n src dst i in
      let j' = next_open turning n src (set marks i true) y r in
      rw (lt-ltb r n h, ne_eqb y start e, lt-ltb j' n (subst (λ (x : ℕ). x < n) f l), follow, arrive, onward)
      (ap (λ (x : ℕ). more (state (set marks i true) (r ∷ heap) done (on_slot start (mid ++ y ∷ []) x))) (sym f))
  way_step (stops {marks = marks} {start = start} {i = i} h e l) =
      let j = next_open turning n src (set marks i true) (get_or dst i 0) (reverse_of n src dst i) in
      rw (lt-ltb (reverse_of n src dst i) n h, ne_eqb (get_or dst i 0) start e, le-ltb j n l, follow, arrive, onward)

-- ---- runs of steps

-- what a step leads to, with at most k steps more
abbrev pub go_on : Bool → ℕ → List ℕ → List ℕ → ℕ → Next → Next
go_on turning n src dst k t = elim t [ more u ↦ walk_steps turning n src dst k u | closed ps ↦ closed ps | stuck ↦ stuck | broken ↦ broken ]

-- P of the state that a step leads to, with k steps left, or Q of the end
abbrev pub Led : (ℕ → State → Type 0) → (Next → Type 0) → ℕ → Next → Type 0
Led P Q k (more s) = P k s
Led P Q k (closed ps) = Q (closed ps)
Led P Q k stuck = Q stuck
Led P Q k broken = Q broken

module _ (turning : Bool) (n : ℕ) (src dst : List ℕ) (P : ℕ → State → Type 0) (Q : Next → Type 0)
    (keep : (k : ℕ) (s : State) (t : Next) → Way turning n src dst s t → P (suc k) s → Led P Q k t) (spent : (s : State) → P zero s → Q broken) where
  -- what every way of a step keeps, a walk keeps
  pub steps_keep : (k : ℕ) (s : State) → P k s → Q (walk_steps turning n src dst k s)
  unfolding walk_steps
  steps_keep zero s h = spent s h
  steps_keep (suc k) s h = on (λ u g. steps_keep k u g) (step turning n src dst s) (keep k s (step turning n src dst s) (way turning n src dst s) h)
    where
      on : ((u : State) → P k u → Q (walk_steps turning n src dst k u)) → (t : Next) → Led P Q k t → Q (go_on turning n src dst k t)
      on again (more u) g = again u g
      on again (closed ps) g = g
      on again stuck g = g
      on again broken g = g
