-- Pieces that close up have no node numbers twice: an edge is used at most once, and every piece of a walk uses one. Assumes nothing.
use mathlib.Core.Path.{◌≡◌, refl, sym, ap}
use mathlib.Core.Bool.{Bool, true, false}
use mathlib.Core.List.{List, [], ◌∷◌, ◌++◌}
use Prim.Native.Nat.{ℕ, zero, suc, ◌+◌, ◌*◌, ◌≤◌, ◌<◌}
use native.Mathlib.Omega.{arith}
use lib.ListN.{length, get_or}
use lib.Dec.{ltb}
use borrow.Author.Tests.{ltb-true, ltb-false}
use Rattle.cutting.specs.Edges.{Edge, hops, ring, rings, times}
use Rattle.cutting.specs.declared.Slot.{Slot}
use Rattle.cutting.specs.Walk.{State, state, Next, more, closed, stuck, broken, resting, walk_steps, walk_from, walk_with, starts, srcs, dsts, marks_of}
use Rattle.cutting.specs.Areas.{Closes}
use Rattle.cutting.proofs.Ways.{Way, ends, missing, passes, begins, lost, closes, goes, stops, Led, steps_keep}
use Rattle.cutting.proofs.EdgeLaws.{hit_self, times_append}

-- ---- the pieces of a walk have corners

abbrev pub Cornered : List (List ℕ) → Type 0
Cornered [] = Unit {0}
Cornered (p ∷ ps) = (0 < length p) × Cornered ps

cornered_snoc : (ps : List (List ℕ)) (p : List ℕ) → Cornered ps → 0 < length p → Cornered (ps ++ p ∷ [])
cornered_snoc [] p h k = (k, tt)
cornered_snoc (q ∷ qs) p h k = (h.0, cornered_snoc qs p h.1 k)

abbrev pub Ended : Next → Type 0
Ended (closed ps) = Cornered ps
Ended (more s) = Unit {0}
Ended stuck = Unit {0}
Ended broken = Unit {0}

module _ (turning : Bool) (n : ℕ) (src dst : List ℕ) where
  abbrev Goes : ℕ → State → Type 0
  Goes k s = Cornered s.done

  step_cornered : (k : ℕ) {s : State} {t : Next} → Way turning n src dst s t → Cornered s.done → Led Goes Ended k t
  step_cornered k ends h = h
  step_cornered k (missing l) h = tt
  step_cornered k (passes l e) h = h
  step_cornered k (begins l e) h = h
  step_cornered k (lost l) h = tt
  step_cornered k (closes {done = done} {start = start} {mid = mid} l e) h = cornered_snoc done (start ∷ mid) h (omega arith)
  step_cornered k (goes l a e j) h = h
  step_cornered k (stops l a e) h = tt

  steps_cornered : (k : ℕ) (s : State) → Cornered s.done → Ended (walk_steps turning n src dst k s)
  steps_cornered = steps_keep turning n src dst Goes Ended (λ k s t w h. step_cornered k w h) (λ s h. tt)

pub walk_cornered : (turning : Bool) (outline : List Edge) (t : List Slot) → Ended (walk_with turning outline t)
unfolding walk_with walk_from
walk_cornered turning outline t =
    let n = length t in
    let heap = starts n (srcs t) (dsts t) outline [] in
    steps_cornered turning n (srcs t) (dsts t) (2 * n + length heap + 1) (state (marks_of t) heap [] resting) tt

-- ---- an edge is used at most once

one_of : (a b : ℕ) (ps : List (List ℕ)) (i : ℕ) → i < length ps → times a b (ring (get_or ps i [])) ≤ times a b (rings ps)
unfolding rings
one_of a b [] i l = absurd (omega (arith, l))
one_of a b (p ∷ ps) zero l = omega (arith, times_append a b (ring p) (rings ps))
one_of a b (p ∷ ps) (suc i) l = omega (arith, times_append a b (ring p) (rings ps), one_of a b ps i (omega (arith, l)))

two_of : (a b : ℕ) (ps : List (List ℕ)) (i j : ℕ) → i < j → j < length ps
    → times a b (ring (get_or ps i [])) + times a b (ring (get_or ps j [])) ≤ times a b (rings ps)
unfolding rings
two_of a b [] i j h l = absurd (omega (arith, l))
two_of a b (p ∷ ps) i zero h l = absurd (omega (arith, h))
two_of a b (p ∷ ps) zero (suc j) h l = omega (arith, times_append a b (ring p) (rings ps), one_of a b ps j (omega (arith, l)))
two_of a b (p ∷ ps) (suc i) (suc j) h l = omega (arith, times_append a b (ring p) (rings ps), two_of a b ps i j (omega (arith, h)) (omega (arith, l)))

-- a piece with a corner uses an edge
uses : (p : List ℕ) → 0 < length p → (a : ℕ) × (b : ℕ) × (1 ≤ times a b (ring p))
unfolding ring hops times
uses [] h = absurd (omega (arith, h))
uses (x ∷ []) h = (x, x, omega (arith, hit_self x x))
uses (x ∷ y ∷ ys) h = (x, y, omega (arith, hit_self x y))

cornered_at : (ps : List (List ℕ)) → Cornered ps → (i : ℕ) → i < length ps → 0 < length (get_or ps i [])
cornered_at [] h i l = absurd (omega (arith, l))
cornered_at (p ∷ ps) h zero l = h.0
cornered_at (p ∷ ps) h (suc i) l = cornered_at ps h.1 i (omega (arith, l))

module _ (outline : List Edge) (ps : List (List ℕ)) (up : (a b : ℕ) → Closes outline ps a b) where
  used_once : (a b : ℕ) → times a b (rings ps) ≤ 1
  used_once a b = go (times a b outline) (times b a outline) refl refl
    where
      go : (m n : ℕ) → times a b outline ≡ m → times b a outline ≡ n → times a b (rings ps) ≤ 1
      go zero zero e f = ((up a b).other e f).1
      go zero (suc n) e f = omega (arith, ((up b a).outer (omega (arith, f))).1)
      go (suc m) n e f = omega (arith, ((up a b).outer (omega (arith, e))).0)

  module _ (cornered : Cornered ps) where
    differ : (i j : ℕ) → i < j → j < length ps → get_or ps i [] ≡ get_or ps j [] → ⊥
    differ i j h l e =
        let u = uses (get_or ps i []) (cornered_at ps cornered i (omega (arith, h, l))) in
        let a = u.0 in
        let b = u.1 in
        omega (arith, u.2, ap (λ (p : List ℕ). times a b (ring p)) e, two_of a b ps i j h l, used_once a b)

    pub one_place_of : (i j : ℕ) → i < length ps → j < length ps → get_or ps i [] ≡ get_or ps j [] → i ≡ j
    one_place_of i j k l e = go (ltb i j) refl (ltb j i) refl
      where
        go : (b : Bool) → ltb i j ≡ b → (c : Bool) → ltb j i ≡ c → i ≡ j
        go true x c y = absurd (differ i j (ltb-true i j x) l e)
        go false x true y = absurd (differ j i (ltb-true j i y) k (sym e))
        go false x false y = omega (arith, ltb-false i j x, ltb-false j i y)
