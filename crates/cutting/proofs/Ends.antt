-- A cell's walk finds a slot for each dart, and its steps suffice. Assumes nothing.
use mathlib.Core.Path.{◌≡◌, refl, ap, ap₂, ◌∙◌, subst}
use mathlib.Core.Bool.{Bool, ◌&&◌, false, true, not}
use mathlib.Core.List.{List, [], ◌∷◌}
use Prim.Native.Nat.{ℕ, suc, ◌+◌, ◌*◌, ◌≤◌, ◌<◌}
use native.Mathlib.Omega.{arith}
use lib.ListN.{length, get_or, set, length-set, length-map}
use borrow.Author.Tests.{eq-eqb}
use Rattle.lists.specs.Gather.{tally}
use Rattle.cutting.specs.Edges.{Edge, times}
use Rattle.cutting.specs.Cell.{table}
use Rattle.cutting.specs.declared.Slot.{Slot}
use Rattle.cutting.specs.Walk.{State, state, Phase, resting, on_slot, Next, more, closed, stuck, broken, walk_steps, slot, leads, starts, walk_from}
use Rattle.cutting.specs.Walk.{srcs, dsts, marks_of, walk_with}
use Rattle.lists.proofs.Search.{many_has, many_bound}
use Rattle.cutting.proofs.Ways.{reverse_of, Way, ends, missing, passes, begins, lost, closes, goes, stops, Led, steps_keep}
use Rattle.cutting.proofs.EdgeLaws.{hit_self}
use Rattle.cutting.proofs.Rounds.{next_open_open, unmarked, unmarked_mark}
use Rattle.cutting.proofs.Kept.{named}
use Rattle.cutting.proofs.Tables.{named_table, slot_found, found}

-- a walk that has come to its end
abbrev pub Ended : Next → Type 0
Ended (more s) = ⊥
Ended (closed ps) = Unit {0}
Ended stuck = Unit {0}
Ended broken = ⊥

module _ (n : ℕ) (src dst : List ℕ) where
  abbrev Below : List ℕ → Type 0
  Below [] = Unit {0}
  Below (i ∷ is) = (i < n) × Below is

  starts_below : (es : List Edge) (heap : List ℕ) → ((a b : ℕ) → 0 < times a b es → slot n src dst a b < n) → Below heap → Below (starts n src dst es heap)
  unfolding starts times
  starts_below [] heap h k = k
  starts_below (e ∷ es) heap h k = starts_below es (slot n src dst e.0 e.1 ∷ heap) (λ a b l. h a b (omega arith)) (h e.0 e.1 (omega (arith, hit_self e.0 e.1)), k)

  abbrev On : List Bool → Phase → Type 0
  On marks resting = Unit {0}
  On marks (on_slot start mid i) = (i < n) × (get_or marks i false ≡ false)

  record Going (m : ℕ) (marks : List Bool) (heap : List ℕ) (phase : Phase) : Type 0 where
    long : n ≤ length marks
    inside : Below heap
    stands : On marks phase
    room : 2 * unmarked n marks + length heap < m

  abbrev Goes : ℕ → State → Type 0
  Goes m s = Going m s.marks s.heap s.phase

  module _ (turning : Bool) (back : (a b : ℕ) → named n src dst a b ≡ named n src dst b a) where
    back_found : (i : ℕ) → i < n → reverse_of n src dst i < n
    unfolding named
    back_found i i< = slot_found n src dst (get_or dst i 0) (get_or src i 0)
        (omega (
          arith,
          back (get_or src i 0) (get_or dst i 0),
          many_has (leads src dst (get_or src i 0) (get_or dst i 0)) n i i<
              (ap₂ (λ x y. x && y) (eq-eqb (get_or src i 0) (get_or src i 0) refl) (eq-eqb (get_or dst i 0) (get_or dst i 0) refl)),
        ))

    step_goes : (m : ℕ) {s : State} {t : Next} → Way turning n src dst s t → Goes (suc m) s → Led Goes Ended m t
    step_goes m ends k = tt
    step_goes m (missing h) k = omega (arith, h, k.inside.0)
    step_goes m (passes i< e) k = record { long = k.long; inside = k.inside.1; stands = tt; room = omega arith }
    step_goes m (begins i< e) k = record { long = k.long; inside = k.inside.1; stands = (i<, e); room = omega arith }
    step_goes m (lost {i = i} h) k = omega (arith, h, back_found i k.stands.0)
    step_goes m (closes {marks = marks} {i = i} r< e) k = record {
      long = omega (arith, k.long, length-set marks i true);
      inside = (r<, k.inside);
      stands = tt;
      room = omega (arith, k.room, unmarked_mark n marks i k.stands.0 k.long k.stands.1);
    }
    step_goes m (goes {marks = marks} {i = i} r< apart {j = j} found j<) k = record {
      long = omega (arith, k.long, length-set marks i true);
      inside = (r<, k.inside);
      stands = (
        j<,
        ap (λ (x : ℕ). get_or (set marks i true) x false) found
            ∙ next_open_open turning n src (set marks i true) (get_or dst i 0) (reverse_of n src dst i) (subst (λ (x : ℕ). x < n) found j<),
      );
      room = omega (arith, k.room, unmarked_mark n marks i k.stands.0 k.long k.stands.1);
    }
    step_goes m (stops r< apart none) k = tt

    steps_end : (m : ℕ) (s : State) → Goes m s → Ended (walk_steps turning n src dst m s)
    steps_end = steps_keep turning n src dst Goes Ended (λ k s t w h. step_goes k w h) (λ s k. omega (arith, k.room))

-- a cell's walk comes to pieces or to refusal 11
pub walk_ended : (turning : Bool) (outline inner : List Edge) (t : List Slot) → ((p : Slot → Bool) → tally p t ≡ tally p (table outline inner)) → Ended (walk_with turning outline t)
unfolding walk_with walk_from unmarked
walk_ended turning outline inner t sorted =
    let n = length t in
    let heap = starts n (srcs t) (dsts t) outline [] in
    steps_end n (srcs t) (dsts t) turning (λ a b. omega (arith, named_table outline inner t sorted a b, named_table outline inner t sorted b a))
    (2 * n + length heap + 1) (state (marks_of t) heap [] resting) (record {
      long = omega (arith, length-map t (λ s. s.marked));
      inside = starts_below n (srcs t) (dsts t) outline [] (found outline inner t sorted) tt;
      stands = tt;
      room = omega (arith, many_bound (λ i. not (get_or (marks_of t) i false)) n);
    })
