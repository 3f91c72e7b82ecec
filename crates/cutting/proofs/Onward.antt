-- A walk that may turn back and whose outline closes is never left without a way on: where it stands inside a piece, a node has one unmarked slot out of it more
-- than into it. Assumes nothing.
use mathlib.Core.Path.{◌≡◌, refl, sym, ap, ◌∙◌}
use mathlib.Core.Bool.{Bool, true, false, not, ◌&&◌, and-true, and-false, true≢false}
use mathlib.Core.List.{List, [], ◌∷◌}
use Prim.Native.Nat.{ℕ, suc, ◌+◌, ◌≤◌, ◌<◌}
use native.Mathlib.Omega.{arith}
use native.Mathlib.Decide.{dec_le}
use lib.Dec.{eqb, ltb}
use lib.ListN.{length, get_or, set, length-set, length-map}
use lib.Seq.{get_or-set_same, get_or-set_other}
use borrow.Author.Tests.{ltb-true, ltb-false, eq-eqb, ne_eqb}
use Rattle.std.proofs.lemmas.Bool.{not-false}
use Rattle.lists.specs.Search.{bit, many, first}
use Rattle.lists.specs.Gather.{tally}
use Rattle.lists.proofs.Search.{many_change, many_some, first_some}
use Rattle.lists.proofs.Gather.{tally_append}
use Rattle.cutting.specs.Edges.{Edge}
use Rattle.cutting.specs.Cell.{edge_slots, reverse_mark, table}
use Rattle.cutting.specs.declared.Slot.{Slot}
use Rattle.cutting.specs.Walk.{State, Phase, resting, on_slot, Next, more, closed, stuck, broken, or_else, open_at, next_open, srcs, dsts, marks_of, opens_from, walk_steps, walk_from, walk_with}
use Rattle.cutting.proofs.Ways.{reverse_of, Way, ends, missing, passes, begins, lost, closes, goes, stops, Led, steps_keep}
use Rattle.cutting.specs.Areas.{leaving, entering}
use Rattle.cutting.proofs.EdgeLaws.{open_both}
use Rattle.cutting.proofs.Rounds.{next_open_open, next_open_at}
use Rattle.cutting.proofs.Kept.{slot_hit}

-- where a node has an unmarked slot, one is found
next_open_some : (n : ℕ) (src : List ℕ) (marks : List Bool) (a r : ℕ) → r < n → 0 < many (open_at src marks a) n → next_open true n src marks a r < n
unfolding next_open
next_open_some n src marks a r r< some = late (ltb (first test (r + 1) n) n) refl
  where
    test : ℕ → Bool
    test = open_at src marks a

    at : (i : ℕ) × (i < n) × (test i ≡ true)
    at = many_some test n some

    back : (t : Bool) → not (get_or marks r false) ≡ t → n ≤ first test (r + 1) n → r ≤ first test 0 r → or_else t r n < n
    back true e l m = r<
    back false e l m = absurd (pick (dec_le at.0 r))
      where
        pick : Dec (at.0 ≤ r) → ⊥
        pick (no above) = omega (arith, first_some test (r + 1) n at.0 (omega arith) at.1 at.2, at.1)
        pick (yes below) = pick' (dec_le r at.0)
          where
            pick' : Dec (r ≤ at.0) → ⊥
            pick' (no l') = omega (arith, first_some test 0 r at.0 (omega arith) (omega arith) at.2)
            pick' (yes l') =
                let same : at.0 ≡ r = omega arith in
                true≢false (sym (not-false (get_or marks r false) e) ∙ ap (λ (x : ℕ). get_or marks x false) (sym same) ∙ (open_both (get_or src at.0 0) a (get_or marks at.0 false) at.2).1)

    early : (t : Bool) → ltb (first test 0 r) r ≡ t → n ≤ first test (r + 1) n → or_else t (first test 0 r) (or_else (not (get_or marks r false)) r n) < n
    early true e l = omega (arith, ltb-true (first test 0 r) r e)
    early false e l = back (not (get_or marks r false)) refl l (ltb-false (first test 0 r) r e)

    late : (t : Bool) → ltb (first test (r + 1) n) n ≡ t → or_else t (first test (r + 1) n)
        (or_else (ltb (first test 0 r) r) (first test 0 r) (or_else (not (get_or marks r false)) r n)) < n
    late true e = ltb-true (first test (r + 1) n) n e
    late false e = early (ltb (first test 0 r) r) refl (ltb-false (first test (r + 1) n) n e)

module _ (n : ℕ) (src dst : List ℕ) where
  -- the unmarked slots out of a node, and into it
  unfoldable pub out : ℕ → List Bool → ℕ
  out a marks = many (open_at src marks a) n

  unfoldable pub into : ℕ → List Bool → ℕ
  into a marks = many (open_at dst marks a) n

  mark_one : (ns : List ℕ) (a : ℕ) (marks : List Bool) (i : ℕ) → i < n → n ≤ length marks → get_or marks i false ≡ false
      → many (open_at ns marks a) n ≡ bit (eqb (get_or ns i 0) a) + many (open_at ns (set marks i true) a) n
  mark_one ns a marks i h l e =
      let gone = many_change (open_at ns marks a) (open_at ns (set marks i true) a) i n h
      (λ k ne. ap (λ (v : Bool). eqb (get_or ns k 0) a && not v) (sym (get_or-set_other marks i k true false ne)))
      (ap (λ (v : Bool). eqb (get_or ns i 0) a && not v) (get_or-set_same marks i true false (omega arith)) ∙ and-false (eqb (get_or ns i 0) a)) in
      omega (arith, ap (λ (v : Bool). bit (eqb (get_or ns i 0) a && not v)) e, ap bit (and-true (eqb (get_or ns i 0) a)))

  out_mark : (a : ℕ) (marks : List Bool) (i : ℕ) → i < n → n ≤ length marks → get_or marks i false ≡ false → out a marks ≡ bit (eqb (get_or src i 0) a) + out a (set marks i true)
  unfolding out
  out_mark = mark_one src

  into_mark : (a : ℕ) (marks : List Bool) (i : ℕ) → i < n → n ≤ length marks → get_or marks i false ≡ false → into a marks ≡ bit (eqb (get_or dst i 0) a) + into a (set marks i true)
  unfolding into
  into_mark = mark_one dst

  -- between pieces each node is even; on a slot, but for the piece's first node and the slot's own
  abbrev pub Even : List Bool → Phase → Type 0
  Even marks resting = (a : ℕ) → out a marks ≡ into a marks
  Even marks (on_slot start mid i) = (i < n) × (get_or marks i false ≡ false) × ((a : ℕ) → out a marks + bit (eqb start a) ≡ into a marks + bit (eqb (get_or src i 0) a))

  pub record Going (marks : List Bool) (phase : Phase) : Type 0 where
    pub long : n ≤ length marks
    pub even : Even marks phase

  abbrev Goes : ℕ → State → Type 0
  Goes k s = Going s.marks s.phase

  abbrev pub Free : Next → Type 0
  Free (more s) = Unit {0}
  Free (closed ps) = Unit {0}
  Free stuck = ⊥
  Free broken = Unit {0}

  -- once the slot i is walked, the other node takes its place
  moved : (marks : List Bool) (start : ℕ) (mid : List ℕ) (i : ℕ) → Going marks (on_slot start mid i) → (a : ℕ)
      → out a (set marks i true) + bit (eqb start a) ≡ into a (set marks i true) + bit (eqb (get_or dst i 0) a)
  moved marks start mid i k a =
      omega (arith, k.even.2 a, out_mark a marks i k.even.0 k.long k.even.1, into_mark a marks i k.even.0 k.long k.even.1)

  -- where the piece goes on, there is an unmarked slot
  found_on : (marks : List Bool) (start : ℕ) (mid : List ℕ) (i : ℕ) → Going marks (on_slot start mid i) → reverse_of n src dst i < n → (get_or dst i 0 ≡ start → ⊥)
      → next_open true n src (set marks i true) (get_or dst i 0) (reverse_of n src dst i) < n
  unfolding out
  found_on marks start mid i k r< apart =
      let y = get_or dst i 0 in
      let here : bit (eqb y y) ≡ 1 = ap bit (eq-eqb y y refl) in
      let there : bit (eqb start y) ≡ 0 = ap bit (ne_eqb start y (λ q. apart (sym q))) in
      next_open_some n src (set marks i true) y (reverse_of n src dst i) r< (omega (arith, moved marks start mid i k y))

  step_free : (m : ℕ) {s : State} {t : Next} → Way true n src dst s t → Goes (suc m) s → Led Goes Free m t
  step_free m ends k = tt
  step_free m (missing h) k = tt
  step_free m (passes i< e) k = record { long = k.long; even = k.even }
  step_free m (begins i< e) k = record { long = k.long; even = (i<, e, λ a. omega (arith, k.even a)) }
  step_free m (lost h) k = tt
  step_free m (closes {marks = marks} {start = start} {i = i} {mid = mid} r< back) k = record {
    long = omega (arith, k.long, length-set marks i true);
    even = λ a. omega (arith, moved marks start mid i k a, ap (λ (x : ℕ). bit (eqb x a)) back);
  }
  step_free m (goes {marks = marks} {start = start} {i = i} {mid = mid} r< apart {j = j} found j<) k =
      let y = get_or dst i 0 in
      let r = reverse_of n src dst i in
      let j<' = found_on marks start mid i k r< apart in
      let at : get_or src j 0 ≡ y = ap (λ (x : ℕ). get_or src x 0) found ∙ next_open_at true n src (set marks i true) y r (slot_hit n src dst y (get_or src i 0) r<).0 j<' in
      record {
        long = omega (arith, k.long, length-set marks i true);
        even = (
          j<,
          ap (λ (x : ℕ). get_or (set marks i true) x false) found ∙ next_open_open true n src (set marks i true) y r j<',
          λ a. omega (arith, moved marks start mid i k a, ap (λ (x : ℕ). bit (eqb x a)) at),
        );
      }
  step_free m (stops {marks = marks} {start = start} {i = i} {mid = mid} r< apart none) k = omega (arith, found_on marks start mid i k r< apart, none)

  steps_free : (m : ℕ) (s : State) → Goes m s → Free (walk_steps true n src dst m s)
  steps_free = steps_keep true n src dst Goes Free (λ k s t w h. step_free k w h) (λ s k. tt)

-- ---- a cell's table

abbrev opens_to : ℕ → Slot → Bool
opens_to a s = eqb s.dst a && not s.marked

out_tally : (a : ℕ) (t : List Slot) → out (length t) (srcs t) (dsts t) a (marks_of t) ≡ tally (opens_from a) t
unfolding out many tally
out_tally a [] = refl
out_tally a (s ∷ t) = ap (λ (k : ℕ). bit (opens_from a s) + k) (out_tally a t)

into_tally : (a : ℕ) (t : List Slot) → into (length t) (srcs t) (dsts t) a (marks_of t) ≡ tally (opens_to a) t
unfolding into many tally
into_tally a [] = refl
into_tally a (s ∷ t) = ap (λ (k : ℕ). bit (opens_to a s) + k) (into_tally a t)

from_outline : (a : ℕ) (es : List Edge) → tally (opens_from a) (edge_slots reverse_mark es) ≡ leaving a es
unfolding tally edge_slots
from_outline a [] = refl
from_outline a (e ∷ es) = omega (arith, from_outline a es, ap bit (and-true (eqb e.0 a)), ap bit (and-false (eqb e.1 a)))

to_outline : (a : ℕ) (es : List Edge) → tally (opens_to a) (edge_slots reverse_mark es) ≡ entering a es
unfolding tally edge_slots
to_outline a [] = refl
to_outline a (e ∷ es) = omega (arith, to_outline a es, ap bit (and-true (eqb e.1 a)), ap bit (and-false (eqb e.0 a)))

from_inner : (a : ℕ) (es : List Edge) → tally (opens_from a) (edge_slots false es) ≡ leaving a es + entering a es
unfolding tally edge_slots
from_inner a [] = omega arith
from_inner a (e ∷ es) = omega (arith, from_inner a es, ap bit (and-true (eqb e.0 a)), ap bit (and-true (eqb e.1 a)))

to_inner : (a : ℕ) (es : List Edge) → tally (opens_to a) (edge_slots false es) ≡ leaving a es + entering a es
unfolding tally edge_slots
to_inner a [] = omega arith
to_inner a (e ∷ es) = omega (arith, to_inner a es, ap bit (and-true (eqb e.0 a)), ap bit (and-true (eqb e.1 a)))

module _ (outline inner : List Edge) (t : List Slot) (sorted : (p : Slot → Bool) → tally p t ≡ tally p (table outline inner)) where
  out_table : (a : ℕ) → out (length t) (srcs t) (dsts t) a (marks_of t) ≡ leaving a outline + (leaving a inner + entering a inner)
  unfolding table
  out_table a = omega (
    arith,
    out_tally a t,
    sorted (opens_from a),
    tally_append (opens_from a) (edge_slots reverse_mark outline) (edge_slots false inner),
    from_outline a outline,
    from_inner a inner,
  )

  into_table : (a : ℕ) → into (length t) (srcs t) (dsts t) a (marks_of t) ≡ entering a outline + (leaving a inner + entering a inner)
  unfolding table
  into_table a = omega (
    arith,
    into_tally a t,
    sorted (opens_to a),
    tally_append (opens_to a) (edge_slots reverse_mark outline) (edge_slots false inner),
    to_outline a outline,
    to_inner a inner,
  )

  pub never_stuck : ((a : ℕ) → leaving a outline ≡ entering a outline) → Free (length t) (srcs t) (dsts t) (walk_with true outline t)
  unfolding walk_with walk_from
  never_stuck round = steps_free (length t) (srcs t) (dsts t) _ _ (record
      { long = omega (arith, length-map t (λ s. s.marked)); even = λ a. omega (arith, out_table a, into_table a, round a) })
