-- What a walk answers and writes. Assumes nothing.
use mathlib.Core.Path.{◌≡◌, ap, ◌∙◌, subst}
use mathlib.Core.List.{List, [], ◌++◌, append-nil}
use Prim.Native.Nat.{ℕ, ◌≤◌}
use native.Mathlib.Omega.{arith}
use lib.ListN.{length, drop_of_length-le}
use Rattle.lists.specs.Regions.{zeros, front, put, copied}
use Rattle.lists.proofs.Regions.{copied_fits}
use Rattle.cutting.specs.declared.Slot.{Slot}
use Rattle.cutting.specs.Walk.{Next, walk_from, walk_with, walk, starts, srcs, dsts, marks_of}
use Rattle.cutting.specs.Lent.{pairs}
use Rattle.cutting.proofs.Pairs.{pairs_length}
use Rattle.dart_walk.proofs.Heaps.{length_starts}
use Rattle.cutting.specs.Outcome.{Outcome, refusal, pieces, of_walk}
use Rattle.dart_walk.specs.Answer.{Room, answer, walked_from, corners_in, ends_in, Written}
use Rattle.std.proofs.Common.{true, false, Result, Ok, Err, is_ok}
use Rattle.refusals.specs.declared.Refusal.{Refusal}
use Rattle.refusals.specs.Numbers.{by_number}
use Rattle.dart_walk.specs.declared.Counts.{Counts}

-- a list as long as the slots, which all of them are copied into
pub all_copied : (w t u : List Slot) → length w ≡ length t → u ≡ copied w 0 t → u ≡ t
unfolding put front
all_copied w t u e is = is ∙ copied_fits w 0 t (omega (arith, e)) ∙ ap (λ (l : List Slot). t ++ l) (drop_of_length-le w {i = length t} (omega (arith, e))) ∙ append-nil t

-- ---- the walk of a copy of the slots t, from the heap that the outline's darts make

module _ (t own : List Slot) (copied : own ≡ t) (outline heap : List ℕ) (filled : heap ≡ starts (length t) (srcs t) (dsts t) (pairs outline) []) where
  pub room_for : (nodes stops₀ : List ℕ) → length t ≤ 1024 → length outline ≤ 2048 → length t ≤ length nodes → length t ≤ length stops₀ → Room (length own) heap nodes stops₀
  room_for nodes stops₀ small few corners stopped =
      let size = ap length copied in
      record {
        small = omega arith;
        heaps = omega (arith, ap length filled, length_starts (length t) (srcs t) (dsts t) (pairs outline) [], pairs_length outline);
        corners = omega arith;
        stopped = omega arith;
      }

  same_walk : walk_from true (length own) (srcs own) (dsts own) (marks_of own) heap ≡ walk (pairs outline) t
  unfolding walk_with
  same_walk = λ u. walk_from true (length (copied u)) (srcs (copied u)) (dsts (copied u)) (marks_of (copied u)) (filled u)

  pub walked_as : (w : Result Counts Refusal) (nodes₀ stops₀ nodes stops' : List ℕ)
      → (by_number w ≡ answer (walked_from own heap)) × Written (walked_from own heap) nodes₀ stops₀ nodes stops'
      → (by_number w ≡ answer (of_walk (walk (pairs outline) t))) × Written (of_walk (walk (pairs outline) t)) nodes₀ stops₀ nodes stops'
  walked_as w nodes₀ stops₀ nodes stops' h = subst (λ (u : Next). (by_number w ≡ answer (of_walk u)) × Written (of_walk u) nodes₀ stops₀ nodes stops') same_walk h

-- ---- what the public function makes of the outcome

module _ (nodes₀ stops₀ nodes stops' : List ℕ) where
  pub as_closed : (w : Result Counts Refusal) (o : Outcome) → is_ok w ≡ true → (by_number w ≡ answer o) × Written o nodes₀ stops₀ nodes stops'
      → (by_number w ≡ answer o) × (nodes ≡ corners_in o nodes₀) × (stops' ≡ ends_in o stops₀)
  unfolding corners_in ends_in
  as_closed w (pieces ps) k (f, g) = (f, g.0, g.1)
  as_closed (Ok x) (refusal c) k (f, g) = cc
  as_closed (Err x) (refusal c) k (f, g) = cc

  pub as_refused : (w : Result Counts Refusal) (o : Outcome) (nodes'' stops'' : List ℕ) → is_ok w ≡ false → by_number w ≡ answer o
      → nodes'' ≡ zeros (length nodes) → stops'' ≡ zeros (length stops') → length nodes ≡ length nodes₀ → length stops' ≡ length stops₀
      → (by_number w ≡ answer o) × (nodes'' ≡ corners_in o nodes₀) × (stops'' ≡ ends_in o stops₀)
  unfolding corners_in ends_in
  as_refused (Ok x) (pieces ps) nodes'' stops'' k f zn zs ln ls = cc
  as_refused (Err x) (pieces ps) nodes'' stops'' k f zn zs ln ls = cc
  as_refused w (refusal d) nodes'' stops'' k f zn zs ln ls = (f, zn ∙ ap zeros ln, zs ∙ ap zeros ls)
