-- The unmarked slots: the next one of a node, and how many there are. Assumes nothing.
use mathlib.Core.Path.{◌≡◌, refl, sym, ap, ap₂, ◌∙◌}
use mathlib.Core.Bool.{Bool, true, false, not, ◌&&◌, and-false}
use mathlib.Core.List.{List}
use Prim.Native.Nat.{ℕ, ◌+◌, ◌≤◌, ◌<◌}
use native.Mathlib.Omega.{arith}
use lib.Dec.{ltb}
use lib.ListN.{length, get_or, set}
use lib.Seq.{get_or-set_same, get_or-set_other}
use borrow.Author.Tests.{ltb-true, lt-ltb, le-ltb}
use Rattle.std.proofs.lemmas.Bool.{not-true}
use Rattle.lists.specs.Search.{bit, many, first}
use Rattle.lists.proofs.Search.{many_change, first_hit, and_true}
use Rattle.cutting.specs.Walk.{open_at, or_else, next_open}
use Rattle.cutting.proofs.EdgeLaws.{open_both}

module _ (turning : Bool) (n : ℕ) (src : List ℕ) (marks : List Bool) (a r : ℕ) where
  pub next_open_late : (j : ℕ) → j ≡ first (open_at src marks a) (r + 1) n → j < n → j ≡ next_open turning n src marks a r
  unfolding next_open
  next_open_late j e h = rw (← e, lt-ltb j n h)

  module _ (j : ℕ) (e : j ≡ first (open_at src marks a) (r + 1) n) (h : n ≤ j) (k : ℕ) (f : k ≡ first (open_at src marks a) 0 r) where
    pub next_open_early : k < r → k ≡ next_open turning n src marks a r
    unfolding next_open
    next_open_early l = rw (← e, ← f, le-ltb j n h, lt-ltb k r l)

    -- nothing but r is left
    next_open_last : r ≤ k → (t : Bool) → turning && not (get_or marks r false) ≡ t → or_else t r n ≡ next_open turning n src marks a r
    unfolding next_open
    next_open_last l t q = rw (← e, ← f, le-ltb j n h, le-ltb k r l, q)

    pub next_open_back : r ≤ k → turning ≡ true → get_or marks r false ≡ false → r ≡ next_open turning n src marks a r
    next_open_back l t m = next_open_last l true (ap₂ (λ (x y : Bool). x && y) t (ap not m))

    pub next_open_none : r ≤ k → get_or marks r false ≡ true → n ≡ next_open turning n src marks a r
    next_open_none l m = next_open_last l false (ap (λ (x : Bool). turning && x) (ap not m) ∙ and-false turning)

  -- what holds of each unmarked slot of the node, and of r where that is unmarked, holds of the slot found
  found : (P : ℕ → Type 0) → ((j : ℕ) → open_at src marks a j ≡ true → P j) → (get_or marks r false ≡ false → P r) → next_open turning n src marks a r < n → P (next_open turning n src marks a r)
  unfolding next_open
  found P hit last l = late (ltb (first test (r + 1) n) n) refl l
    where
      test : ℕ → Bool
      test = open_at src marks a

      back : (t : Bool) → turning && not (get_or marks r false) ≡ t → or_else t r n < n → P (or_else t r n)
      back true e l = last (not-true (get_or marks r false) (and_true turning (not (get_or marks r false)) e).1)
      back false e l = absurd (omega arith)

      early : (t : Bool) → ltb (first test 0 r) r ≡ t → let j : ℕ = or_else t (first test 0 r) (or_else (turning && not (get_or marks r false)) r n) in j < n → P j
      early true e l = hit (first test 0 r) (first_hit test 0 r (ltb-true (first test 0 r) r e))
      early false e l = back (turning && not (get_or marks r false)) refl l

      late : (t : Bool) → ltb (first test (r + 1) n) n ≡ t
          → let j : ℕ = or_else t (first test (r + 1) n) (or_else (ltb (first test 0 r) r) (first test 0 r) (or_else (turning && not (get_or marks r false)) r n)) in j < n → P j
      late true e l = hit (first test (r + 1) n) (first_hit test (r + 1) n l)
      late false e l = early (ltb (first test 0 r) r) refl l

  -- it is unmarked, and at the node where r is
  pub next_open_open : next_open turning n src marks a r < n → get_or marks (next_open turning n src marks a r) false ≡ false
  next_open_open = found (λ j. get_or marks j false ≡ false) (λ j e. (open_both (get_or src j 0) a (get_or marks j false) e).1) (λ e. e)

  pub next_open_at : get_or src r 0 ≡ a → next_open turning n src marks a r < n → get_or src (next_open turning n src marks a r) 0 ≡ a
  next_open_at at = found (λ j. get_or src j 0 ≡ a) (λ j e. (open_both (get_or src j 0) a (get_or marks j false) e).0) (λ e. at)

unfoldable pub unmarked : ℕ → List Bool → ℕ
unmarked n marks = many (λ i. not (get_or marks i false)) n

pub unmarked_mark : (n : ℕ) (marks : List Bool) (i : ℕ) → i < n → n ≤ length marks → get_or marks i false ≡ false → unmarked n marks ≡ 1 + unmarked n (set marks i true)
unfolding unmarked
unmarked_mark n marks i h l e =
    let gone = many_change (λ k. not (get_or marks k false)) (λ k. not (get_or (set marks i true) k false)) i n h
    (λ k ne. ap not (sym (get_or-set_other marks i k true false ne))) (ap not (get_or-set_same marks i true false (omega arith))) in
    omega (arith, ap (λ (v : Bool). bit (not v)) e)
