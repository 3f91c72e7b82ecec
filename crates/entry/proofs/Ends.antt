-- The laws of `prior`, and what ends that pass have. Assumes nothing.
use mathlib.Core.Path.{◌≡◌, sym, ap, ◌∙◌}
use mathlib.Core.Bool.{Bool, true, false, ◌&&◌, and-true, and-false}
use mathlib.Core.Logic.{◌≢◌}
use mathlib.Core.List.{List, [], ◌∷◌}
use Prim.Native.Nat.{ℕ, zero, suc, ◌+◌, ◌-◌, ◌≤◌, ◌<◌}
use native.Mathlib.Nat.{add-zero, add-suc}
use native.Mathlib.Numerals.{add-one}
use native.Mathlib.Omega.{arith}
use lib.Dec.{ltb, leb, eqb}
use lib.ListN.{length, get_or}
use borrow.Author.Tests.{ltb-true, eqb-true, le-leb, lt-ltb, le-ltb, eq-eqb, ne_eqb}
use Rattle.std.specs.Prelude.{Some}
use Rattle.std.specs.List.{IsAllAdjacentAnswer}
use Rattle.std.specs.Ordering.{is_le, is_some_and, nat_cmp}
use Rattle.std.proofs.lemmas.Bool.Decides.{nat_tests}
use Rattle.lists.specs.Search.{every}
use Rattle.lists.proofs.Search.{and_true, every_at, every_all, every_fails}
use Rattle.entry.specs.Mesh.{prior}
use Rattle.entry.specs.Refused.{ends_ok}

pub prior_more : (l : List ℕ) (i : ℕ) → prior l (i + 1) ≡ get_or l i 0
unfolding prior
prior_more l i = rw add-one

-- end i is above the one before
abbrev pub rises_at : List ℕ → ℕ → Bool
rises_at ends i = ltb (prior ends i) (get_or ends i 0)

-- ---- neighbours compared

-- std's word for a test of each two neighbours, where the first number passes beside 0
module _ (e : ℕ → ℕ → Bool) (xs : List ℕ) (head : 0 < length xs → e 0 (get_or xs 0 0) ≡ true) where
  abbrev beside : ℕ → Bool
  beside i = e (prior xs i) (get_or xs i 0)

  each_beside : ((k : ℕ) → k + 1 < length xs → e (get_or xs k 0) (get_or xs (k + 1) 0) ≡ true) → (i : ℕ) → i < length xs → beside i ≡ true
  unfolding prior
  each_beside h zero l = head l
  each_beside h (suc k) l = rw add-one at (h k (omega arith))

  adjacent : (E : ℕ → ℕ → Bool → Type 0) → ((x y : ℕ) (b : Bool) → E x y b → b ≡ e x y) → (r : Bool) → IsAllAdjacentAnswer E xs r → r ≡ every (length xs) beside
  unfolding prior
  adjacent E is true h = sym (every_all beside (length xs) (each_beside (λ k l. sym (is _ _ true (h k 0 l)))))
  adjacent E is false (k, l, h) = every_fails beside (suc k) (length xs) (omega arith) (rw add-one at (sym (is _ _ false (h 0))))

-- none below the one before
pub sorted_is : (xs : List ℕ) (r : Bool) → IsAllAdjacentAnswer (λ x y b. is_some_and is_le (Some (nat_cmp x y)) ≡ b) xs r
    → r ≡ every (length xs) (λ i. leb (prior xs i) (get_or xs i 0))
sorted_is xs r h = adjacent leb xs (λ l. le-leb 0 (get_or xs 0 0) (omega arith)) _ (λ x y b p. sym p ∙ le_is x y) r h
  where
    le_is : (x y : ℕ) → is_some_and is_le (Some (nat_cmp x y)) ≡ leb x y
    le_is x y = grind (arith, nat_tests)

-- no ends; ends of which the first is 0; others, each above the one before, the last n
pub ends_none : (ends : List ℕ) (n : ℕ) → length ends < 1 → ends_ok ends n ≡ eqb n 0
unfolding ends_ok every prior
ends_none [] n h = grind (arith, nat_tests)
ends_none (x ∷ xs) n h = absurd (omega arith)

pub ends_zero : (ends : List ℕ) (n : ℕ) → 0 < length ends → get_or ends 0 0 ≡ 0 → ends_ok ends n ≡ false
unfolding ends_ok prior
ends_zero ends n some e = ap (λ (t : Bool). t && eqb (prior ends (length ends)) n) (sym (every_fails (rises_at ends) 0 (length ends) some fails))
  where
    fails : rises_at ends 0 ≡ false
    fails = le-ltb 0 (get_or ends 0 0) (omega arith)

module _ (ends : List ℕ) (n : ℕ) (some : 0 < length ends) where
  last_is : prior ends (length ends) ≡ get_or ends (length ends - 1) 0
  last_is = let e : length ends ≡ length ends - 1 + 1 = omega arith in ap (prior ends) e ∙ prior_more ends (length ends - 1)

  pub ends_last : get_or ends 0 0 ≢ 0 → (r : Bool) → IsAllAdjacentAnswer (λ x y b. b ≡ ltb x y) ends r → get_or ends (length ends - 1) 0 ≡ n → r ≡ ends_ok ends n
  unfolding ends_ok
  ends_last first r a e =
      adjacent ltb ends (λ l. lt-ltb 0 (get_or ends 0 0) (omega arith)) _ (λ x y b p. p) r a ∙ sym (and-true _)
      ∙ ap (λ (t : Bool). every (length ends) (rises_at ends) && t) (sym (eq-eqb _ _ (last_is ∙ e)))

  pub ends_short : get_or ends (length ends - 1) 0 ≢ n → ends_ok ends n ≡ false
  unfolding ends_ok
  ends_short e = ap (λ (t : Bool). every (length ends) (rises_at ends) && t) (ne_eqb _ _ (λ h. e (sym last_is ∙ h))) ∙ and-false (every (length ends) (rises_at ends))

-- ---- lists of ends that pass

module _ (ends : List ℕ) (n : ℕ) (ok : ends_ok ends n ≡ true) where
  parts : (every (length ends) (rises_at ends) ≡ true) × (eqb (prior ends (length ends)) n ≡ true)
  unfolding ends_ok
  parts = and_true _ _ ok

  above : (i : ℕ) → i < length ends → prior ends i < get_or ends i 0
  above i h = ltb-true _ _ (every_at (rises_at ends) i (length ends) parts.0 h)

  rises : (k i : ℕ) → i + k ≤ length ends → prior ends i ≤ prior ends (i + k)
  rises zero i h = rw add-zero (omega arith)
  rises (suc k) i h =
      let h' : i + 1 + k ≤ length ends = omega (arith, rw add-suc at h) in
      let r = rises k (i + 1) h' in
      let a = above i (omega (arith, rw add-suc at h)) in
      let e : prior ends (i + 1) ≡ get_or ends i 0 = prior_more ends i in
      let g : i + suc k ≡ i + 1 + k = omega (arith, add-suc i k) in
      rw g (omega arith)

  -- an end is above the one before, and within the entries
  pub end_at : (i : ℕ) → i < length ends → (prior ends i < get_or ends i 0) × (get_or ends i 0 ≤ n)
  end_at i h =
      let g : i + 1 + (length ends - (i + 1)) ≡ length ends = omega arith in
      let r = rises (length ends - (i + 1)) (i + 1) (omega arith) in
      let r' : prior ends (i + 1) ≤ prior ends (length ends) = rw g at r in
      (above i h, omega (arith, prior_more ends i, eqb-true (prior ends (length ends)) n parts.1))

  -- the last one is the count of entries
  pub end_last : prior ends (length ends) ≡ n
  end_last = eqb-true (prior ends (length ends)) n parts.1
