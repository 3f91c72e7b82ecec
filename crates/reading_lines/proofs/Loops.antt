-- One turn of each reading loop, over plain lists and numbers. Assumes nothing.
use Rattle.std.proofs.Common.{◌≡◌, ℕ, suc, ◌+◌, ◌-◌, ◌*◌, ◌<◌, ◌≤◌, List, [], ◌∷◌, ◌++◌, length, get_or, take, drop, add-one, arith, drop-cons, take-append-drop, Some, None, ◌≢◌, refl, zero}
use borrow.Author.Tests.{lt-ltb, le-ltb, le-leb, lt-leb, ne_eqb}
use lib.ListN.{drop_of_length-le, length-drop}
use lib.Seq.{take_all}
use lib.Dec.{ltb, eqb}
use lib.Pointwise.{pointwise}
use Rattle.std.specs.Prelude.{Option, MatchOption, option_copied}
use denote.Ref.{Bor}
use native.Mathlib.Nat.{le_refl}
use mathlib.Core.Bool.{Bool, true, false, cond, ◌&&◌}
use Rattle.text.specs.Given.{Parsed}
use Rattle.text.specs.Read.{word_from, more_from, decimal_from, hex_from, digit_val, hex_val}

-- what stands after a word, where the list begins with it
word_stripped : (w s : List ℕ) → word_from w s ≡ cond (pointwise eqb (take (length w) s) w) (Some (drop (length w) s)) None
unfolding word_from
word_stripped [] s = refl
word_stripped (c ∷ w) [] = refl
word_stripped (c ∷ w) (b ∷ s) = go (eqb b c) (word_stripped w s)
  where
    go : (x : Bool) → word_from w s ≡ cond (pointwise eqb (take (length w) s) w) (Some (drop (length w) s)) None
        → cond x (word_from w s) None ≡ cond (x && pointwise eqb (take (length w) s) w) (Some (drop (length w) s)) None
    go true e = e
    go false e = refl

pub stripped : (w s : List ℕ) (r : Option (Bor (List ℕ)))
    → MatchOption r (pointwise eqb (take (length w) s) w ≡ false)
    (λ x. (pointwise eqb (take (length w) s) w ≡ true) × (x.now ≡ drop (length w) s) × (length x.now + length w ≡ length s))
    → option_copied r ≡ word_from w s
stripped w s None h = rw (word_stripped w s, h) refl
stripped w s (Some x) (h, e, l) = rw (word_stripped w s, h, e) refl

-- the list from i on, at an element
pub head_at : (s : List ℕ) (i : ℕ) → i < length s → drop i s ≡ get_or s i 0 ∷ drop (i + 1) s
head_at s i h = rw (add-one, drop-cons s i 0)

module _ (v : ℕ) (s : List ℕ) (i : ℕ) where
  pub more_end : length s ≤ i → more_from v (drop i s) ≡ Some (v, [])
  unfolding more_from
  more_end h = rw (drop_of_length-le s h)

  module _ (h : i < length s) where
    pub more_stop : 10 ≤ digit_val (get_or s i 0) → more_from v (drop i s) ≡ Some (v, take (length s - i) (drop i s))
    unfolding more_from
    more_stop g = rw (take_all (length s - i) (drop i s) (simp length-drop (le_refl _)), head_at s i h, le-ltb _ _ g)

    module _ (d : ℕ) (e : d ≡ digit_val (get_or s i 0)) (g : d < 10) where
      pub more_over : 4294967296 ≤ v * 10 + d → more_from v (drop i s) ≡ None
      unfolding more_from
      more_over k = rw (head_at s i h, ← e, lt-ltb _ _ g, lt-leb _ _ k)

      pub more_step : v * 10 + d < 4294967296 → more_from v (drop i s) ≡ more_from (v * 10 + d) (drop (i + 1) s)
      unfolding more_from
      more_step k = let l : v * 10 + d ≤ 4294967295 = omega arith in rw (head_at s i h, ← e, lt-ltb _ _ g, le-leb _ _ l)

pub ruleset more_steps = (more_end, more_stop, more_over, more_step)

pub decimal_none : (s : List ℕ) → length s ≡ 0 → decimal_from s ≡ None
unfolding decimal_from
decimal_none [] h = refl
decimal_none (b ∷ s) h = absurd (omega arith)

module _ (b : ℕ) (t : List ℕ) where
  pub decimal_bad : 10 ≤ digit_val b → decimal_from (b ∷ t) ≡ None
  unfolding decimal_from
  decimal_bad g = rw (le-ltb _ _ g)

  pub decimal_zero : digit_val b ≡ 0 → decimal_from (b ∷ t) ≡ Some (0, t)
  unfolding decimal_from
  decimal_zero e = rw e

  pub decimal_more : digit_val b < 10 → digit_val b ≢ 0 → decimal_from (b ∷ t) ≡ more_from (digit_val b) t
  unfolding decimal_from
  decimal_more g k = rw (lt-ltb _ _ g, ne_eqb _ _ k)

pub ruleset decimal_steps = (decimal_none, decimal_bad, decimal_zero, decimal_more)

pub hex_short : (k v : ℕ) (s : List ℕ) → length s < k → hex_from k v s ≡ None
unfolding hex_from
hex_short zero v s h = absurd (omega arith)
hex_short (suc k) v [] h = refl
hex_short (suc k) v (b ∷ s) h = rw (hex_short k (v * 16 + hex_val b) s (omega arith)) (go (ltb (hex_val b) 16) (ltb v 1152921504606846976))
  where
    go : (x y : Bool) → ◌≡◌ {A = Parsed ℕ} (cond x (cond y None None) None) None
    go true true = refl
    go true false = refl
    go false y = refl

pub parts_join : (s w t : List ℕ) (n : ℕ) → w ≡ take n s → t ≡ drop n s → w ++ t ≡ s
parts_join s w t n e f = rw (e, f, take-append-drop)

-- the digits of w, of which i are read, and what follows
module _ (v : ℕ) (w t : List ℕ) (i : ℕ) where
  pub hex_end : i ≡ 16 → length w ≡ 16 → hex_from (16 - i) v (drop i w ++ t) ≡ Some (v, t)
  unfolding hex_from
  hex_end e l = let h : length w ≤ i = omega arith in let z : 16 - i ≡ 0 = omega arith in rw (z, drop_of_length-le w h)

  module _ (l : length w ≡ 16) (h : i < length w) where
    left : 16 - i ≡ suc (16 - (i + 1))
    left = omega arith

    pub hex_bad : 16 ≤ hex_val (get_or w i 0) → hex_from (16 - i) v (drop i w ++ t) ≡ None
    unfolding hex_from
    hex_bad g = rw (left, head_at w i h, le-ltb _ _ g)

    pub hex_over : 18446744073709551616 ≤ v * 16 → hex_from (16 - i) v (drop i w ++ t) ≡ None
    unfolding hex_from
    hex_over k = let m : 1152921504606846976 ≤ v = omega arith in rw (left, head_at w i h, le-ltb _ _ m) (go (ltb (hex_val (get_or w i 0)) 16))
      where
        go : (x : Bool) → ◌≡◌ {A = Parsed ℕ} (cond x None None) None
        go true = refl
        go false = refl

    pub hex_step : (d : ℕ) → d ≡ hex_val (get_or w i 0) → d < 16 → v * 16 < 18446744073709551616
        → hex_from (16 - i) v (drop i w ++ t) ≡ hex_from (16 - (i + 1)) (v * 16 + d) (drop (i + 1) w ++ t)
    unfolding hex_from
    hex_step d e g k = let m : v < 1152921504606846976 = omega arith in rw (left, head_at w i h, ← e, lt-ltb _ _ g, lt-ltb _ _ m)

pub ruleset hex_steps = (hex_short, hex_end, hex_bad, hex_over, hex_step)
