-- Reading undoes printing: words, numbers, lines. Assumes nothing.
use mathlib.Core.Path.{◌≡◌, refl, sym, ap, ◌∙◌}
use mathlib.Core.Bool.{Bool, true, false, cond}
use mathlib.Core.List.{List, [], ◌∷◌, ◌++◌}
use Prim.Native.Nat.{ℕ, zero, suc, ◌+◌, ◌-◌, ◌*◌, ◌/◌, ◌%◌, ◌≤◌, ◌<◌}
use native.Mathlib.Omega.{arith}
use borrow.Author.Tests.{lt-ltb, le-ltb, le-leb, eq-eqb, ne_eqb, ltb-true, ltb-false}
use lib.Dec.{ltb}
use lib.Seq.{append_snoc}
use Rattle.std.specs.Prelude.{Some}
use Rattle.text.specs.Text.{decimal_to, decimal, glyph, hex_to, hex}
use Rattle.text.specs.Read.{word_from, digit_val, hex_val}
use Rattle.text.specs.Read.{more_from, decimal_from, hex_from}

-- ---- words
pub word_self : (w t : List ℕ) → word_from w (w ++ t) ≡ Some t
unfolding word_from
word_self [] t = refl
word_self (c ∷ w) t = rw (eq-eqb c c refl) (word_self w t)

-- ---- decimals
digit : (d : ℕ) → d < 10 → digit_val (48 + d) ≡ d
unfolding digit_val
digit d h =
    let e : 48 + d - 48 ≡ d = omega arith in
    rw (le-ltb (48 + d) 48 (omega arith), lt-ltb (48 + d) 58 (omega arith), e)

more_digit : (v d : ℕ) (t : List ℕ) → d < 10 → v * 10 + d ≤ 4294967295 → more_from v ((48 + d) ∷ t) ≡ more_from (v * 10 + d) t
unfolding more_from
more_digit v d t h g = rw (digit d h, lt-ltb _ _ h, le-leb _ _ g)

from_zero : (d : ℕ) (t : List ℕ) → d < 10 → more_from 0 ((48 + d) ∷ t) ≡ more_from d t
from_zero d t h = let e : 0 * 10 + d ≡ d = omega arith in more_digit 0 d t h (omega arith) ∙ ap (λ (m : ℕ). more_from m t) e

more_stop : (v b : ℕ) (t : List ℕ) → 10 ≤ digit_val b → more_from v (b ∷ t) ≡ Some (v, b ∷ t)
unfolding more_from
more_stop v b t h = rw (le-ltb _ _ h)

unfoldable pub tens : ℕ → ℕ
tens zero = 1
tens (suc k) = tens k * 10

pub small : (k n : ℕ) → n < tens (suc k) → n / 10 < tens k
unfolding tens
small k n h = omega arith

-- the digits of a number, read from 0
more_decimal : (k n : ℕ) (t : List ℕ) → n < tens k → n ≤ 4294967295 → more_from 0 (decimal_to k n ++ t) ≡ more_from n t
unfolding decimal_to tens
more_decimal zero n t h g = let e : n ≡ 0 = omega arith in rw e
more_decimal (suc k) n t h g = go (λ u. more_decimal k (n / 10) u (small k n h) (omega arith)) (ltb n 10) refl
  where
    go : ((u : List ℕ) → more_from 0 (decimal_to k (n / 10) ++ u) ≡ more_from (n / 10) u) → (b : Bool) → ltb n 10 ≡ b
        → more_from 0 (cond b ((48 + n) ∷ []) (decimal_to k (n / 10) ++ ((48 + n % 10) ∷ [])) ++ t) ≡ more_from n t
    go ih true e = from_zero n t (ltb-true n 10 e)
    go ih false e =
        let f : n / 10 * 10 + n % 10 ≡ n = omega arith in
        ap (more_from 0) (append_snoc (decimal_to k (n / 10)) (48 + n % 10) t)
        ∙ ih ((48 + n % 10) ∷ t)
        ∙ more_digit (n / 10) (n % 10) t (omega arith) (omega arith)
        ∙ ap (λ (m : ℕ). more_from m t) f

-- a number above 0 begins with a digit above 0
record Lead (l : List ℕ) : Type 0 where
  d : ℕ
  rest : List ℕ
  is : l ≡ (48 + d) ∷ rest
  above : 1 ≤ d
  below : d < 10

lead : (k n : ℕ) → 1 ≤ n → n < tens k → Lead (decimal_to k n)
unfolding decimal_to tens
lead zero n h g = absurd (let z : n ≡ 0 = omega arith in omega arith)
lead (suc k) n h g = go (λ l. lead k (n / 10) (omega arith) (small k n g)) (ltb n 10) refl
  where
    go : (10 ≤ n → Lead (decimal_to k (n / 10))) → (b : Bool) → ltb n 10 ≡ b → Lead (cond b ((48 + n) ∷ []) (decimal_to k (n / 10) ++ ((48 + n % 10) ∷ [])))
    go ih true e = record { d = n; rest = []; is = refl; above = h; below = ltb-true n 10 e }
    go ih false e =
        let r : Lead (decimal_to k (n / 10)) = ih (ltb-false n 10 e) in
        record { d = r.d; rest = r.rest ++ ((48 + n % 10) ∷ []); is = rw r.is; above = r.above; below = r.below }

first_digit : (d : ℕ) (t : List ℕ) → 1 ≤ d → d < 10 → decimal_from ((48 + d) ∷ t) ≡ more_from 0 ((48 + d) ∷ t)
unfolding decimal_from
first_digit d t h g = rw (digit d g, lt-ltb _ _ g, ne_eqb d 0 (λ z. omega arith)) (sym (from_zero d t g))

lead_read : (l t : List ℕ) → Lead l → decimal_from (l ++ t) ≡ more_from 0 (l ++ t)
lead_read l t r = rw r.is (first_digit r.d (r.rest ++ t) r.above r.below)

zero_read : (b : ℕ) (t : List ℕ) → decimal_from (decimal 0 ++ (b ∷ t)) ≡ Some (0, b ∷ t)
unfolding decimal decimal_to decimal_from digit_val
zero_read b t = refl

pub few_tens : (n : ℕ) → n ≤ 4294967295 → n < tens 10
unfolding tens
few_tens n h = omega arith

above : (m b : ℕ) (t : List ℕ) → suc m ≤ 4294967295 → 10 ≤ digit_val b → decimal_from (decimal (suc m) ++ (b ∷ t)) ≡ Some (suc m, b ∷ t)
unfolding decimal
above m b t h g =
    lead_read (decimal_to 10 (suc m)) (b ∷ t) (lead 10 (suc m) (omega arith) (few_tens (suc m) h))
    ∙ more_decimal 10 (suc m) (b ∷ t) (few_tens (suc m) h) h
    ∙ more_stop (suc m) b t g

-- a decimal and a byte that is no digit
pub decimal_read : (n b : ℕ) (t : List ℕ) → n ≤ 4294967295 → 10 ≤ digit_val b → decimal_from (decimal n ++ (b ∷ t)) ≡ Some (n, b ∷ t)
decimal_read zero b t h g = zero_read b t
decimal_read (suc m) b t h g = above m b t h g

-- ---- hexadecimal digits
hex_digit : (d : ℕ) → d < 16 → hex_val (glyph d) ≡ d
unfolding hex_val glyph
hex_digit d h = go (ltb d 10) refl
  where
    go : (b : Bool) → ltb d 10 ≡ b → cond (ltb (cond b (48 + d) (87 + d)) 97) (digit_val (cond b (48 + d) (87 + d)))
        (cond (ltb (cond b (48 + d) (87 + d)) 103) (cond b (48 + d) (87 + d) - 87) 255) ≡ d
    go true e = let l : d < 10 = ltb-true d 10 e in rw (lt-ltb (48 + d) 97 (omega arith)) (digit d l)
    go false e =
        let l : 10 ≤ d = ltb-false d 10 e in
        let f : 87 + d - 87 ≡ d = omega arith in
        rw (le-ltb (87 + d) 97 (omega arith), lt-ltb (87 + d) 103 (omega arith), f)

hex_one : (j v d : ℕ) (t : List ℕ) → d < 16 → v < 1152921504606846976 → hex_from (suc j) v (glyph d ∷ t) ≡ hex_from j (v * 16 + d) t
unfolding hex_from
hex_one j v d t h g = rw (hex_digit d h, lt-ltb _ _ h, lt-ltb _ _ g)

unfoldable pub sixteens : ℕ → ℕ
sixteens zero = 1
sixteens (suc k) = sixteens k * 16

hex_all : (k i j n : ℕ) (t : List ℕ) → i ≡ k + j → n < sixteens k → n < 18446744073709551616 → hex_from i 0 (hex_to k n ++ t) ≡ hex_from j n t
unfolding hex_to sixteens
hex_all zero i j n t e h g = let z : n ≡ 0 = omega arith in let y : i ≡ j = omega arith in rw (z, y)
hex_all (suc k) i j n t e h g =
    let f : n / 16 * 16 + n % 16 ≡ n = omega arith in
    let s : n / 16 < sixteens k = omega arith in
    let y : i ≡ k + suc j = omega arith in
    ap (hex_from i 0) (append_snoc (hex_to k (n / 16)) (glyph (n % 16)) t)
    ∙ hex_all k i (suc j) (n / 16) (glyph (n % 16) ∷ t) y s (omega arith)
    ∙ hex_one j (n / 16) (n % 16) t (omega arith) (omega arith)
    ∙ ap (λ (m : ℕ). hex_from j m t) f

few_sixteens : (n : ℕ) → n < 18446744073709551616 → n < sixteens 16
unfolding sixteens
few_sixteens n h = h

hex_none : (v : ℕ) (t : List ℕ) → hex_from 0 v t ≡ Some (v, t)
unfolding hex_from
hex_none v t = refl

pub hex_read : (n : ℕ) (t : List ℕ) → n < 18446744073709551616 → hex_from 16 0 (hex n ++ t) ≡ Some (n, t)
unfolding hex
hex_read n t h = hex_all 16 16 0 n t refl (few_sixteens n h) h ∙ hex_none n t
