-- `ordered` from the fact, and how it goes through sums and products. Assumes nothing.
use mathlib.Core.Path.{◌≡◌, refl, sym, ap, ◌∙◌}
use mathlib.Core.Logic.{◌⊎◌, inl, inr}
use Prim.Native.Nat.{ℕ, zero, suc, ◌+◌, ◌*◌, ◌<◌}
use native.Mathlib.Nat.{lt_of_lt_of_le, le-add_right, mul-lt-mul_of_pos_right}
use native.Mathlib.Omega.{arith}
use lib.Arith.{digits_lt}
use borrow.Author.Tests.{lt-ltb, le-ltb}
use Rattle.exact.specs.Exact.{ordered}
use Rattle.std.specs.declared.cmp.Ordering.{Ordering}
use Rattle.std.specs.declared.cmp.Ordering.TheVariants.{Less, Equal, Greater}
use Rattle.std.specs.Ordering.{nat_cmp, ordering_then}
use Rattle.std.specs.Cmp.{nat_cmp_is}

pub ordered_less : {a b : ℕ} → a < b → ordered a b ≡ Less
unfolding ordered
ordered_less {a} {b} h = simp (lt-ltb a b h)

pub ordered_greater : {a b : ℕ} → b < a → ordered a b ≡ Greater
unfolding ordered
ordered_greater {a} {b} h = simp (le-ltb a b (omega arith), lt-ltb b a h)

pub ordered_equal : {a b : ℕ} → a ≡ b → ordered a b ≡ Equal
unfolding ordered
ordered_equal {a} {b} h = simp (le-ltb a b (omega arith), le-ltb b a (omega arith))

-- three ways
pub tri : (a b : ℕ) → (a < b) ⊎ ((a ≡ b) ⊎ (b < a))
tri zero zero = inr (inl refl)
tri zero (suc b) = inl (omega arith)
tri (suc a) zero = inr (inr (omega arith))
tri (suc a) (suc b) = go (tri a b)
  where
    go : (a < b) ⊎ ((a ≡ b) ⊎ (b < a)) → (suc a < suc b) ⊎ ((suc a ≡ suc b) ⊎ (suc b < suc a))
    go (inl h) = inl (omega arith)
    go (inr (inl h)) = inr (inl (ap suc h))
    go (inr (inr h)) = inr (inr (omega arith))

-- two numbers are ordered as two others that go with them
pub ordered_as : {a b : ℕ} (c d : ℕ) → (c < d → a < b) → (c ≡ d → a ≡ b) → (d < c → b < a) → ordered a b ≡ ordered c d
ordered_as {a} {b} c d l e g = go (tri c d)
  where
    go : (c < d) ⊎ ((c ≡ d) ⊎ (d < c)) → ordered a b ≡ ordered c d
    go (inl h) = ordered_less (l h) ∙ sym (ordered_less h)
    go (inr (inl h)) = ordered_equal (e h) ∙ sym (ordered_equal h)
    go (inr (inr h)) = ordered_greater (g h) ∙ sym (ordered_greater h)

pub ordered_scale : (a b : ℕ) {k : ℕ} → 0 < k → ordered (a * k) (b * k) ≡ ordered a b
ordered_scale a b {k} p =
    ordered_as a b (λ h. mul-lt-mul_of_pos_right h p) (λ h. ap (λ (n : ℕ). n * k) h) (λ h. mul-lt-mul_of_pos_right h p)

-- as `cmp` gives it
pub ordered_cmp : (a b : ℕ) → nat_cmp a b ≡ ordered a b
ordered_cmp a b = go (tri a b)
  where
    go : (a < b) ⊎ ((a ≡ b) ⊎ (b < a)) → nat_cmp a b ≡ ordered a b
    go (inl h) = sym (ordered_less h ∙ nat_cmp_is a b Less h)
    go (inr (inl h)) = sym (ordered_equal h ∙ nat_cmp_is a b Equal h)
    go (inr (inr h)) = sym (ordered_greater h ∙ nat_cmp_is a b Greater h)

-- ---- two numbers with a leading digit each: by the digits, and where these are the same, by the rest

pub by_digit : {M A B : ℕ} (x y : ℕ) → A < M → B < M → ordering_then (nat_cmp x y) (ordered A B) ≡ ordered (x * M + A) (y * M + B)
by_digit {M} {A} {B} x y hA hB = ap (λ (o : Ordering). ordering_then o (ordered A B)) (ordered_cmp x y) ∙ go (tri x y)
  where
    go : (x < y) ⊎ ((x ≡ y) ⊎ (y < x)) → ordering_then (ordered x y) (ordered A B) ≡ ordered (x * M + A) (y * M + B)
    go (inl h) =
        ap (λ (o : Ordering). ordering_then o (ordered A B)) (ordered_less h)
        ∙ sym (ordered_less (lt_of_lt_of_le (digits_lt h hA) (le-add_right (y * M) B)))
    go (inr (inl h)) =
        ap (λ (o : Ordering). ordering_then o (ordered A B)) (ordered_equal h)
        ∙ sym (ap (λ (n : ℕ). ordered (n * M + A) (y * M + B)) h ∙ ordered_as A B (λ l. omega arith) (λ l. omega arith) (λ l. omega arith))
    go (inr (inr h)) =
        ap (λ (o : Ordering). ordering_then o (ordered A B)) (ordered_greater h)
        ∙ sym (ordered_greater (lt_of_lt_of_le (digits_lt h hB) (le-add_right (x * M) A)))
