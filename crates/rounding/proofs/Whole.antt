-- The whole number nearest to a fraction, exactly halfway the even one. Nothing here is about floats. Assumes nothing.
use mathlib.Core.Path.{◌≡◌, refl, sym, ap, ap₂, ◌∙◌, subst}
use mathlib.Core.Bool.{not}
use mathlib.Core.Logic.{inl, inr}
use Prim.Native.Nat.compare
use Prim.Native.Nat.{ℕ, zero, suc, ◌+◌, ◌-◌, ◌*◌, ◌/◌, ◌%◌, ◌≤◌, ◌<◌, compare, Ordering}
use native.Mathlib.Nat.{le_trans, le_of_eq, lt_irrefl, mod-lt, div-add-mod', mul-add-div_right, mul-add-mod_self_right, mul-div_cancel, mul-mod_left, mul-le-mul_right, add-mul}
use native.Mathlib.Omega.{arith}
use lib.Dec.{T, is_le, compare_is_eq, eqb, leb→le, nleb→lt, eqb→eq, eqb_refl}
use lib.Arith.{lt_of_le-ne}
use lib.Ieee.{nearest}
use lib.Ieee.Nearest.{closest, closest_mono}
use Rattle.std.proofs.lemmas.Bool.{cases_lt}

-- how far apart two numbers are
abbrev pub gap : ℕ → ℕ → ℕ
gap a b = (a - b) + (b - a)

-- ---- an even number more, and fractions that are whole

even_more : (w q : ℕ) (o : Ordering) → w % 2 ≡ 0 → nearest (w + q) o ≡ w + nearest q o
even_more w q Ordering.lt e = refl
even_more w q Ordering.eq e = omega arith
even_more w q Ordering.gt e = omega arith

pub closest_more : (w a b : ℕ) → 0 < b → w % 2 ≡ 0 → closest (w * b + a) b ≡ w + closest a b
closest_more w a b h e =
    ap₂ (λ (q r : ℕ). nearest q (compare (r * 2) b)) (mul-add-div_right h w a) (mul-add-mod_self_right w b a)
    ∙ even_more w (a / b) (compare (a % b * 2) b) e

above_zero : (b : ℕ) → 0 < b → compare 0 b ≡ Ordering.lt
above_zero zero h = absurd (lt_irrefl 0 h)
above_zero (suc b) h = compare.zero-suc b

pub closest_whole : (n b : ℕ) → 0 < b → closest (n * b) b ≡ n
closest_whole n b h =
    ap₂ (λ (q r : ℕ). nearest q (compare (r * 2) b)) (mul-div_cancel n h) (mul-mod_left n b)
    ∙ ap (λ (o : Ordering). nearest n o) (above_zero b h)

pub closest_at_most : (a n b : ℕ) → 0 < b → a ≤ n * b → closest a b ≤ n
closest_at_most a n b h l = le_trans (closest_mono a b (n * b) b h h (mul-le-mul_right b l)) (le_of_eq (closest_whole n b h))

-- ---- at most half off, and the even one at half

pub record Nearest (a b q : ℕ) : Type 0 where
  pub half : 2 * gap a (q * b) ≤ b
  pub tie : 2 * gap a (q * b) ≡ b → q % 2 ≡ 0

abbrev Compared : Ordering → ℕ → ℕ → Type 0
Compared Ordering.lt a b = a < b
Compared Ordering.eq a b = a ≡ b
Compared Ordering.gt a b = b < a

compared : (a b : ℕ) → Compared (compare a b) a b
compared a b = go (compare a b) (leb→le a b) (nleb→lt a b) (eqb→eq a b) (λ (e : a ≡ b). subst (λ (x : ℕ). T (eqb a x)) e (eqb_refl a))
  where
    go : (o : Ordering) → (T (is_le o) → a ≤ b) → (T (not (is_le o)) → b < a) → (T (compare_is_eq o) → a ≡ b) → (a ≡ b → T (compare_is_eq o)) → Compared o a b
    go Ordering.lt h k e n = lt_of_le-ne (h tt) n
    go Ordering.eq h k e n = e tt
    go Ordering.gt h k e n = k tt

by_rest : (w r b : ℕ) (o : Ordering) → Compared o (r * 2) b → r < b → Nearest (w * b + r) b (nearest w o)
by_rest w r b Ordering.lt h l = record { half = omega arith; tie = λ e. absurd (omega arith) }
by_rest w r b Ordering.gt h l = record { half = omega (arith, add-mul w 1 b); tie = λ e. absurd (omega (arith, add-mul w 1 b)) }
by_rest w r b Ordering.eq h l = record { half = go (w % 2) (omega arith); tie = λ e. omega arith }
  where
    go : (i : ℕ) → i < 2 → 2 * gap (w * b + r) ((w + i) * b) ≤ b
    go zero i = omega arith
    go (suc zero) i = omega (arith, add-mul w 1 b)
    go (suc (suc i)) k = absurd (omega arith)

pub closest_nearest : (a b : ℕ) → 0 < b → Nearest a b (closest a b)
closest_nearest a b h =
    subst (λ (n : ℕ). Nearest n b (closest a b)) (div-add-mod' a b) (by_rest (a / b) (a % b) b (compare (a % b * 2) b) (compared (a % b * 2) b) (mod-lt a h))

-- ---- so none is nearer, and of two that are equally near it is the even one

-- from one multiple to another by way of a
apart : (a b q n : ℕ) → (n ≡ q → ⊥) → b ≤ gap a (q * b) + gap a (n * b)
apart a b q n d = elim (cases_lt n q) [
  | inl l ↦ omega (arith, mul-le-mul_right b l, add-mul n 1 b)
  | inr l ↦ let g : q < n = lt_of_le-ne l (λ e. d (sym e)) in omega (arith, mul-le-mul_right b g, add-mul q 1 b)
]

pub none_nearer : (a b q n : ℕ) → Nearest a b q → gap a (q * b) ≤ gap a (n * b)
none_nearer a b q n h = elim (cases_lt (gap a (n * b)) (gap a (q * b))) [
  | inl l ↦ absurd (let d = apart a b q n (λ e. lt_irrefl (gap a (q * b)) (subst (λ (i : ℕ). gap a (i * b) < gap a (q * b)) e l)) in omega (arith, h.half))
  | inr l ↦ l
]

pub even_one : (a b q n : ℕ) → Nearest a b q → gap a (q * b) ≡ gap a (n * b) → (n ≡ q → ⊥) → q % 2 ≡ 0
even_one a b q n h e d = h.tie (omega (arith, apart a b q n d, h.half))
