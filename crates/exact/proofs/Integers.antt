-- Whole numbers as differences of two naturals: sums, negatives, products and signs go through, so that an identity of whole numbers is one of naturals. Assumes nothing.
use mathlib.Core.Path.{◌≡◌, refl, sym, ap, ap₂, ◌∙◌, subst}
use mathlib.Core.Bool.{Bool, true, false, cond, not, beq, true≢false, false≢true}
use Rattle.exact.specs.Angle.{det}
use Prim.Native.Nat.{ℕ, zero, suc, ◌+◌, ◌-◌, ◌*◌}
use native.Mathlib.Nat.{add_assoc, add_comm, add_left_comm, mul_comm, mul-add, add-mul}
use native.Mathlib.Omega.{arith}
use lib.IntN.{ℤ, pos, negsuc, neg_ℤ, nat_abs, sub_ℕ, ◌+ℤ◌, ◌-ℤ◌, ◌*ℤ◌}
use borrow.Author.Tests.{lt-ltb, le-ltb}
use Rattle.exact.specs.Exact.{ordered, sign, signed}
use Rattle.exact.proofs.Orders.{ordered_less, ordered_greater, ordered_equal}

-- a - b, which stays as it is written
unfoldable pub diff : ℕ → ℕ → ℤ
diff a b = sub_ℕ a b

pub as_pos : (a b n : ℕ) → a ≡ b + n → diff a b ≡ pos n
unfolding diff
as_pos a b n e = simp (le-ltb a b (omega arith)) (ap pos (omega arith))

pub as_neg : (a b n : ℕ) → b ≡ a + suc n → diff a b ≡ negsuc n
unfolding diff
as_neg a b n e = simp (lt-ltb a b (omega arith)) (ap negsuc (omega arith))

-- either way round
data Way : ℕ → ℕ → Type 0 where
  over : (a b n : ℕ) → a ≡ b + n → Way a b
  under : (a b n : ℕ) → b ≡ a + suc n → Way a b

step : {a b : ℕ} → Way a b → Way (suc a) (suc b)
step (over a b n e) = over (suc a) (suc b) n (omega arith)
step (under a b n e) = under (suc a) (suc b) n (omega arith)

way : (a b : ℕ) → Way a b
way zero zero = over zero zero zero refl
way zero (suc b) = under zero (suc b) b (omega arith)
way (suc a) zero = over (suc a) zero (suc a) (omega arith)
way (suc a) (suc b) = step (way a b)

-- the same difference
pub diff_same : (a b c d : ℕ) → a + d ≡ c + b → diff a b ≡ diff c d
diff_same a b c d e = go (way a b) e
  where
    go : {a b : ℕ} → Way a b → a + d ≡ c + b → diff a b ≡ diff c d
    go (over a b n h) e = as_pos a b n h ∙ sym (as_pos c d n (omega arith))
    go (under a b n h) e = as_neg a b n h ∙ sym (as_neg c d n (omega arith))

pub diff_neg : (a b : ℕ) → neg_ℤ (diff a b) ≡ diff b a
diff_neg a b = go (way a b)
  where
    back : (a b n : ℕ) → a ≡ b + n → neg_ℤ (pos n) ≡ diff b a
    back a b zero e = sym (as_pos b a zero (omega arith))
    back a b (suc n) e = sym (as_neg b a n e)

    go : {a b : ℕ} → Way a b → neg_ℤ (diff a b) ≡ diff b a
    go (over a b n h) = ap neg_ℤ (as_pos a b n h) ∙ back a b n h
    go (under a b n h) = ap neg_ℤ (as_neg a b n h) ∙ sym (as_pos b a (suc n) h)

pub diff_add : (a b c d : ℕ) → diff a b +ℤ diff c d ≡ diff (a + c) (b + d)
unfolding diff
diff_add a b c d = go (way a b) (way c d)
  where
    go : {a b c d : ℕ} → Way a b → Way c d → diff a b +ℤ diff c d ≡ diff (a + c) (b + d)
    go (over a b n h) (over c d m k) = ap₂ ◌+ℤ◌ (as_pos a b n h) (as_pos c d m k) ∙ sym (as_pos (a + c) (b + d) (n + m) (omega arith))
    go (over a b n h) (under c d m k) = ap₂ ◌+ℤ◌ (as_pos a b n h) (as_neg c d m k) ∙ diff_same n (suc m) (a + c) (b + d) (omega arith)
    go (under a b n h) (over c d m k) = ap₂ ◌+ℤ◌ (as_neg a b n h) (as_pos c d m k) ∙ diff_same m (suc n) (a + c) (b + d) (omega arith)
    go (under a b n h) (under c d m k) = ap₂ ◌+ℤ◌ (as_neg a b n h) (as_neg c d m k) ∙ sym (as_neg (a + c) (b + d) (suc (n + m)) (omega arith))

cross : (p q x y : ℕ) → (p + x) * (q + y) + p * q ≡ (p + x) * q + p * (q + y) + x * y
cross p q x y = simp (mul-add, add-mul, add_assoc, add_comm, add_left_comm) refl

prod_eq : (a b n c d m : ℕ) → a ≡ b + n → c ≡ d + m → a * c + b * d ≡ (a * d + b * c) + n * m
prod_eq a b n c d m e f =
    ap₂ (λ (x y : ℕ). x * y + b * d) e f ∙ cross b d n m ∙ ap₂ (λ (x y : ℕ). x * d + b * y + n * m) (sym e) (sym f)

pub neg_diff : (a b n : ℕ) → b ≡ a + n → neg_ℤ (pos n) ≡ diff a b
neg_diff a b n e = ap neg_ℤ (sym (as_pos b a n e)) ∙ diff_neg b a

pub diff_mul : (a b c d : ℕ) → diff a b *ℤ diff c d ≡ diff (a * c + b * d) (a * d + b * c)
diff_mul a b c d = go (way a b) (way c d)
  where
    go : {a b c d : ℕ} → Way a b → Way c d → diff a b *ℤ diff c d ≡ diff (a * c + b * d) (a * d + b * c)
    go (over a b n h) (over c d m k) =
        ap₂ ◌*ℤ◌ (as_pos a b n h) (as_pos c d m k) ∙ sym (as_pos (a * c + b * d) (a * d + b * c) (n * m) (prod_eq a b n c d m h k))
    go (over a b n h) (under c d m k) =
        ap₂ ◌*ℤ◌ (as_pos a b n h) (as_neg c d m k) ∙ neg_diff (a * c + b * d) (a * d + b * c) (n * suc m) (prod_eq a b n d c (suc m) h k)
    go (under a b n h) (over c d m k) =
        ap₂ ◌*ℤ◌ (as_neg a b n h) (as_pos c d m k)
        ∙ neg_diff (a * c + b * d) (a * d + b * c) (suc n * m) (omega (arith, prod_eq b a (suc n) c d m h k))
    go (under a b n h) (under c d m k) =
        ap₂ ◌*ℤ◌ (as_neg a b n h) (as_neg c d m k)
        ∙ sym (as_pos (a * c + b * d) (a * d + b * c) (suc n * suc m) (omega (arith, prod_eq b a (suc n) d c (suc m) h k)))

pub sign_diff : (a b : ℕ) → sign (diff a b) ≡ ordered a b
unfolding sign
sign_diff a b = go (way a b)
  where
    up : (a b n : ℕ) → a ≡ b + n → sign (pos n) ≡ ordered a b
    up a b zero e = sym (ordered_equal (omega arith))
    up a b (suc n) e = sym (ordered_greater (omega arith))

    go : {a b : ℕ} → Way a b → sign (diff a b) ≡ ordered a b
    go (over a b n h) = ap sign (as_pos a b n h) ∙ up a b n h
    go (under a b n h) = ap sign (as_neg a b n h) ∙ sym (ordered_less (omega arith))

-- ---- every whole number is a difference

abbrev pub plus : ℤ → ℕ
plus (pos n) = n
plus (negsuc n) = 0

abbrev pub less : ℤ → ℕ
less (pos n) = 0
less (negsuc n) = suc n

pub whole : (z : ℤ) → z ≡ diff (plus z) (less z)
whole (pos n) = sym (as_pos n 0 n (omega arith))
whole (negsuc n) = sym (as_neg 0 (suc n) n (omega arith))

-- so what holds of all differences holds of all whole numbers
pub every : (P : ℤ → Type 0) → ((a b : ℕ) → P (diff a b)) → (z : ℤ) → P z
every P h z = subst P (sym (whole z)) (h (plus z) (less z))

-- and so for several
pub every₂ : (P : ℤ → ℤ → Type 0) → ((a a' b b' : ℕ) → P (diff a a') (diff b b')) → (x y : ℤ) → P x y
every₂ P h x y = every (λ (x : ℤ). P x y) (λ a a'. every (λ (y : ℤ). P (diff a a') y) (λ b b'. h a a' b b') y) x

every₆ : (P : ℤ → ℤ → ℤ → ℤ → ℤ → ℤ → Type 0)
    → ((a a' b b' c c' d d' e e' f f' : ℕ) → P (diff a a') (diff b b') (diff c c') (diff d d') (diff e e') (diff f f'))
    → (u v w x y z : ℤ) → P u v w x y z
every₆ P h u v w x y z =
    every₂ (λ (u v : ℤ). P u v w x y z) (λ a a' b b'.
    every₂ (λ (w x : ℤ). P (diff a a') (diff b b') w x y z) (λ c c' d d'.
    every₂ (λ (y z : ℤ). P (diff a a') (diff b b') (diff c c') (diff d d') y z) (λ e e' f f'. h a a' b b' c c' d d' e e' f f') y z) w x) u v

foil : (a b c d : ℕ) → (a + b) * (c + d) ≡ a * c + a * d + b * c + b * d
foil a b c d = simp (mul-add, add-mul, add_assoc, add_left_comm) refl

-- ---- the determinant as a sum of six products

pub six : (ax ay bx by cx cy : ℤ)
    → det ax ay bx by cx cy ≡ ax *ℤ by -ℤ ax *ℤ cy -ℤ cx *ℤ by -ℤ ay *ℤ bx +ℤ ay *ℤ cx +ℤ cy *ℤ bx
six =
    every₆ (λ (ax ay bx by cx cy : ℤ). det ax ay bx by cx cy ≡ ax *ℤ by -ℤ ax *ℤ cy -ℤ cx *ℤ by -ℤ ay *ℤ bx +ℤ ay *ℤ cx +ℤ cy *ℤ bx)
    (λ a a' b b' c c' d d' e e' f f'. simp (diff_neg, diff_add, diff_mul) (diff_same _ _ _ _ (omega (
      arith,
      foil a e' d f',
      foil a' e d' f,
      foil a e' d' f,
      foil a' e d f',
      foil b f' c e',
      foil b' f c' e,
      foil b f' c' e,
      foil b' f c e',
      mul_comm e f,
      mul_comm e' f',
      mul_comm e f',
      mul_comm e' f,
    ))))

-- ---- numbers by signs and sizes

pub signed_diff : (s : Bool) (n : ℕ) → signed s n ≡ diff (cond s 0 n) (cond s n 0)
signed_diff false n = sym (as_pos n 0 n (omega arith))
signed_diff true n = neg_diff 0 n n (omega arith)

pub signed_mul : (s t : Bool) (m n : ℕ) → signed s m *ℤ signed t n ≡ signed (not (beq s t)) (m * n)
signed_mul s t m n = ap₂ ◌*ℤ◌ (signed_diff s m) (signed_diff t n) ∙ go s t ∙ sym (signed_diff (not (beq s t)) (m * n))
  where
    go : (s t : Bool) → diff (cond s 0 m) (cond s m 0) *ℤ diff (cond t 0 n) (cond t n 0)
        ≡ diff (cond (not (beq s t)) 0 (m * n)) (cond (not (beq s t)) (m * n) 0)
    go false false = diff_mul m 0 n 0 ∙ diff_same _ _ _ _ (omega arith)
    go false true = diff_mul m 0 0 n ∙ diff_same _ _ _ _ (omega arith)
    go true false = diff_mul 0 m n 0 ∙ diff_same _ _ _ _ (omega arith)
    go true true = diff_mul 0 m 0 n ∙ diff_same _ _ _ _ (omega arith)

pub times_signed : (s : Bool) (n k : ℕ) → signed s n *ℤ pos k ≡ signed s (n * k)
times_signed false n k = refl
times_signed true n k = signed_mul true false n k

-- a signed number is added to a difference
pub add_signed : (a b : ℕ) (s : Bool) (t : ℕ) → diff (a + cond s 0 t) (b + cond s t 0) ≡ diff a b +ℤ signed s t
add_signed a b false t = sym (ap (λ (z : ℤ). diff a b +ℤ z) (signed_diff false t) ∙ diff_add a b t 0)
add_signed a b true t = sym (ap (λ (z : ℤ). diff a b +ℤ z) (signed_diff true t) ∙ diff_add a b 0 t)

pub signed_neg : (s : Bool) (n : ℕ) → signed (not s) n ≡ neg_ℤ (signed s n)
signed_neg s n = signed_diff (not s) n ∙ go s ∙ ap neg_ℤ (sym (signed_diff s n))
  where
    go : (s : Bool) → diff (cond (not s) 0 n) (cond (not s) n 0) ≡ neg_ℤ (diff (cond s 0 n) (cond s n 0))
    go false = sym (diff_neg n 0)
    go true = sym (diff_neg 0 n)

pub add_negated : (x y z : ℤ) → x +ℤ neg_ℤ y *ℤ z ≡ x -ℤ y *ℤ z
add_negated x y z =
    ap (λ (n : ℤ). x +ℤ n) (every₂ (λ (y z : ℤ). neg_ℤ y *ℤ z ≡ neg_ℤ (y *ℤ z))
    (λ a a' b b'. simp (diff_neg, diff_mul) (diff_same _ _ _ _ (omega arith))) y z)

-- one signed number less another
pub minus_signed : (s t : Bool) (m n : ℕ) → signed s m -ℤ signed t n ≡ diff (cond s 0 m + cond t n 0) (cond s m 0 + cond t 0 n)
minus_signed s t m n =
    ap₂ ◌-ℤ◌ (signed_diff s m) (signed_diff t n) ∙ ap (λ (z : ℤ). diff (cond s 0 m) (cond s m 0) +ℤ z) (diff_neg (cond t 0 n) (cond t n 0))
    ∙ diff_add (cond s 0 m) (cond s m 0) (cond t n 0) (cond t 0 n)

minus_is : (r s t : Bool) (k m n : ℕ) → cond r 0 k + (cond s m 0 + cond t 0 n) ≡ cond s 0 m + cond t n 0 + cond r k 0
    → signed r k ≡ signed s m -ℤ signed t n
minus_is r s t k m n e =
    signed_diff r k ∙ diff_same (cond r 0 k) (cond r k 0) (cond s 0 m + cond t n 0) (cond s m 0 + cond t 0 n) e ∙ sym (minus_signed s t m n)

pub minus_like_more : (s t : Bool) (k m n : ℕ) → beq s t ≡ true → m ≡ k + n → signed s k ≡ signed s m -ℤ signed t n
minus_like_more false false k m n e h = minus_is false false false k m n (omega arith)
minus_like_more true true k m n e h = minus_is true true true k m n (omega arith)
minus_like_more true false k m n e h = absurd (false≢true e)
minus_like_more false true k m n e h = absurd (false≢true e)

pub minus_like_less : (s t : Bool) (k m n : ℕ) → beq s t ≡ true → n ≡ k + m → signed (not s) k ≡ signed s m -ℤ signed t n
minus_like_less false false k m n e h = minus_is true false false k m n (omega arith)
minus_like_less true true k m n e h = minus_is false true true k m n (omega arith)
minus_like_less true false k m n e h = absurd (false≢true e)
minus_like_less false true k m n e h = absurd (false≢true e)

pub minus_unlike : (s t : Bool) (k m n : ℕ) → beq s t ≡ false → k ≡ m + n → signed s k ≡ signed s m -ℤ signed t n
minus_unlike false true k m n e h = minus_is false false true k m n (omega arith)
minus_unlike true false k m n e h = minus_is true true false k m n (omega arith)
minus_unlike true true k m n e h = absurd (true≢false e)
minus_unlike false false k m n e h = absurd (true≢false e)

-- ---- sizes

pub abs_signed : (s : Bool) (n : ℕ) → nat_abs (signed s n) ≡ n
abs_signed false n = refl
abs_signed true zero = refl
abs_signed true (suc n) = refl

pub abs_diff : (a b : ℕ) → nat_abs (diff a b) ≡ (a - b) + (b - a)
abs_diff a b = go (way a b)
  where
    go : {a b : ℕ} → Way a b → nat_abs (diff a b) ≡ (a - b) + (b - a)
    go (over a b n e) = ap nat_abs (as_pos a b n e) ∙ omega arith
    go (under a b n e) = ap nat_abs (as_neg a b n e) ∙ omega arith
