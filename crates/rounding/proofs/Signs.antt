-- The sign of a float, of its negative and of what was rounded; and the two zeros. Assumes nothing.
use mathlib.Core.Path.{◌≡◌, refl, sym, ap, ◌∙◌, subst}
use mathlib.Core.Logic.{inl, inr}
use mathlib.Core.Bool.{Bool, true, false, cond, true≢false, false≢true}
use Prim.Native.Nat.{ℕ, zero, suc, ◌+◌, ◌*◌, ◌^◌, ◌≤◌, ◌<◌, zero-le}
use native.Mathlib.Nat.{le_of_eq, add_comm, zero-mul, mul-pos, eq-zero-or-pos}
use native.Mathlib.Omega.{arith}
use lib.Dec.{ltb}
use lib.Pow.{pow_pos}
use lib.Ieee.{Float, nan, inf, fin, Format, binary64, prec, low, emax, up, down, odd, units, round, neg, below, lt, eq}
use lib.Ieee.Fits.{round_is, up_pos}
use lib.Ieee.Exact.{HasValue, round_exact}
use lib.Ieee.Order.{drop, kept}
use borrow.Author.Tests.{le-ltb}
use Rattle.plane.proofs.FloatOrder.{number_left}

-- ---- negatives

pub lt_neg : (x y : Float) → lt (neg x) (neg y) ≡ lt y x
unfolding lt neg
lt_neg nan nan = refl
lt_neg nan (inf t) = refl
lt_neg nan (fin t n d) = refl
lt_neg (inf s) nan = refl
lt_neg (inf false) (inf false) = refl
lt_neg (inf false) (inf true) = refl
lt_neg (inf true) (inf false) = refl
lt_neg (inf true) (inf true) = refl
lt_neg (inf s) (fin t n d) = refl
lt_neg (fin s m e) nan = refl
lt_neg (fin s m e) (inf false) = refl
lt_neg (fin s m e) (inf true) = refl
lt_neg (fin false m e) (fin false n d) = refl
lt_neg (fin true m e) (fin true n d) = refl
lt_neg (fin true m e) (fin false n d) = refl
lt_neg (fin false m e) (fin true n d) = ap (ltb 0) (add_comm (m * up e * down d) (n * up d * down e))

odd_neg : (d q k l : ℕ) → odd d true q k l ≡ neg (odd d false q k l)
unfolding odd neg
odd_neg d zero k l = refl
odd_neg d (suc q) k l = refl

units_neg : (f : Format) (q k : ℕ) → units f true q k ≡ neg (units f false q k)
unfolding units
units_neg f q k = go (ltb (q * 2 ^ k) (2 ^ (low f + suc (emax f))))
  where
    go : (b : Bool) → cond b (odd (suc (prec f)) true q k (low f)) (inf true) ≡ neg (cond b (odd (suc (prec f)) false q k (low f)) (inf false))
    go true = odd_neg (suc (prec f)) q k (low f)
    go false = unfold neg in refl

pub round_neg : (a c : ℕ) → round binary64 true a c ≡ neg (round binary64 false a c)
round_neg a c =
    round_is binary64 true a c ∙ units_neg binary64 (kept 53 (a * 2 ^ 1074) c) (drop 53 (a * 2 ^ 1074) c) ∙ ap neg (sym (round_is binary64 false a c))

pub neg_neg : (x : Float) → neg (neg x) ≡ x
unfolding neg
neg_neg nan = refl
neg_neg (inf true) = refl
neg_neg (inf false) = refl
neg_neg (fin true m e) = refl
neg_neg (fin false m e) = refl

-- ---- the sign

-- the sign of x
abbrev pub side : Float → Bool
side nan = false
side (inf s) = s
side (fin s m e) = s

-- x is a number of the sign s
abbrev pub Sided : Bool → Float → Type 0
Sided s nan = ⊥
Sided s (inf t) = t ≡ s
Sided s (fin t m e) = t ≡ s

odd_sided : (d : ℕ) (s : Bool) (q k l : ℕ) → Sided s (odd d s q k l)
unfolding odd
odd_sided d s zero k l = refl
odd_sided d s (suc q) k l = refl

units_sided : (f : Format) (s : Bool) (q k : ℕ) → Sided s (units f s q k)
unfolding units
units_sided f s q k = go (ltb (q * 2 ^ k) (2 ^ (low f + suc (emax f))))
  where
    go : (b : Bool) → Sided s (cond b (odd (suc (prec f)) s q k (low f)) (inf s))
    go true = odd_sided (suc (prec f)) s q k (low f)
    go false = refl

pub round_sided : (s : Bool) (a c : ℕ) → Sided s (round binary64 s a c)
round_sided s a c = subst (Sided s) (sym (round_is binary64 s a c)) (units_sided binary64 s (kept 53 (a * 2 ^ 1074) c) (drop 53 (a * 2 ^ 1074) c))

pub sided_side : (x : Float) (s : Bool) → Sided s x → side x ≡ s
sided_side nan s h = absurd h
sided_side (inf t) s h = h
sided_side (fin t m e) s h = h

pub round_side : (s : Bool) (a c : ℕ) → side (round binary64 s a c) ≡ s
round_side s a c = sided_side (round binary64 s a c) s (round_sided s a c)

-- what is not negative does not lie below what is
pub sides_apart : (x y : Float) → Sided false x → Sided true y → lt x y ≡ false
unfolding lt
sides_apart nan y p q = absurd p
sides_apart (inf true) y p q = absurd (true≢false p)
sides_apart (fin true m e) y p q = absurd (true≢false p)
sides_apart (inf false) nan p q = absurd q
sides_apart (fin false m e) nan p q = absurd q
sides_apart (inf false) (inf t) p q = refl
sides_apart (inf false) (fin t n d) p q = refl
sides_apart (fin false m e) (inf true) p q = refl
sides_apart (fin false m e) (inf false) p q = absurd (false≢true q)
sides_apart (fin false m e) (fin true n d) p q = refl
sides_apart (fin false m e) (fin false n d) p q = absurd (false≢true q)

-- nothing lies above the top, or below the bottom, or is compared with a NaN
pub top_not_below : (y : Float) → lt (inf false) y ≡ false
unfolding lt
top_not_below nan = refl
top_not_below (inf t) = refl
top_not_below (fin t n d) = refl

pub lt_nan : (x : Float) → lt x nan ≡ false
unfolding lt
lt_nan nan = refl
lt_nan (inf s) = refl
lt_nan (fin s m e) = refl

pub none_below_bottom : (x : Float) → lt x (inf true) ≡ false
unfolding lt
none_below_bottom nan = refl
none_below_bottom (inf true) = refl
none_below_bottom (inf false) = refl
none_below_bottom (fin s m e) = refl

-- a number of either sign is a number
pub sided_number : (s : Bool) (x : Float) → Sided s x → eq x x ≡ true
unfolding lt
sided_number s nan h = absurd h
sided_number s (inf true) h = unfold eq in refl
sided_number s (inf false) h = unfold eq in refl
sided_number s (fin t m e) h = number_left (fin t m e) (inf false) refl

-- ---- zeros

-- a product that is 0
pub nothing : (a d : ℕ) → 0 < d → a * d ≤ 0 → a ≡ 0
nothing a d h k = elim (eq-zero-or-pos a) [ inl z ↦ z | inr l ↦ absurd (let p : 0 < a * d = mul-pos l h in omega arith) ]

-- x is +0 or -0
abbrev pub Nil : Float → Type 0
Nil nan = ⊥
Nil (inf s) = ⊥
Nil (fin s m e) = m ≡ 0

nil_value : (x : Float) (s : Bool) (c : ℕ) → 0 < c → HasValue x s 0 c → Nil x
nil_value nan s c C h = h
nil_value (inf t) s c C h = h
nil_value (fin t m e) s c C h = nothing m (up e) (up_pos e) (le_of_eq (nothing (m * up e) c C (le_of_eq (h.1 ∙ zero-mul (down e)))))

pub round_nil : (s : Bool) (a c : ℕ) → 0 < c → a ≡ 0 → Nil (round binary64 s a c)
round_nil s a c h e =
    nil_value (round binary64 s a c) s c h
    (subst (λ (n : ℕ). HasValue (round binary64 s a c) s n c) e
    (round_exact binary64 s a c 0 0 h (pow_pos 53) (pow_pos 2098) (ap (λ (n : ℕ). n * 2 ^ 1074) e ∙ zero-mul (2 ^ 1074) ∙ sym (zero-mul c))))

pub none_below : (s t : Bool) (a b : ℕ) → a ≤ 0 → b ≤ 0 → below s a t b ≡ false
none_below false false a b h k = le-ltb a b (omega arith)
none_below false true a b h k = refl
none_below true false a b h k = le-ltb 0 (a + b) (omega arith)
none_below true true a b h k = le-ltb b a (omega arith)

no_part : (m u d : ℕ) → m ≡ 0 → m * u * d ≤ 0
no_part m u d e = rw (e, zero-mul, zero-mul) zero-le

pub nils_level : (x y : Float) → Nil x → Nil y → lt x y ≡ false
unfolding lt
nils_level nan y h k = absurd h
nils_level (inf u) y h k = absurd h
nils_level (fin u m e) nan h k = absurd k
nils_level (fin u m e) (inf v) h k = absurd k
nils_level (fin u m e) (fin v n i) h k = none_below u v (m * up e * down i) (n * up i * down e) (no_part m (up e) (down i) h) (no_part n (up i) (down e) k)
