-- The order of floats, as Bool equations of the library's laws. `lt` is asymmetric and transitive, and `not lt` is transitive through a number, a value that
-- equals itself. `eq` is a level of that order, and two numbers are below, level or above. So all but NaN are ordered by `lt`, with -0 and +0 level.
-- Assumes nothing.
use mathlib.Core.Path.{◌≡◌, refl, sym, subst, ◌∙◌}
use mathlib.Core.Logic.{inl, inr}
use mathlib.Core.Bool.{Bool, true, false, cond, not, ◌&&◌, ◌||◌, true≢false}
use lib.Dec.{T}
use lib.Ieee.{Float, nan, inf, fin, is_nan, lt, le, eq}
use lib.Ieee.Scale.{finite}
use Rattle.std.specs.Float.{NotNan}
use Rattle.std.specs.declared.option.Option.TheVariants.{Some, None}
use Rattle.std.specs.declared.cmp.Ordering.TheVariants.{Less, Equal, Greater}
use Rattle.std.specs.Ordering.{float_partial_cmp, partial_le, is_some_and, is_le}
use Rattle.std.proofs.lemmas.Float as law

-- ---- a test that holds, and one that doesn't

holds : (b : Bool) → T b → b ≡ true
holds true t = refl
holds false t = absurd t

fails : (b : Bool) → (b ≡ true → ⊥) → b ≡ false
fails true h = absurd (h refl)
fails false h = refl

-- ---- numbers

not_nan : (x : Float) → eq x x ≡ true → NotNan x
not_nan x h = law.le_left x x (law.le_of_eq x x (law.T_from_true (eq x x) h))

itself : (x : Float) → NotNan x → eq x x ≡ true
itself x n = elim (law.lt-or-eq x x (law.le_refl x n)) [ inl l ↦ absurd (law.lt_irrefl x l) | inr e ↦ holds (eq x x) e ]

-- the library's words for a number, and for `<=` by its order of floats
pub number_not_nan : (x : Float) → not (is_nan x) ≡ eq x x
number_not_nan x = go (is_nan x) refl
  where
    go : (b : Bool) → is_nan x ≡ b → not b ≡ eq x x
    go true e = sym (fails (eq x x) (λ h. subst (λ (b : Bool). T (not b)) e (not_nan x h)))
    go false e = sym (itself x (law.T_from_false (is_nan x) e))

pub partial_le_floats : (x y : Float) → partial_le float_partial_cmp x y ≡ le x y
unfolding le
partial_le_floats x y = go (lt x y) (eq x y) (lt y x)
  where
    go : (a b c : Bool) → is_some_and is_le (cond a (Some Less) (cond b (Some Equal) (cond c (Some Greater) None))) ≡ a || b
    go true b c = refl
    go false true c = refl
    go false false true = refl
    go false false false = refl

-- ---- below

pub number_left : (x y : Float) → lt x y ≡ true → eq x x ≡ true
number_left x y h = itself x (law.le_left x y (law.le_of_lt x y (law.T_from_true (lt x y) h)))

pub number_right : (x y : Float) → lt x y ≡ true → eq y y ≡ true
number_right x y h = itself y (law.le_right x y (law.le_of_lt x y (law.T_from_true (lt x y) h)))

pub finite_number : (x : Float) → T (finite x) → eq x x ≡ true
unfolding lt
finite_number nan h = absurd h
finite_number (inf s) h = absurd h
finite_number (fin s m e) h = number_left (fin s m e) (inf false) refl

pub lt_irrefl : (x : Float) → lt x x ≡ false
lt_irrefl x = fails (lt x x) (λ h. law.lt_irrefl x (law.T_from_true (lt x x) h))

pub lt_trans : (x y z : Float) → lt x y ≡ true → lt y z ≡ true → lt x z ≡ true
lt_trans x y z h k = holds (lt x z) (law.lt_trans x y z (law.T_from_true (lt x y) h) (law.T_from_true (lt y z) k))

pub lt_asym : (x y : Float) → lt x y ≡ true → lt y x ≡ false
lt_asym x y h = fails (lt y x) (λ k. true≢false (sym (lt_trans x y x h k) ∙ lt_irrefl x))

pub not_lt_trans : (x y z : Float) → eq y y ≡ true → lt x y ≡ false → lt y z ≡ false → lt x z ≡ false
not_lt_trans x y z n h k =
    fails (lt x z) (λ e.
    let y_x = law.le_of_not-lt x y (not_nan x (number_left x z e)) (not_nan y n) (law.T_from_false (lt x y) h) in
    let z_y = law.le_of_not-lt y z (not_nan y n) (not_nan z (number_right x z e)) (law.T_from_false (lt y z) k) in
    law.lt_irrefl z (law.lt_of_le_of_lt z x z (law.le_trans z y x z_y y_x) (law.T_from_true (lt x z) e)))

-- ---- level ones

pub and_left : (a b : Bool) → a && b ≡ true → a ≡ true
and_left true b h = refl
and_left false b h = h

pub and_right : (a b : Bool) → a && b ≡ true → b ≡ true
and_right true b h = h
and_right false b h = absurd (true≢false (sym h))

pub eq_sym : (x y : Float) → eq x y ≡ true → eq y x ≡ true
eq_sym x y h = holds (eq y x) (law.eq_flip x y (law.T_from_true (eq x y) h))

pub eq_number : (x y : Float) → eq x y ≡ true → eq x x ≡ true
eq_number x y h = itself x (law.le_left x y (law.le_of_eq x y (law.T_from_true (eq x y) h)))

pub eq_not_lt : (x y : Float) → eq x y ≡ true → lt x y ≡ false
eq_not_lt x y h = fails (lt x y) (λ k. law.eq-not_lt x y (law.T_from_true (eq x y) h) (law.T_from_true (lt x y) k))

-- ---- below, level or above

pub trichotomy : (x y : Float) → eq x x ≡ true → eq y y ≡ true → lt y x ≡ false → eq x y ≡ false → lt x y ≡ true
trichotomy x y n k h l =
    elim (law.lt-or-eq x y (law.le_of_not-lt y x (not_nan y k) (not_nan x n) (law.T_from_false (lt y x) h))) [
      | inl e ↦ holds (lt x y) e
      | inr e ↦ absurd (true≢false (sym (holds (eq x y) e) ∙ l))
    ]
