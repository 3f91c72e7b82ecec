-- The order `le` of floats. Assumes nothing.
use mathlib.Core.Path.{◌≡◌, refl}
use mathlib.Core.Bool.{Bool, true, false, ◌||◌}
use lib.Ieee.{Float, lt, eq, le}
use Rattle.plane.proofs.FloatOrder.{lt_asym, not_lt_trans, number_left, number_right, eq_sym, eq_number, eq_not_lt, trichotomy}

-- ---- `le`: both are numbers, and the second is not below the first

one_of : {P : Type 0} (a b : Bool) → (a ≡ true → P) → (b ≡ true → P) → a || b ≡ true → P
one_of true b f g h = f refl
one_of false b f g h = g h

pub le_left : (x y : Float) → le x y ≡ true → eq x x ≡ true
unfolding le
le_left x y h = one_of (lt x y) (eq x y) (number_left x y) (eq_number x y) h

pub le_right : (x y : Float) → le x y ≡ true → eq y y ≡ true
unfolding le
le_right x y h = one_of (lt x y) (eq x y) (number_right x y) (λ e. eq_number y x (eq_sym x y e)) h

pub le_not_lt : (x y : Float) → le x y ≡ true → lt y x ≡ false
unfolding le
le_not_lt x y h = one_of (lt x y) (eq x y) (lt_asym x y) (λ e. eq_not_lt y x (eq_sym x y e)) h

pub not_lt_le : (x y : Float) → eq x x ≡ true → eq y y ≡ true → lt y x ≡ false → le x y ≡ true
unfolding le
not_lt_le x y n m h = go (lt x y) (eq x y) refl (trichotomy x y n m h)
  where
    go : (a b : Bool) → eq x y ≡ b → (eq x y ≡ false → a ≡ true) → a || b ≡ true
    go true b e f = refl
    go false true e f = refl
    go false false e f = f e

pub le_trans : (x y z : Float) → le x y ≡ true → le y z ≡ true → le x z ≡ true
le_trans x y z h k = not_lt_le x z (le_left x y h) (le_right y z k) (not_lt_trans z y x (le_left y z k) (le_not_lt y z k) (le_not_lt x y h))
