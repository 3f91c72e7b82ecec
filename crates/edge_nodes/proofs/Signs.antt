-- Floats compared, and their signs. Assumes nothing.
use mathlib.Core.Path.{◌≡◌, refl, sym, ap, ap₂, ◌∙◌, subst}
use mathlib.Core.Bool.{Bool, true, false, not, ◌&&◌, ◌||◌}
use lib.Dec.{T}
use lib.Ieee.{Float, nan, inf, fin, lt, eq}
use Rattle.std.specs.Float.{NotNan}
use Rattle.std.specs.Float as F
use Rattle.plane.proofs.FloatOrder.{number_not_nan, eq_sym, eq_number}
use Rattle.rules.specs.Nodes.{sign_bit, total_before}

-- a number that equals another
pub numbers : (x y : Float) → eq x y ≡ true → NotNan x × NotNan y
numbers x y e = (subst T (sym (number_not_nan x ∙ eq_number x y e)) tt, subst T (sym (number_not_nan y ∙ eq_number y x (eq_sym x y e))) tt)

sign_is : (x : Float) → F.is_sign_negative x ≡ sign_bit x
unfolding F.is_sign_negative
sign_is nan = refl
sign_is (inf s) = refl
sign_is (fin s m e) = refl

-- equal ones are told apart by their signs
module _ (x y : Float) (l : lt x y ≡ false) (e : eq x y ≡ true) where
  by_signs : total_before x y ≡ (F.is_sign_negative x && not (F.is_sign_negative y))
  by_signs =
      ap₂ (λ (s t : Bool). s || (t && (sign_bit x && not (sign_bit y)))) l e
      ∙ sym (ap₂ (λ (s t : Bool). s && not t) (sign_is x) (sign_is y))

  pub below_zero : F.is_sign_negative x ≡ true → total_before x y ≡ not (F.is_sign_negative y)
  below_zero t = by_signs ∙ ap (λ (s : Bool). s && not (F.is_sign_negative y)) t

  pub not_below_zero : F.is_sign_negative x ≡ false → total_before x y ≡ false
  not_below_zero t = by_signs ∙ ap (λ (s : Bool). s && not (F.is_sign_negative y)) t
