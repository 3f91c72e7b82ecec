-- What each way through `on_grid` gives. p is the size of x, r the rounded size with the sign of x. Assumes nothing.
use mathlib.Core.Path.{◌≡◌, refl, sym, ap, ◌∙◌, subst}
use mathlib.Core.Bool.{Bool, true, false, not, ◌&&◌, false≢true}
use Prim.Native.Nat.{ℕ, ◌*◌, ◌^◌, ◌≤◌, ◌<◌}
use lib.Dec.{T, ltb, eqb}
use lib.Pow.{pow_pos}
use lib.Ieee.{Float, nan, inf, fin, binary64, round, add, sub, lt, of_bits, fits, is_nan}
use lib.Ieee.Scale.{finite}
use borrow.Author.Tests.{ltb-true, ltb-false}
use Rattle.exact.specs.Exact.{mag, minus}
use Rattle.exact.proofs.ExactUnits.{exact_units}
use Rattle.std.specs.Float.{is_sign_negative, float_with_sign}
use Rattle.exact.proofs.Fields.{value_mag}
use Rattle.grid.specs.Grid.{grid_step, steps, grid_number, on_grid}
use Rattle.rounding.proofs.Exact.{HasUnits}
use Rattle.rounding.proofs.Values.{lt_at, add_zero_at}
use Rattle.grid.proofs.GridNumbers.{no_place, placed, step_pos, in_units, far}
use Rattle.grid.proofs.Lifted.{lift, lift_units, lowered}
use Rattle.grid.proofs.Multiples.{steps_none}

-- ---- the test

size_units : (x : Float) → fits binary64 x ≡ true → T (finite x) → HasUnits (float_with_sign false x) false (mag x)
unfolding float_with_sign
size_units nan f t = absurd t
size_units (inf s) f t = absurd t
size_units (fin s m e) f t = (refl, (exact_units (fin s m e) f t).1)

finite_below : (x y : Float) → T (finite y) → lt (float_with_sign false x) y ≡ true → T (finite x)
unfolding lt float_with_sign
finite_below nan y t h = absurd (false≢true h)
finite_below (inf s) nan t h = absurd t
finite_below (inf s) (inf u) t h = absurd t
finite_below (inf s) (fin u n d) t h = absurd (false≢true h)
finite_below (fin s m e) y t h = tt

pub not_nan : (x p y : Float) → lt p y ≡ true → p ≡ float_with_sign false x → T (not (is_nan x))
unfolding lt float_with_sign is_nan
not_nan nan p y h e = absurd (false≢true (ap (λ (v : Float). lt v y) (sym e) ∙ h))
not_nan (inf s) p y h e = tt
not_nan (fin s m g) p y h e = tt

-- ---- the sign

signed_units : (x r : Float) (a : ℕ) → T (finite x) → HasUnits r false a → HasUnits (float_with_sign (is_sign_negative x) r) (minus x) a
unfolding float_with_sign is_sign_negative
signed_units nan r a t v = absurd t
signed_units (inf s) r a t v = absurd t
signed_units (fin s m e) nan a t v = absurd v
signed_units (fin s m e) (inf u) a t v = absurd v
signed_units (fin s m e) (fin u n d) a t v = (refl, v.1)

-- ---- the answers

module _ (k : ℕ) (x p : Float) (h : k ≤ 10) (f : fits binary64 x ≡ true) (e : p ≡ float_with_sign false x) where
  p_units : T (finite x) → HasUnits p false (mag x)
  p_units t = subst (λ (v : Float). HasUnits v false (mag x)) (sym e) (size_units x f t)

  test : T (finite x) → lt p (lift k) ≡ ltb (mag x) (2 ^ 52 * grid_step k)
  test t = lt_at (2 ^ 1074) (pow_pos 1074) p (lift k) (mag x) (2 ^ 52 * grid_step k) (p_units t) (lift_units k h)

  pub rounded : (r : Float) → lt p (lift k) ≡ true → r ≡ float_with_sign (is_sign_negative x) (sub binary64 (add binary64 (lift k) p) (lift k))
      → add binary64 r (of_bits binary64 0) ≡ on_grid k x
  unfolding of_bits grid_number steps
  rounded r y s =
      let t : T (finite x) = finite_below x (lift k) (value_mag (lift k) false (2 ^ 52 * grid_step k) (lift_units k h)).2 (ap (λ (v : Float). lt v (lift k)) (sym e) ∙ y) in
      let g = grid_step k in
      let q = steps k x in
      let l : mag x < 2 ^ 52 * g = ltb-true (mag x) (2 ^ 52 * g) (sym (test t) ∙ y) in
      let v : HasUnits r (minus x) (q * g) = subst (λ (v : Float). HasUnits v (minus x) (q * g)) (sym s) (signed_units x _ (q * g) t (lowered k (mag x) h l p (p_units t))) in
      add_zero_at (2 ^ 1074) (pow_pos 1074) r (minus x) (q * g) v
      ∙ ap (λ (b : Bool). round binary64 (minus x && not b) (q * g) (2 ^ 1074)) (steps_none q g (step_pos k))
      ∙ sym (in_units k q (minus x && not (eqb q 0)) h)
      ∙ placed k x h t

  pub as_it_is : lt p (lift k) ≡ false → x ≡ on_grid k x
  as_it_is y = go (finite x) refl
    where
      go : (b : Bool) → finite x ≡ b → x ≡ on_grid k x
      go false n = no_place k x n
      go true n =
          let t = subst T (sym n) tt in
          sym (far k x h f t (ltb-false (mag x) (2 ^ 52 * grid_step k) (sym (test t) ∙ y))) ∙ placed k x h t
