-- The value of a grid number is exact, and a number that is on the grid already stays. Assumes nothing.
use mathlib.Core.Path.{◌≡◌, refl, sym, ap, ◌∙◌, subst}
use mathlib.Core.Bool.{Bool, true, false, not, cond, ◌&&◌}
use mathlib.Core.Logic.{inl, inr}
use Prim.Native.Nat.{ℕ, suc, ◌+◌, ◌-◌, ◌*◌, ◌^◌, ◌≤◌, ◌<◌}
use native.Mathlib.Nat.{le_trans, le_of_eq, le_of_lt, lt_of_lt_of_le, lt_of_le_of_lt, not-le_of_lt, mul_comm, mul_assoc, mul-pos, mul-lt-mul_of_pos_right, zero-mul}
use native.Mathlib.Omega.{arith}
use lib.Dec.{T, leb, eqb}
use lib.Pow.{pow-add, pow_pos, pow_mono}
use lib.Ieee.{Float, binary64, round, fits}
use lib.Ieee.Bits.{is_true}
use lib.Ieee.Fits.{round-fits}
use lib.Ieee.Nearest.{closest}
use lib.Ieee.Scale.{finite, round_same}
use borrow.Author.Tests.{ne_eqb, le-leb, lt-leb}
use Rattle.std.proofs.lemmas.Bool.{cases_lt}
use Rattle.exact.specs.Exact.{mag, minus}
use Rattle.exact.proofs.Fields.{value_mag}
use Rattle.grid.specs.Grid.{grid_step, steps, grid_number, on_grid}
use Rattle.rounding.proofs.Whole.{closest_whole, closest_at_most}
use Rattle.rounding.proofs.Exact.{HasUnits, Fits, shifted_fits, size_fits, exact_where_it_fits}
use Rattle.rounding.proofs.Values.{one_float}

-- ---- where there is a grid, and where not

pub no_grid : (k : ℕ) (x : Float) → 10 < k → x ≡ on_grid k x
unfolding on_grid
no_grid k x h = rw (lt-leb k 10 h) refl

pub no_place : (k : ℕ) (x : Float) → finite x ≡ false → x ≡ on_grid k x
unfolding on_grid
no_place k x h = rw h (go (leb k 10))
  where
    go : (b : Bool) → x ≡ cond (b && false) (grid_number k (minus x) (steps k x)) x
    go true = refl
    go false = refl

pub placed : (k : ℕ) (x : Float) → k ≤ 10 → T (finite x) → grid_number k (minus x) (steps k x) ≡ on_grid k x
unfolding on_grid
placed k x h t = rw (le-leb k 10 h, is_true (finite x) t) refl

-- ---- steps in units of 2 ^ -1074

pub step_pos : (k : ℕ) → 0 < grid_step k
step_pos k = pow_pos (1074 - k)

pub whole_steps : (k : ℕ) → k ≤ 10 → 2 ^ k * grid_step k ≡ 2 ^ 1074
whole_steps k h = let e : k + (1074 - k) ≡ 1074 = omega arith in sym (pow-add 2 k (1074 - k)) ∙ ap (λ (n : ℕ). 2 ^ n) e

-- n / 2 ^ k is n steps
pub in_units : (k n : ℕ) (s : Bool) → k ≤ 10 → round binary64 s n (2 ^ k) ≡ round binary64 s (n * grid_step k) (2 ^ 1074)
in_units k n s h =
    round_same binary64 s n (2 ^ k) (n * grid_step k) (2 ^ 1074) (pow_pos k) (pow_pos 1074)
    (ap (λ (i : ℕ). n * i) (sym (whole_steps k h) ∙ mul_comm (2 ^ k) (grid_step k)) ∙ sym (mul_assoc n (grid_step k) (2 ^ k)))

-- few steps are an f64
pub few_exact : (k n : ℕ) (s : Bool) → n < 2 ^ 53 → HasUnits (round binary64 s (n * grid_step k) (2 ^ 1074)) s (n * grid_step k)
few_exact k n s l = exact_where_it_fits s (n * grid_step k) (shifted_fits n (1074 - k) l (omega arith))

-- ---- where x stands: on the grid, or below 2 ^ 52 steps

data Place (k : ℕ) (x : Float) : Type 0 where
  there : (q : ℕ) → mag x ≡ q * grid_step k → Place k x
  below : mag x < 2 ^ 52 * grid_step k → Place k x

short_below : (m e g : ℕ) → m < 2 ^ 53 → suc e ≤ g → m * 2 ^ e < 2 ^ 52 * 2 ^ g
short_below m e g h l =
    let p : m * 2 ^ e < 2 ^ 53 * 2 ^ e = mul-lt-mul_of_pos_right h (pow_pos e) in
    lt_of_lt_of_le p (le_trans (le_of_eq (sym (pow-add 2 53 e))) (le_trans (pow_mono {i = 53 + e} {j = 52 + g} (omega arith)) (le_of_eq (pow-add 2 52 g))))

place : (k : ℕ) (x : Float) → Fits (mag x) → Place k x
place k x d = elim (cases_lt d.e (1074 - k)) [
  | inl l ↦ below (lt_of_le_of_lt (le_of_eq d.same) (short_below d.m d.e (1074 - k) d.short l))
  | inr l ↦
      let i = d.e - (1074 - k) in
      let e : i + (1074 - k) ≡ d.e = omega arith in
      there (d.m * 2 ^ i) (d.same ∙ ap (λ (n : ℕ). d.m * n) (ap (λ (n : ℕ). 2 ^ n) (sym e) ∙ pow-add 2 i (1074 - k)) ∙ sym (mul_assoc d.m (2 ^ i) (grid_step k)))
]

-- ---- the value of a grid number

pub steps_on : (k q : ℕ) (x : Float) → mag x ≡ q * grid_step k → steps k x ≡ q
unfolding steps
steps_on k q x e = ap (λ (n : ℕ). closest n (grid_step k)) e ∙ closest_whole q (grid_step k) (step_pos k)

pub steps_at_most : (k n : ℕ) (x : Float) → mag x ≤ n * grid_step k → steps k x ≤ n
unfolding steps
steps_at_most k n x l = closest_at_most (mag x) n (grid_step k) (step_pos k) l

pub number_fits : (k : ℕ) (s : Bool) (n : ℕ) → T (fits binary64 (grid_number k s n))
unfolding grid_number
number_fits k s n = round-fits binary64 (s && not (eqb n 0)) n (2 ^ k)

module _ (k : ℕ) (x : Float) (h : k ≤ 10) (f : fits binary64 x ≡ true) (t : T (finite x)) where
  abbrev sign : Bool
  sign = minus x && not (eqb (steps k x) 0)

  pub number_exact : HasUnits (grid_number k (minus x) (steps k x)) sign (steps k x * grid_step k)
  unfolding grid_number
  number_exact = subst (λ (v : Float). HasUnits v sign (steps k x * grid_step k)) (sym (in_units k (steps k x) sign h)) (go (place k x (size_fits x f t)))
    where
      go : Place k x → HasUnits (round binary64 sign (steps k x * grid_step k) (2 ^ 1074)) sign (steps k x * grid_step k)
      go (there q e) =
          subst (λ (n : ℕ). HasUnits (round binary64 sign n (2 ^ 1074)) sign n) (e ∙ ap (λ (n : ℕ). n * grid_step k) (sym (steps_on k q x e)))
          (exact_where_it_fits sign (mag x) (size_fits x f t))
      go (below l) = few_exact k (steps k x) sign (lt_of_le_of_lt (steps_at_most k (2 ^ 52) x (le_of_lt l)) (omega arith))

  -- ---- a number on the grid stays, unless it is -0

  signs : (s : Bool) (q : ℕ) → (s ≡ true → q ≡ 0 → ⊥) → s && not (eqb q 0) ≡ s
  signs false q h = refl
  signs true q h = ap not (ne_eqb q 0 (h refl))

  pub stays : (q : ℕ) → mag x ≡ q * grid_step k → (minus x ≡ true → q ≡ 0 → ⊥) → grid_number k (minus x) (steps k x) ≡ x
  stays q e z =
      let n = steps_on k q x e in
      let v = value_mag (grid_number k (minus x) (steps k x)) sign (steps k x * grid_step k) number_exact in
      one_float (grid_number k (minus x) (steps k x)) x (number_fits k (minus x) (steps k x)) (subst T (sym f) tt) v.2 t
      (v.0 ∙ signs (minus x) (steps k x) (λ m o. z m (sym n ∙ o)))
      (v.1 ∙ ap (λ (n : ℕ). n * grid_step k) n ∙ sym e)

  -- from 2 ^ 52 steps on all are
  pub far : 2 ^ 52 * grid_step k ≤ mag x → grid_number k (minus x) (steps k x) ≡ x
  far l = go (place k x (size_fits x f t))
    where
      some : (q : ℕ) → mag x ≡ q * grid_step k → q ≡ 0 → ⊥
      some q e z =
          let p : 0 < 2 ^ 52 * grid_step k = mul-pos (pow_pos 52) (step_pos k) in
          not-le_of_lt p (le_trans l (le_of_eq (e ∙ ap (λ (n : ℕ). n * grid_step k) z ∙ zero-mul (grid_step k))))

      go : Place k x → grid_number k (minus x) (steps k x) ≡ x
      go (there q e) = stays q e (λ _ z. some q e z)
      go (below b) = absurd (not-le_of_lt b l)
