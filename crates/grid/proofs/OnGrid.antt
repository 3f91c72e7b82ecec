-- What `on_grid` gives for every finite f64, k from 0 to 10: a whole multiple of 2 ^ -k, none of them nearer, of two that are equally near the even one, and zero as +0;
-- a number that is such a multiple stays. Exact coordinates are whole numbers of 2 ^ -1074, of which a step has `grid_step k`. Assumes nothing.
use mathlib.Core.Path.{◌≡◌, refl, sym, ap, ap₂, ◌∙◌, subst}
use mathlib.Core.Bool.{Bool, true, false, not, ◌&&◌, ◌||◌, true≢false}
use mathlib.Core.Logic.{inl, inr}
use Prim.Native.Nat.{ℕ, zero, suc, ◌+◌, ◌*◌, ◌%◌, ◌^◌, ◌≤◌}
use native.Mathlib.Nat.{le_trans, le_of_eq, mul_assoc, mul-mod_left, mul-le-mul_right, zero-mul, eq_of_mul-eq-mul_right}
use native.Mathlib.Omega.{arith}
use lib.Dec.{T, leb, eqb, eqb-suc-zero}
use lib.IntN.{ℤ, pos, nat_abs, ◌-ℤ◌, ◌*ℤ◌}
use lib.Ieee.{Float, fin, binary64, fits}
use lib.Ieee.Bits.{is_true}
use lib.Ieee.Scale.{finite}
use borrow.Author.Tests.{eq-eqb, leb-true}
use Rattle.std.proofs.lemmas.Bool.{cases_lt}
use Rattle.std.proofs.lemmas.Int.{unsigned_abs-mul}
use Rattle.exact.specs.Exact.{mag, minus, signed, coord}
use Rattle.std.specs.Prelude.{None, Some}
use Rattle.exact.proofs.Integers.{abs_signed, times_signed}
use Rattle.exact.proofs.Fields.{value_mag}
use Rattle.exact.proofs.ExactUnits.{size_coord}
use Rattle.grid.specs.Grid.{Grid, grid_step, steps, grid_number, on_grid, booked, is_on_grid, stands_on, OnGrid}
use Rattle.rounding.proofs.Whole.{gap, Nearest, closest_nearest, none_nearer, even_one}
use Rattle.rounding.proofs.Sizes.{one_side}
use Rattle.rounding.proofs.Exact.{HasUnits}
use Rattle.rounding.proofs.Values.{one_float}
use Rattle.grid.proofs.GridNumbers.{no_grid, no_place, placed, step_pos, whole_steps, steps_at_most, number_fits, number_exact, stays}
use Rattle.grid.proofs.Distances.{Multiple, same, other, multiple_of}

module _ (k : ℕ) (x : Float) (h : k ≤ 10) (f : fits binary64 x ≡ true) (t : T (finite x)) where
  placed_here : grid_number k (minus x) (steps k x) ≡ on_grid k x
  placed_here = placed k x h t

  -- its sign, its size, and that it is finite
  read : (minus (on_grid k x) ≡ minus x && not (eqb (steps k x) 0)) × (mag (on_grid k x) ≡ steps k x * grid_step k) × T (finite (on_grid k x))
  read =
      value_mag (on_grid k x) (minus x && not (eqb (steps k x) 0)) (steps k x * grid_step k)
      (subst (λ (v : Float). HasUnits v (minus x && not (eqb (steps k x) 0)) (steps k x * grid_step k)) placed_here (number_exact k x h f t))

  -- the count of steps, on x's side of 0
  pub counted : coord (on_grid k x) ≡ signed (minus x) (steps k x * grid_step k)
  unfolding coord
  counted = ap₂ signed read.0 read.1 ∙ go (minus x) (steps k x)
    where
      go : (s : Bool) (n : ℕ) → signed (s && not (eqb n 0)) (n * grid_step k) ≡ signed s (n * grid_step k)
      go false n = refl
      go true zero = rw (zero-mul (grid_step k)) refl
      go true (suc n) = rw (eqb-suc-zero n) refl

  pub still_finite : T (finite (on_grid k x))
  still_finite = read.2

  pub still_fits : T (fits binary64 (on_grid k x))
  still_fits = subst (λ (v : Float). T (fits binary64 v)) placed_here (number_fits k (minus x) (steps k x))

  in_steps : coord (on_grid k x) ≡ signed (minus x) (steps k x) *ℤ pos (grid_step k)
  in_steps = counted ∙ sym (times_signed (minus x) (steps k x) (grid_step k))

  -- a whole multiple of the step
  pub multiple : (z : ℤ) × (coord (on_grid k x) ≡ z *ℤ pos (grid_step k))
  multiple = (signed (minus x) (steps k x), in_steps)

  distances : Nearest (mag x) (grid_step k) (steps k x)
  unfolding steps
  distances = closest_nearest (mag x) (grid_step k) (step_pos k)

  off : nat_abs (coord x -ℤ coord (on_grid k x)) ≡ gap (mag x) (steps k x * grid_step k)
  unfolding coord
  off = ap (λ (z : ℤ). nat_abs (signed (minus x) (mag x) -ℤ z)) counted ∙ one_side (minus x) (mag x) (steps k x * grid_step k)

  -- at most half a step away
  pub half_step : 2 * nat_abs (coord x -ℤ coord (on_grid k x)) ≤ grid_step k
  half_step = le_trans (le_of_eq (ap (λ (n : ℕ). 2 * n) off)) distances.half

  other_multiple : (z : ℤ) → Multiple (minus x) (mag x) (grid_step k) z
  other_multiple z = multiple_of (minus x) (mag x) (grid_step k) z

  no_nearer : (n : ℕ) → nat_abs (coord x -ℤ coord (on_grid k x)) ≤ gap (mag x) (n * grid_step k)
  no_nearer n = le_trans (le_of_eq off) (none_nearer (mag x) (grid_step k) (steps k x) n distances)

  -- none is nearer
  pub nearest : (z : ℤ) → nat_abs (coord x -ℤ coord (on_grid k x)) ≤ nat_abs (coord x -ℤ z *ℤ pos (grid_step k))
  unfolding coord
  nearest z = elim (other_multiple z) [
    | same n p e ↦ le_trans (no_nearer n) (le_of_eq (sym e))
    | other n e ↦ le_trans (no_nearer 0) (le_trans (from_zero (mag x) (grid_step k) (n * grid_step k)) (le_of_eq (sym e)))
  ]
    where
      from_zero : (a b c : ℕ) → gap a (0 * b) ≤ a + c
      from_zero a b c = let z = zero-mul b in omega arith

  -- of two that are equally near it is the even multiple
  pub even : (z : ℤ) → nat_abs (coord x -ℤ coord (on_grid k x)) ≡ nat_abs (coord x -ℤ z *ℤ pos (grid_step k)) → (z *ℤ pos (grid_step k) ≡ coord (on_grid k x) → ⊥)
      → (w : ℤ) × (coord (on_grid k x) ≡ w *ℤ pos (grid_step k)) × (nat_abs w % 2 ≡ 0)
  unfolding coord
  even z e d = (signed (minus x) (steps k x), in_steps, ap (λ (n : ℕ). n % 2) (abs_signed (minus x) (steps k x)) ∙ go (other_multiple z))
    where
      go : Multiple (minus x) (mag x) (grid_step k) z → steps k x % 2 ≡ 0
      go (same n p g) =
          even_one (mag x) (grid_step k) (steps k x) n distances (sym off ∙ e ∙ g)
          (λ q. d (p ∙ ap (λ (n : ℕ). signed (minus x) (n * grid_step k)) q ∙ sym counted))
      go (other n g) = at_zero (steps k x) distances n (sym off ∙ e ∙ g)
        where
          -- a number beyond 0 is as near only where 0 is too
          tied : (a b q c : ℕ) → gap a (q * b) ≤ gap a (0 * b) → gap a (q * b) ≡ a + c → gap a (q * b) ≡ gap a (0 * b)
          tied a b q c l g = let w = zero-mul b in omega arith

          at_zero : (q : ℕ) → Nearest (mag x) (grid_step k) q → (n : ℕ) → gap (mag x) (q * grid_step k) ≡ mag x + n * grid_step k → q % 2 ≡ 0
          at_zero zero d n g = refl
          at_zero (suc q) d n g = even_one (mag x) (grid_step k) (suc q) 0 d (tied (mag x) (grid_step k) (suc q) (n * grid_step k) (none_nearer (mag x) (grid_step k) (suc q) 0 d) g) (λ w. omega arith)

  -- zero is +0
  pub plus_zero : mag (on_grid k x) ≡ 0 → on_grid k x ≡ fin false 0 (pos 0)
  unfolding fits mag
  plus_zero z =
      let n : steps k x ≡ 0 = eq_of_mul-eq-mul_right (grid_step k) (step_pos k) (steps k x) 0 (sym read.1 ∙ z ∙ sym (zero-mul (grid_step k))) in
      one_float (on_grid k x) (fin false 0 (pos 0)) still_fits tt still_finite tt (read.0 ∙ ap (λ (i : ℕ). minus x && not (eqb i 0)) n ∙ never (minus x)) z
    where
      never : (s : Bool) → s && false ≡ false
      never true = refl
      never false = refl

  pub never_minus_zero : minus (on_grid k x) ≡ true → mag (on_grid k x) ≡ 0 → ⊥
  never_minus_zero n z = true≢false (sym n ∙ ap minus (plus_zero z))

  -- a multiple of the step stays, unless it is -0
  pub stays_there : (z : ℤ) → coord x ≡ z *ℤ pos (grid_step k) → (minus x ≡ true → mag x ≡ 0 → ⊥) → on_grid k x ≡ x
  stays_there z e d =
      let m : mag x ≡ nat_abs z * grid_step k = sym (size_coord x) ∙ ap nat_abs e ∙ unsigned_abs-mul z (pos (grid_step k)) in
      sym placed_here ∙ stays k x h f t (nat_abs z) m (λ n w. d n (m ∙ ap (λ (i : ℕ). i * grid_step k) w ∙ zero-mul (grid_step k)))

  -- n steps are not exceeded where x does not exceed them
  pub bounded : (n : ℕ) → mag x ≤ n * grid_step k → mag (on_grid k x) ≤ n * grid_step k
  bounded n l = le_trans (le_of_eq read.1) (mul-le-mul_right (grid_step k) (steps_at_most k n x l))

  -- nor is a whole number of metres
  pub bounded_metres : (m : ℕ) → mag x ≤ m * 2 ^ 1074 → mag (on_grid k x) ≤ m * 2 ^ 1074
  bounded_metres m l =
      let e : m * 2 ^ k * grid_step k ≡ m * 2 ^ 1074 = mul_assoc m (2 ^ k) (grid_step k) ∙ ap (λ (n : ℕ). m * n) (whole_steps k h) in
      le_trans (bounded (m * 2 ^ k) (le_trans l (le_of_eq (sym e)))) (le_of_eq e)

  -- such as 2 ^ 42, the bound of a new point's coordinates
  pub bounded_42 : mag x ≤ 2 ^ 42 * 2 ^ 1074 → mag (on_grid k x) ≤ 2 ^ 42 * 2 ^ 1074
  bounded_42 = bounded_metres (2 ^ 42)

  -- what was put on the grid is on it
  pub put_there : is_on_grid k (on_grid k x) ≡ true
  unfolding is_on_grid
  put_there =
      rw (is_true (finite (on_grid k x)) still_finite)
      (eq-eqb (mag (on_grid k x) % grid_step k) 0 (ap (λ (i : ℕ). i % grid_step k) read.1 ∙ mul-mod_left (steps k x) (grid_step k)))

-- ---- for every f64 and every k

-- what is on the grid is so once more
pub twice : (k : ℕ) (x : Float) → fits binary64 x ≡ true → on_grid k (on_grid k x) ≡ on_grid k x
twice k x f = elim (cases_lt 10 k) [
  | inl h ↦ sym (no_grid k (on_grid k x) h)
  | inr h ↦ here h (finite x) refl
]
  where
    here : k ≤ 10 → (b : Bool) → finite x ≡ b → on_grid k (on_grid k x) ≡ on_grid k x
    here h false e = ap (λ (v : Float). on_grid k v) (sym (no_place k x e))
    here h true e =
        let t = subst T (sym e) tt in
        let m = multiple k x h f t in
        stays_there k (on_grid k x) h (is_true (fits binary64 (on_grid k x)) (still_fits k x h f t)) (still_finite k x h f t) m.0 m.1
        (never_minus_zero k x h f t)

-- where there is a place for it, it stands on its overlay's grid
pub none_stands : (x : Float) → OnGrid None x
unfolding stands_on
none_stands x = refl

pub some_stands : (k : ℕ) (x : Float) → fits binary64 x ≡ true → OnGrid (Some k) (on_grid k x)
unfolding stands_on
some_stands k x f = go (leb k 10) (finite x) refl refl
  where
    either : (a : Bool) → a || true ≡ true
    either true = refl
    either false = refl

    go : (a b : Bool) → leb k 10 ≡ a → finite x ≡ b → not (leb k 10 && finite (on_grid k x)) || is_on_grid k (on_grid k x) ≡ true
    go false b e h = rw e refl
    go true false e h = rw (← no_place k x h, h, e) refl
    go true true e h = rw (put_there k x (leb-true k 10 e) f (subst T (sym h) tt)) (either (not (leb k 10 && finite (on_grid k x))))

-- by an overlay's grid: x as it is, or one of these
pub by_grid : (P : Float → Type 0) (g : Grid) (x : Float) → P x → ((k : ℕ) → k ≤ 10 → P (on_grid k x)) → P (booked g x)
unfolding booked
by_grid P None x here there = here
by_grid P (Some k) x here there = elim (cases_lt 10 k) [
  | inl h ↦ subst P (no_grid k x h) here
  | inr h ↦ there k h
]
