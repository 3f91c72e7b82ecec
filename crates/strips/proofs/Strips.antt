-- The strip of a number by halving, over bounds in any order: it never falls. Assumes nothing.
use mathlib.Core.Path.{◌≡◌, refl, sym, ap, ◌∙◌}
use mathlib.Core.Bool.{Bool, true, false, true≢false}
use mathlib.Core.List.{List}
use Prim.Native.Nat.{ℕ, zero, suc, ◌+◌, ◌-◌, ◌/◌, ◌≤◌, ◌<◌}
use native.Mathlib.Omega.{arith}
use lib.ListN.{length, get_or}
use lib.Ieee.{Float, le}
use Rattle.plane.proofs.FloatLe.{le_trans}
use Rattle.strips.specs.declared.squares.Axis.{Axis}
use Rattle.strips.specs.Squares.{coordinate_of, strip, strip_of}

-- ---- a coordinate

-- ---- a strip

pub strip_from : (f : ℕ) (t : ℕ → Float) (v : Float) (lo n : ℕ) → lo ≤ strip f t v lo n
unfolding strip
strip_from zero t v lo n = omega arith
strip_from (suc f) t v lo n = go (le (t (lo + n / 2)) v) (strip_from f t v (lo + n / 2) (n - n / 2)) (strip_from f t v lo (n - n / 2))
  where
    go : (b : Bool) → lo + n / 2 ≤ strip f t v (lo + n / 2) (n - n / 2) → lo ≤ strip f t v lo (n - n / 2)
        → (let r : ℕ = elim b [ true ↦ strip f t v (lo + n / 2) (n - n / 2) | false ↦ strip f t v lo (n - n / 2) ] in lo ≤ r)
    go true g h = omega arith
    go false g h = h

pub strip_to : (f : ℕ) (t : ℕ → Float) (v : Float) (lo n : ℕ) → 0 < n → strip f t v lo n < lo + n
unfolding strip
strip_to zero t v lo n h = omega arith
strip_to (suc f) t v lo n h = go (le (t (lo + n / 2)) v) (strip_to f t v (lo + n / 2) (n - n / 2) (omega arith)) (strip_to f t v lo (n - n / 2) (omega arith))
  where
    go : (b : Bool) → strip f t v (lo + n / 2) (n - n / 2) < lo + n / 2 + (n - n / 2) → strip f t v lo (n - n / 2) < lo + (n - n / 2)
        → (let r : ℕ = elim b [ true ↦ strip f t v (lo + n / 2) (n - n / 2) | false ↦ strip f t v lo (n - n / 2) ] in r < lo + n)
    go true g k = omega arith
    go false g k = omega arith

-- it never falls
pub strip_mono : (f : ℕ) (t : ℕ → Float) (v w : Float) (lo n : ℕ) → 0 < n → le v w ≡ true → strip f t v lo n ≤ strip f t w lo n
unfolding strip
strip_mono zero t v w lo n h l = omega arith
strip_mono (suc f) t v w lo n h l =
    go (le (t (lo + n / 2)) v) (le (t (lo + n / 2)) w) (λ e. le_trans (t (lo + n / 2)) v w e l)
    (strip_mono f t v w (lo + n / 2) (n - n / 2) (omega arith) l) (strip_mono f t v w lo (n - n / 2) (omega arith) l)
    (strip_to f t v lo (n - n / 2) (omega arith)) (strip_from f t w (lo + n / 2) (n - n / 2))
  where
    go : (a b : Bool) → (a ≡ true → b ≡ true)
        → strip f t v (lo + n / 2) (n - n / 2) ≤ strip f t w (lo + n / 2) (n - n / 2) → strip f t v lo (n - n / 2) ≤ strip f t w lo (n - n / 2)
        → strip f t v lo (n - n / 2) < lo + (n - n / 2) → lo + n / 2 ≤ strip f t w (lo + n / 2) (n - n / 2)
        → (let r : ℕ = elim a [ true ↦ strip f t v (lo + n / 2) (n - n / 2) | false ↦ strip f t v lo (n - n / 2) ] in
        let s : ℕ = elim b [ true ↦ strip f t w (lo + n / 2) (n - n / 2) | false ↦ strip f t w lo (n - n / 2) ] in r ≤ s)
    go true true k p q c d = p
    go false false k p q c d = q
    go false true k p q c d = omega arith
    go true false k p q c d = absurd (true≢false (sym (k refl)))

-- ---- the loop

-- one strip is left
strip_one : (f : ℕ) (t : ℕ → Float) (v : Float) (lo n : ℕ) → n ≡ 1 → strip f t v lo n ≡ lo
unfolding strip
strip_one zero t v lo n e = refl
strip_one (suc f) t v lo n e = go (le (t (lo + n / 2)) v) (strip_one f t v (lo + n / 2) (n - n / 2) (omega (arith, e))) (strip_one f t v lo (n - n / 2) (omega (arith, e)))
  where
    go : (b : Bool) → strip f t v (lo + n / 2) (n - n / 2) ≡ lo + n / 2 → strip f t v lo (n - n / 2) ≡ lo
        → (let r : ℕ = elim b [ true ↦ strip f t v (lo + n / 2) (n - n / 2) | false ↦ strip f t v lo (n - n / 2) ] in r ≡ lo)
    go true g h = omega (arith, g, e)
    go false g h = h

module _ (coords : List Float) (bounds : List ℕ) (axis : Axis) (v : Float) where
  abbrev begins : ℕ → Float
  begins i = coordinate_of coords axis (get_or bounds i 0)

  -- v is in one of the n strips from lo on
  pub record Halving (lo n : ℕ) : Type 0 where
    pub some : 0 < n
    pub within : lo + n ≤ length bounds
    pub fuel : ℕ
    pub enough : n ≤ fuel
    pub same : strip fuel begins v lo n ≡ strip_of coords bounds axis v

  pub halving_start : 0 < length bounds → Halving 0 (length bounds)
  unfolding strip_of
  halving_start h = record { some = h; within = omega arith; fuel = length bounds; enough = omega arith; same = refl }

  module _ (lo n : ℕ) (inv : Halving lo n) (more : 1 < n) where
    step : (f : ℕ) → inv.fuel ≡ suc f → (b : Bool) → le (begins (lo + n / 2)) v ≡ b
        → (let r : ℕ = elim b [ true ↦ strip f begins v (lo + n / 2) (n - n / 2) | false ↦ strip f begins v lo (n - n / 2) ] in r ≡ strip_of coords bounds axis v)
    unfolding strip
    step f e b t =
        ap (λ (a : Bool). let r : ℕ = elim a [ true ↦ strip f begins v (lo + n / 2) (n - n / 2) | false ↦ strip f begins v lo (n - n / 2) ] in r) (sym t)
        ∙ ap (λ (k : ℕ). strip k begins v lo n) (sym e) ∙ inv.same

    pub halving_up : (c : Float) → c ≡ begins (lo + n / 2) → le c v ≡ true → Halving (lo + n / 2) (n - n / 2)
    halving_up c is t =
        let f : ℕ = inv.fuel - 1 in
        let e : inv.fuel ≡ suc f = omega (arith, inv.enough, more) in
        record {
          some = omega (arith, more);
          within = omega (arith, inv.within);
          fuel = f;
          enough = omega (arith, inv.enough, more);
          same = step f e true (ap (λ (x : Float). le x v) (sym is) ∙ t);
        }

    pub halving_down : (c : Float) → c ≡ begins (lo + n / 2) → le c v ≡ false → Halving lo (n - n / 2)
    halving_down c is t =
        let f : ℕ = inv.fuel - 1 in
        let e : inv.fuel ≡ suc f = omega (arith, inv.enough, more) in
        record {
          some = omega (arith, more);
          within = omega (arith, inv.within);
          fuel = f;
          enough = omega (arith, inv.enough, more);
          same = step f e false (ap (λ (x : Float). le x v) (sym is) ∙ t);
        }

  pub halving_end : (lo n : ℕ) → Halving lo n → n ≤ 1 → lo ≡ strip_of coords bounds axis v
  halving_end lo n inv h = sym (strip_one inv.fuel begins v lo n (omega (arith, inv.some, h))) ∙ inv.same
