-- Cited only by the contracts of inner functions: numbers whose exponents are close. Assumes nothing.
use Rattle.std.specs.Prelude.{◌≡◌, ℕ, ◌+◌, ◌^◌, ◌≤◌, ◌<◌, ℤ, pos, ◌*ℤ◌, unsigned_abs}
use Rattle.exact.specs.Inner.{signed_size}
use Rattle.exact.specs.declared.parts.Parts.{Parts}
use Rattle.exact.specs.declared.vectors.Vector.{Vector}
use Rattle.exact.specs.declared.orient.Window.{Window}

-- p is zero, or its exponent lies in the window
pub record Holds (w : Window) (p : Parts) : Type 0 where
  pub from : (p.m ≡ 0 → ⊥) → w.base ≤ p.e
  pub to : (p.m ≡ 0 → ⊥) → p.e ≤ w.top

abbrev pub HoldsBoth : Window → Vector → Type 0
HoldsBoth w v = Holds w v.x × Holds w v.y

-- p is zero, or its exponent is base or at most 9 more
pub record Close (base : ℕ) (p : Parts) : Type 0 where
  pub from : (p.m ≡ 0 → ⊥) → base ≤ p.e
  pub to : (p.m ≡ 0 → ⊥) → p.e ≤ base + 9

abbrev pub CloseBoth : ℕ → Vector → Type 0
CloseBoth base v = Close base v.x × Close base v.y

-- the same number, counted in units of 2 ^ base
pub record Over (base : ℕ) (p : Parts) (z : ℤ) : Type 0 where
  pub same : z *ℤ pos (2 ^ base) ≡ signed_size p
  pub small : unsigned_abs z < 2 ^ 62
