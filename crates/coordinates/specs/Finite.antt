-- What every coordinate of a scene is once the entry passes, its nodes, and what the order along an edge is then. The theorems stand in
-- proofs/InScene.antt and proofs/Finite.antt. Assumes nothing.
use Rattle.std.specs.Prelude.{◌⊎◌, ◌≡◌, true, false, ℕ, ◌*◌, ◌/◌, ◌^◌, ◌≤◌, ◌<◌, T, length, Float}
use Rattle.std.specs.Float.{binary64}
use Rattle.std.specs.Float.Ieee.{fits, eq}
use Rattle.std.specs.Float.Ieee.Scale.{finite}
use Rattle.exact.specs.Exact.{mag, minus}
use Rattle.grid.specs.Grid.{is_on_grid}
use Rattle.rules.specs.Meetings.{Scene}
use Rattle.rules.specs.Nodes.{sign_bit, total_before}

-- an f64 that is finite and at most 2^42 in size; `mag` counts units of 2^-1074
pub record Bounded (x : Float) : Type 0 where
  pub fit : fits binary64 x ≡ true
  pub end : T (finite x)
  pub size : mag x ≤ 2 ^ 42 * 2 ^ 1074

-- document 02, W6: a number on the grid of 2^-k, "zero always as +0"
pub record Gridded (k : ℕ) (x : Float) : Type 0 where
  pub on : is_on_grid k x ≡ true
  pub plus : mag x ≡ 0 → minus x ≡ false

-- a node of the scene: both its coordinates stand in the list
abbrev pub NodeOf : Scene → ℕ → Type 0
NodeOf sc n = n < length sc.coords / 2

-- "total order (−0 before +0)": one is before the other, or they are equal by value and sign
abbrev pub Ordered : Float → Float → Type 0
Ordered x y = (total_before x y ≡ true) ⊎ ((total_before y x ≡ true) ⊎ ((eq x y ≡ true) × (sign_bit x ≡ sign_bit y)))
