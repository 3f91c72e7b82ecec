-- Kept or not: what an operation keeps, inside the other mesh and not. Assumes nothing.
use mathlib.Core.Path.{◌≡◌, refl}
use mathlib.Core.Bool.{Bool, true, false, cond}
use Prim.Native.Nat.{ℕ}
use Rattle.rules.specs.Mesh.{Side}
use Rattle.rules.specs.Operations.{keeps}
use Rattle.pieces.specs.Pieces.{keep_of}

pub kept_by : (op : ℕ) (w : Side) (b : Bool) → cond b (keep_of op w).inside (keep_of op w).outside ≡ keeps op w b
kept_by op w true = refl
kept_by op w false = refl
