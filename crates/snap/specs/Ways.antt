-- `InOrder` has at most one proof, as a ghost field asks: the three numbers that a placed coordinate is are the only ones. Assumes nothing.
use mathlib.Core.Path.{◌≡◌, refl, sym, ap, ◌∙◌, subst, path_j'}
use mathlib.Core.Bool.{false}
use mathlib.Core.List.{List}
use Prim.Native.Nat.{ℕ, ◌*◌, ◌^◌, ◌≤◌}
use lib.Ieee.{Float, nan, inf, fin, up, down}
use denote.Struct.Props.{props}
use Rattle.entry.specs.Passed.{Placed}
use Rattle.snap.specs.Steps.{InOrder}

-- `Placed`, by cases
abbrev PlacedAs : Float → Type 0
PlacedAs nan = ⊥
PlacedAs (inf s) = ⊥
PlacedAs (fin s n p) = (n * up p ≤ 2 ^ 40 * down p) × (n ≡ 0 → s ≡ false)

PlacedAs-prop : (x : Float) → IsProp (PlacedAs x)
PlacedAs-prop nan = hlevel props
PlacedAs-prop (inf s) = hlevel props
PlacedAs-prop (fin s n p) = hlevel props

placed_of : (x : Float) → PlacedAs x → Placed x
placed_of nan u = absurd u
placed_of (inf s) u = absurd u
placed_of (fin s n p) u = record { sign = s; size = n; power = p; finite = refl; bounded = u.0; unsigned = u.1 }

only : (x : Float) (q : Placed x) (u : PlacedAs x) → placed_of x u ≡ q
unfolding placed_of
only x q =
    path_j' (λ (y : Float) (e : y ≡ fin q.sign q.size q.power). (u : PlacedAs y) → placed_of y u
    ≡ record { sign = q.sign; size = q.size; power = q.power; finite = e; bounded = q.bounded; unsigned = q.unsigned })
    (λ u. ap (placed_of (fin q.sign q.size q.power)) (PlacedAs-prop (fin q.sign q.size q.power) u (q.bounded, q.unsigned))) q.finite

Placed-prop : (x : Float) → IsProp (Placed x)
Placed-prop x a b = let u : PlacedAs x = subst PlacedAs (sym a.finite) (a.bounded, a.unsigned) in sym (only x a u) ∙ only x b u

pub InOrder-prop : (coords : List Float) (order : List ℕ) → IsProp (InOrder coords order)
InOrder-prop coords order = hlevel (props, Placed-prop)
