-- Events before any cell is cut: no piece is placed, so that room for pieces and node entries doesn't matter. Assumes nothing.
use mathlib.Core.Path.{◌≡◌, refl}
use mathlib.Core.List.{List, [], ◌∷◌, ◌++◌}
use Prim.Native.Nat.{ℕ, zero, suc, ◌/◌}
use lib.ListN.{length, replicate}
use Rattle.lists.specs.Gather.{joined}
use Rattle.rules.specs.Meetings.{Met}
use Rattle.rules.specs.Refusals.{Event, meeting, point, piece, stop, of_meeting, first_refusal}

-- no piece is placed, and each stop has its number
abbrev pub Early : List Event → Type 0
Early [] = Unit {0}
Early (meeting ∷ es) = Early es
Early (point ∷ es) = Early es
Early (piece k ∷ es) = ⊥
Early (stop r ∷ es) = (r ≡ 0 → ⊥) × Early es

pub early_append : (es fs : List Event) → Early es → Early fs → Early (es ++ fs)
early_append [] fs a b = b
early_append (meeting ∷ es) fs a b = early_append es fs a b
early_append (point ∷ es) fs a b = early_append es fs a b
early_append (piece k ∷ es) fs a b = absurd a
early_append (stop r ∷ es) fs a b = (a.0, early_append es fs a.1 b)

pub early_points : (k : ℕ) → Early (replicate k point)
early_points zero = tt
early_points (suc k) = early_points k

pub early_met : (ms : List Met) → Early (joined of_meeting ms)
unfolding joined
early_met [] = tt
early_met (x ∷ ms) = early_append (replicate (length x.point / 2) point) (joined of_meeting ms) (early_points (length x.point / 2)) (early_met ms)

pub any_room : (es : List Event) → Early es → (m p q n : ℕ) → first_refusal m p q n es ≡ first_refusal m p 0 0 es
unfolding first_refusal
any_room [] a m p q n = refl
any_room (meeting ∷ es) a zero p q n = refl
any_room (meeting ∷ es) a (suc m) p q n = any_room es a m p q n
any_room (point ∷ es) a m zero q n = refl
any_room (point ∷ es) a m (suc p) q n = any_room es a m p q n
any_room (piece k ∷ es) a m p q n = absurd a
any_room (stop r ∷ es) a m p q n = refl

pub met_any_room : (m p : ℕ) (ms : List Met) (q n : ℕ) → first_refusal m p q n (joined of_meeting ms) ≡ first_refusal m p 0 0 (joined of_meeting ms)
met_any_room m p ms q n = any_room (joined of_meeting ms) (early_met ms) m p q n
