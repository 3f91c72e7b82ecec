-- One turn of `repeated`, the reading of lines and numbers one after the other. Assumes nothing.
use mathlib.Core.Path.{◌≡◌, refl}
use mathlib.Core.List.{List}
use Prim.Native.Nat.{ℕ, zero, suc, ◌+◌, ◌-◌, ◌≤◌, ◌<◌}
use native.Mathlib.Omega.{arith}
use Rattle.std.specs.Prelude.{None, Some}
use Rattle.text.specs.Read.{if_word, and_then, word_from, repeated}
use Rattle.text.specs.Given.{Parsed}

module _ {A : Type 0} (w : List ℕ) (f : A → List ℕ → Parsed A) (a : A) (t : List ℕ) where
  pub repeated_stop : (k : ℕ) → word_from w t ≡ None → repeated w f k a t ≡ Some (a, t)
  unfolding repeated if_word
  repeated_stop zero e = refl
  repeated_stop (suc k) e = rw e

  pub repeated_end : (room k : ℕ) → room ≤ k → repeated w f (room - k) a t ≡ Some (a, t)
  unfolding repeated
  repeated_end room k h = let z : room - k ≡ 0 = omega arith in rw z

  module _ (room k : ℕ) (h : k < room) (t₁ : List ℕ) (e : word_from w t ≡ Some t₁) where
    left : room - k ≡ suc (room - (k + 1))
    left = omega arith

    pub repeated_bad : f a t₁ ≡ None → repeated w f (room - k) a t ≡ None
    unfolding repeated if_word and_then
    repeated_bad g = rw (left, e, g)

    pub repeated_step : (a₁ : A) (t₂ : List ℕ) → f a t₁ ≡ Some (a₁, t₂) → repeated w f (room - k) a t ≡ repeated w f (room - (k + 1)) a₁ t₂
    unfolding repeated if_word and_then
    repeated_step a₁ t₂ g = rw (left, e, g)
