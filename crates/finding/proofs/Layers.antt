-- Regions of the working list written one behind the other, and read back. Assumes nothing.
use mathlib.Core.Path.{◌≡◌, refl, ◌∙◌}
use mathlib.Core.List.{List}
use Prim.Native.Nat.{ℕ, ◌+◌, ◌≤◌}
use native.Mathlib.Omega.{arith}
use lib.ListN.{length}
use Rattle.lists.specs.Regions.{run, put}
use Rattle.lists.proofs.Regions.{length_put, run_put, run_before}

module _ (w e n s c : List ℕ) (p₁ p₂ p₃ p₄ : ℕ) where
  abbrev pub one : List ℕ
  one = put w p₁ e

  abbrev pub two : List ℕ
  two = put one p₂ n

  abbrev pub three : List ℕ
  three = put two p₃ s

  abbrev pub four : List ℕ
  four = put three p₄ c

  module _ (h₁ : p₁ + length e ≤ p₂) (h₂ : p₂ + length n ≤ p₃) (h₃ : p₃ + length s ≤ p₄) (h₄ : p₄ + length c ≤ length w) where
    pub length_one : length one ≡ length w
    length_one = length_put w p₁ (omega arith) e (omega arith)

    pub length_two : length two ≡ length w
    length_two = length_put one p₂ (omega (arith, length_one)) n (omega (arith, length_one)) ∙ length_one

    pub length_three : length three ≡ length w
    length_three = length_put two p₃ (omega (arith, length_two)) s (omega (arith, length_two)) ∙ length_two

    pub length_four : length four ≡ length w
    length_four = length_put three p₄ (omega (arith, length_three)) c (omega (arith, length_three)) ∙ length_three

    -- what each of them holds
    pub first_two : run two p₁ (length e) ≡ e
    first_two = run_before one p₂ (omega (arith, length_one)) n p₁ (length e) (omega arith) ∙ run_put w p₁ (omega arith) e (length e) refl

    pub first_three : run three p₁ (length e) ≡ e
    first_three = run_before two p₃ (omega (arith, length_two)) s p₁ (length e) (omega arith) ∙ first_two

    pub first_four : run four p₁ (length e) ≡ e
    first_four = run_before three p₄ (omega (arith, length_three)) c p₁ (length e) (omega arith) ∙ first_three

    pub second_two : run two p₂ (length n) ≡ n
    second_two = run_put one p₂ (omega (arith, length_one)) n (length n) refl

    pub second_four : run four p₂ (length n) ≡ n
    second_four =
        run_before three p₄ (omega (arith, length_three)) c p₂ (length n) (omega arith)
        ∙ run_before two p₃ (omega (arith, length_two)) s p₂ (length n) (omega arith) ∙ second_two

    pub third_four : run four p₃ (length s) ≡ s
    third_four = run_before three p₄ (omega (arith, length_three)) c p₃ (length s) (omega arith) ∙ run_put two p₃ (omega (arith, length_two)) s (length s) refl

    pub fourth_four : run four p₄ (length c) ≡ c
    fourth_four = run_put three p₄ (omega (arith, length_three)) c (length c) refl
