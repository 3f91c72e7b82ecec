-- The turns of `number_nodes`. Assumes nothing.
use mathlib.Core.Path.{◌≡◌, refl, sym, ap, ◌∙◌}
use mathlib.Core.List.{List, [], ◌∷◌, ◌++◌, append-nil}
use Prim.Native.Nat.{ℕ, ◌+◌, ◌≤◌, ◌<◌}
use native.Mathlib.Nat.{le_antisymm, le_of_eq}
use native.Mathlib.Omega.{arith}
use lib.ListN.{length, get_or, set, drop_of_length-le}
use lib.Ieee.{Float}
use Rattle.std.specs.Prelude.{Option, None, Some}
use Rattle.std.specs.Option.{unwrap_or}
use Rattle.lists.specs.Gather.{gathered, each}
use Rattle.lists.specs.Regions.{front}
use Rattle.lists.proofs.Gather.{each_more, length_each}
use Rattle.lists.proofs.Regions.{front_store, front_behind}
use Rattle.rules.specs.Snap.{or_shifted}
use Rattle.snap.specs.Steps.{number_by}

pub unwrap_shifted : (k : ℕ) (o : Option ℕ) → unwrap_or o k ≡ or_shifted k o
unwrap_shifted k None = refl
unwrap_shifted k (Some n) = refl

-- the number of node j, by its mark
abbrev pub number_in : (sc : List Float) → (sl order : List ℕ) → (cc : List Float) → (cl marks : List ℕ) → ℕ → ℕ
number_in sc sl order cc cl marks j = number_by sc sl order cc cl (get_or marks j 0) j

module _ (sc : List Float) (sl order : List ℕ) (cc : List Float) (cl marks : List ℕ) where
  pub number_start : marks ≡ front marks (each 0 (number_in sc sl order cc cl marks))
  unfolding front gathered
  number_start = refl

  pub number_turn : (w : List ℕ) (v j : ℕ) → j < length marks → w ≡ front marks (each j (number_in sc sl order cc cl marks))
      → v ≡ number_by sc sl order cc cl (get_or w j 0) j → set w j v ≡ front marks (each (j + 1) (number_in sc sl order cc cl marks))
  number_turn w v j l e ve =
      let xs : List ℕ = each j (number_in sc sl order cc cl marks) in
      let len : length xs ≡ j = length_each j (number_in sc sl order cc cl marks) in
      let mark : get_or w j 0 ≡ get_or marks j 0 = ap (λ (u : List ℕ). get_or u j 0) e ∙ front_behind marks xs j 0 (le_of_eq len) in
      let is : v ≡ number_in sc sl order cc cl marks j = ve ∙ ap (λ (m : ℕ). number_by sc sl order cc cl m j) mark in
      front_store marks w xs j v 0 len (omega arith) e ∙ ap (λ (u : ℕ). front marks (xs ++ u ∷ [])) is ∙ ap (front marks) (sym (each_more j (number_in sc sl order cc cl marks)))

  pub number_end : (w : List ℕ) (j : ℕ) → j ≤ length marks → length marks ≤ j → w ≡ front marks (each j (number_in sc sl order cc cl marks))
      → w ≡ each (length marks) (number_in sc sl order cc cl marks)
  unfolding front
  number_end w j a b e =
      let xs : List ℕ = each j (number_in sc sl order cc cl marks) in
      e ∙ ap (λ (l : List ℕ). xs ++ l) (drop_of_length-le marks (omega (arith, length_each j (number_in sc sl order cc cl marks)))) ∙ append-nil xs
      ∙ ap (λ (k : ℕ). each k (number_in sc sl order cc cl marks)) (le_antisymm {n = j} {m = length marks} a b)
