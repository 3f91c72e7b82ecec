-- The index made of its parts. Assumes nothing.
use mathlib.Core.Path.{◌≡◌, refl, sym, ap, ap₂, ◌∙◌}
use mathlib.Core.List.{List, [], ◌∷◌, ◌++◌, append_assoc}
use Prim.Native.Nat.{ℕ, ◌+◌}
use native.Mathlib.Omega.{arith}
use lib.ListN.{length, set, drop}
use lib.Seq.{drop-drop}
use lib.Ieee.{Float}
use Rattle.lists.specs.Gather.{each}
use Rattle.lists.specs.Regions.{front}
use Rattle.strips.specs.declared.squares.Axis.TheVariants.{X, Y}
use Rattle.strips.specs.Things.{thing_count}
use Rattle.strips.specs.Index.{strip_count, chain_count, bounds_of, span_by, chain_by, head_at, next_at, links_of, above, level_count, chain_at, index_of}
use Rattle.strips.proofs.IndexAt.{length_index}

counted : (counts : List ℕ) (a b : ℕ) → length counts ≡ 2 → set (set counts 0 a) 1 b ≡ a ∷ b ∷ []
counted [] a b e = absurd (omega (arith, e))
counted (x ∷ []) a b e = absurd (omega (arith, e))
counted (x ∷ y ∷ []) a b e = refl
counted (x ∷ y ∷ z ∷ zs) a b e = absurd (omega (arith, e))

-- what is left where parts have been split off one by one
pub left_behind : (ix r₁ r₂ r₃ r₄ r₅ : List ℕ) (s h n : ℕ) → r₁ ≡ drop 2 ix → r₂ ≡ drop s r₁ → r₃ ≡ drop s r₂ → r₄ ≡ drop h r₃ → r₅ ≡ drop n r₄
    → r₅ ≡ drop (2 + s + s + h + n) ix
left_behind ix r₁ r₂ r₃ r₄ r₅ s h n a b c d e =
    let two : r₂ ≡ drop (2 + s) ix = b ∙ ap (drop s) a ∙ drop-drop s 2 ix in
    let three : r₃ ≡ drop (2 + s + s) ix = c ∙ ap (drop s) two ∙ drop-drop s (2 + s) ix in
    let four : r₄ ≡ drop (2 + s + s + h) ix = d ∙ ap (drop h) three ∙ drop-drop h (2 + s + s) ix in
    e ∙ ap (drop n) four ∙ drop-drop n (2 + s + s + h) ix

module _ (coords : List Float) (nodes ends ix : List ℕ) where
  abbrev n : ℕ
  n = thing_count nodes ends

  pub index_made : (counts xs ys heads nexts rest : List ℕ) (s h m levels : ℕ) → length counts ≡ 2 → s ≡ strip_count n → h ≡ chain_count n → m ≡ n
      → xs ≡ bounds_of coords nodes ends X → ys ≡ bounds_of coords nodes ends Y → heads ≡ each h (head_at (chain_by coords xs ys nodes ends) m)
      → nexts ≡ each m (next_at (chain_by coords xs ys nodes ends) m) → levels ≡ above (λ j. (span_by coords xs ys nodes ends j).level) 0 m
      → rest ≡ drop (2 + s + s + h + m) ix
      → set (set counts 0 s) 1 levels ++ (xs ++ (ys ++ (heads ++ (nexts ++ rest)))) ≡ front ix (index_of coords nodes ends)
  unfolding front index_of links_of
  index_made counts xs ys heads nexts rest s h m levels two s_is h-is m-is x y heads-is nexts-is levels-is rest-is =
      let xl = bounds_of coords nodes ends X in
      let yl = bounds_of coords nodes ends Y in
      let hl : List ℕ = each (chain_count n) (head_at (chain_at coords nodes ends) n) in
      let nl : List ℕ = each n (next_at (chain_at coords nodes ends) n) in
      let heads-are : heads ≡ hl =
      heads-is ∙ ap₂ (λ (k i : ℕ). each k (head_at (chain_by coords xs ys nodes ends) i)) h-is m-is
      ∙ ap₂ (λ (u v : List ℕ). each (chain_count n) (head_at (chain_by coords u v nodes ends) n)) x y in
      let nexts-are : nexts ≡ nl =
      nexts-is ∙ ap (λ (i : ℕ). each i (next_at (chain_by coords xs ys nodes ends) i)) m-is
      ∙ ap₂ (λ (u v : List ℕ). each n (next_at (chain_by coords u v nodes ends) n)) x y in
      let levels-are : levels ≡ level_count coords nodes ends =
      levels-is ∙ ap (above (λ j. (span_by coords xs ys nodes ends j).level) 0) m-is
      ∙ ap₂ (λ (u v : List ℕ). above (λ j. (span_by coords u v nodes ends j).level) 0 n) x y in
      let size : 2 + s + s + h + m ≡ length (index_of coords nodes ends) = omega (arith, s_is, h-is, m-is, length_index coords nodes ends) in
      let r : List ℕ = drop (length (index_of coords nodes ends)) ix in
      let behind : rest ≡ r = rest-is ∙ ap (λ (k : ℕ). drop k ix) size in
      ap (λ (u : List ℕ). u ++ (xs ++ (ys ++ (heads ++ (nexts ++ rest))))) (counted counts s levels two)
      ∙ ap₂ (λ (a b : ℕ). a ∷ b ∷ (xs ++ (ys ++ (heads ++ (nexts ++ rest))))) s_is levels-are
      ∙ ap₂ (λ (u v : List ℕ). strip_count n ∷ level_count coords nodes ends ∷ (u ++ (v ++ (heads ++ (nexts ++ rest))))) x y
      ∙ ap₂ (λ (u v : List ℕ). strip_count n ∷ level_count coords nodes ends ∷ (xl ++ (yl ++ (u ++ (v ++ rest))))) heads-are nexts-are
      ∙ ap (λ (u : List ℕ). strip_count n ∷ level_count coords nodes ends ∷ (xl ++ (yl ++ (hl ++ (nl ++ u))))) behind
      ∙ ap (λ (u : List ℕ). strip_count n ∷ level_count coords nodes ends ∷ u) (sym (append_assoc xl (yl ++ (hl ++ nl)) r
      ∙ ap (λ (u : List ℕ). xl ++ u) (append_assoc yl (hl ++ nl) r ∙ ap (λ (u : List ℕ). yl ++ u) (append_assoc hl nl r))))
