-- `renumber`: its turns; and the numbers that it reads are those of `weld`. Assumes nothing.
use mathlib.Core.Path.{◌≡◌, refl, sym, ap, ap₂, ◌∙◌}
use mathlib.Core.List.{List, [], ◌∷◌, ◌++◌, map}
use Prim.Native.Nat.{ℕ, suc, ◌+◌, ◌≤◌, ◌<◌}
use native.Mathlib.Omega.{arith}
use lib.ListN.{length, get_or, set, take, length-append, length-map, length-set, get_or-append, get_or-map}
use Rattle.lists.specs.Regions.{front, put}
use Rattle.lists.proofs.Gather.{get_or_any}
use Rattle.lists.proofs.Regions.{front_in, put_before, copy_start, copy_turn}
use Rattle.entry.specs.Mesh.{Mesh, node_count}
use Rattle.rules.specs.Snap.{weld}
use Rattle.snap.specs.Steps.{Below}
use Rattle.snap.proofs.Welds.{length_weld}

-- ---- the turns

abbrev pub Renumbered : List ℕ → List ℕ → ℕ → List ℕ → ℕ → Type 0
Renumbered w₀ cn at w i = (i ≤ length cn) × (length w ≡ length w₀) × (w ≡ put w₀ at (take i (map (λ n. get_or w₀ n 0) cn)))

module _ (w₀ cn : List ℕ) (at : ℕ) (below : Below at cn) (fits : at + length cn ≤ length w₀) where
  abbrev read : ℕ → ℕ
  read n = get_or w₀ n 0

  len : length (map read cn) ≡ length cn
  len = length-map cn read

  pub start : Renumbered w₀ cn at w₀ 0
  start = (omega arith, refl, copy_start w₀ at (map read cn) (omega (arith, len)))

  pub turn : (w : List ℕ) (i : ℕ) → Renumbered w₀ cn at w i → i < length cn → Renumbered w₀ cn at (set w (at + i) (get_or w (get_or cn i 0) 0)) (i + 1)
  turn w i inv h =
      let k : ℕ = get_or cn i 0 in
      let is : get_or w k 0 ≡ get_or (map read cn) i 0 =
      ap (λ (l : List ℕ). get_or l k 0) inv.2 ∙ put_before w₀ at (omega arith) (take i (map read cn)) k 0 (below i h)
      ∙ sym (get_or_any (map read cn) i 0 (read 0) (omega (arith, len)) ∙ get_or-map read cn i 0) in (
        omega arith,
        length-set w (at + i) (get_or w k 0) ∙ inv.1,
        ap (set w (at + i)) is ∙ copy_turn w₀ at (map read cn) (omega (arith, len)) w i 0 (omega (arith, len)) inv.2,
      )

-- ---- what is read

map_known : (f g : ℕ → ℕ) (n : ℕ) (xs : List ℕ) → Below n xs → ((k : ℕ) → k < n → f k ≡ g k) → map f xs ≡ map g xs
map_known f g n [] b h = refl
map_known f g n (x ∷ xs) b h = ap₂ (λ (y : ℕ) (ys : List ℕ). y ∷ ys) (h x (b 0 (omega arith))) (map_known f g n xs (λ k l. b (suc k) (omega (arith, l))) h)

pub numbers_read : (s c : Mesh) (w₀ z cn : List ℕ) → Below (node_count c) cn → map (λ n. get_or (front w₀ (weld s c ++ z)) n 0) cn ≡ map (λ n. get_or (weld s c) n 0) cn
numbers_read s c w₀ z cn b =
    map_known _ _ (node_count c) cn b
    (λ k h. front_in w₀ (weld s c ++ z) k 0 (omega (arith, length-append (weld s c) z, length_weld s c)) ∙ get_or-append (weld s c) z 0 k (omega (arith, length_weld s c)))
