-- A flat list of edges as arrays of two. Assumes nothing.
use mathlib.Core.Path.{◌≡◌, refl, sym, ap, ◌∙◌}
use mathlib.Core.List.{List, [], ◌∷◌, map}
use Prim.Native.Nat.{ℕ, zero, suc, ◌/◌}
use native.Mathlib.Omega.{arith}
use lib.ListN.{length, get_or}
use Rattle.std.specs.Simd.{first_chunks}
use Rattle.cutting.specs.Edges.{Edge, edge_at}
use Rattle.cutting.specs.Lent.{pairs, pair_of}

pub chunked : (xs : List ℕ) → map pair_of (first_chunks 2 (length xs / 2) xs) ≡ pairs xs
unfolding pairs
chunked [] = refl
chunked (a ∷ []) = refl
chunked (a ∷ b ∷ xs) =
    let n : length (a ∷ b ∷ xs) / 2 ≡ suc (length xs / 2) = omega arith in
    ap (λ (k : ℕ). map pair_of (first_chunks 2 k (a ∷ b ∷ xs))) n ∙ ap (λ (es : List Edge). (a, b) ∷ es) (chunked xs)

-- one of them, and an edge from 0 to 0 beyond them
pub pair_in : (d : List ℕ) → pair_of d ≡ (0, 0) → (es : List (List ℕ)) (i : ℕ) → edge_at (map pair_of es) i ≡ pair_of (get_or es i d)
pair_in d none [] i = sym none
pair_in d none (e ∷ es) zero = refl
pair_in d none (e ∷ es) (suc i) = pair_in d none es i

pub chunk_at : (xs : List ℕ) (es : List (List ℕ)) (i : ℕ) (e : List ℕ) → es ≡ first_chunks 2 (length xs / 2) xs → e ≡ get_or es i (0 ∷ 0 ∷ []) → pair_of e ≡ edge_at (pairs xs) i
chunk_at xs es i e chunks at = ap pair_of at ∙ sym (pair_in (0 ∷ 0 ∷ []) refl es i) ∙ ap (λ (l : List Edge). get_or l i (0, 0)) (ap (map pair_of) chunks ∙ chunked xs)
