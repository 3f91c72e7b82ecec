-- The theorem, said of the pieces as they are read from what the walk answers and writes. Assumes nothing.
use mathlib.Core.Path.{◌≡◌, refl, sym, ap, ap₂, ◌∙◌, subst}
use mathlib.Core.Bool.{false}
use mathlib.Core.List.{List, [], ◌∷◌, ◌++◌, append_assoc}
use Prim.Native.Nat.{ℕ, ◌+◌, ◌-◌}
use native.Mathlib.Omega.{arith}
use lib.ListN.{length, take, drop}
use lib.Seq.{take_at, drop_at}
use lib.Ieee.{Float}
use Rattle.lists.specs.Regions.{front}
use Rattle.cutting.specs.Edges.{Edge}
use Rattle.cutting.specs.Cell.{Laid, cell_table, repeats}
use Rattle.cutting.specs.Walk.{Next, more, closed, stuck, broken, walk}
use Rattle.cutting.specs.Outcome.{Outcome, of_walk, flat, stops}
use Rattle.cutting.specs.Areas.{ClosesUp}
use Rattle.std.proofs.Common.{Result, Ok, Err}
use Rattle.dart_walk.specs.declared.Counts.{Counts}
use Rattle.dart_walk.specs.Answer.{answer, closed_with, corners_in, ends_in, pieces_in}
use Rattle.cutting.proofs.Closing.{closes_up_lem}

-- ---- pieces in two lists

pieces_behind : (from : ℕ) (ps : List (List ℕ)) (ns ss : List ℕ) → pieces_in from (length ps) (flat ps ++ ns) (stops from ps ++ ss) ≡ ps
unfolding pieces_in flat stops
pieces_behind from [] ns ss = refl
pieces_behind from (p ∷ ps) ns ss =
    let size : length p ≡ from + length p - from = omega arith in
    let all : p ++ flat ps ++ ns ≡ p ++ (flat ps ++ ns) = append_assoc p (flat ps) ns in
    ap₂ (λ (q : List ℕ) (qs : List (List ℕ)). q ∷ qs)
    (ap (take (from + length p - from)) all ∙ take_at p (flat ps ++ ns) (from + length p - from) size)
    (ap (λ (w : List ℕ). pieces_in (from + length p) (length ps) w (stops (from + length p) ps ++ ss))
    (ap (drop (from + length p - from)) all ∙ drop_at p (flat ps ++ ns) (from + length p - from) size) ∙ pieces_behind (from + length p) ps ns ss)

pieces_read : (from : ℕ) (ps : List (List ℕ)) (nodes stops₀ : List ℕ) → pieces_in from (length ps) (front nodes (flat ps)) (front stops₀ (stops from ps)) ≡ ps
unfolding front
pieces_read from ps nodes stops₀ = pieces_behind from ps (drop (length (flat ps)) nodes) (drop (length (stops from ps)) stops₀)

abbrev pieces_of : Result Counts ℕ → ℕ
pieces_of (Ok x) = x.pieces
pieces_of (Err k) = 0

-- for any coordinates, any outline and any near edges
module _ (coords : List Float) (outline : List Edge) (near : List Laid) where
  -- The pieces of a cell whose outline as cut doesn't repeat, as they are read from the answer and the two lists of `walk_dart_map`, close up to it.
  pub read_closes_up : repeats outline ≡ false → (nodes stops₀ : List ℕ) (k m : ℕ)
      → let o : Outcome = of_walk (walk outline (cell_table coords outline near)) in answer o ≡ closed_with k m
      → ClosesUp coords outline (pieces_in 0 k (corners_in o nodes) (ends_in o stops₀))
  unfolding corners_in ends_in
  read_closes_up once nodes stops₀ k m = go (walk outline (cell_table coords outline near)) refl
    where
      go : (x : Next) → walk outline (cell_table coords outline near) ≡ x → answer (of_walk x) ≡ closed_with k m
          → ClosesUp coords outline (pieces_in 0 k (corners_in (of_walk x) nodes) (ends_in (of_walk x) stops₀))
      go (closed ps) e q =
          let count : k ≡ length ps = ap pieces_of (sym q) in
          subst (ClosesUp coords outline) (sym (ap (λ (j : ℕ). pieces_in 0 j (front nodes (flat ps)) (front stops₀ (stops 0 ps))) count ∙ pieces_read 0 ps nodes
          stops₀)) (closes_up_lem coords outline near once ps e)
      go stuck e q = let z : ◌≡◌ {A = ℕ} 0 1 = cc in absurd (omega arith)
      go broken e q = let z : ◌≡◌ {A = ℕ} 0 1 = cc in absurd (omega arith)
      go (more s) e q = let z : ◌≡◌ {A = ℕ} 0 1 = cc in absurd (omega arith)
