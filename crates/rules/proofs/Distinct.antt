-- No two pieces of an accepted cell have the same node numbers. Assumes nothing.
use mathlib.Core.Path.{◌≡◌}
use mathlib.Core.Bool.{Bool, true, false, cond, not, ◌&&◌, ◌||◌}
use mathlib.Core.List.{List, [], ◌∷◌}
use Prim.Native.Nat.{ℕ, ◌≤◌, ◌<◌}
use native.Mathlib.Omega.{arith}
use lib.ListN.{length, get_or}
use Rattle.cutting.specs.Edges.{Edge, ring, rings}
use Rattle.cutting.specs.Edition.{Edition, ours}
use Rattle.cutting.specs.Cell.{doubled, repeats}
use Rattle.cutting.specs.declared.Slot.{Slot}
use Rattle.cutting.specs.Walk.{Next, more, closed, stuck, broken, walk_with}
use Rattle.cutting.specs.Outcome.{Outcome, refusal, pieces, of_walk, closes_up, after_walk, too_many, cut_outcome_with, copied_outcome_with}
use Rattle.cutting.specs.Areas.{ClosesUp}
use Rattle.cutting.proofs.Distinct.{Cornered, Ended, walk_cornered, one_place_of}
use Rattle.rules.specs.Mesh.{Side}
use Rattle.rules.specs.Meetings.{Scene}
use Rattle.rules.specs.Cell.{cell_of, near_of, treated_by, treated}
use Rattle.rules.specs.Operations.{outcome_pieces, pieces_of}
use Rattle.rules.specs.Demand3.{CellCloses}

-- ---- the pieces of a cell have corners

of_walk_lem : (x : Next) → Ended x → Cornered (outcome_pieces (of_walk x))
of_walk_lem (closed ps) h = h
of_walk_lem (more s) h = tt
of_walk_lem stuck h = tt
of_walk_lem broken h = tt

either : (b : Bool) (x y : Outcome) → Cornered (outcome_pieces x) → Cornered (outcome_pieces y) → Cornered (outcome_pieces (cond b x y))
either true x y h k = h
either false x y h k = k

after_walk_lem : (outline : List Edge) (b : Bool) (x : Outcome) → Cornered (outcome_pieces x) → Cornered (outcome_pieces (after_walk outline b x))
after_walk_lem outline b (refusal r) h = tt
after_walk_lem outline b (pieces ps) h = either (b || closes_up outline (rings ps)) (pieces ps) (refusal 11) h tt

-- so those of a cut cell
cut_cornered : (v : Edition) (outline : List Edge) (t : List Slot) → Cornered (outcome_pieces (cut_outcome_with v outline t))
unfolding cut_outcome_with
cut_cornered v outline t =
    let unasked = not v.once && doubled t in
    let done = of_walk (walk_with v.turning outline t) in
    either (v.once && repeats outline) (refusal 19) _ tt
    (either (too_many (length t)) (refusal 10) _ tt
    (after_walk_lem outline unasked done (of_walk_lem (walk_with v.turning outline t) (walk_cornered v.turning outline t))))

-- a copied cell has one piece at most
copied_one : (once : Bool) (cell : List ℕ) → length (outcome_pieces (copied_outcome_with once cell)) ≤ 1
copied_one once cell = go (once && repeats (ring cell))
  where
    go : (b : Bool) → length (outcome_pieces (cond b (refusal 19) (pieces (cell ∷ [])))) ≤ 1
    go true = omega arith
    go false = omega arith

-- ---- in a cell

pub one_place_in : (sc : Scene) (w : Side) (i : ℕ) → CellCloses sc w i
    → (j k : ℕ) → j < length (pieces_of sc w i) → k < length (pieces_of sc w i) → get_or (pieces_of sc w i) j [] ≡ get_or (pieces_of sc w i) k [] → j ≡ k
unfolding treated
one_place_in sc w i = go (near_of sc w i)
  where
    go : (js : List ℕ) → let t = treated_by sc w i js in let ps = outcome_pieces (t.outcome ours) in ClosesUp sc.coords t.outline ps
        → (j k : ℕ) → j < length ps → k < length ps → get_or ps j [] ≡ get_or ps k [] → j ≡ k
    go [] up j k h l e = omega (arith, h, l, copied_one true (cell_of sc w i))
    go (n ∷ ns) up j k h l e =
        let t = treated_by sc w i (n ∷ ns) in
        one_place_of t.outline (outcome_pieces (t.outcome ours)) up.edges (cut_cornered ours t.outline (t.table true)) j k h l e
