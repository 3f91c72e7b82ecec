-- The theorem's proof at a cell's own table. Assumes nothing.
use mathlib.Core.Path.{◌≡◌, refl, sym, ap, ap₂, ◌∙◌, subst}
use mathlib.Core.Logic.{◌⊎◌, inl, inr}
use mathlib.Core.Bool.{Bool, true, false, cond, not, ◌&&◌, ◌||◌}
use mathlib.Core.List.{List, [], ◌∷◌, append-nil}
use Prim.Native.Nat.{ℕ, ◌+◌, ◌≤◌, ◌<◌}
use native.Mathlib.Omega.{arith}
use lib.ListN.{length}
use lib.Ieee.{Float}
use lib.IntN.{ℤ, neg_ℤ, ◌+ℤ◌, ◌-ℤ◌, ◌*ℤ◌, *ℤ_comm, neg_ℤ-+ℤ, neg_ℤ-neg_ℤ, +ℤ_comm}
use borrow.Author.Tests.{ltb-false, lt-ltb, le-ltb}
use Rattle.exact.specs.Exact.{coord}
use Rattle.plane.specs.Plane.{point_at}
use Rattle.lists.specs.Gather.{all}
use Rattle.cutting.specs.Edges.{Edge, ring, rings, times}
use Rattle.cutting.specs.Cell.{Laid, inner, cell_table, doubled, repeats}
use Rattle.cutting.specs.declared.Slot.{Slot}
use Rattle.cutting.specs.Walk.{Next, more, closed, stuck, broken, srcs, dsts, walk_with}
use Rattle.cutting.specs.Outcome.{Outcome, refusal, pieces, of_walk, walked, closes_up, after_walk, too_many, cut_outcome_with, copied_outcome}
use Rattle.cutting.specs.Areas.{exact_term, doubled_area, doubled_areas, Closes, ClosesUp, Round}
use Rattle.cutting.proofs.EdgeLaws.{hit_self}
use Rattle.cutting.proofs.Tables.{even, closes}
use Rattle.cutting.proofs.Sums.{sum, sum_append, sum_even}
use Rattle.cutting.proofs.CellLaws.{sorted_table}
use Rattle.cutting.proofs.Repeats.{repeats_not}
use Rattle.cutting.proofs.Once.{never_doubled}
use Rattle.cutting.proofs.Ends.{Ended, walk_ended}
use Rattle.cutting.proofs.Onward.{Free, never_stuck}

-- ---- areas

module _ (coords : List Float) where
  -- turned round, a term changes its sign
  term_odd : (a b : ℕ) → exact_term coords a b ≡ neg_ℤ (exact_term coords b a)
  term_odd a b = back (coord (point_at coords a).x) (coord (point_at coords a).y) (coord (point_at coords b).x) (coord (point_at coords b).y)
    where
      back : (x y x' y' : ℤ) → x *ℤ y' -ℤ y *ℤ x' ≡ neg_ℤ (x' *ℤ y -ℤ y' *ℤ x)
      back x y x' y' = ap₂ (λ (u v : ℤ). u +ℤ neg_ℤ v) (*ℤ_comm x y') (*ℤ_comm y x') ∙ +ℤ_comm (y' *ℤ x) (neg_ℤ (x' *ℤ y)) ∙ ap (λ (u : ℤ). neg_ℤ (x' *ℤ y) +ℤ u)
          (sym (neg_ℤ-neg_ℤ (y' *ℤ x))) ∙ sym (neg_ℤ-+ℤ (x' *ℤ y) (neg_ℤ (y' *ℤ x)))

  area_sum : (es : List Edge) → doubled_area coords es ≡ sum (exact_term coords) es
  unfolding doubled_area sum
  area_sum [] = refl
  area_sum (e ∷ es) = ap (λ (z : ℤ). exact_term coords e.0 e.1 +ℤ z) (area_sum es)

  areas_sum : (ps : List (List ℕ)) → doubled_areas coords ps ≡ sum (exact_term coords) (rings ps)
  unfolding doubled_areas rings sum
  areas_sum [] = refl
  areas_sum (p ∷ ps) = ap₂ (λ (y z : ℤ). y +ℤ z) (area_sum (ring p)) (areas_sum ps) ∙ sym (sum_append (exact_term coords) (ring p) (rings ps))

  areas : (outline : List Edge) (ps : List (List ℕ)) → ((a b : ℕ) → times a b (rings ps) + times b a outline ≡ times b a (rings ps) + times a b outline)
      → doubled_areas coords ps ≡ doubled_area coords outline
  areas outline ps h = areas_sum ps ∙ sum_even (exact_term coords) term_odd (rings ps) outline h ∙ sym (area_sum outline)

-- ---- the after-walk test

-- a test that each edge of a list passes
all_edges : (p : Edge → Bool) (es : List Edge) → ((e : Edge) → 0 < times e.0 e.1 es → p e ≡ true) → all p es ≡ true
unfolding all times
all_edges p [] h = refl
all_edges p (e ∷ es) h = rw (h e (omega (arith, hit_self e.0 e.1)), all) (all_edges p es (λ f k. h f (omega (arith, k))))

module _ (outline : List Edge) (ps : List (List ℕ)) (close : (a b : ℕ) → Closes outline ps a b) where
  outer : (e : Edge) → 0 < times e.0 e.1 outline → walked e.0 e.1 (rings ps) && not (walked e.1 e.0 (rings ps)) ≡ true
  outer e h =
      let c = (close e.0 e.1).outer h in
      ap₂ (λ (x y : Bool). x && not y) (lt-ltb 0 (times e.0 e.1 (rings ps)) (omega (arith, c.0))) (le-ltb 0 (times e.1 e.0 (rings ps)) (omega (arith, c.1)))

  other : (e : Edge) → 0 < times e.0 e.1 (rings ps) → walked e.0 e.1 outline || walked e.1 e.0 outline || walked e.1 e.0 (rings ps) ≡ true
  other e h = go (walked e.0 e.1 outline) (walked e.1 e.0 outline) refl refl
    where
      go : (x y : Bool) → walked e.0 e.1 outline ≡ x → walked e.1 e.0 outline ≡ y → x || y || walked e.1 e.0 (rings ps) ≡ true
      go true y p q = refl
      go false true p q = refl
      go false false p q =
          let none = ltb-false 0 (times e.0 e.1 outline) p in
          let none' = ltb-false 0 (times e.1 e.0 outline) q in
          let c = (close e.0 e.1).other (omega (arith, none)) (omega (arith, none')) in
          lt-ltb 0 (times e.1 e.0 (rings ps)) (omega (arith, c.0, h))

  closes_test : closes_up outline (rings ps) ≡ true
  unfolding closes_up
  closes_test = ap₂ (λ (x y : Bool). x && y) (all_edges _ outline outer) (all_edges _ (rings ps) other)

-- ---- a cell that is cut

module _ (turning : Bool) (coords : List Float) (outline : List Edge) (near : List Laid) where
  pub walk_ends : ((ps : List (List ℕ)) × (walk_with turning outline (cell_table coords outline near) ≡ closed ps)) ⊎
      (walk_with turning outline (cell_table coords outline near) ≡ stuck)
  walk_ends = pick (walk_with turning outline (cell_table coords outline near)) refl
      (walk_ended turning outline (inner outline near) (cell_table coords outline near) (sorted_table true coords outline near))
    where
      pick : (r : Next) → walk_with turning outline (cell_table coords outline near) ≡ r → Ended r
          → ((ps : List (List ℕ)) × (walk_with turning outline (cell_table coords outline near) ≡ closed ps)) ⊎ (walk_with turning outline (cell_table coords outline near) ≡ stuck)
      pick (more s) e h = absurd h
      pick (closed ps) e h = inl (ps, e)
      pick stuck e h = inr e
      pick broken e h = absurd h

  module _ (once : repeats outline ≡ false) (ps : List (List ℕ)) where
    clean : doubled (cell_table coords outline near) ≡ false
    clean = never_doubled coords outline near once

    pub closes_up_lem : walk_with turning outline (cell_table coords outline near) ≡ closed ps → ClosesUp coords outline ps
    closes_up_lem e = record {
      edges = closes outline (inner outline near) (cell_table coords outline near) (sorted_table true coords outline near) turning clean ps e;
      areas = areas coords outline ps (λ a b. (even outline (inner outline near) (cell_table coords outline near) (sorted_table true coords outline near) turning clean ps e a b).1);
    }

    pub test_passes : walk_with turning outline (cell_table coords outline near) ≡ closed ps → closes_up outline (rings ps) ≡ true
    test_passes e = closes_test outline ps (closes_up_lem e).edges

  -- the outcome without the test is the same
  pub without_test : cut_outcome_with (record { turning = turning; once = true; grids = true; layers = true }) outline (cell_table coords outline near)
      ≡ cond (repeats outline) (refusal 19) (cond (too_many (length (cell_table coords outline near))) (refusal 10)
      (of_walk (walk_with turning outline (cell_table coords outline near))))
  unfolding cut_outcome_with
  without_test = by (repeats outline) refl
    where
      go : repeats outline ≡ false → (x : Next) → walk_with turning outline (cell_table coords outline near) ≡ x → after_walk outline false (of_walk x) ≡ of_walk x
      go f (closed ps) e = ap (λ (x : Bool). cond x (pieces ps) (refusal 11)) (test_passes f ps e)
      go f stuck e = refl
      go f broken e = refl
      go f (more s) e = refl

      by : (b : Bool) → repeats outline ≡ b
          → cond b (refusal 19) (cond (too_many (length (cell_table coords outline near))) (refusal 10)
          (after_walk outline false (of_walk (walk_with turning outline (cell_table coords outline near)))))
          ≡ cond b (refusal 19) (cond (too_many (length (cell_table coords outline near))) (refusal 10) (of_walk (walk_with turning outline (cell_table coords outline near))))
      by true f = refl
      by false f = ap (λ (x : Outcome). cond (too_many (length (cell_table coords outline near))) (refusal 10) x)
          (go f (walk_with turning outline (cell_table coords outline near)) refl)

  pub accepted_closes_up : (ps : List (List ℕ)) → cut_outcome_with (record { turning = turning; once = true; grids = true; layers = true }) outline (cell_table coords outline near) ≡ pieces
      ps → ClosesUp coords outline ps
  accepted_closes_up ps e = by (repeats outline) refl (sym without_test ∙ e)
    where
      made : (b : Bool) → cond b (refusal 10) (of_walk (walk_with turning outline (cell_table coords outline near))) ≡ pieces ps
          → of_walk (walk_with turning outline (cell_table coords outline near)) ≡ pieces ps
      made true q = let z : ◌≡◌ {A = ℕ} 0 1 = cc in absurd (omega arith)
      made false q = q

      of_walk_lem : (x : Next) → of_walk x ≡ pieces ps → x ≡ closed ps
      of_walk_lem (closed qs) q = cc
      of_walk_lem stuck q = let z : ◌≡◌ {A = ℕ} 0 1 = cc in absurd (omega arith)
      of_walk_lem broken q = let z : ◌≡◌ {A = ℕ} 0 1 = cc in absurd (omega arith)
      of_walk_lem (more s) q = let z : ◌≡◌ {A = ℕ} 0 1 = cc in absurd (omega arith)

      by : (b : Bool) → repeats outline ≡ b
          → cond b (refusal 19) (cond (too_many (length (cell_table coords outline near))) (refusal 10)
          (of_walk (walk_with turning outline (cell_table coords outline near)))) ≡ pieces ps
          → ClosesUp coords outline ps
      by true f q = let z : ◌≡◌ {A = ℕ} 0 1 = cc in absurd (omega arith)
      by false f q = closes_up_lem f ps (of_walk_lem (walk_with turning outline (cell_table coords outline near)) (made (too_many (length (cell_table coords outline near))) q))

-- an outline with as many darts into each node as out of it: the walk, which may turn back, always has a way on
pub round_closes : (coords : List Float) (outline : List Edge) (near : List Laid) → Round outline
    → (ps : List (List ℕ)) × (walk_with true outline (cell_table coords outline near) ≡ closed ps)
round_closes coords outline near round =
    pick (walk_with true outline (cell_table coords outline near)) refl
    (walk_ended true outline (inner outline near) (cell_table coords outline near) (sorted_table true coords outline near))
    (never_stuck outline (inner outline near) (cell_table coords outline near) (sorted_table true coords outline near) round)
  where
    pick : (r : Next) → walk_with true outline (cell_table coords outline near) ≡ r → Ended r
        → Free (length (cell_table coords outline near)) (srcs (cell_table coords outline near)) (dsts (cell_table coords outline near)) r
        → (ps : List (List ℕ)) × (walk_with true outline (cell_table coords outline near) ≡ closed ps)
    pick (more s) e h f = absurd h
    pick (closed ps) e h f = (ps, e)
    pick stuck e h f = absurd f
    pick broken e h f = absurd h

-- an outline that gives pieces doesn't repeat
pub accepted_once : (turning : Bool) (outline : List Edge) (t : List Slot) (ps : List (List ℕ))
    → cut_outcome_with (record { turning = turning; once = true; grids = true; layers = true }) outline t ≡ pieces ps → repeats outline ≡ false
unfolding cut_outcome_with
accepted_once turning outline t ps e = go (repeats outline) refl e
  where
    rest : Outcome
    rest = cond (too_many (length t)) (refusal 10) (after_walk outline false (of_walk (walk_with turning outline t)))

    go : (b : Bool) → repeats outline ≡ b → cond b (refusal 19) rest ≡ pieces ps → repeats outline ≡ false
    go true f q = let z : ◌≡◌ {A = ℕ} 0 1 = cc in absurd (omega arith)
    go false f q = f

-- ---- a cell that is copied

pub copy_once : (cell : List ℕ) (ps : List (List ℕ)) → copied_outcome cell ≡ pieces ps → repeats (ring cell) ≡ false
copy_once cell ps e = go (repeats (ring cell)) refl e
  where
    go : (b : Bool) → repeats (ring cell) ≡ b → cond b (refusal 19) (pieces (cell ∷ [])) ≡ pieces ps → repeats (ring cell) ≡ false
    go true f q = let z : ◌≡◌ {A = ℕ} 0 1 = cc in absurd (omega arith)
    go false f q = f

pub copy_closes_up : (coords : List Float) (cell : List ℕ) (ps : List (List ℕ)) → copied_outcome cell ≡ pieces ps → ClosesUp coords (ring cell) ps
unfolding rings
copy_closes_up coords cell ps e = by (repeats (ring cell)) refl e
  where
    same : rings (cell ∷ []) ≡ ring cell
    same = append-nil (ring cell)

    edges : repeats (ring cell) ≡ false → (a b : ℕ) → Closes (ring cell) (cell ∷ []) a b
    edges once a b =
        let most : times a b (ring cell) + times b a (ring cell) ≤ 1 = repeats_not (ring cell) once a b in
        record { outer = λ h. omega (arith, ap (times a b) same, ap (times b a) same); other = λ h h'. omega (arith, ap (times a b) same, ap (times b a) same) }

    whole : repeats (ring cell) ≡ false → ClosesUp coords (ring cell) (cell ∷ [])
    whole once = record { edges = edges once; areas = areas coords (ring cell) (cell ∷ []) (λ a b. omega (arith, ap (times a b) same, ap (times b a) same)) }

    by : (b : Bool) → repeats (ring cell) ≡ b → cond b (refusal 19) (pieces (cell ∷ [])) ≡ pieces ps → ClosesUp coords (ring cell) ps
    by true f q = let z : ◌≡◌ {A = ℕ} 0 1 = cc in absurd (omega arith)
    by false f q = let is : cell ∷ [] ≡ ps = cc in subst (ClosesUp coords (ring cell)) is (whole f)
