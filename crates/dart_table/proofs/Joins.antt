-- A cell's table as it is made edge by edge: what a loop over own edges and near edges joins, and when 1,024 slots are passed. Assumes nothing.
use mathlib.Core.Path.{◌≡◌, refl, sym, ap, ◌∙◌, subst}
use mathlib.Core.Bool.{Bool, true, false, cond, not, ◌&&◌}
use mathlib.Core.List.{List, [], ◌∷◌, ◌++◌, append-nil, append_assoc}
use Prim.Native.Nat.{ℕ, ◌+◌, ◌*◌, ◌≤◌, ◌<◌}
use native.Mathlib.Omega.{arith}
use lib.Dec.{eqb}
use lib.ListN.{length, length-append}
use lib.Ieee.{Float}
use borrow.Author.Tests.{lt-ltb, le-ltb}
use Rattle.std.proofs.Common.{Result, Ok, is_err}
use Rattle.lists.specs.Gather.{tally, joined}
use Rattle.lists.specs.Sort.{sort_onto, sorted}
use Rattle.lists.proofs.Gather.{tally_append, joined_append, joined_snoc}
use Rattle.lists.proofs.Sort.{sort_onto_append, length_sorted, sorted_tally}
use Rattle.dart_table.specs.declared.Full.{Full}
use Rattle.cutting.specs.declared.Slot.{Slot}
use Rattle.cutting.specs.Edges.{Edge}
use Rattle.cutting.specs.Cell.{Laid, own_darts, outline_darts, near_darts, edge_slots, reverse_mark, table, names, is_new, new_to, inner, inner_with}
use Rattle.cutting.specs.Cell.{stands_before, cell_table, cell_table_with, repeats}
use Rattle.cutting.specs.Lent.{flat_edges}
use Rattle.dart_table.specs.Table.{Table, table_in, with_darts, with_edge, with_edges, outline_with}
use Rattle.cutting.specs.Walk.{walk}
use Rattle.cutting.specs.Outcome.{Outcome, refusal, of_walk, too_many, cut_outcome}
use Rattle.cutting.proofs.CellLaws.{slots_append, slots_length}
use Rattle.cutting.proofs.Pairs.{ends_append}
use Rattle.dart_table.proofs.Adds.{darts_tell, outline_fit}
use Rattle.cutting.proofs.Closing.{without_test}

-- ---- the outline's flat list, with one own edge more

pub outline_more : (w w' : List ℕ) (own : List Laid) (l : Laid) → w ≡ flat_edges (outline_darts own) → w' ≡ w ++ flat_edges (own_darts l)
    → w' ≡ flat_edges (outline_darts (own ++ l ∷ []))
unfolding outline_darts
outline_more w w' own l e f =
    f ∙ ap (λ (xs : List ℕ). xs ++ flat_edges (own_darts l)) e ∙ sym (ap flat_edges (joined_snoc own_darts own l) ∙ ends_append (joined own_darts own) (own_darts l))

-- ---- the table

module _ (coords : List Float) where
  abbrev before : Slot → Slot → Bool
  before = stands_before coords

  -- after the own edges so far, one more
  pub own_more : (own : List Laid) (l : Laid) → sort_onto before (sorted before (edge_slots reverse_mark (outline_darts own))) (edge_slots reverse_mark (own_darts l))
      ≡ sorted before (edge_slots reverse_mark (outline_darts (own ++ l ∷ [])))
  unfolding outline_darts
  own_more own l =
      sym (sort_onto_append before [] (edge_slots reverse_mark (joined own_darts own)) (edge_slots reverse_mark (own_darts l))) ∙ ap (sorted before)
      (sym (slots_append reverse_mark (joined own_darts own) (own_darts l))) ∙ ap (λ (es : List Edge). sorted before (edge_slots reverse_mark es)) (sym (joined_snoc own_darts own l))

  module _ (outline : List Edge) where
    -- with no near edges
    pub none_near : sorted before (edge_slots reverse_mark outline) ≡ cell_table coords outline []
    unfolding cell_table_with table inner_with new_to joined edge_slots
    none_near = ap (sorted before) (sym (append-nil (edge_slots reverse_mark outline)))

    pub cell_length : (near : List Laid) → length (cell_table coords outline near) ≡ 2 * length outline + 2 * length (inner outline near)
    unfolding cell_table_with table
    cell_length near = omega (
      arith,
      length_sorted before (edge_slots reverse_mark outline ++ edge_slots false (inner outline near)),
      length-append (edge_slots reverse_mark outline) (edge_slots false (inner outline near)),
      slots_length reverse_mark outline,
      slots_length false (inner outline near),
    )

  -- once over 1,024 slots, always over
  pub own_over : (own : List Laid) (l : Laid) (later near : List Laid) → 1024 < 2 * length (outline_darts own) + 2 * length (own_darts l)
      → 1024 < length (cell_table coords (outline_darts (own ++ l ∷ later)) near)
  unfolding outline_darts joined
  own_over own l later near h =
      omega (
        arith,
        cell_length (outline_darts (own ++ l ∷ later)) near,
        ap length (joined_append own_darts own (l ∷ later)),
        length-append (joined own_darts own) (own_darts l ++ joined own_darts later),
        length-append (own_darts l) (joined own_darts later),
      )

-- ---- a turn of a loop over own edges, and of one over near edges

-- an own edge more, by what the table answers
module _ (coords : List Float) (own : List Laid) (l : Laid) (t : List Slot) (r : Result (Unit {0}) Full) (t' : List Slot)
    (got : table_in r t' ≡ with_darts coords reverse_mark (own_darts l) t) (held : t ≡ sorted (stands_before coords) (edge_slots reverse_mark (outline_darts own))) where
  told : (is_err r ≡ false → (length t + 2 * length (own_darts l) ≤ 1024) × (t' ≡ sort_onto (stands_before coords) t (edge_slots reverse_mark (own_darts l))))
      × (is_err r ≡ true → 1024 < length t + 2 * length (own_darts l))
  told = subst (λ (u : Table). (is_err u.answer ≡ false → (length t + 2 * length (own_darts l) ≤ 1024)
      × (u.slots ≡ sort_onto (stands_before coords) t (edge_slots reverse_mark (own_darts l)))) × (is_err u.answer ≡ true → 1024 < length t + 2 * length (own_darts l)))
      (sym got) (darts_tell coords reverse_mark (own_darts l) t)

  pub own_count : length t ≡ 2 * length (outline_darts own)
  own_count = omega (arith, ap length held, length_sorted (stands_before coords) (edge_slots reverse_mark (outline_darts own)), slots_length reverse_mark (outline_darts own))

  pub own_turn : is_err r ≡ false → t' ≡ sorted (stands_before coords) (edge_slots reverse_mark (outline_darts (own ++ l ∷ [])))
  own_turn h = (told.0 h).1 ∙ ap (λ (u : List Slot). sort_onto (stands_before coords) u (edge_slots reverse_mark (own_darts l))) held ∙ own_more coords own l

  pub own_outline : (w w' : List ℕ) → is_err r ≡ false → w ≡ flat_edges (outline_darts own) → w' ≡ outline_with (own_darts l) (length t) w
      → w' ≡ flat_edges (outline_darts (own ++ l ∷ []))
  own_outline w w' h e f = outline_more w w' own l e (f ∙ sym (outline_fit (own_darts l) (length t) w (told.0 h).0))

  pub own_full : (later near : List Laid) → is_err r ≡ true → 1024 < length (cell_table coords (outline_darts (own ++ l ∷ later)) near)
  own_full later near h = own_over coords own l later near (omega (arith, told.1 h, own_count))

-- ---- edges near the cell, each once

is_new_as : (t u : List Slot) (e : Edge) → ((p : Slot → Bool) → tally p t ≡ tally p u) → is_new t e ≡ is_new u e
unfolding is_new
is_new_as t u e h = ap (λ (k : ℕ). not (eqb e.0 e.1) && eqb k 0) (h (names e.0 e.1))

-- the edge itself, if it is added
abbrev one_if : Bool → Edge → List Edge
one_if true e = e ∷ []
one_if false e = []

-- one edge more comes last
new_to_snoc : (t : List Slot) (es : List Edge) (e : Edge) → new_to t (es ++ e ∷ []) ≡ new_to t es ++ one_if (is_new (edge_slots false (new_to t es) ++ t) e) e
unfolding new_to edge_slots
new_to_snoc t [] e = go (is_new t e)
  where
    go : (x : Bool) → elim x [ true ↦ e ∷ [] | false ↦ [] ] ≡ one_if x e
    go true = refl
    go false = refl
new_to_snoc t (d ∷ es) e = go (is_new t d) (new_to_snoc (edge_slots false (d ∷ []) ++ t) es e) (new_to_snoc t es e)
  where
    t' : List Slot
    t' = edge_slots false (d ∷ []) ++ t

    same : is_new (edge_slots false (new_to t' es) ++ t') e ≡ is_new (edge_slots false (d ∷ new_to t' es) ++ t) e
    same = is_new_as (edge_slots false (new_to t' es) ++ t') (edge_slots false (d ∷ new_to t' es) ++ t) e (λ p. omega (
      arith,
      tally_append p (edge_slots false (new_to t' es)) t',
      tally_append p (edge_slots false (d ∷ [])) t,
      tally_append p (edge_slots false (d ∷ new_to t' es)) t,
      tally_append p (edge_slots false (d ∷ [])) (edge_slots false (new_to t' es)),
      ap (tally p) (slots_append false (d ∷ []) (new_to t' es)),
    ))

    go : (x : Bool) → new_to t' (es ++ e ∷ []) ≡ new_to t' es ++ one_if (is_new (edge_slots false (new_to t' es) ++ t') e) e
        → new_to t (es ++ e ∷ []) ≡ new_to t es ++ one_if (is_new (edge_slots false (new_to t es) ++ t) e) e
        → let all : List Edge = elim x [ true ↦ d ∷ new_to t' (es ++ e ∷ []) | false ↦ new_to t (es ++ e ∷ []) ] in
        let some : List Edge = elim x [ true ↦ d ∷ new_to t' es | false ↦ new_to t es ] in all ≡ some ++ one_if (is_new (edge_slots false some ++ t) e) e
    go true a b = ap (λ (l : List Edge). d ∷ l) (a ∙ ap (λ (x : Bool). new_to t' es ++ one_if x e) same)
    go false a b = b

-- further edges only add
new_to_more : (t : List Slot) (es fs : List Edge) → length (new_to t es) ≤ length (new_to t (es ++ fs))
unfolding new_to
new_to_more t [] fs = omega arith
new_to_more t (d ∷ es) fs = go (is_new t d) (new_to_more (edge_slots false (d ∷ []) ++ t) es fs) (new_to_more t es fs)
  where
    go : (x : Bool) → length (new_to (edge_slots false (d ∷ []) ++ t) es) ≤ length (new_to (edge_slots false (d ∷ []) ++ t) (es ++ fs)) → length (new_to t es) ≤ length (new_to t (es ++ fs))
        → let some : List Edge = elim x [ true ↦ d ∷ new_to (edge_slots false (d ∷ []) ++ t) es | false ↦ new_to t es ] in
        let all : List Edge = elim x [ true ↦ d ∷ new_to (edge_slots false (d ∷ []) ++ t) (es ++ fs) | false ↦ new_to t (es ++ fs) ] in length some ≤ length all
    go true a b = omega (arith, a)
    go false a b = b

module _ (coords : List Float) (outline : List Edge) where
  -- the edges added of some
  abbrev in_of : List Edge → List Edge
  in_of ds = new_to (table outline []) ds

  -- a table holds the outline and those
  abbrev Holds : List Edge → List Slot → Type 0
  Holds ds t = t ≡ sorted (stands_before coords) (table outline (in_of ds))

  -- the number of slots, with what is added of some edges
  abbrev size : List Edge → ℕ
  size ds = 2 * length outline + 2 * length (in_of ds)

  table_size : (inside : List Edge) → length (sorted (stands_before coords) (table outline inside)) ≡ 2 * length outline + 2 * length inside
  unfolding table
  table_size inside = omega (
    arith,
    length_sorted (stands_before coords) (edge_slots reverse_mark outline ++ edge_slots false inside),
    length-append (edge_slots reverse_mark outline) (edge_slots false inside),
    slots_length reverse_mark outline,
    slots_length false inside,
  )

  holds_size : (ds : List Edge) (t : List Slot) → Holds ds t → length t ≡ size ds
  holds_size ds t h = omega (arith, ap length h, table_size (in_of ds))

  -- one edge
  module _ (e : Edge) (ds : List Edge) (t : List Slot) (h : Holds ds t) where
    same_new : is_new t e ≡ is_new (edge_slots false (in_of ds) ++ table outline []) e
    unfolding table edge_slots
    same_new = ap (λ (u : List Slot). is_new u e) h ∙ is_new_as (sorted (stands_before coords) (table outline (in_of ds))) (edge_slots false (in_of ds) ++ table outline []) e (λ p. omega (
      arith,
      sorted_tally (stands_before coords) p (table outline (in_of ds)),
      tally_append p (edge_slots reverse_mark outline) (edge_slots false (in_of ds)),
      tally_append p (edge_slots false (in_of ds)) (table outline []),
      ap (tally p) (append-nil (edge_slots reverse_mark outline)),
    ))

    more_table : sort_onto (stands_before coords) t (edge_slots false (e ∷ [])) ≡ sorted (stands_before coords) (table outline (in_of ds ++ e ∷ []))
    unfolding table
    more_table =
        ap (λ (u : List Slot). sort_onto (stands_before coords) u (edge_slots false (e ∷ []))) h
        ∙ sym (sort_onto_append (stands_before coords) [] (edge_slots reverse_mark outline ++ edge_slots false (in_of ds)) (edge_slots false (e ∷ [])))
        ∙ ap (sorted (stands_before coords)) (append_assoc (edge_slots reverse_mark outline) (edge_slots false (in_of ds)) (edge_slots false (e ∷ []))
        ∙ ap (λ (u : List Slot). edge_slots reverse_mark outline ++ u) (sym (slots_append false (in_of ds) (e ∷ []))))

    all_new : is_new t e ≡ true → in_of (ds ++ e ∷ []) ≡ in_of ds ++ e ∷ []
    all_new q = new_to_snoc (table outline []) ds e ∙ ap (λ (x : Bool). in_of ds ++ one_if x e) (sym same_new ∙ q)

    all_old : is_new t e ≡ false → in_of (ds ++ e ∷ []) ≡ in_of ds
    all_old q = new_to_snoc (table outline []) ds e ∙ ap (λ (x : Bool). in_of ds ++ one_if x e) (sym same_new ∙ q) ∙ append-nil (in_of ds)

    -- the edge is held, or there are over 1,024 slots with it
    abbrev Step : Table → Type 0
    Step u = (is_err u.answer ≡ false → Holds (ds ++ e ∷ []) u.slots) × (is_err u.answer ≡ true → 1024 < size (ds ++ e ∷ []))

    step_of : (x : Bool) → is_new t e ≡ x → Step (cond x (with_darts coords false (e ∷ []) t) (table_in (Ok tt) t))
    step_of true q =
        let all = all_new q in
        let told = darts_tell coords false (e ∷ []) t in (
          λ fits. (told.0 fits).1 ∙ more_table ∙ ap (λ (es : List Edge). sorted (stands_before coords) (table outline es)) (sym all),
          λ full. omega (arith, told.1 full, holds_size ds t h, ap length all, length-append (in_of ds) (e ∷ [])),
        )
    step_of false q = (
      λ fits. h ∙ ap (λ (es : List Edge). sorted (stands_before coords) (table outline es)) (sym (all_old q)),
      λ full. cc,
    )

    one_step : Step (with_edge coords e t)
    unfolding with_edge
    one_step = step_of (is_new t e) refl

  -- edges one after the other: they are held, or there are over 1,024 slots in all
  abbrev Grown : List Edge → Table → Type 0
  Grown ds u = (is_err u.answer ≡ false → Holds ds u.slots) × (is_err u.answer ≡ true → 1024 < size ds)

  grown : (es ds : List Edge) (t : List Slot) → Holds ds t → Grown (ds ++ es) (with_edges coords es t)
  unfolding with_edges
  grown [] ds t h = (
    λ fits. h ∙ ap (λ (es : List Edge). sorted (stands_before coords) (table outline (in_of es))) (sym (append-nil ds)),
    λ full. cc,
  )
  grown (e ∷ es) ds t h = go (is_err (with_edge coords e t).answer) refl (λ held. grown es (ds ++ e ∷ []) (with_edge coords e t).slots held)
    where
      u : Table
      u = with_edge coords e t

      st : Step e ds t h u
      st = one_step e ds t h

      assoc : (ds ++ e ∷ []) ++ es ≡ ds ++ e ∷ es
      assoc = append_assoc ds (e ∷ []) es

      go : (x : Bool) → is_err u.answer ≡ x → (Holds (ds ++ e ∷ []) u.slots → Grown ((ds ++ e ∷ []) ++ es) (with_edges coords es u.slots))
          → Grown (ds ++ e ∷ es) (cond x u (with_edges coords es u.slots))
      go false q ih = subst (λ (l : List Edge). Grown l (with_edges coords es u.slots)) assoc (ih (st.0 q))
      go true q ih = (
        λ fits. cc,
        λ full. omega (arith, st.1 q, new_to_more (table outline []) (ds ++ e ∷ []) es, ap (λ (x : List Edge). length (in_of x)) assoc),
      )

-- a turn of the loop over near edges
module _ (coords : List Float) (outline : List Edge) (t : List Slot) (r : Result (Unit {0}) Full) (t' : List Slot) (near : List Laid) (l : Laid)
    (got : table_in r t' ≡ with_edges coords (near_darts l) t) (held : t ≡ cell_table coords outline near) where
  now_of : Grown coords outline (joined near_darts near ++ near_darts l) (table_in r t')
  unfolding cell_table_with inner_with
  now_of = subst (Grown coords outline (joined near_darts near ++ near_darts l)) (sym got) (grown coords outline (near_darts l) (joined near_darts near) t held)

  pub near_turn : is_err r ≡ false → t' ≡ cell_table coords outline (near ++ l ∷ [])
  unfolding cell_table_with inner_with
  near_turn h = now_of.0 h ∙ ap (λ (ds : List Edge). sorted (stands_before coords) (table outline (new_to (table outline []) ds))) (sym (joined_snoc near_darts near l))

  pub near_full : (later : List Laid) → is_err r ≡ true → 1024 < length (cell_table coords outline (near ++ l ∷ later))
  unfolding inner_with joined
  near_full later h =
      let ds = joined near_darts near ++ near_darts l in
      omega (
        arith,
        now_of.1 h,
        new_to_more (table outline []) ds (joined near_darts later),
        cell_length coords outline (near ++ l ∷ later),
        ap (λ (x : List Edge). length (new_to (table outline []) x))
            (append_assoc (joined near_darts near) (near_darts l) (joined near_darts later) ∙ sym (joined_append near_darts near (l ∷ later))),
      )

-- ---- what a cut cell comes to

module _ (coords : List Float) (outline : List Edge) (near : List Laid) where
  abbrev by_walk : ℕ → Outcome
  by_walk n = cond (too_many n) (refusal 10) (of_walk (walk outline (cell_table coords outline near)))

  pub cut_repeats : repeats outline ≡ true → cut_outcome outline (cell_table coords outline near) ≡ refusal 19
  cut_repeats e = without_test coords outline near ∙ ap (λ (t : Bool). cond t (refusal 19) (by_walk (length (cell_table coords outline near)))) e

  module _ (once : repeats outline ≡ false) where
    past : cut_outcome outline (cell_table coords outline near) ≡ by_walk (length (cell_table coords outline near))
    past = without_test coords outline near ∙ ap (λ (t : Bool). cond t (refusal 19) (by_walk (length (cell_table coords outline near)))) once

    pub cut_over : 1024 < length (cell_table coords outline near) → cut_outcome outline (cell_table coords outline near) ≡ refusal 10
    cut_over h = past ∙ ap (λ (t : Bool). cond t (refusal 10) (of_walk (walk outline (cell_table coords outline near)))) (lt-ltb 1024 (length (cell_table coords outline near)) h)

    pub cut_fits : length (cell_table coords outline near) ≤ 1024 → cut_outcome outline (cell_table coords outline near) ≡ of_walk (walk outline (cell_table coords outline near))
    cut_fits h = past ∙ ap (λ (t : Bool). cond t (refusal 10) (of_walk (walk outline (cell_table coords outline near)))) (le-ltb 1024 (length (cell_table coords outline near)) h)
