-- Refusal 9 passed, for every edge that a cell is cut by: the cells' own edges have their keys among those of the net. Assumes nothing.
use mathlib.Core.Path.{◌≡◌, refl, sym, ap, ◌∙◌, subst}
use mathlib.Core.Bool.{Bool, true, false, cond}
use mathlib.Core.List.{List, [], ◌∷◌, ◌++◌}
use Prim.Native.Nat.{ℕ, zero, suc, ◌≤◌, ◌<◌}
use native.Mathlib.Nat.{add-zero}
use native.Mathlib.Omega.{arith}
use native.Mathlib.Decide.{dec_le}
use lib.Dec.{ltb}
use lib.ListN.{length, get_or, length-append, get_or-append}
use lib.Seq.{get_or-append-add}
use borrow.Author.Tests.{ltb-true, ltb-false}
use Rattle.lists.specs.Search.{first, has}
use Rattle.lists.proofs.Search.{first_hit, has_none, or_false}
use Rattle.cutting.specs.Edges.{Edge, edge_at, same_key, ring}
use Rattle.cutting.proofs.Orders.{own_key}
use Rattle.entry.specs.Mesh.{cell_size}
use Rattle.rules.specs.Neighbours.{added, added_all, descending_to, compute_descending}
use Rattle.rules.specs.Meetings.{Scene}
use Rattle.rules.specs.Nodes.{collected, overfull, crowded}
use Rattle.regions.specs.declared.Regions.{Regions}
use Rattle.edge_nodes.specs.Lent.{collected_on}
use Rattle.cells.specs.Cells.{AllFew}
use Rattle.cells.proofs.Scene.{same_keys}
use Rattle.pieces.specs.Pieces.{runs_of}
use Rattle.pieces.proofs.Runs.{length_runs}
use Rattle.finding.specs.Found.{LinkedIn}
use Rattle.cutting_cells.specs.Yields.{CellsReady}

-- one of the edges es has the key of e
abbrev pub Among : List Edge → Edge → Type 0
Among es e = (k : ℕ) × (k < length es) × (same_key (edge_at es k) e ≡ true)

append_keeps : (es fs : List Edge) (f : Edge) → Among es f → Among (es ++ fs) f
append_keeps es fs f a =
    (a.0, omega (arith, a.1, length-append es fs), ap (λ (x : Edge). same_key x f) (get_or-append es fs (0, 0) a.0 a.1) ∙ a.2)

added_keeps : (es : List Edge) (e f : Edge) → Among es f → Among (added es e) f
unfolding added
added_keeps es e f a = go (has (λ i. same_key (edge_at es i) e) (length es))
  where
    go : (t : Bool) → Among (cond t es (es ++ e ∷ [])) f
    go true = a
    go false = append_keeps es (e ∷ []) f a

added_has : (es : List Edge) (e : Edge) → Among (added es e) e
unfolding added
added_has es e = go (has p (length es)) refl
  where
    p : ℕ → Bool
    p i = same_key (edge_at es i) e

    go : (t : Bool) → has p (length es) ≡ t → Among (cond t es (es ++ e ∷ [])) e
    go true h =
        let below : first p 0 (length es) < length es = ltb-true (first p 0 (length es)) (length es) h in
        (first p 0 (length es), below, first_hit p 0 (length es) below)
    go false h =
        let at : edge_at (es ++ e ∷ []) (length es) ≡ e = ap (λ (k : ℕ). edge_at (es ++ e ∷ []) k) (sym (add-zero (length es))) ∙ get_or-append-add es (e ∷ []) 0 (0, 0) in
        (length es, omega (arith, length-append es (e ∷ [])), ap (λ (x : Edge). same_key x e) at ∙ own_key e)

all_keep : (fs es : List Edge) (f : Edge) → Among es f → Among (added_all es fs) f
unfolding added_all
all_keep [] es f a = a
all_keep (g ∷ gs) es f a = all_keep gs (added es g) f (added_keeps es g f a)

all_have : (fs es : List Edge) (i : ℕ) → i < length fs → Among (added_all es fs) (edge_at fs i)
unfolding added_all
all_have [] es i h = absurd (omega (arith, h))
all_have (g ∷ gs) es zero h = all_keep gs (added es g) g (added_has es g)
all_have (g ∷ gs) es (suc i) h = all_have gs (added es g) i (omega (arith, h))

-- the edges of cells have their keys among those of `compute_descending`
pub descending_has : (n : ℕ) (cells : List (List ℕ)) (j i : ℕ) → j < n → i < length (ring (get_or cells j [])) → Among (descending_to n cells) (edge_at (ring (get_or cells j [])) i)
unfolding descending_to
descending_has zero cells j i h l = absurd (omega (arith, h))
descending_has (suc n) cells j i h l = go (dec_le (suc j) n) (λ b. descending_has n cells j i b l)
  where
    go : Dec (suc j ≤ n) → (j < n → Among (descending_to n cells) (edge_at (ring (get_or cells j [])) i))
        → Among (added_all (descending_to n cells) (ring (get_or cells n []))) (edge_at (ring (get_or cells j [])) i)
    go (yes b) ih = all_keep (ring (get_or cells n [])) (descending_to n cells) (edge_at (ring (get_or cells j [])) i) (ih b)
    go (no b) ih =
        let same : n ≡ j = omega (arith, h, b) in
        subst (λ (k : ℕ). Among (added_all (descending_to n cells) (ring (get_or cells k []))) (edge_at (ring (get_or cells j [])) i)) (sym same)
        (all_have (ring (get_or cells j [])) (descending_to n cells) i l)

pub cells_ready : (work : List ℕ) (g : Regions) (own stops : List ℕ) → AllFew work g (compute_descending (runs_of own stops))
    → ((i : ℕ) → i < length stops → cell_size stops i ≤ 256)
    → CellsReady work g own stops
cells_ready work g own stops few small i h =
    let cells : List (List ℕ) = runs_of own stops in
    let below : i < length cells = omega (arith, h, length_runs own stops) in
    (same_keys work g (compute_descending cells) few (ring (get_or cells i [])) (λ k l. descending_has (length cells) cells i k below l), small i h)

-- ---- refusal 9 passed

module _ (sc : Scene) (w : List ℕ) (g : Regions) (linked : LinkedIn w g) (same : (e : Edge) → collected_on w g e ≡ collected sc e) where
  few_under : (es : List Edge) → overfull sc es ≡ false → AllFew w g es
  few_under es none i h =
      let few : length (collected sc (edge_at es i)) ≤ 256 = ltb-false 256 (length (collected sc (edge_at es i)))
      (has_none (λ k. ltb 256 (length (collected sc (edge_at es k)))) (length es) i none h) in
      record { lies = linked.lies; linked = linked.linked; few = omega (arith, few, ap length (same (edge_at es i))) }

  pub not_crowded : crowded sc ≡ false → AllFew w g sc.subject.edges × AllFew w g sc.cutter.edges
  unfolding crowded
  not_crowded h =
      let both = or_false (overfull sc sc.subject.edges) (overfull sc sc.cutter.edges) h in
      (few_under sc.subject.edges both.0, few_under sc.cutter.edges both.1)
