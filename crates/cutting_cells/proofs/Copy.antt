-- A copied cell: its edges in a flat list, and the cell as its one piece. Assumes nothing.
use mathlib.Core.Path.{◌≡◌, refl, sym, ap, ap₂, ◌∙◌}
use mathlib.Core.Bool.{Bool, false, cond}
use mathlib.Core.List.{List, [], ◌∷◌, ◌++◌, append-nil, append_assoc}
use Prim.Native.Nat.{ℕ, ◌+◌, ◌*◌, ◌≤◌, ◌<◌}
use native.Mathlib.Nat.{zero-add, le_antisymm}
use native.Mathlib.Omega.{arith}
use lib.ListN.{length, get_or, set, take, replicate, length-set, length-replicate}
use lib.Ieee.{Float}
use Rattle.lists.specs.Gather.{gathered, joined}
use Rattle.lists.specs.Regions.{front, copied}
use Rattle.lists.proofs.Gather.{each_more}
use Rattle.lists.proofs.Regions.{front_store, copied_fits, front_put, put_none}
use Rattle.grid.specs.Grid.{Grid}
use Rattle.cutting.specs.Edges.{ring}
use Rattle.cutting.specs.Cell.{repeats}
use Rattle.cutting.specs.Outcome as Outcome
use Rattle.cutting.specs.Outcome.{Outcome, refusal, pieces, copied_outcome, flat}
use Rattle.cutting.specs.Lent.{flat_edges, pairs}
use Rattle.cutting.proofs.Runs.{take_push}
use Rattle.cutting.proofs.Pairs.{ends_append, pairs_ends}
use Rattle.regions.specs.declared.Regions.{Regions}
use Rattle.regions.specs.declared.Run.{Run}
use Rattle.corners.specs.Corners.{next_corner}
use Rattle.cells.specs.Cells.{Cut, cut_to, cut_as, cut_by, cut_cell}
use Rattle.rules.proofs.Rings.{side, sides, ring_each}
use Rattle.cutting_cells.specs.Yields.{outcome_by}

-- ---- the edges of a cell in a flat list

-- those of the first i corners stand in front
pub record Sided (cell list : List ℕ) (i : ℕ) : Type 0 where
  pub within : i ≤ length cell
  pub long : length list ≡ 512
  pub held : take (2 * i) list ≡ flat_edges (sides cell i)

pub sided_none : (cell : List ℕ) → Sided cell (replicate 512 0) 0
unfolding flat_edges joined gathered
sided_none cell = record { within = omega arith; long = length-replicate {A = ℕ} 512 0; held = refl }

two_more : (xs : List ℕ) (i a b : ℕ) → 2 * i + 1 < length xs → take (2 * (i + 1)) (set (set xs (2 * i) a) (2 * i + 1) b) ≡ take (2 * i) xs ++ a ∷ b ∷ []
two_more xs i a b h =
    let n : 2 * (i + 1) ≡ 2 * i + 1 + 1 = omega arith in
    ap (λ (k : ℕ). take k (set (set xs (2 * i) a) (2 * i + 1) b)) n
    ∙ take_push (set xs (2 * i) a) (2 * i + 1) b (omega (arith, h, length-set xs (2 * i) a))
    ∙ ap (λ (l : List ℕ). l ++ b ∷ []) (take_push xs (2 * i) a (omega (arith, h))) ∙ append_assoc (take (2 * i) xs) (a ∷ []) (b ∷ [])

ends_one : (a b : ℕ) → flat_edges ((a, b) ∷ []) ≡ a ∷ b ∷ []
unfolding flat_edges joined
ends_one a b = refl

pub sided_more : (cell list : List ℕ) (i b : ℕ) → length cell ≤ 256 → Sided cell list i → i < length cell → b ≡ next_corner cell i
    → Sided cell (set (set list (2 * i) (get_or cell i 0)) (2 * i + 1) b) (i + 1)
sided_more cell list i b small v h eb =
    let a : ℕ = get_or cell i 0 in
    let more : sides cell (i + 1) ≡ sides cell i ++ (a, b) ∷ [] = each_more i (side cell) ∙ ap (λ (x : ℕ). sides cell i ++ (a, x) ∷ []) (sym eb) in
    record {
      within = omega (arith, h);
      long = length-set (set list (2 * i) a) (2 * i + 1) b ∙ length-set list (2 * i) a ∙ v.long;
      held = two_more list i a b (omega (arith, h, small, v.long)) ∙ ap₂ (λ (x y : List ℕ). x ++ y) v.held (sym (ends_one a b))
          ∙ sym (ends_append (sides cell i) ((a, b) ∷ [])) ∙ ap flat_edges (sym more);
    }

pub sided_all : (cell list : List ℕ) (i : ℕ) (r : Bool) → Sided cell list i → length cell ≤ i → r ≡ repeats (pairs (take (2 * length cell) list)) → r ≡ repeats (ring cell)
sided_all cell list i r v h e =
    let at : i ≡ length cell = le_antisymm v.within h in
    let all : sides cell i ≡ ring cell = ap (sides cell) at ∙ sym (ring_each cell) in
    e ∙ ap (λ (k : ℕ). repeats (pairs (take (2 * k) list))) (sym at) ∙ ap (λ (l : List ℕ). repeats (pairs l)) v.held ∙ ap repeats (pairs_ends (sides cell i) ∙ all)

-- ---- the cell as its one piece

whole_as : (cell on os on' : List ℕ) → length cell ≤ 256 → 1024 ≤ length on → 1024 ≤ length os → on' ≡ copied on 0 cell
    → cut_to (record { code = 0; pieces = 1; entries = length cell }) on' (set os 0 (length cell)) ≡ cut_as (pieces (cell ∷ [])) on os
unfolding cut_as flat Outcome.stops
whole_as cell on os on' small long many e =
    let flat_is : cell ≡ cell ++ [] = sym (append-nil cell) in
    let en : on' ≡ front on (cell ++ []) = e ∙ copied_fits on 0 cell (omega (arith, small, long)) ∙ front_put on cell ∙ ap (front on) flat_is in
    let es : set os 0 (length cell) ≡ front os ((0 + length cell) ∷ []) =
    front_store os os [] 0 (length cell) 0 refl (omega (arith, many)) (front_none os) ∙ ap (λ (k : ℕ). front os (k ∷ [])) (sym (zero-add (length cell))) in
    λ s. cut_to (record { code = 0; pieces = 1; entries = length (flat_is s) }) (en s) (es s)
  where
    front_none : (w : List ℕ) → w ≡ front w []
    front_none w = sym (sym (front_put w []) ∙ put_none w 0)

module _ (cell on os : List ℕ) (t : Bool) (et : t ≡ repeats (ring cell)) where
  outcome_is : (x : Bool) → t ≡ x → cond x (refusal 19) (pieces (cell ∷ [])) ≡ copied_outcome cell
  outcome_is x e = ap (λ (b : Bool). cond b (refusal 19) (pieces (cell ∷ []))) (sym e ∙ et)

  pub copied_as : (on' : List ℕ) → t ≡ false → length cell ≤ 256 → 1024 ≤ length on → 1024 ≤ length os → on' ≡ copied on 0 cell
      → cut_to (record { code = 0; pieces = 1; entries = length cell }) on' (set os 0 (length cell)) ≡ cut_as (copied_outcome cell) on os
  copied_as on' f small long many e = whole_as cell on os on' small long many e ∙ ap (λ (o : Outcome). cut_as o on os) (outcome_is false f)

-- ---- cut or copied

module _ (grid : Grid) (coords : List Float) (work : List ℕ) (g : Regions) (edges : Run) (cell on os : List ℕ) (x : Cut) where
  pub out_copied : (js : List ℕ) → length js ≡ 0 → x ≡ cut_as (copied_outcome cell) on os → x ≡ cut_as (outcome_by grid coords work g edges js cell) on os
  unfolding outcome_by
  out_copied [] h e = e
  out_copied (j ∷ js) h e = absurd (omega (arith, h))

  pub out_cut : (js : List ℕ) → (length js ≡ 0 → ⊥) → x ≡ cut_cell grid coords work g edges js cell on os → x ≡ cut_as (outcome_by grid coords work g edges js cell) on os
  unfolding outcome_by cut_cell cut_by
  out_cut [] h e = absurd (h refl)
  out_cut (j ∷ js) h e = e
