-- `cut_cells`: the cells one after the other. Assumes nothing.
use mathlib.Core.Path.{◌≡◌, sym, ap, ap₂, ◌∙◌, subst}
use mathlib.Core.List.{List, [], ◌∷◌}
use Prim.Native.Nat.{ℕ, zero, suc, ◌+◌, ◌-◌, ◌^◌, ◌≤◌, ◌<◌}
use native.Mathlib.Nat.{le_antisymm}
use native.Mathlib.Numerals.{add-one}
use native.Mathlib.Omega.{arith}
use lib.ListN.{length, get_or, drop}
use Rattle.std.specs.Prelude.{Ok, Err}
use Rattle.cutting.specs.Edges.{ring}
use Rattle.entry.specs.Mesh.{prior, cell_size}
use Rattle.refusals.specs.declared.Refusal.{Refusal}
use Rattle.refusals.specs.Numbers.{number}
use Rattle.cells.specs.Cells.{AllFew}
use Rattle.rules.specs.Mesh.{cell_at}
use Rattle.lists.proofs.Regions.{length_run}
use Rattle.pieces.specs.declared.piece_lists.PieceLists.{PieceLists}
use Rattle.pieces.specs.Pieces.{runs_of, Yield, both, all_of, Placing, left_by, placed_on, SameLists}
use Rattle.pieces.proofs.Runs.{length_runs, run_at}
use Rattle.pieces.proofs.Loops.{same_none, same_both}
use Rattle.pieces.proofs.Placing.{Steady, steady_all, all_of_more, all_of_behind, placed_nothing, refused_first, placed_behind_lem}
use Rattle.cutting_cells.specs.declared.Treatment.{Treatment}
use Rattle.cutting_cells.specs.Yields.{Few}
use Rattle.cutting_cells.specs.Treated.{yield_for, all_yield, CellsAsk}
use Rattle.cutting_cells.proofs.Outcomes.{yield_steady}

-- ---- what is left of a list

module _ {A : Type 0} (d : A) where
  left_some : (xs : List A) (i : ℕ) (x : A) (ys : List A) → drop i xs ≡ x ∷ ys → (i < length xs) × (get_or xs i d ≡ x) × (drop (suc i) xs ≡ ys)
  left_some [] zero x ys e = cc
  left_some [] (suc i) x ys e = cc
  left_some (z ∷ zs) zero x ys e = (omega arith, cc, cc)
  left_some (z ∷ zs) (suc i) x ys e = let r = left_some zs i x ys e in (omega (arith, r.0), r.1, r.2)

left_none : {A : Type 0} (xs : List A) (i : ℕ) → drop i xs ≡ [] → length xs ≤ i
left_none [] i e = omega arith
left_none (z ∷ zs) zero e = cc
left_none (z ∷ zs) (suc i) e = omega (arith, left_none zs i e)

-- what the first i cells yield is placed, and the others are left
pub record Going (t : Treatment) (own stops : List ℕ) (from : ℕ) (l l' : PieceLists) (i : ℕ) (rest : List (List ℕ)) : Type 0 where
  pub within : i ≤ length stops
  pub others : drop i (runs_of own stops) ≡ rest
  pub same : SameLists l' l
  pub few : Few i l.placed l'.placed
  pub placed : left_by (Ok l'.placed) l' ≡ placed_on (all_of i (λ j. yield_for t (from + j) (get_or (runs_of own stops) j []))) l

module _ {t : Treatment} {own stops : List ℕ} {from : ℕ} {l : PieceLists} (asks : CellsAsk t own stops from l) where
  abbrev n : ℕ
  n = length stops

  -- what cell i yields
  abbrev f : ℕ → Yield
  f i = yield_for t (from + i) (get_or (runs_of own stops) i [])

  steady : (i : ℕ) → Steady (f i)
  steady i = yield_steady t.scene.grid t.scene.coords.now t.scene.work.now t.scene.regions t.other t.ends.now t.keep (from + i) (get_or (runs_of own stops) i [])

  pub begin : (i : ℕ) (rest : List (List ℕ)) → i ≡ 0 → rest ≡ runs_of own stops → Going t own stops from l l i rest
  unfolding all_of
  begin i rest z e =
      subst (λ (k : ℕ). Going t own stops from l l k rest) (sym z)
      record {
        within = omega arith;
        others = sym e;
        same = same_none l;
        few = record { pieces = omega arith; corners = omega arith };
        placed = sym (placed_nothing l.placed l.corners.now l.ends.now l.tags.now);
      }

  module _ {l' : PieceLists} {i : ℕ} {rest : List (List ℕ)} (inv : Going t own stops from l l' i rest) where
    so_far : Steady (all_of i f)
    so_far = steady_all f i (λ j h. steady j)

    pub end : rest ≡ [] → left_by (Ok l'.placed) l' ≡ placed_on (all_yield t own stops from) l
    end none =
        let all : i ≡ length stops = le_antisymm inv.within (omega (arith, left_none (runs_of own stops) i (inv.others ∙ none), length_runs own stops)) in
        inv.placed ∙ ap (λ (k : ℕ). placed_on (all_of k f) l) all

    -- the cell x is the next, number k
    module _ {x : List ℕ} {ys : List (List ℕ)} (here : rest ≡ x ∷ ys) {k : ℕ} (at : k ≡ i) where
      next : (i < length (runs_of own stops)) × (get_or (runs_of own stops) i [] ≡ x) × (drop (suc i) (runs_of own stops) ≡ ys)
      next = left_some [] (runs_of own stops) i x ys (inv.others ∙ here)

      more : i < length stops
      more = omega (arith, next.0, length_runs own stops)

      next_few : AllFew t.scene.work.now t.scene.regions (ring x)
      next_few = subst (λ (c : List ℕ). AllFew t.scene.work.now t.scene.regions (ring c)) next.1 (asks.cells i more).0

      next_short : length x ≤ 256
      unfolding cell_at
      next_short =
          let b = asks.rise i more in
          omega (arith, ap length (sym next.1 ∙ run_at own stops i more), length_run own (prior stops i) (cell_size stops i) (omega (arith, b.0, b.1)), (asks.cells i more).1)

      -- there is space for the pieces of one cell more
      next_space : l'.placed.entries + 1024 < 2 ^ 32
      next_space = omega (arith, asks.short, inv.few.corners, more)

      -- it is short, and it can be placed
      pub next_cell : (from + k < 2 ^ 31) × (length x ≤ 256)
      next_cell = (omega (arith, at, more, asks.most), next_short)

      pub next_asks : AllFew t.scene.work.now t.scene.regions (ring x) × (l'.placed.entries + 1024 < 2 ^ 32)
      next_asks = (next_few, next_space)

      step : placed_on (all_of (i + 1) f) l ≡ placed_on (yield_for t (from + k) x) l'
      step =
          ap (λ (y : Yield). placed_on y l) (all_of_more f i)
          ∙ placed_behind_lem l.placed (all_of i f) (f i) l.corners.now l.ends.now l.tags.now so_far l.counted l.tagged l.within
          l'.placed l'.corners.now l'.ends.now l'.tags.now inv.placed
          ∙ ap₂ (λ (j : ℕ) (c : List ℕ). placed_on (yield_for t (from + j) c) l') (sym at) next.1

      pub turn : (l'' : PieceLists) → left_by (Ok l''.placed) l'' ≡ placed_on (yield_for t (from + k) x) l' → Few 1 l'.placed l''.placed → SameLists l'' l'
          → (j : ℕ) → j ≡ i + 1 → Going t own stops from l l'' j ys
      turn l'' got few s j e =
          subst (λ (m : ℕ). Going t own stops from l l'' m ys) (sym e)
          record {
            within = omega (arith, more);
            others = rw add-one next.2;
            same = same_both l l' l'' s inv.same;
            few = record { pieces = omega (arith, few.pieces, inv.few.pieces); corners = omega (arith, few.corners, inv.few.corners) };
            placed = got ∙ sym step;
          }

      pub stopped : (e : Refusal) (l'' : PieceLists) → left_by (Err (number e)) l'' ≡ placed_on (yield_for t (from + k) x) l'
          → left_by (Err (number e)) l'' ≡ placed_on (all_yield t own stops from) l
      stopped e l'' got =
          let m : ℕ = n - (i + 1) in
          let all : m + (i + 1) ≡ n = omega (arith, more) in
          let b = all_of_behind f (i + 1) m in
          let same : all_of n f ≡ both (all_of (i + 1) f) b.0 = ap (λ (m : ℕ). all_of m f) (sym all) ∙ b.1 in
          let one : left_by (Err (number e)) l'' ≡ placed_on (all_of (i + 1) f) l = got ∙ sym step in
          one ∙ sym (refused_first l.placed (all_of (i + 1) f) b.0 l.corners.now l.ends.now l.tags.now e (ap (λ (g : Placing). g.answer) one))
          ∙ ap (λ (y : Yield). placed_on y l) (sym same)
