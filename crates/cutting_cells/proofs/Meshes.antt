-- `cut_meshes`: the subject's cells, then the cutter's. Assumes nothing.
use mathlib.Core.Path.{◌≡◌, refl, sym, ap, ◌∙◌, subst}
use mathlib.Core.Bool.{Bool, true, false, cond}
use mathlib.Core.List.{List, [], append-nil}
use Prim.Native.Nat.{ℕ, ◌+◌}
use native.Mathlib.Omega.{arith}
use lib.ListN.{length, get_or}
use lib.Ieee.{Float}
use Rattle.std.specs.Prelude.{Result, Ok, Err}
use Rattle.grid.specs.Grid.{Grid}
use Rattle.rules.specs.Mesh.{Side, the_subject, the_cutter, other}
use Rattle.rules.specs.Operations.{cuts}
use Rattle.refusals.specs.declared.Refusal.{Refusal}
use Rattle.refusals.specs.Numbers.{number}
use Rattle.regions.specs.declared.Regions.{Regions}
use Rattle.regions.specs.declared.Indexes.{Indexes}
use Rattle.regions.specs.Runs.{run_in}
use Rattle.pieces.specs.declared.Keep.{Keep}
use Rattle.pieces.specs.declared.Listed.{Listed}
use Rattle.pieces.specs.declared.piece_lists.PieceLists.{PieceLists}
use Rattle.pieces.specs.Pieces.{runs_of, keep_of, Yield, nothing, both, all_of, Placing, left, left_by, placed_on}
use Rattle.pieces.proofs.Placing.{Steady, steady_nothing, steady_both, steady_all, refused_first, placed_behind_lem}
use Rattle.cutting_cells.specs.declared.Treatment.{Treatment}
use Rattle.cutting_cells.specs.Yields.{yield_of, runs_on, numbered_from, cells_yield, meshes_yield, none_yet, Few, MeshesReady}
use Rattle.cutting_cells.specs.Treated.{CellsAsk}
use Rattle.cutting_cells.proofs.Outcomes.{yield_steady}

-- ---- the cells of one mesh

module _ (op : ℕ) (grid : Grid) (coords : List Float) (work : List ℕ) (g : Regions) (w : Side) (ends stops : List ℕ) where
  -- cell i
  abbrev pub cell_yield : ℕ → Yield
  cell_yield i = yield_of grid coords work g (runs_on g (other w)) ends (keep_of op w) (numbered_from w (length ends) + i) (get_or (runs_of (run_in work (runs_on g w).entries) stops) i [])

  pub cell_steady : (i : ℕ) → Steady (cell_yield i)
  cell_steady i = yield_steady grid coords work g (runs_on g (other w)) ends (keep_of op w) (numbered_from w (length ends) + i) (get_or (runs_of (run_in work (runs_on g w).entries) stops) i [])

  pub all_cells : all_of (length stops) cell_yield ≡ cells_yield op grid coords work g w ends stops
  unfolding cells_yield
  all_cells = refl

  pub cells_steady : Steady (cells_yield op grid coords work g w ends stops)
  cells_steady = subst Steady all_cells (steady_all cell_yield (length stops) (λ i h. cell_steady i))

  -- as they are lent
  pub cells_lent : (k : Keep) (own : List ℕ) (from : ℕ) → k ≡ keep_of op w → own ≡ run_in work (runs_on g w).entries → from ≡ numbered_from w (length ends)
      → all_of (length stops) (λ i. yield_of grid coords work g (runs_on g (other w)) ends k (from + i) (get_or (runs_of own stops) i [])) ≡ cells_yield op grid coords work g w ends stops
  unfolding cells_yield
  cells_lent k own from ek ew ef =
      λ s. all_of (length stops) (λ i. yield_of grid coords work g (runs_on g (other w)) ends (ek s) (ef s + i) (get_or (runs_of (ew s) stops) i []))

-- ---- both meshes

pub meshes_steady : (op : ℕ) (grid : Grid) (coords : List Float) (work : List ℕ) (g : Regions) (se ce : List ℕ) → Steady (meshes_yield op grid coords work g se ce)
unfolding meshes_yield
meshes_steady op grid coords work g se ce =
    steady_both (cells_yield op grid coords work g the_subject ce se) (cond (cuts op the_cutter) (cells_yield op grid coords work g the_cutter se ce) nothing)
    (cells_steady op grid coords work g the_subject ce se) (go (cuts op the_cutter))
  where
    go : (b : Bool) → Steady (cond b (cells_yield op grid coords work g the_cutter se ce) nothing)
    go true = cells_steady op grid coords work g the_cutter se ce
    go false = steady_nothing

module _ {op : ℕ} {coords : List Float} {work : List ℕ} {g : Regions} {x : Indexes} {se ce : List ℕ} (l : PieceLists)
    (ready : MeshesReady op coords work g x se ce) (none : l.placed ≡ none_yet) where
  pub asks_first : (t : Treatment) → t.scene.work.now ≡ work → t.scene.regions ≡ g → (own : List ℕ) → own ≡ run_in work g.subject.entries → CellsAsk t own se 0 l
  asks_first t ew eg own eo =
      rw eo (record {
        cells = rw (ew, eg) ready.subject_cells;
        rise = ready.subject.indexed.cells.rising;
        most = omega (arith, ready.most_subject);
        short = omega (arith, ready.most_subject, ap (λ (p : Listed). p.entries) none);
      })

module _ (grid : Grid) {op : ℕ} {coords : List Float} {work : List ℕ} {g : Regions} {x : Indexes} {se ce : List ℕ} (l : PieceLists)
    (ready : MeshesReady op coords work g x se ce) (none : l.placed ≡ none_yet) where
  abbrev first : Yield
  first = cells_yield op grid coords work g the_subject ce se

  abbrev second : Yield
  second = cells_yield op grid coords work g the_cutter se ce

  abbrev rest : Yield
  rest = cond (cuts op the_cutter) second nothing

  -- the subject's cells as they are lent
  module _ {k₁ : Keep} {own₁ : List ℕ} (ek₁ : k₁ ≡ keep_of op the_subject) (eo₁ : own₁ ≡ run_in work g.subject.entries) (l₁ : PieceLists) where
    abbrev pub lent₁ : Yield
    lent₁ = all_of (length se) (λ i. yield_of grid coords work g g.cutter ce k₁ (0 + i) (get_or (runs_of own₁ se) i []))

    lent₁_is : lent₁ ≡ first
    lent₁_is = cells_lent op grid coords work g the_subject ce se k₁ own₁ 0 ek₁ eo₁ refl

    pub first_refused : (e : Refusal) → left_by (Err (number e)) l₁ ≡ placed_on lent₁ l → left_by (Err (number e)) l₁ ≡ placed_on (meshes_yield op grid coords work g se ce) l
    unfolding meshes_yield
    first_refused e one =
        let all : left_by (Err (number e)) l₁ ≡ placed_on first l = one ∙ ap (λ (y : Yield). placed_on y l) lent₁_is in
        all ∙ sym (refused_first l.placed first rest l.corners.now l.ends.now l.tags.now e (ap (λ (q : Placing). q.answer) all))

    module _ (one : left_by (Ok l₁.placed) l₁ ≡ placed_on lent₁ l) where
      all₁ : left_by (Ok l₁.placed) l₁ ≡ placed_on first l
      all₁ = one ∙ ap (λ (y : Yield). placed_on y l) lent₁_is

      pub first_only : cuts op the_cutter ≡ false → left_by (Ok l₁.placed) l₁ ≡ placed_on (meshes_yield op grid coords work g se ce) l
      unfolding meshes_yield
      first_only e = all₁ ∙ ap (λ (y : Yield). placed_on y l) (sym behind_none ∙ ap (λ (b : Bool). both first (cond b second nothing)) (sym e))
        where
          behind_none : both first nothing ≡ first
          behind_none = λ s. record { events = append-nil first.events s; pieces = append-nil first.pieces s; tags = append-nil first.tags s }

      -- and the cutter's
      module _ (e : cuts op the_cutter ≡ true) {own₂ : List ℕ} (eo₂ : own₂ ≡ run_in work g.cutter.entries) where
        pub asks_second : Few (length se) l.placed l₁.placed → (t : Treatment) → t.scene.work.now ≡ work → t.scene.regions ≡ g → CellsAsk t own₂ ce (length se) l₁
        asks_second few t ew eg =
            rw eo₂ (record {
              cells = rw (ew, eg) (ready.cutter_cells e);
              rise = ready.cutter.indexed.cells.rising;
              most = omega (arith, ready.most_subject, ready.most_cutter);
              short = omega (arith, few.corners, ready.most_subject, ready.most_cutter, ap (λ (p : Listed). p.entries) none);
            })

        module _ {k₂ : Keep} (ek₂ : k₂ ≡ keep_of op the_cutter) where
          abbrev pub lent₂ : Yield
          lent₂ = all_of (length ce) (λ i. yield_of grid coords work g g.subject se k₂ (length se + i) (get_or (runs_of own₂ ce) i []))

          pub both_placed : (r : Result (Unit {0}) Refusal) (l₂ : PieceLists) → left r l₂ ≡ placed_on lent₂ l₁
              → left r l₂ ≡ placed_on (meshes_yield op grid coords work g se ce) l
          unfolding meshes_yield
          both_placed r l₂ two =
              two ∙ ap (λ (y : Yield). placed_on y l₁) (cells_lent op grid coords work g the_cutter se ce k₂ own₂ (length se) ek₂ eo₂ refl)
              ∙ sym (placed_behind_lem l.placed first second l.corners.now l.ends.now l.tags.now (cells_steady op grid coords work g the_subject ce se) l.counted l.tagged
              l.within l₁.placed l₁.corners.now l₁.ends.now l₁.tags.now all₁)
              ∙ ap (λ (b : Bool). placed_on (both first (cond b second nothing)) l) (sym e)
