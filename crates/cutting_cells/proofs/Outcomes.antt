-- One cell: what it comes to is read from its lists, and what it yields is placed. Assumes nothing.
use mathlib.Core.Path.{◌≡◌, refl, sym, ap, ◌∙◌, subst}
use mathlib.Core.Bool.{Bool, true}
use mathlib.Core.List.{List, [], ◌∷◌}
use Prim.Native.Nat.{ℕ, ◌+◌, ◌*◌, ◌≤◌}
use native.Mathlib.Omega.{arith}
use lib.Dec.{ltb}
use lib.ListN.{length, take, length-take}
use lib.Ieee.{Float}
use Rattle.std.specs.Prelude.{Result, Ok, Err, IfOk, OnOk}
use Rattle.lists.specs.Search.{bit}
use Rattle.lists.specs.Gather.{passing}
use Rattle.lists.proofs.Gather.{length_passing, tally_le}
use Rattle.grid.specs.Grid.{Grid}
use Rattle.cutting.specs.Edition.{ours}
use Rattle.cutting.specs.Outcome as Outcome
use Rattle.cutting.specs.Outcome.{Outcome, refusal, pieces}
use Rattle.entry.specs.Mesh.{Rising}
use Rattle.refusals.specs.declared.Refusal.{Refusal}
use Rattle.refusals.specs.Numbers.{number}
use Rattle.refusals.proofs.Numbers.{some_not_zero}
use Rattle.rules.specs.Refusals.{first_refusal}
use Rattle.rules.proofs.Accepts.{Sound, sound_cut, sound_copy}
use Rattle.regions.specs.declared.Run.{Run}
use Rattle.regions.specs.declared.MeshRuns.{MeshRuns}
use Rattle.regions.specs.declared.Regions.{Regions}
use Rattle.regions.specs.Runs.{run_in}
use Rattle.dart_walk.specs.declared.Counts.{Counts}
use Rattle.cells.specs.Cells.{outline_in, table_in, edges_in, cut, cut_as}
use Rattle.cells.proofs.Scene.{read_pieces, read_refusal}
use Rattle.pieces.specs.declared.Keep.{Keep}
use Rattle.pieces.specs.declared.Listed.{Listed}
use Rattle.pieces.specs.declared.piece_lists.PieceLists.{PieceLists}
use Rattle.strips.specs.declared.things.Things.{Things}
use Rattle.pieces.specs.Pieces.{runs_of, cells_in, is_kept, Yield, tagged, left, refused_by, placed_behind, placed_on}
use Rattle.pieces.proofs.Runs.{length_runs, read_back, stops_rise, kept_within}
use Rattle.pieces.proofs.Placing.{Steady, steady_tagged, placed_not, counted_most}
use Rattle.cutting_cells.specs.declared.Treatment.{Treatment}
use Rattle.cutting_cells.specs.Yields.{outcome_by, near_of, is_cut, yield_by, yield_of, Few}
use Rattle.cutting_cells.specs.Treated.{near_to, outcome_of, Readable, yield_for}

-- ---- a refusal isn't 0

pub outcome_sound : (grid : Grid) (coords : List Float) (work : List ℕ) (g : Regions) (edges : Run) (js cell : List ℕ) → Sound (outcome_by grid coords work g edges js cell)
unfolding outcome_by
outcome_sound grid coords work g edges [] cell = sound_copy true cell
outcome_sound grid coords work g edges (j ∷ js) cell = sound_cut ours (outline_in grid coords work g cell) (table_in grid coords work g (edges_in work edges) (j ∷ js) cell)

module _ (grid : Grid) (coords : List Float) (work : List ℕ) (g : Regions) (o : MeshRuns) (ends : List ℕ) (k : Keep) where
  steady_by : (t : ℕ) (x : Outcome) → Sound x → Steady (yield_by coords work g o ends k t x)
  unfolding first_refusal
  steady_by t (refusal r) s = record { placing = λ q n z. absurd (s z); tags = refl }
  steady_by t (pieces ps) s = steady_tagged t (passing (is_kept k coords (runs_of (run_in work o.entries) ends)) ps)

  pub yield_steady : (i : ℕ) (cell : List ℕ) → Steady (yield_of grid coords work g o ends k i cell)
  unfolding yield_of
  yield_steady i cell =
      steady_by (2 * i + bit (is_cut coords work g o ends cell)) (outcome_by grid coords work g o.edges (near_of coords work g o ends cell) cell)
      (outcome_sound grid coords work g o.edges (near_of coords work g o ends cell) cell)

-- ---- the pieces that an answer counts

module _ (o : Outcome) (sound : Sound o) (runs₀ stops₀ runs stops : List ℕ) where
  -- they are those of the outcome
  record Read (k : Counts) : Type 0 where
    all : List (List ℕ)
    outcome : o ≡ pieces all
    corners : k.entries ≤ length runs
    ends : k.pieces ≤ length stops
    nodes_are : take k.entries runs ≡ Outcome.flat all
    ends_are : take k.pieces stops ≡ Outcome.stops 0 all

  read : (k : Counts) → cut (Ok k) runs stops ≡ cut_as o runs₀ stops₀ → Read k
  read k is = go o refl sound
    where
      go : (u : Outcome) → o ≡ u → Sound u → Read k
      go (pieces ps) e s =
          let r = read_pieces ps runs₀ stops₀ (cut (Ok k) runs stops) (is ∙ ap (λ (u : Outcome). cut_as u runs₀ stops₀) e) in
          record { all = ps; outcome = e; corners = r.nodes_fit_lem; ends = r.stops_fit_lem; nodes_are = r.nodes; ends_are = r.stops }
      go (refusal c) e s =
          absurd (s (sym (read_refusal c runs₀ stops₀ (cut (Ok k) runs stops) (is ∙ ap (λ (u : Outcome). cut_as u runs₀ stops₀) e))))

  pub readable : (r : Result Counts Refusal) → cut r runs stops ≡ cut_as o runs₀ stops₀ → IfOk r (λ k. Readable k runs stops)
  readable (Err e) is = tt
  readable (Ok k) is =
      let r = read k is in
      record {
        corners = r.corners;
        ends = r.ends;
        rise = subst (λ (l : List ℕ). Rising l (length (take k.entries runs))) (sym r.ends_are)
            (subst (λ (l : List ℕ). Rising (Outcome.stops 0 r.all) (length l)) (sym r.nodes_are) (stops_rise r.all));
      }

-- ---- `overlay_cell`

module _ (t : Treatment) (cell near : List ℕ) (at : near ≡ near_to t cell) (runs₀ stops₀ runs stops : List ℕ) where
  abbrev made : Outcome
  made = outcome_of t near cell

  abbrev yield : ℕ → Outcome → Yield
  yield i z = yield_by t.scene.coords.now t.scene.work.now t.scene.regions t.other t.ends.now t.keep (2 * i + bit (ltb 0 (length near))) z

  yield_is : (i : ℕ) → yield i made ≡ yield_for t i cell
  unfolding yield_of
  yield_is i =
      ap (λ (js : List ℕ). yield_by t.scene.coords.now t.scene.work.now t.scene.regions t.other t.ends.now t.keep (2 * i + bit (ltb 0 (length js))) (outcome_of t js cell)) at

  -- refused by the cell
  pub cell_refused : (why : Refusal) → cut (Err why) runs stops ≡ cut_as (outcome_of t near cell) runs₀ stops₀
      → (i : ℕ) (p : Listed) (on oe ot : List ℕ) → refused_by (number why) on oe ot ≡ placed_behind p (yield_for t i cell) on oe ot
  unfolding first_refusal
  cell_refused why is i p on oe ot = go made refl ∙ ap (λ (y : Yield). placed_behind p y on oe ot) (yield_is i)
    where
      go : (u : Outcome) → made ≡ u → refused_by (number why) on oe ot ≡ placed_behind p (yield i made) on oe ot
      go (refusal c) e =
          let code : number why ≡ c = read_refusal c runs₀ stops₀ (cut (Err why) runs stops) (is ∙ ap (λ (u : Outcome). cut_as u runs₀ stops₀) e) in
          ap (λ (a : ℕ). refused_by a on oe ot) code ∙ sym (placed_not p (yield i (refusal c)) on oe ot (λ z. some_not_zero why (code ∙ z)))
          ∙ ap (λ (u : Outcome). placed_behind p (yield i u) on oe ot) (sym e)
      go (pieces ps) e =
          absurd (some_not_zero why (read_pieces ps runs₀ stops₀ (cut (Err why) runs stops) (is ∙ ap (λ (u : Outcome). cut_as u runs₀ stops₀) e)).code)

  -- its pieces, as they are lent with the other mesh's cells
  pub pieces_yielded : (k : Counts) → cut (Ok k) runs stops ≡ cut_as (outcome_of t near cell) runs₀ stops₀
      → (o : Things) → (o.coords.now ≡ t.scene.coords.now) × (o.nodes.now ≡ run_in t.scene.work.now t.other.entries) × (o.ends.now ≡ t.ends.now)
      → (n : ℕ) → n ≡ length near → (i tag : ℕ) → tag ≡ 2 * i + bit (ltb 0 n)
      → tagged tag (passing (is_kept t.keep o.coords.now (cells_in o)) (runs_of (take k.entries runs) (take k.pieces stops))) ≡ yield_for t i cell
  pieces_yielded k is o lent n count i tag tag_is =
      let r = read made (outcome_sound t.scene.grid t.scene.coords.now t.scene.work.now t.scene.regions t.other.edges near cell) runs₀ stops₀ runs stops k is in
      (λ s. tagged (tag_is s) (passing (is_kept t.keep (lent.0 s) (runs_of (lent.1 s) (lent.2 s))) (runs_of (r.nodes_are s) (r.ends_are s))))
      ∙ (λ s. tagged (2 * i + bit (ltb 0 (count s)))
      (passing (is_kept t.keep t.scene.coords.now (runs_of (run_in t.scene.work.now t.other.entries) t.ends.now)) (read_back r.all s)))
      ∙ ap (yield i) (sym r.outcome) ∙ yield_is i

-- of pieces that stand in lists of 1,024 few are counted
pub pieces_few : (k : Counts) (runs stops : List ℕ) → Readable k runs stops → length runs ≡ 1024 → length stops ≡ 1024
    → (test : List ℕ → Bool) (tag : ℕ) (r : Result (Unit {0}) Refusal) (l l' : PieceLists)
    → left r l' ≡ placed_on (tagged tag (passing test (runs_of (take k.entries runs) (take k.pieces stops)))) l → OnOk r (Few 1 l.placed l'.placed)
pieces_few k runs stops u ln ls test tag (Err e) l l' got = tt
pieces_few k runs stops u ln ls test tag (Ok _) l l' got =
    let corners : List ℕ = take k.entries runs in
    let stops' : List ℕ = take k.pieces stops in
    let most = counted_most l.placed (tagged tag (passing test (runs_of corners stops'))) l.corners.now l.ends.now l.tags.now (Ok l'.placed) l'.corners.now l'.ends.now l'.tags.now got in
    record {
      pieces = omega (
        arith,
        most.0,
        length_passing test (runs_of corners stops'),
        tally_le test (runs_of corners stops'),
        length_runs corners stops',
        length-take k.pieces stops,
        ls,
        u.ends,
      );
      corners = omega (arith, most.1, kept_within test corners stops' u.rise, length-take k.entries runs, ln, u.corners);
    }
