-- What a cell yields, by the lists, is what the rules say of it in a scene that stands in them. Assumes nothing.
use mathlib.Core.Path.{◌≡◌, refl, sym, ap, ◌∙◌}
use mathlib.Core.Bool.{Bool, true, false, cond}
use mathlib.Core.List.{List, [], ◌∷◌, ◌++◌, map}
use Prim.Native.Nat.{ℕ, zero, suc, ◌+◌, ◌-◌, ◌*◌, ◌/◌, ◌<◌}
use native.Mathlib.Omega.{arith}
use lib.Dec.{eqb, ltb}
use lib.ListN.{length, get_or, replicate, length-map}
use lib.Ieee.{Float}
use borrow.Author.Tests.{lt-ltb, le-ltb, eq-eqb, ne_eqb}
use Rattle.lists.specs.Search.{bit}
use Rattle.lists.specs.Gather.{passing}
use Rattle.cutting.specs.Edges.{Edge}
use Rattle.cutting.specs.Outcome.{Outcome, refusal, pieces}
use Rattle.grid.specs.Grid.{Grid}
use Rattle.rules.specs.Mesh.{Side, the_subject, the_cutter, other, side_number}
use Rattle.rules.specs.SpatialIndex.{box_of, candidates}
use Rattle.rules.specs.Meetings.{Scene, net_of}
use Rattle.rules.specs.Nodes.{sorted_nodes}
use Rattle.rules.specs.Cell.{cell_of, near_of, outcome_of, treated_by, treated, kind_of}
use Rattle.rules.specs.Operations.{Piece, outcome_pieces, piece_at, piece_with, kept}
use Rattle.rules.specs.Refusals.{Event, of_cell}
use Rattle.regions.specs.declared.Run.{Run}
use Rattle.regions.specs.declared.MeshRuns.{MeshRuns}
use Rattle.regions.specs.declared.Regions.{Regions}
use Rattle.regions.specs.Runs.{run_in}
use Rattle.edge_nodes.specs.Lent.{nodes_on}
use Rattle.cells.specs.Cells.{edges_in}
use Rattle.cells.proofs.Scene.{cut_is, copied_is}
use Rattle.pieces.specs.Pieces.{runs_of, keep_of, is_kept, events, Yield}
use Rattle.pieces.proofs.Listing.{kept_nodes, kept_alike, events_nodes}
use Rattle.cutting_cells.specs.Yields as Yields
use Rattle.cutting_cells.specs.Yields.{outcome_by, is_cut, yield_by, yield_of}
use Rattle.overlay.specs.Prepared.{SceneIn}
use Rattle.passes.specs.Tags.{kind_by, family_by, mesh_by, cell_by}

-- what happens at cell i
abbrev pub cell_events : ℕ → Scene → Side → ℕ → List Event
cell_events op sc w i = of_cell (outcome_of sc w i) (kept sc w op i)

abbrev pub nodes_of : List Piece → List (List ℕ)
nodes_of ps = map (λ p. p.nodes) ps

map_replicate : (f : ℕ → ℕ) (n v : ℕ) → map f (replicate n v) ≡ replicate n (f v)
map_replicate f zero v = refl
map_replicate f (suc n) v = ap (λ (l : List ℕ). f v ∷ l) (map_replicate f n v)

-- ---- by the edges near it

module _ (sc : Scene) (w : Side) (i : ℕ) where
  outcome_as : (work : List ℕ) (g : Regions) → ((e : Edge) → nodes_on sc.grid sc.coords work g e ≡ sorted_nodes sc e) → (edges : Run) → edges_in work edges ≡ (net_of sc (other w)).edges
      → (js : List ℕ) → js ≡ candidates sc.coords (net_of sc (other w)).edges (box_of sc.coords (cell_of sc w i))
      → outcome_by sc.grid sc.coords work g edges js (cell_of sc w i) ≡ outcome_of sc w i
  unfolding outcome_by
  outcome_as work g same edges are [] e = sym (copied_is sc w i (sym e))
  outcome_as work g same edges are (j ∷ js) e = cut_is sc w i work g same (edges_in work edges) are j js (sym e)

  kind_as : (js : List ℕ) → js ≡ candidates sc.coords (net_of sc (other w)).edges (box_of sc.coords (cell_of sc w i))
      → cond (ltb 0 (length js)) 11 (get_or (net_of sc w).kinds i 0) ≡ kind_of sc w i
  unfolding treated near_of
  kind_as [] e = ap (λ (l : List ℕ). (treated_by sc w i l).kind) e
  kind_as (j ∷ js) e =
      ap (λ (b : Bool). cond b 11 (get_or (net_of sc w).kinds i 0)) (lt-ltb 0 (length (j ∷ js)) (omega arith)) ∙ ap (λ (l : List ℕ). (treated_by sc w i l).kind) e

-- ---- cell i

module _ (op : ℕ) (sc : Scene) (w : Side) (grid : Grid) (coords : List Float) (work : List ℕ) (g : Regions) (o : MeshRuns) (ends : List ℕ) (scene : SceneIn sc w grid coords work g o ends)
    (i number : ℕ) (cell : List ℕ) (this : cell_of sc w i ≡ cell) where
  abbrev near : List ℕ
  near = Yields.near_of coords work g o ends cell

  abbrev y : Yield
  y = yield_of grid coords work g o ends (keep_of op w) number cell

  -- the tag of its pieces
  abbrev pub tag_in : ℕ
  tag_in = 2 * number + bit (is_cut coords work g o ends cell)

  near_is : near ≡ candidates sc.coords (net_of sc (other w)).edges (box_of sc.coords (cell_of sc w i))
  near_is = sym (λ s. candidates (scene.points s) (scene.near_edges s) (box_of (scene.points s) (this s)))

  outcome_is : outcome_by grid coords work g o.edges near cell ≡ outcome_of sc w i
  outcome_is =
      sym (λ s. outcome_by (scene.grid_is s) (scene.points s) work g o.edges near (this s))
      ∙ outcome_as sc w i work g scene.nodes_are o.edges (sym scene.near_edges) near near_is

  abbrev these : List Piece
  these = kept sc w op i

  -- those of its pieces that pass
  kept_are : passing (is_kept (keep_of op w) coords (runs_of (run_in work o.entries) ends)) (outcome_pieces (outcome_of sc w i)) ≡ nodes_of these
  kept_are =
      sym (λ s. passing (is_kept (keep_of op w) (scene.points s) (scene.near_cells s)) (outcome_pieces (outcome_of sc w i))) ∙ sym (kept_nodes sc op w i)

  by_outcome : y ≡ yield_by coords work g o ends (keep_of op w) tag_in (outcome_of sc w i)
  unfolding yield_of
  by_outcome = ap (yield_by coords work g o ends (keep_of op w) tag_in) outcome_is

  pieces_by : (x : Outcome) → (yield_by coords work g o ends (keep_of op w) tag_in x).pieces ≡ passing
      (is_kept (keep_of op w) coords (runs_of (run_in work o.entries) ends)) (outcome_pieces x)
  unfolding passing
  pieces_by (refusal r) = refl
  pieces_by (pieces ps) = refl

  pub pieces_are : y.pieces ≡ nodes_of these
  pieces_are = ap (λ (u : Yield). u.pieces) by_outcome ∙ pieces_by (outcome_of sc w i) ∙ kept_are

  events_by : (x : Outcome) → x ≡ outcome_of sc w i → (yield_by coords work g o ends (keep_of op w) tag_in x).events ≡ of_cell x these
  events_by (refusal r) e = refl
  events_by (pieces ps) e =
      ap events (ap (λ (u : Outcome). passing (is_kept (keep_of op w) coords (runs_of (run_in work o.entries) ends)) (outcome_pieces u)) e ∙ kept_are) ∙ sym (events_nodes these)

  pub events_are : y.events ≡ cell_events op sc w i
  events_are = ap (λ (u : Yield). u.events) by_outcome ∙ events_by (outcome_of sc w i) refl

  tags_by : (x : Outcome) → (yield_by coords work g o ends (keep_of op w) tag_in x).tags ≡ replicate (length (yield_by coords work g o ends (keep_of op w) tag_in x).pieces) tag_in
  tags_by (refusal r) = refl
  tags_by (pieces ps) = refl

  pub tags_are : y.tags ≡ replicate (length these) tag_in
  tags_are =
      ap (λ (u : Yield). u.tags) by_outcome ∙ tags_by (outcome_of sc w i)
      ∙ ap (λ (n : ℕ). replicate n tag_in) (ap (λ (u : Yield). length u.pieces) (sym by_outcome) ∙ ap length pieces_are ∙ length-map these (λ p. p.nodes))

  -- ---- what the tag says

  number_back : tag_in / 2 ≡ number
  number_back = go (is_cut coords work g o ends cell)
    where
      go : (b : Bool) → (2 * number + bit b) / 2 ≡ number
      go true = omega arith
      go false = omega arith

  -- a number that its tag says of a piece
  module _ (by : ℕ → ℕ) (part : Piece → ℕ) where
    said : (v : ℕ) → by tag_in ≡ v → ((j : ℕ) → part (piece_at sc w i j) ≡ v) → map by (replicate (length these) tag_in) ≡ map part these
    said v e h = map_replicate by (length these) tag_in ∙ ap (replicate (length these)) e ∙ sym (kept_alike sc op w i part v h)

  module _ (sk ck : List ℕ) (kind : get_or (sk ++ ck) number 0 ≡ get_or (net_of sc w).kinds i 0) where
    kind_is : kind_by sk ck tag_in ≡ kind_of sc w i
    kind_is =
        go (is_cut coords work g o ends cell)
        ∙ ap (λ (v : ℕ). cond (ltb 0 (length near)) 11 v) kind ∙ kind_as sc w i near near_is
      where
        go : (b : Bool) → kind_by sk ck (2 * number + bit b) ≡ cond b 11 (get_or (sk ++ ck) number 0)
        go true =
            ap (λ (u : Bool). cond u (get_or (sk ++ ck) ((2 * number + 1) / 2) 0) 11) (ne_eqb (2 * ((2 * number + 1) / 2)) (2 * number + 1) (λ z. absurd (omega (arith, z))))
        go false =
            let half : (2 * number + 0) / 2 ≡ number = omega arith in
            ap (λ (u : Bool). cond u (get_or (sk ++ ck) ((2 * number + 0) / 2) 0) 11) (eq-eqb (2 * ((2 * number + 0) / 2)) (2 * number + 0) (omega arith))
            ∙ ap (λ (k : ℕ). get_or (sk ++ ck) k 0) half

    pub kinds_are : map (kind_by sk ck) (replicate (length these) tag_in) ≡ map (λ p. p.kind) these
    unfolding piece_with
    kinds_are = said (kind_by sk ck) (λ p. p.kind) (kind_of sc w i) kind_is (λ j. refl)

  module _ (sf cf : List ℕ) (family : get_or (sf ++ cf) number 0 ≡ get_or (net_of sc w).families i 0) where
    pub families_are : map (family_by sf cf) (replicate (length these) tag_in) ≡ map (λ p. p.family) these
    unfolding piece_with
    families_are =
        said (family_by sf cf) (λ p. p.family) (get_or (net_of sc w).families i 0) (ap (λ (k : ℕ). get_or (sf ++ cf) k 0) number_back ∙ family) (λ j. refl)

  -- the parent, where the subject has n cells
  module _ (n : ℕ) (counted : number ≡ cond (eqb (side_number w) 0) i (n + i)) (below : eqb (side_number w) 0 ≡ true → i < n) where
    at_number : (f : Bool → ℕ → ℕ) (v : ℕ) → f (ltb number n) number ≡ v → f (ltb (tag_in / 2) n) (tag_in / 2) ≡ v
    at_number f v e = ap (λ (k : ℕ). f (ltb k n) k) number_back ∙ e

    mesh_is : mesh_by n tag_in ≡ side_number w
    mesh_is = at_number (λ b k. cond b 0 1) (side_number w) (go w counted below)
      where
        go : (v : Side) → number ≡ cond (eqb (side_number v) 0) i (n + i) → (eqb (side_number v) 0 ≡ true → i < n) → cond (ltb number n) 0 1 ≡ side_number v
        go the_subject e h = ap (λ (b : Bool). cond b 0 1) (lt-ltb number n (omega (arith, e, h refl)))
        go the_cutter e h = ap (λ (b : Bool). cond b 0 1) (le-ltb number n (omega (arith, e)))

    cell_is : cell_by n tag_in ≡ i
    cell_is = at_number (λ b k. cond b k (k - n)) i (go w counted below)
      where
        go : (v : Side) → number ≡ cond (eqb (side_number v) 0) i (n + i) → (eqb (side_number v) 0 ≡ true → i < n) → cond (ltb number n) number (number - n) ≡ i
        go the_subject e h = ap (λ (b : Bool). cond b number (number - n)) (lt-ltb number n (omega (arith, e, h refl))) ∙ e
        go the_cutter e h = ap (λ (b : Bool). cond b number (number - n)) (le-ltb number n (omega (arith, e))) ∙ omega (arith, e)

    pub parent_meshes_are : map (mesh_by n) (replicate (length these) tag_in) ≡ map (λ p. side_number p.mesh) these
    unfolding piece_with
    parent_meshes_are = said (mesh_by n) (λ p. side_number p.mesh) (side_number w) mesh_is (λ j. refl)

    pub parent_cells_are : map (cell_by n) (replicate (length these) tag_in) ≡ map (λ p. p.cell) these
    unfolding piece_with
    parent_cells_are = said (cell_by n) (λ p. p.cell) i cell_is (λ j. refl)
