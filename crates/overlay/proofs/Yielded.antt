-- What the cells of both meshes yield is what happens in the scene, and its pieces are those of the listing, with what their tags say of them.
-- Assumes nothing.
use mathlib.Core.Path.{◌≡◌, refl, sym, ap, ap₂, ◌∙◌}
use mathlib.Core.Bool.{Bool, true, false, cond, false≢true}
use mathlib.Core.List.{List, [], ◌++◌, map, map-append}
use Prim.Native.Nat.{ℕ, zero, suc, ◌+◌, ◌<◌}
use native.Mathlib.Nat.{zero-add}
use native.Mathlib.Omega.{arith}
use lib.Dec.{eqb}
use lib.ListN.{length, get_or, replicate, get_or-append}
use lib.Seq.{get_or-append-add}
use lib.Ieee.{Float}
use Rattle.lists.specs.Gather.{gathered}
use Rattle.lists.proofs.Gather.{gathered_ext}
use Rattle.grid.specs.Grid.{Grid}
use Rattle.rules.specs.Mesh.{Side, the_subject, the_cutter, other, side_number}
use Rattle.rules.specs.Meetings.{Scene, net_of}
use Rattle.rules.specs.Operations.{Piece, cuts, kept, over_cells}
use Rattle.regions.specs.declared.Regions.{Regions}
use Rattle.regions.specs.Runs.{run_in}
use Rattle.pieces.specs.Pieces.{runs_of, Yield, nothing, both, all_of}
use Rattle.pieces.proofs.Runs.{length_runs}
use Rattle.cutting_cells.specs.Yields.{runs_on, numbered_from, cells_yield, meshes_yield}
use Rattle.cutting_cells.proofs.Meshes.{cell_yield, all_cells}
use Rattle.passes.specs.Tags.{kind_by, family_by, mesh_by, cell_by}
use Rattle.overlay.specs.Prepared.{SceneIn, MeshesIn}
use Rattle.overlay.proofs.Scene.{cell_events, nodes_of, pieces_are, events_are, tags_are, kinds_are, families_are, parent_meshes_are, parent_cells_are, tag_in}

-- f for each cell of both meshes, if the operation cuts them
abbrev pub over_both : {A : Type 0} → ℕ → Scene → (Side → ℕ → List A) → List A
over_both op sc f = over_cells op sc the_subject (f the_subject) ++ over_cells op sc the_cutter (f the_cutter)

module _ {A B : Type 0} (h : A → B) where
  map_gathered : (n : ℕ) (f : ℕ → List A) → map h (gathered n f) ≡ gathered n (λ i. map h (f i))
  unfolding gathered
  map_gathered zero f = refl
  map_gathered (suc n) f = map-append h (gathered n f) (f n) ∙ ap (λ (l : List B). l ++ map h (f n)) (map_gathered n f)

  map_over : (op : ℕ) (sc : Scene) (w : Side) (f : ℕ → List A) → map h (over_cells op sc w f) ≡ over_cells op sc w (λ i. map h (f i))
  map_over op sc w f = go (cuts op w)
    where
      go : (b : Bool) → map h (cond b (gathered (length (net_of sc w).cells) f) []) ≡ cond b (gathered (length (net_of sc w).cells) (λ i. map h (f i))) []
      go true = map_gathered (length (net_of sc w).cells) f
      go false = refl

  map_both : (op : ℕ) (sc : Scene) (f : Side → ℕ → List A) → map h (over_both op sc f) ≡ over_both op sc (λ w i. map h (f w i))
  map_both op sc f =
      map-append h (over_cells op sc the_subject (f the_subject)) (over_cells op sc the_cutter (f the_cutter))
      ∙ ap₂ (λ (a b : List B). a ++ b) (map_over op sc the_subject (f the_subject)) (map_over op sc the_cutter (f the_cutter))

-- a list of each mesh
abbrev pub of_side : List ℕ → List ℕ → Side → List ℕ
of_side xs ys the_subject = xs
of_side xs ys the_cutter = ys

module _ (op : ℕ) (sc : Scene) (grid : Grid) (coords : List Float) (work : List ℕ) (g : Regions) (se ce : List ℕ) (ins : MeshesIn sc grid coords work g se ce) where
  -- the ends of the cells of the mesh w
  abbrev stops_of : Side → List ℕ
  stops_of the_subject = se
  stops_of the_cutter = ce

  cut_by : (w : Side) → SceneIn sc w grid coords work g (runs_on g (other w)) (stops_of (other w))
  cut_by the_subject = ins.subject_cut
  cut_by the_cutter = ins.cutter_cut

  cells_are : (w : Side) → (net_of sc w).cells ≡ runs_of (run_in work (runs_on g w).entries) (stops_of w)
  cells_are the_subject = ins.subject_cells
  cells_are the_cutter = ins.cutter_cells

  cells_long : (w : Side) → length (stops_of w) ≡ length (net_of sc w).cells
  cells_long w = sym (ap length (cells_are w) ∙ length_runs (run_in work (runs_on g w).entries) (stops_of w))

  abbrev yield : Side → ℕ → Yield
  yield w = cell_yield op grid coords work g w (stops_of (other w)) (stops_of w)

  abbrev number : Side → ℕ → ℕ
  number w i = numbered_from w (length (stops_of (other w))) + i

  abbrev cell : Side → ℕ → List ℕ
  cell w i = get_or (runs_of (run_in work (runs_on g w).entries) (stops_of w)) i []

  this : (w : Side) (i : ℕ) → get_or (net_of sc w).cells i [] ≡ cell w i
  this w i = ap (λ (l : List (List ℕ)). get_or l i []) (cells_are w)

  -- a part of what is yielded, cell by cell
  module _ {A : Type 0} (part : Yield → List A) (joins : (y z : Yield) → part (both y z) ≡ part y ++ part z) (starts : part nothing ≡ []) (f : Side → ℕ → List A)
      (is : (w : Side) (i : ℕ) → i < length (stops_of w) → part (yield w i) ≡ f w i) where
    part_all : (w : Side) (n : ℕ) → part (all_of n (yield w)) ≡ gathered n (λ i. part (yield w i))
    unfolding all_of gathered
    part_all w zero = starts
    part_all w (suc n) = joins (all_of n (yield w)) (yield w n) ∙ ap (λ (l : List A). l ++ part (yield w n)) (part_all w n)

    part_mesh : (w : Side) → part (cells_yield op grid coords work g w (stops_of (other w)) (stops_of w)) ≡ gathered (length (net_of sc w).cells) (f w)
    part_mesh w =
        ap part (sym (all_cells op grid coords work g w (stops_of (other w)) (stops_of w))) ∙ part_all w (length (stops_of w))
        ∙ gathered_ext (length (stops_of w)) (λ i. part (yield w i)) (f w) (is w) ∙ ap (λ (n : ℕ). gathered n (f w)) (cells_long w)

    part_meshes : part (meshes_yield op grid coords work g se ce) ≡ over_both op sc f
    unfolding meshes_yield
    part_meshes =
        joins (cells_yield op grid coords work g the_subject ce se) (cond (cuts op the_cutter) (cells_yield op grid coords work g the_cutter se ce) nothing)
        ∙ ap₂ (λ (a b : List A). a ++ b) (part_mesh the_subject) (go (cuts op the_cutter))
      where
        go : (b : Bool) → part (cond b (cells_yield op grid coords work g the_cutter se ce) nothing) ≡ cond b (gathered (length (net_of sc the_cutter).cells) (f the_cutter)) []
        go true = part_mesh the_cutter
        go false = starts

  pub meshes_events : (meshes_yield op grid coords work g se ce).events ≡ over_both op sc (cell_events op sc)
  meshes_events =
      part_meshes (λ y. y.events) (λ y z. refl) refl (cell_events op sc)
      (λ w i h. events_are op sc w grid coords work g (runs_on g (other w)) (stops_of (other w)) (cut_by w) i (number w i) (cell w i) (this w i))

  pub meshes_pieces : (meshes_yield op grid coords work g se ce).pieces ≡ nodes_of (over_both op sc (λ w. kept sc w op))
  meshes_pieces =
      part_meshes (λ y. y.pieces) (λ y z. refl) refl (λ w i. nodes_of (kept sc w op i))
      (λ w i h. pieces_are op sc w grid coords work g (runs_on g (other w)) (stops_of (other w)) (cut_by w) i (number w i) (cell w i) (this w i))
      ∙ sym (map_both (λ (p : Piece). p.nodes) op sc (λ w. kept sc w op))

  -- by the tags
  tags_at : (w : Side) (i : ℕ) → (yield w i).tags
      ≡ replicate (length (kept sc w op i)) (tag_in op sc w grid coords work g (runs_on g (other w)) (stops_of (other w)) (cut_by w) i (number w i) (cell w i) (this w i))
  tags_at w i = tags_are op sc w grid coords work g (runs_on g (other w)) (stops_of (other w)) (cut_by w) i (number w i) (cell w i) (this w i)

  -- the cells of both meshes are numbered one after the other
  counted : (xs ys : List ℕ) → length xs ≡ length se → (w : Side) (i : ℕ) → i < length (stops_of w) → get_or (xs ++ ys) (number w i) 0 ≡ get_or (of_side xs ys w) i 0
  counted xs ys l the_subject i h = ap (λ (k : ℕ). get_or (xs ++ ys) k 0) (zero-add i) ∙ get_or-append xs ys 0 i (omega (arith, h, l))
  counted xs ys l the_cutter i h = ap (λ (n : ℕ). get_or (xs ++ ys) (n + i) 0) (sym l) ∙ get_or-append-add xs ys i 0

  -- what the tags of a cell's pieces say of them
  abbrev SaidAt : (ℕ → ℕ) → (Piece → ℕ) → Side → ℕ → Type 0
  SaidAt by part w i =
      map by (replicate (length (kept sc w op i)) (tag_in op sc w grid coords work g (runs_on g (other w)) (stops_of (other w)) (cut_by w) i (number w i) (cell w i) (this w i)))
      ≡ map part (kept sc w op i)

  by_tags : (by : ℕ → ℕ) (part : Piece → ℕ) → ((w : Side) (i : ℕ) → i < length (stops_of w) → SaidAt by part w i)
      → map by (meshes_yield op grid coords work g se ce).tags ≡ map part (over_both op sc (λ w. kept sc w op))
  by_tags by part is =
      part_meshes (λ y. map by y.tags) (λ y z. map-append by y.tags z.tags) refl (λ w i. map part (kept sc w op i))
      (λ w i h. ap (map by) (tags_at w i) ∙ is w i h)
      ∙ sym (map_both part op sc (λ w. kept sc w op))

  module _ (sk ck : List ℕ) (long : length sk ≡ length se) (kinds : (w : Side) → (net_of sc w).kinds ≡ of_side sk ck w) where
    pub meshes_kinds : map (kind_by sk ck) (meshes_yield op grid coords work g se ce).tags ≡ map (λ p. p.kind) (over_both op sc (λ w. kept sc w op))
    meshes_kinds =
        by_tags (kind_by sk ck) (λ p. p.kind)
        (λ w i h. kinds_are op sc w grid coords work g (runs_on g (other w)) (stops_of (other w)) (cut_by w) i (number w i) (cell w i) (this w i) sk ck
        (counted sk ck long w i h ∙ ap (λ (l : List ℕ). get_or l i 0) (sym (kinds w))))

  module _ (sf cf : List ℕ) (long : length sf ≡ length se) (families : (w : Side) → (net_of sc w).families ≡ of_side sf cf w) where
    pub meshes_families : map (family_by sf cf) (meshes_yield op grid coords work g se ce).tags ≡ map (λ p. p.family) (over_both op sc (λ w. kept sc w op))
    meshes_families =
        by_tags (family_by sf cf) (λ p. p.family)
        (λ w i h. families_are op sc w grid coords work g (runs_on g (other w)) (stops_of (other w)) (cut_by w) i (number w i) (cell w i) (this w i) sf cf
        (counted sf cf long w i h ∙ ap (λ (l : List ℕ). get_or l i 0) (sym (families w))))

  -- a cell's number among those of both meshes
  number_is : (w : Side) (i : ℕ) → number w i ≡ cond (eqb (side_number w) 0) i (length se + i)
  number_is the_subject i = zero-add i
  number_is the_cutter i = refl

  first_below : (w : Side) (i : ℕ) → i < length (stops_of w) → eqb (side_number w) 0 ≡ true → i < length se
  first_below the_subject i h e = h
  first_below the_cutter i h e = absurd (false≢true e)

  pub meshes_parent_meshes : map (mesh_by (length se)) (meshes_yield op grid coords work g se ce).tags ≡ map (λ p. side_number p.mesh) (over_both op sc (λ w. kept sc w op))
  meshes_parent_meshes =
      by_tags (mesh_by (length se)) (λ p. side_number p.mesh)
      (λ w i h. parent_meshes_are op sc w grid coords work g (runs_on g (other w)) (stops_of (other w)) (cut_by w) i (number w i) (cell w i) (this w i) (length se)
      (number_is w i) (first_below w i h))

  pub meshes_parent_cells : map (cell_by (length se)) (meshes_yield op grid coords work g se ce).tags ≡ map (λ p. p.cell) (over_both op sc (λ w. kept sc w op))
  meshes_parent_cells =
      by_tags (cell_by (length se)) (λ p. p.cell)
      (λ w i h. parent_cells_are op sc w grid coords work g (runs_on g (other w)) (stops_of (other w)) (cut_by w) i (number w i) (cell w i) (this w i) (length se)
      (number_is w i) (first_below w i h))
