-- The scene of the definitions stands in the working list where `find` has put it: what the cells ask for. Assumes nothing.
use mathlib.Core.Path.{◌≡◌, refl, sym, ap, ap₂, ◌∙◌, subst}
use mathlib.Core.Bool.{Bool, true, false, cond, ◌||◌}
use mathlib.Core.List.{List, ◌++◌}
use Prim.Native.Nat.{ℕ}
use native.Mathlib.Omega.{arith}
use lib.Dec.{eqb}
use lib.ListN.{get_or}
use lib.Ieee.{Float}
use borrow.Author.Tests.{eqb-true, ne_eqb}
use Rattle.cutting.specs.Edges.{Edge}
use Rattle.cutting.specs.Lent.{pairs}
use Rattle.cutting.proofs.Pairs.{pairs_ends}
use Rattle.settings.specs.declared.Settings.{Settings}
use Rattle.entry.specs.Mesh.{Mesh}
use Rattle.entry.specs.Passed.{Passed}
use Rattle.rules.specs.Mesh.{the_cutter, cell_at, cells_of}
use Rattle.rules.specs.Snap.{weld}
use Rattle.rules.specs.Neighbours.{renumbered, subject_net, cutter_net, line_edges, compute_descending}
use Rattle.rules.specs.Meetings.{Scene, scene_of}
use Rattle.rules.specs.Nodes.{collected, sorted_nodes, crowded}
use Rattle.rules.specs.Operations.{cuts, scene_for}
use Rattle.regions.specs.declared.Regions.{Regions}
use Rattle.regions.specs.declared.Indexes.{Indexes}
use Rattle.regions.specs.Runs.{run_in, mesh_edges}
use Rattle.indexing.specs.Indexes.{MeshIndexed}
use Rattle.edge_nodes.specs.Lent.{collected_in, sorted_in, collected_on, nodes_on}
use Rattle.edge_nodes.specs.Stored.{no_met, Stored}
use Rattle.edge_nodes.proofs.Scene.{numbers_stored, collected_is, sorted_is}
use Rattle.meetings.specs.InNumbers.{in_numbers}
use Rattle.meetings.proofs.Reading.{length_in_numbers, in_numbers_at, meetings_fit}
use Rattle.cells.specs.Cells.{AllFew}
use Rattle.pieces.specs.Pieces.{runs_of}
use Rattle.finding.proofs.Cells.{cells_lists, cells_renumbered}
use Rattle.finding.proofs.Held.{Holds, holds_linked}
use Rattle.cutting_cells.specs.Yields.{MeshesReady}
use Rattle.overlay.specs.Prepared.{MeshesIn}
use Rattle.overlay.proofs.Keys.{cells_ready, not_crowded}

-- ---- lines are never cut

not_lines : (op : ℕ) → cuts op the_cutter ≡ true → eqb op 5 ≡ false
not_lines op h = go (eqb op 1) (eqb op 4) refl refl h
  where
    go : (x y : Bool) → eqb op 1 ≡ x → eqb op 4 ≡ y → x || y ≡ true → eqb op 5 ≡ false
    go true y e f t = ne_eqb op 5 (λ z. absurd (omega (arith, z, eqb-true op 1 e)))
    go false true e f t = ne_eqb op 5 (λ z. absurd (omega (arith, z, eqb-true op 4 f)))
    go false false e f t = absurd (omega (arith, ap (λ (b : Bool). cond {A = ℕ} b 1 0) t))

module _ (o : Settings) (s c : Mesh) (g : Regions) (w : List ℕ) (h : Holds o s c g w) where
  abbrev sc : Scene
  sc = scene_for o s c

  -- ---- edges and meetings

  subject_edges_lem : sc.subject.edges ≡ mesh_edges w g.subject
  subject_edges_lem = sym (pairs_ends sc.subject.edges) ∙ ap pairs (sym h.subject_edges_lem)

  cutter_edges_lem : sc.cutter.edges ≡ mesh_edges w g.cutter
  cutter_edges_lem = sym (pairs_ends sc.cutter.edges) ∙ ap pairs (sym h.cutter_edges_lem)

  stored : Stored sc.met (run_in w g.met)
  unfolding scene_of
  stored =
      subst (λ (l : List ℕ). Stored sc.met l) (sym h.met)
      (numbers_stored sc.met (in_numbers sc.met) (length_in_numbers sc.met) (λ k i b l. in_numbers_at sc.met k i no_met b l)
      (λ k b. (meetings_fit o.grid (s.coords ++ c.coords) (subject_net s) (cutter_net (eqb o.op 5) s c) k no_met b).3))

  collected_are : (e : Edge) → collected_on w g e ≡ collected sc e
  collected_are e =
      ap₂ (λ (a b : List Edge). collected_in a b (run_in w g.met) e) (sym subject_edges_lem) (sym cutter_edges_lem) ∙ collected_is sc (run_in w g.met) stored e

  nodes_are_lem : (e : Edge) → nodes_on sc.grid sc.coords w g e ≡ sorted_nodes sc e
  nodes_are_lem e =
      ap₂ (λ (a b : List Edge). sorted_in sc.grid sc.coords a b (run_in w g.met) e) (sym subject_edges_lem) (sym cutter_edges_lem) ∙ sorted_is sc (run_in w g.met) stored e

  -- ---- cells

  subject_cells_lem : sc.subject.cells ≡ runs_of (run_in w g.subject.entries) s.ends
  unfolding scene_of subject_net cells_of cell_at
  subject_cells_lem = ap (λ (l : List ℕ). runs_of l s.ends) (sym h.subject_entries_lem)

  renumbered_cells : renumbered (weld s c) (cells_of c) ≡ runs_of (run_in w g.cutter.entries) c.ends
  renumbered_cells =
      ap (renumbered (weld s c)) (cells_lists c)
      ∙ sym (cells_renumbered (λ k. get_or (weld s c) k 0) c.nodes c.ends) ∙ ap (λ (l : List ℕ). runs_of l c.ends) (sym h.cutter_entries_lem)

  cutter_cells_lem : sc.cutter.cells ≡ runs_of (run_in w g.cutter.entries) c.ends
  unfolding scene_of cutter_net
  cutter_cells_lem = renumbered_cells

  grid_lem : sc.grid ≡ o.grid
  unfolding scene_of
  grid_lem = refl

  pub meshes_in : (coords : List Float) → sc.coords ≡ coords → MeshesIn sc o.grid coords w g s.ends c.ends
  meshes_in coords e =
      record {
        subject_cut = record { grid_is = grid_lem; points = e; nodes_are = nodes_are_lem; near_edges = cutter_edges_lem; near_cells = cutter_cells_lem };
        cutter_cut = record { grid_is = grid_lem; points = e; nodes_are = nodes_are_lem; near_edges = subject_edges_lem; near_cells = subject_cells_lem };
        subject_cells = subject_cells_lem;
        cutter_cells = cutter_cells_lem;
      }

  -- ---- what is asked of the lists

  subject_own : compute_descending (runs_of (run_in w g.subject.entries) s.ends) ≡ sc.subject.edges
  unfolding scene_of subject_net
  subject_own = ap compute_descending (sym subject_cells_lem)

  cutter_own : cuts o.op the_cutter ≡ true → compute_descending (runs_of (run_in w g.cutter.entries) c.ends) ≡ sc.cutter.edges
  unfolding scene_of cutter_net
  cutter_own t =
      ap compute_descending (sym renumbered_cells)
      ∙ ap (λ (b : Bool). cond b (line_edges (renumbered (weld s c) (cells_of c))) (compute_descending (renumbered (weld s c) (cells_of c)))) (sym (not_lines o.op t))

  few_of : (es fs : List Edge) → es ≡ fs → AllFew w g fs → AllFew w g es
  few_of es fs e few = subst (λ (l : List Edge). AllFew w g l) (sym e) few

  module _ (n : ℕ) (ok : Passed o s c n) (calm : crowded sc ≡ false) where
    few : AllFew w g sc.subject.edges × AllFew w g sc.cutter.edges
    few = not_crowded sc w g (holds_linked o s c g w h) collected_are calm

    pub meshes_ready : (coords : List Float) (x : Indexes) → MeshIndexed coords w g.subject s.ends x.subject → MeshIndexed coords w g.cutter c.ends x.cutter
        → MeshesReady o.op coords w g x s.ends c.ends
    meshes_ready coords x is ic =
        record {
          subject = record {
            edges = h.lies.subject_edges;
            entries = h.lies.subject_entries;
            few = few_of (mesh_edges w g.subject) sc.subject.edges (sym subject_edges_lem) few.0;
            indexed = is;
          };
          cutter = record {
            edges = h.lies.cutter_edges;
            entries = h.lies.cutter_entries;
            few = few_of (mesh_edges w g.cutter) sc.cutter.edges (sym cutter_edges_lem) few.1;
            indexed = ic;
          };
          subject_cells = cells_ready w g (run_in w g.subject.entries) s.ends
              (few_of (compute_descending (runs_of (run_in w g.subject.entries) s.ends)) sc.subject.edges subject_own few.0) ok.subject.cell_most;
          cutter_cells = λ t. cells_ready w g (run_in w g.cutter.entries) c.ends
              (few_of (compute_descending (runs_of (run_in w g.cutter.entries) c.ends)) sc.cutter.edges (cutter_own t) few.1) ok.cutter.cell_most;
          most_subject = ok.subject.most_cells;
          most_cutter = ok.cutter.most_cells;
        }
