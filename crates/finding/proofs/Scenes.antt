-- What is found doesn't look at kinds and families; `course` begins with it. Assumes nothing.
use mathlib.Core.Path.{◌≡◌, refl, sym, ap, ap₂, ◌∙◌}
use mathlib.Core.Bool.{Bool, cond}
use mathlib.Core.List.{List, [], ◌∷◌, ◌++◌, map}
use Prim.Native.Nat.{◌+◌, ℕ, ◌/◌}
use lib.Dec.{eqb}
use native.Mathlib.Omega.{arith}
use lib.ListN.{length, get_or, replicate}
use lib.Ieee.{Float}
use Rattle.lists.specs.Gather.{joined}
use Rattle.lists.specs.Regions.{put}
use Rattle.cutting.specs.Edges.{Edge}
use Rattle.cutting.specs.Lent.{flat_edges}
use Rattle.settings.specs.declared.Settings.{Settings}
use Rattle.entry.specs.Mesh.{Mesh, node_count}
use Rattle.std.specs.Prelude.{None}
use Rattle.rules.specs.Mesh.{cell_at, cells_of, Side, the_subject, the_cutter}
use Rattle.rules.specs.Snap.{used_nodes, sorted_indices_for, weld}
use Rattle.rules.specs.Neighbours.{subject_net, cutter_net}
use Rattle.rules.specs.Meetings.{Met, added_by, meetings, Scene, scene_of}
use Rattle.rules.specs.Nodes.{collected, crowded}
use Rattle.rules.specs.Cell.{outcome_of}
use Rattle.rules.specs.Operations.{scene_for, kept, over_cells}
use Rattle.rules.specs.Refusals.{Event, point, stop, of_meeting, of_cell, course, course_with, first_refusal}
use Rattle.regions.specs.declared.Regions.{Regions}
use Rattle.meetings.specs.InNumbers.{in_numbers, net_on}
use Rattle.meetings.proofs.Early.{Early, early_append, early_points, early_met, any_room}
use Rattle.meetings.proofs.Reading.{by_edges}
use Rattle.edge_nodes.specs.Links.{links_of}
use Rattle.finding.specs.declared.numbering.NetPlaces.{NetPlaces}
use Rattle.finding.specs.declared.stages.Found.{Found}
use Rattle.strips.specs.Index.{index_size}
use Rattle.finding.specs.Nets.{between, with_edges, copied_at, subject_at, cutter_at, index_at, met_at, nets_of, edged, netted}
use Rattle.finding.specs.Found.{found_events, chains, regions_by, found_as, links_in, worked}
use Rattle.finding.proofs.Passed.{bare}
use Rattle.finding.proofs.Held.{Holds, Low}
use Rattle.finding.proofs.Events.{early_nine, passes}

-- 9 goes by the edges and the meetings
abbrev crowded_by : List Edge → List Edge → List Met → Bool
crowded_by es fs ms = crowded (record { grid = None; coords = []; subject = net_on es; cutter = net_on fs; met = ms })

crowded_by_lem : (sc : Scene) → crowded sc ≡ crowded_by sc.subject.edges sc.cutter.edges sc.met
unfolding crowded collected
crowded_by_lem sc = refl

module _ (lines : Bool) (s c : Mesh) where
  pub weld_bare : weld (bare s) (bare c) ≡ weld s c
  unfolding weld used_nodes sorted_indices_for
  weld_bare = refl

  pub subjects_bare : (subject_net (bare s)).edges ≡ (subject_net s).edges
  unfolding subject_net cells_of cell_at
  subjects_bare = refl

  pub cutters_bare : (cutter_net lines (bare s) (bare c)).edges ≡ (cutter_net lines s c).edges
  unfolding cutter_net weld used_nodes sorted_indices_for cells_of cell_at
  cutters_bare = refl

  places_bare : nets_of lines (bare s) (bare c) ≡ nets_of lines s c
  unfolding nets_of
  places_bare =
      ap₂ (λ (es fs : List Edge). record {
        subject = with_edges (between (copied_at s c) (subject_at s c)) (subject_at s c) es;
        cutter = with_edges (between (node_count c) (copied_at s c)) (cond lines (node_count c) (cutter_at s c)) fs;
        index = between (index_at s c) (index_at s c + index_size (length fs));
        behind = met_at s c;
      })
      subjects_bare cutters_bare

  netted_bare : (w : List ℕ) → netted lines (bare s) (bare c) w ≡ netted lines s c w
  unfolding netted edged weld used_nodes sorted_indices_for subject_net cutter_net cells_of cell_at
  netted_bare w = refl

abbrev found_with : Regions → ℕ → Found
found_with g next = record { regions = g; next = next }

module _ (o : Settings) (s c : Mesh) where
  pub met_bare : (scene_for o (bare s) (bare c)).met ≡ (scene_for o s c).met
  unfolding scene_of
  met_bare =
      let coords = s.coords ++ c.coords in
      by_edges o.grid coords (subject_net (bare s)) (cutter_net (eqb o.op 5) (bare s) (bare c))
      ∙ ap₂ (λ (es fs : List Edge). meetings o.grid coords (net_on es) (net_on fs)) (subjects_bare (eqb o.op 5) s c) (cutters_bare (eqb o.op 5) s c)
      ∙ sym (by_edges o.grid coords (subject_net s) (cutter_net (eqb o.op 5) s c))

  pub coords_bare : (scene_for o (bare s) (bare c)).coords ≡ (scene_for o s c).coords
  unfolding scene_of
  coords_bare = ap (λ (ms : List Met). s.coords ++ c.coords ++ added_by ms) met_bare

  pub crowded_bare : crowded (scene_for o (bare s) (bare c)) ≡ crowded (scene_for o s c)
  unfolding scene_of
  crowded_bare =
      crowded_by_lem (scene_for o (bare s) (bare c))
      ∙ ap₂ (λ (es fs : List Edge). crowded_by es fs (scene_for o (bare s) (bare c)).met) (subjects_bare (eqb o.op 5) s c) (cutters_bare (eqb o.op 5) s c)
      ∙ ap (crowded_by (subject_net s).edges (cutter_net (eqb o.op 5) s c).edges) met_bare
      ∙ sym (crowded_by_lem (scene_for o s c))

  pub events_bare : found_events o (bare s) (bare c) ≡ found_events o s c
  unfolding found_events
  events_bare =
      ap₂ (λ (ms : List Met) (t : Bool). replicate (length (s.coords ++ c.coords) / 2) point ++ joined of_meeting ms ++ cond t (stop 9 ∷ []) []) met_bare crowded_bare

  pub found_bare : found_as o (bare s) (bare c) ≡ found_as o s c
  unfolding found_as
  found_bare =
      ap (λ (x : NetPlaces). found_with (regions_by x (length (scene_for o (bare s) (bare c)).met) (chains s c)) (length (scene_for o (bare s) (bare c)).coords / 2))
      (places_bare (eqb o.op 5) s c)
      ∙ ap₂ (λ (ms : List Met) (xs : List Float). found_with (regions_by (nets_of (eqb o.op 5) s c) (length ms) (chains s c)) (length xs / 2)) met_bare coords_bare

  links_bare : links_in o (bare s) (bare c) ≡ links_in o s c
  unfolding scene_of
  links_bare =
      ap₂ (λ (es fs : List Edge). links_of (chains s c) es fs (in_numbers (scene_for o (bare s) (bare c)).met)) (subjects_bare (eqb o.op 5) s c) (cutters_bare (eqb o.op 5) s c)
      ∙ ap (λ (ms : List Met). links_of (chains s c) (scene_for o s c).subject.edges (scene_for o s c).cutter.edges (in_numbers ms)) met_bare

  pub worked_bare : (w : List ℕ) → worked o (bare s) (bare c) w ≡ worked o s c w
  unfolding worked
  worked_bare w =
      ap₂ (λ (ms : List Met) (ls : List ℕ). put (netted (eqb o.op 5) (bare s) (bare c) w) (met_at s c) (in_numbers ms ++ ls)) met_bare links_bare
      ∙ ap (λ (v : List ℕ). put v (met_at s c) (in_numbers (scene_for o s c).met ++ links_in o s c)) (netted_bare (eqb o.op 5) s c w)

  pub holds_bare : (g : Regions) (w : List ℕ) → Holds o (bare s) (bare c) g w → Holds o s c g w
  unfolding scene_of
  holds_bare g w h =
      record {
        lies = h.lies;
        subject_edges_lem = h.subject_edges_lem ∙ ap flat_edges (subjects_bare (eqb o.op 5) s c);
        subject_entries_lem = h.subject_entries_lem;
        cutter_edges_lem = h.cutter_edges_lem ∙ ap flat_edges (cutters_bare (eqb o.op 5) s c);
        cutter_entries_lem = h.cutter_entries_lem ∙ ap (λ (ws : List ℕ). map (λ n. get_or ws n 0) c.nodes) (weld_bare (eqb o.op 5) s c);
        met = h.met ∙ ap in_numbers met_bare;
        links = h.links ∙ links_bare;
        few = rw met_bare at h.few;
      }

  pub low_bare : (g : Regions) → Low o (bare s) (bare c) g → Low o s c g
  unfolding scene_of
  low_bare g h =
      record {
        lies = h.lies;
        end = h.end;
        subjects = omega (arith, h.subjects, ap length (subjects_bare (eqb o.op 5) s c));
        cutters = omega (arith, h.cutters, ap length (cutters_bare (eqb o.op 5) s c));
      }

  -- the course begins with what is found, and then come the cells
  pub course_is : let sc : Scene = scene_for o s c in
      let cut : Side → ℕ → List Event = λ w i. of_cell (outcome_of sc w i) (kept sc w o.op i) in
      course o s c ≡ found_events o s c ++ (over_cells o.op sc the_subject (cut the_subject) ++ over_cells o.op sc the_cutter (cut the_cutter))
  unfolding course_with found_events
  course_is = refl

  -- no piece is placed
  found_early : Early (found_events o s c)
  unfolding found_events
  found_early =
      let sc : Scene = scene_for o s c in
      let k : ℕ = length (s.coords ++ c.coords) / 2 in
      early_append (replicate k point ++ joined of_meeting sc.met) (cond (crowded sc) (stop 9 ∷ []) [])
      (early_append (replicate k point) (joined of_meeting sc.met) (early_points k) (early_met sc.met)) (early_nine (crowded sc))

  -- so room for pieces and node entries doesn't matter
  pub found_any_room : (m p q n : ℕ) → first_refusal m p q n (found_events o s c) ≡ first_refusal m p 0 0 (found_events o s c)
  found_any_room m p q n = any_room (found_events o s c) found_early m p q n

  -- and where nothing is refused, the cells' pieces and node entries have their whole room
  pub found_passes : (m p q n : ℕ) → first_refusal m p q n (found_events o s c) ≡ 0
      → (m' : ℕ) × (p' : ℕ) × ((fs : List Event) → first_refusal m p q n (found_events o s c ++ fs) ≡ first_refusal m' p' q n fs)
  found_passes m p q n e = passes (found_events o s c) m p q n found_early e
