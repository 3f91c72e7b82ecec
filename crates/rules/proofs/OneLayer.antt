-- W7: with one layer throughout an overlay is the one without layers. Assumes nothing.
use mathlib.Core.Path.{◌≡◌, refl, sym, ap, ap₂, ◌∙◌}
use mathlib.Core.Bool.{Bool, true, false, cond}
use mathlib.Core.List.{List, [], ◌∷◌, ◌++◌}
use Prim.Native.Nat.{ℕ, ◌+◌, ◌/◌, ◌≤◌, ◌<◌, ◌%◌}
use native.Mathlib.Omega.{arith}
use lib.Dec.{leb, eqb}
use lib.ListN.{length, replicate, length-replicate}
use Rattle.lists.specs.Gather.{joined}
use Rattle.cutting.specs.Edition.{Edition}
use Rattle.cutting.specs.Cell.{doubled}
use Rattle.settings.specs.declared.Settings.{Settings}
use Rattle.entry.specs.Mesh.{Mesh, node_count}
use Rattle.entry.specs.Refused.{entry_of, call_ok, grid_ok, ends_ok, shape_ok, coords_ok, kinds_ok, nodes_ok, cells_ok, work_ok}
use Rattle.rules.specs.Mesh.{Side, the_subject, the_cutter, cell_at, cells_of}
use Rattle.rules.specs.Meetings.{Scene, net_of, added_by, scene_of, scene_on, meetings}
use Rattle.rules.specs.Layers.{InLayer}
use Rattle.rules.specs.Nodes.{crowded}
use Rattle.rules.specs.Cell.{outcome_with, table_with}
use Rattle.rules.specs.Operations.{cuts, scene_for, kept_with, over_cells, listing_with, doubled_cells}
use Rattle.rules.specs.Refusals.{Event, point, stop, of_meeting, of_cell, course_with, first_refusal}
use Rattle.rules.specs.Overlay.{Lists, Result, result_of, cleared, point_room, piece_room, written, named_points, answered_with, state_with, seen_by, overlay_with, lists_seen, but_layers}
use Rattle.rules.proofs.Endings.{told, overlay_told}
use Rattle.std.specs.Prelude.{◌&&◌, not}
use Rattle.lists.specs.Regions.{zeros}
use Rattle.rules.specs.Neighbours.{Net, renumbered, line_edges, compute_descending, subject_net, cutter_net}
use Rattle.rules.proofs.Weld.{unlayered, weld_unlayered}
use Rattle.rules.proofs.Editions.{answer_as, course_as, cell_as}

-- a result but for its layers, by its refusals and by its answer
told_but : (l : Lists) (entry state : ℕ) (r : Result) → but_layers (told l entry state r) ≡ told (but_layers (result_of 0 0 0 0 0 l)).lists entry state (but_layers r)
unfolding cleared
told_but l entry state r = go (eqb entry 0) (eqb state 0)
  where
    bare : Lists
    bare = (but_layers (result_of 0 0 0 0 0 l)).lists

    by : Bool → Bool → Result → Lists → Result
    by x y a k = cond x (cond y a (result_of state 0 0 0 0 (cleared k))) (result_of entry 0 0 0 0 k)

    go : (x y : Bool) → but_layers (by x y r l) ≡ by x y (but_layers r) bare
    go true true = refl
    go true false = refl
    go false y = refl

module _ (turning once grids : Bool) (settings : Settings) (s c : Mesh) (l : Lists) (k : ℕ) (es : InLayer k s) (ec : InLayer k c) (room : length l.coords / 2 ≤ length l.layers) where
  abbrev with_them : Edition
  with_them = record { turning = turning; once = once; grids = grids; layers = true }

  abbrev without : Edition
  without = record { turning = turning; once = once; grids = grids; layers = false }

  abbrev seen : Settings
  seen = seen_by with_them settings

  -- what the edition without layers sees
  abbrev all_unlayered : Lists
  all_unlayered = lists_seen without l

  -- the scene is the same
  nets : cutter_net (eqb seen.op 5) s c ≡ cutter_net (eqb seen.op 5) (unlayered s) (unlayered c)
  unfolding cutter_net cells_of cell_at
  nets = ap (λ (ns : List ℕ). net_with (eqb seen.op 5) c ns) (weld_unlayered k s c es ec)
    where
      net_with : Bool → Mesh → List ℕ → Net
      net_with lines c ns =
          let cells = renumbered ns (cells_of c) in
          record { cells = cells; kinds = c.kinds; families = c.families; edges = cond lines (line_edges cells) (compute_descending cells) }

  scenes : scene_for seen s c ≡ scene_for seen (unlayered s) (unlayered c)
  unfolding scene_of subject_net cells_of cell_at
  scenes =
      let coords = s.coords ++ c.coords in
      ap (λ (n : Net). scene_on seen.grid coords (subject_net s) n (meetings seen.grid coords (subject_net s) n)) nets

  -- so are the refusals
  long : (m : Mesh) → InLayer k m → length m.layers ≡ length (zeros (node_count m))
  long m e = ap length e ∙ length-replicate (node_count m) k ∙ sym (length-replicate (node_count m) 0)

  shape : (m : Mesh) → InLayer k m → shape_ok m ≡ shape_ok (unlayered m)
  unfolding shape_ok
  shape m e =
      ap (λ (n : ℕ).
      eqb (length m.coords % 2) 0 && ends_ok m.ends (length m.nodes) && eqb (length m.kinds) (length m.ends) && eqb (length m.families) (length m.ends)
      && eqb n (node_count m) && leb (node_count m) 16384 && leb (length m.ends) 16384 && leb (length m.nodes) 65536) (long m e)

  entries_same : entry_of seen s c (length l.work) ≡ entry_of seen (unlayered s) (unlayered c) (length l.work)
  unfolding entry_of work_ok
  entries_same = ap₂ by (shape s es) (shape c ec)
    where
      by : Bool → Bool → ℕ
      by a b =
          cond (not (call_ok seen.op seen.m)) 1
          (cond (not (grid_ok seen.grid)) 13
          (cond (not (a && b)) 2
          (cond (not (coords_ok s.coords && coords_ok c.coords)) 3
          (cond (not (kinds_ok false s.kinds s.ends && kinds_ok (eqb seen.op 5) c.kinds c.ends)) 4
          (cond (not (nodes_ok s.nodes (node_count s) && nodes_ok c.nodes (node_count c))) 5
          (cond (not (cells_ok s.nodes s.ends && cells_ok c.nodes c.ends)) 6
          (cond (not (work_ok seen.m s c (length l.work))) 7 0)))))))

  points_room : point_room l ≡ point_room all_unlayered
  points_room = omega (arith, room, length-replicate {A = ℕ} (length l.coords / 2) 0)

  outcomes : (w : Side) → cuts seen.op w ≡ true → (i : ℕ) → i < length (net_of (scene_for seen (unlayered s) (unlayered c)) w).cells
      → outcome_with with_them (scene_for seen (unlayered s) (unlayered c)) w i ≡ outcome_with without (scene_for seen (unlayered s) (unlayered c)) w i
  outcomes w e i b = cell_as turning once grids grids true false (scene_for seen (unlayered s) (unlayered c)) w i

  courses_same : course_with with_them seen s c ≡ course_with without seen (unlayered s) (unlayered c)
  unfolding course_with
  courses_same = ap by scenes ∙ course_as with_them without seen (unlayered s) (unlayered c) l outcomes
    where
      by : Scene → List Event
      by sc =
          let cut : Side → ℕ → List Event = λ w i. of_cell (outcome_with with_them sc w i) (kept_with with_them sc w seen.op i) in
          replicate (length (s.coords ++ c.coords) / 2) point ++ joined of_meeting sc.met ++ cond (crowded sc) (stop 9 ∷ []) []
          ++ (over_cells seen.op sc the_subject (cut the_subject) ++ over_cells seen.op sc the_cutter (cut the_cutter))

  states_same : state_with with_them seen s c l ≡ state_with without seen (unlayered s) (unlayered c) all_unlayered
  unfolding state_with
  states_same = ap₂ (λ (p : ℕ) (es : List Event). first_refusal seen.m p (piece_room l) (length l.nodes) es) points_room courses_same

  -- and the answer but for its layers
  answers_same : but_layers (answered_with with_them seen s c l) ≡ but_layers (answered_with without seen (unlayered s) (unlayered c) all_unlayered)
  unfolding answered_with written listing_with doubled_cells
  answers_same = ap by scenes ∙ ap but_layers (answer_as with_them without seen (unlayered s) (unlayered c) all_unlayered outcomes refl)
    where
      by : Scene → Result
      by sc =
          let twice : Side → ℕ → List ℕ = λ w i. cond (doubled (table_with sc w i false)) (i ∷ []) [] in
          let ps =
          over_cells seen.op sc the_subject (kept_with with_them sc the_subject seen.op) ++ over_cells seen.op sc the_cutter (kept_with with_them sc the_cutter seen.op) in
          let many =
          length (over_cells seen.op sc the_subject (twice the_subject) ++ over_cells seen.op sc the_cutter (twice the_cutter)) in
          but_layers
          (result_of 0 (length ps) (length (named_points (node_count s + node_count c) (length sc.coords / 2) ps)) (cond once 0 many) (length (added_by sc.met) / 2)
          (written sc.coords [] ps l))

  -- "With one layer throughout", in both meshes and whatever its number, the overlay is the one without layers: the same code, counts and lists but for that
  -- of the layers.
  pub result_one_layer : but_layers (overlay_with with_them settings s c l) ≡ but_layers (overlay_with without settings s c l)
  result_one_layer =
      let bare = (but_layers (result_of 0 0 0 0 0 l)).lists in
      ap but_layers (overlay_told with_them settings s c l)
      ∙ told_but l (entry_of seen s c (length l.work)) (state_with with_them seen s c l) (answered_with with_them seen s c l)
      ∙ (λ i. told bare (entries_same i) (states_same i) (answers_same i))
      ∙ sym (told_but all_unlayered (entry_of seen (unlayered s) (unlayered c) (length l.work)) (state_with without seen (unlayered s) (unlayered c) all_unlayered)
      (answered_with without seen (unlayered s) (unlayered c) all_unlayered))
      ∙ ap but_layers (sym (overlay_told without settings s c l))
