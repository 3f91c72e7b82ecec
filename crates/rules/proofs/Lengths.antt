-- Every list keeps its length: what an accepted overlay answers has its place in the lists lent. Assumes nothing.
use mathlib.Core.Path.{◌≡◌, refl, ap, ◌∙◌, subst}
use mathlib.Core.Bool.{Bool, true, false, cond}
use mathlib.Core.List.{List, [], ◌∷◌, ◌++◌, map}
use Prim.Native.Nat.{ℕ, zero, suc, ◌+◌, ◌-◌, ◌*◌, ◌/◌, ◌≤◌, ◌<◌}
use native.Mathlib.Omega.{arith}
use lib.Dec.{leb, eqb}
use lib.ListN.{length, get_or, replicate, length-append, length-map, length-replicate}
use lib.Ieee.{Float}
use borrow.Author.Tests.{leb-true}
use Rattle.lists.specs.Gather.{gathered, joined}
use Rattle.cutting.specs.Edges.{edge_at, Edge}
use Rattle.cutting.specs.Outcome.{Outcome, refusal, pieces, flat, stops}
use Rattle.cutting.specs.Edition.{ours}
use Rattle.grid.specs.Grid.{Grid}
use Rattle.settings.specs.declared.Settings.{Settings}
use Rattle.entry.specs.Mesh.{Mesh}
use Rattle.rules.specs.Mesh.{Side, the_subject, the_cutter, side_number}
use Rattle.rules.specs.Neighbours.{Net, subject_net, cutter_net}
use Rattle.rules.specs.Meetings.{Met, Scene, net_of, added_by, recorded, meetings, scene_of}
use Rattle.rules.specs.Layers.{layer_added, layers_of}
use Rattle.rules.specs.Nodes.{crowded}
use Rattle.rules.specs.Cell.{outcome_of}
use Rattle.rules.specs.Operations.{cuts, scene_for, Piece, kept, over_cells, listing, listing_with}
use Rattle.rules.specs.Refusals.{Event, point, piece, stop, of_meeting, of_cell, course, course_with, first_refusal}
use Rattle.rules.specs.Overlay.{Lists, Result, cleared, point_room, piece_room, written, answered, answered_with, state_with, overlay_of}
use Rattle.rules.specs.Demand3.{Accepted}
use Rattle.lists.proofs.Regions.{length_front}
use Rattle.entry.specs.Passed.{Passed}
use Rattle.entry.proofs.Passed.{passed}
use Rattle.rules.proofs.Endings.{Ending, input, state_met, success, ending, input_refused, state_refused, succeeds, no_refusal}
use Rattle.rules.proofs.Accepts.{accepted, Calm, calm_left, calm_right, calm_gathered, calm_course}
use Rattle.rules.proofs.EdgePairs.{next_node, meetings_keep}
use Rattle.rules.specs.Refusals as Refusals
use Rattle.segments.specs.declared.Meeting.{Meeting}
use Rattle.segments.specs.declared.Meeting.TheVariants.{Apart, Existing, New, Overlap}

-- ---- what events take up

unfoldable total : (Event → ℕ) → List Event → ℕ
total f [] = 0
total f (e ∷ es) = f e + total f es

abbrev a_point : Event → ℕ
a_point Refusals.meeting = 0
a_point point = 1
a_point (piece k) = 0
a_point (stop r) = 0

abbrev a_piece : Event → ℕ
a_piece Refusals.meeting = 0
a_piece point = 0
a_piece (piece k) = 1
a_piece (stop r) = 0

abbrev entries : Event → ℕ
entries Refusals.meeting = 0
entries point = 0
entries (piece k) = k
entries (stop r) = 0

total_append : (f : Event → ℕ) (es fs : List Event) → total f (es ++ fs) ≡ total f es + total f fs
unfolding total
total_append f [] fs = omega arith
total_append f (e ∷ es) fs = omega (arith, total_append f es fs)

-- without a refusal they have room
room : (es : List Event) (m p q n : ℕ) → Calm es → first_refusal m p q n es ≡ 0 → (total a_point es ≤ p) × (total a_piece es ≤ q) × (total entries es ≤ n)
unfolding first_refusal total
room [] m p q n h e = (omega arith, omega arith, omega arith)
room (Refusals.meeting ∷ es) zero p q n h e = absurd (omega (arith, e))
room (Refusals.meeting ∷ es) (suc m) p q n h e = let r = room es m p q n h e in (omega (arith, r.0), omega (arith, r.1), omega (arith, r.2))
room (point ∷ es) m zero q n h e = absurd (omega (arith, e))
room (point ∷ es) m (suc p) q n h e = let r = room es m p q n h e in (omega (arith, r.0), omega (arith, r.1), omega (arith, r.2))
room (piece k ∷ es) m p zero n h e = absurd (omega (arith, e))
room (piece k ∷ es) m p (suc q) n h e = go (leb k n) refl (λ f. room es m p q (n - k) h f) e
  where
    go : (t : Bool) → leb k n ≡ t → (first_refusal m p q (n - k) es ≡ 0 → (total a_point es ≤ p) × (total a_piece es ≤ q) × (total entries es ≤ n - k))
        → (let r : ℕ = elim t [ true ↦ first_refusal m p q (n - k) es | false ↦ 12 ] in r ≡ 0)
        → (0 + total a_point es ≤ p) × (1 + total a_piece es ≤ suc q) × (k + total entries es ≤ n)
    go true b ih f = let r = ih f in (omega (arith, r.0), omega (arith, r.1), omega (arith, r.2, leb-true k n b))
    go false b ih f = absurd (omega (arith, f))
room (stop r ∷ es) m p q n h e = absurd h

-- ---- the pieces of a listing

abbrev entries_of : List Piece → ℕ
entries_of ps = length (flat (map (λ p. p.nodes) ps))

entries_append : (ps qs : List Piece) → entries_of (ps ++ qs) ≡ entries_of ps + entries_of qs
unfolding flat
entries_append [] qs = omega arith
entries_append (p ∷ ps) qs = omega (
  arith,
  entries_append ps qs,
  length-append p.nodes (flat (map (λ (q : Piece). q.nodes) (ps ++ qs))),
  length-append p.nodes (flat (map (λ (q : Piece). q.nodes) ps)),
)

-- events that take up what pieces take
record Takes (es : List Event) (ps : List Piece) : Type 0 where
  places : total a_piece es ≡ length ps
  nodes : total entries es ≡ entries_of ps

takes_none : Takes [] []
unfolding total flat
takes_none = record { places = refl; nodes = refl }

takes_append : (es fs : List Event) (ps qs : List Piece) → Takes es ps → Takes fs qs → Takes (es ++ fs) (ps ++ qs)
takes_append es fs ps qs a b = record {
  places = omega (arith, total_append a_piece es fs, length-append ps qs, a.places, b.places);
  nodes = omega (arith, total_append entries es fs, entries_append ps qs, a.nodes, b.nodes);
}

takes_gathered : (n : ℕ) (g : ℕ → List Event) (h : ℕ → List Piece) → ((i : ℕ) → i < n → Takes (g i) (h i)) → Takes (gathered n g) (gathered n h)
unfolding gathered
takes_gathered zero g h t = takes_none
takes_gathered (suc n) g h t = takes_append (gathered n g) (g n) (gathered n h) (h n) (takes_gathered n g h (λ i k. t i (omega (arith, k)))) (t n (omega arith))

takes_pieces : (ps : List Piece) → Takes (map (λ p. piece (length p.nodes)) ps) ps
unfolding total flat
takes_pieces [] = takes_none
takes_pieces (p ∷ ps) =
    let r = takes_pieces ps in
    record { places = omega (arith, r.places); nodes = omega (arith, r.nodes, length-append p.nodes (flat (map (λ (q : Piece). q.nodes) ps))) }

takes_cell : (x : Outcome) (ps : List Piece) → Calm (of_cell x ps) → Takes (of_cell x ps) ps
takes_cell (refusal r) ps h = absurd h
takes_cell (pieces qs) ps h = takes_pieces ps

-- ---- the points that meetings add: each two coordinates or none

abbrev pub Pairs : List Met → Type 0
Pairs [] = Unit {0}
Pairs (m ∷ ms) = (length m.point ≡ 2 * (length m.point / 2)) × Pairs ms

pub pairs_append : (ms ns : List Met) → Pairs ms → Pairs ns → Pairs (ms ++ ns)
pairs_append [] ns h k = k
pairs_append (m ∷ ms) ns h k = (h.0, pairs_append ms ns h.1 k)

pub pairs_recorded : (i j next : ℕ) (e f : Edge) (x : Meeting) → Pairs (recorded i j next e f x)
pairs_recorded i j next e f Apart = tt
pairs_recorded i j next e f (Existing p) = (refl, tt)
pairs_recorded i j next e f (New x y) = (refl, tt)
pairs_recorded i j next e f (Overlap p q) = (refl, tt)

pairs_met : (g : Grid) (coords : List Float) (s c : Net) → Pairs (meetings g coords s c)
pairs_met g coords s c =
    meetings_keep g coords s c Pairs tt (λ i j ms r k e h. pairs_append ms _ h (pairs_recorded i j (next_node g coords s c ms) (edge_at s.edges i) (edge_at c.edges j) r))

points_of : (k : ℕ) → total a_point (replicate k point) ≡ k
unfolding total
points_of zero = refl
points_of (suc k) = omega (arith, points_of k)

no_pieces_of : (k : ℕ) → Takes (replicate k point) []
unfolding total flat
no_pieces_of zero = takes_none
no_pieces_of (suc k) = record { places = omega (arith, (no_pieces_of k).places); nodes = omega (arith, (no_pieces_of k).nodes) }

met_points : (ms : List Met) → Pairs ms → length (added_by ms) ≡ 2 * total a_point (joined of_meeting ms)
unfolding joined total
met_points [] h = refl
met_points (m ∷ ms) h =
    omega (
      arith,
      h.0,
      met_points ms h.1,
      length-append m.point (added_by ms),
      points_of (length m.point / 2),
      total_append a_point (replicate (length m.point / 2) point) (joined of_meeting ms),
    )

met_takes : (ms : List Met) → Takes (joined of_meeting ms) []
unfolding joined total flat
met_takes [] = takes_none
met_takes (m ∷ ms) =
    let r = takes_append (replicate (length m.point / 2) point) (joined of_meeting ms) [] [] (no_pieces_of (length m.point / 2)) (met_takes ms) in
    record { places = omega (arith, r.places); nodes = omega (arith, r.nodes) }

nine_takes : (t : Bool) → Takes (cond t (stop 9 ∷ []) []) []
unfolding total flat
nine_takes true = record { places = refl; nodes = refl }
nine_takes false = takes_none

-- ---- the whole course

module _ (o : Settings) (s c : Mesh) where
  abbrev sc : Scene
  sc = scene_for o s c

  abbrev cut : Side → ℕ → List Event
  cut w i = of_cell (outcome_of sc w i) (kept sc w o.op i)

  abbrev before : List Event
  before = replicate (length (s.coords ++ c.coords) / 2) point ++ joined of_meeting sc.met ++ cond (crowded sc) (stop 9 ∷ []) []

  abbrev cells : List Event
  cells = over_cells o.op sc the_subject (cut the_subject) ++ over_cells o.op sc the_cutter (cut the_cutter)

  over_takes : (w : Side) (t : Bool) → let n = length (net_of sc w).cells in Calm (cond t (gathered n (cut w)) [])
      → Takes (cond t (gathered n (cut w)) []) (cond t (gathered n (kept sc w o.op)) [])
  over_takes w true h = takes_gathered (length (net_of sc w).cells) (cut w) (kept sc w o.op)
      (λ i k. takes_cell (outcome_of sc w i) (kept sc w o.op i) (calm_gathered (length (net_of sc w).cells) (cut w) h i k))
  over_takes w false h = takes_none

  before_takes : Takes before []
  before_takes =
      takes_append (replicate (length (s.coords ++ c.coords) / 2) point ++ joined of_meeting sc.met) (cond (crowded sc) (stop 9 ∷ []) []) [] []
      (takes_append (replicate (length (s.coords ++ c.coords) / 2) point) (joined of_meeting sc.met) [] []
      (no_pieces_of (length (s.coords ++ c.coords) / 2)) (met_takes sc.met))
      (nine_takes (crowded sc))

  course_takes : Calm (course o s c) → Takes (course o s c) (listing o s c)
  unfolding course_with listing_with
  course_takes h =
      let rest = calm_right before cells h in
      takes_append before cells [] (over_cells o.op sc the_subject (kept sc the_subject o.op) ++ over_cells o.op sc the_cutter (kept sc the_cutter o.op)) before_takes
      (takes_append (over_cells o.op sc the_subject (cut the_subject)) (over_cells o.op sc the_cutter (cut the_cutter))
      (over_cells o.op sc the_subject (kept sc the_subject o.op)) (over_cells o.op sc the_cutter (kept sc the_cutter o.op))
      (over_takes the_subject (cuts o.op the_subject) (calm_left (over_cells o.op sc the_subject (cut the_subject)) (over_cells o.op sc the_cutter (cut the_cutter)) rest))
      (over_takes the_cutter (cuts o.op the_cutter) (calm_right (over_cells o.op sc the_subject (cut the_subject)) (over_cells o.op sc the_cutter (cut the_cutter)) rest)))

  course_points : length (s.coords ++ c.coords) / 2 + total a_point (joined of_meeting sc.met) ≤ total a_point (course o s c)
  unfolding course_with
  course_points =
      omega (
        arith,
        points_of (length (s.coords ++ c.coords) / 2),
        total_append a_point before cells,
        total_append a_point (replicate (length (s.coords ++ c.coords) / 2) point ++ joined of_meeting sc.met) (cond (crowded sc) (stop 9 ∷ []) []),
        total_append a_point (replicate (length (s.coords ++ c.coords) / 2) point) (joined of_meeting sc.met),
      )

-- ---- the lists

pub record SameLengths (l l' : Lists) : Type 0 where
  pub coords : length l.coords ≡ length l'.coords
  pub layers : length l.layers ≡ length l'.layers
  pub nodes : length l.nodes ≡ length l'.nodes
  pub ends : length l.ends ≡ length l'.ends
  pub kinds : length l.kinds ≡ length l'.kinds
  pub families : length l.families ≡ length l'.families
  pub meshes : length l.meshes ≡ length l'.meshes
  pub cells : length l.cells ≡ length l'.cells
  pub work : length l.work ≡ length l'.work

length_stops : (k : ℕ) (ps : List (List ℕ)) → length (stops k ps) ≡ length ps
unfolding stops
length_stops k [] = refl
length_stops k (p ∷ ps) = ap suc (length_stops (k + length p) ps)

cleared_lengths : (l : Lists) → SameLengths (cleared l) l
unfolding cleared
cleared_lengths l = record {
  coords = length-replicate _ _;
  layers = length-replicate _ _;
  nodes = length-replicate _ _;
  ends = length-replicate _ _;
  kinds = length-replicate _ _;
  families = length-replicate _ _;
  meshes = length-replicate _ _;
  cells = length-replicate _ _;
  work = length-replicate _ _;
}

-- what an accepted overlay answers, and the room there was for it
pub record Fits (o : Settings) (s c : Mesh) (l : Lists) : Type 0 where
  pub coords : length (scene_for o s c).coords ≤ length l.coords
  pub layers : length (layers_of (scene_for o s c) s c) ≤ length l.layers
  pub nodes : length (flat (map (λ (p : Piece). p.nodes) (listing o s c))) ≤ length l.nodes
  pub ends : length (listing o s c) ≤ length l.ends
  pub kinds : length (listing o s c) ≤ length l.kinds
  pub families : length (listing o s c) ≤ length l.families
  pub meshes : length (listing o s c) ≤ length l.meshes
  pub cells : length (listing o s c) ≤ length l.cells

scene_coords : (g : Grid) (lines : Bool) (s c : Mesh) → length (scene_of g lines s c).coords ≡ length (s.coords ++ c.coords) + length (added_by (scene_of g lines s c).met)
unfolding scene_of
scene_coords g lines s c = length-append (s.coords ++ c.coords) _

scene_pairs : (g : Grid) (lines : Bool) (s c : Mesh) → Pairs (scene_of g lines s c).met
unfolding scene_of
scene_pairs g lines s c = pairs_met g (s.coords ++ c.coords) (subject_net s) (cutter_net lines s c)

-- ---- W7: a layer for each of the points that meetings add

pub layers_added : (ls : List ℕ) (es : List Edge) (ms : List Met) → Pairs ms → 2 * length (joined (layer_added ls es) ms) ≡ length (added_by ms)
unfolding joined
layers_added ls es [] h = refl
layers_added ls es (m ∷ ms) h =
    omega (
      arith,
      h.0,
      layers_added ls es ms h.1,
      length-append m.point (added_by ms),
      length-append (layer_added ls es m) (joined (layer_added ls es) ms),
      length-replicate {A = ℕ} (length m.point / 2) (get_or ls (edge_at es m.subject_edge).0 0),
    )

-- An answer has as many layers as nodes.
pub layers_long : (o : Settings) (s c : Mesh) (w : ℕ) → Passed o s c w → 2 * length (layers_of (scene_for o s c) s c) ≡ length (scene_for o s c).coords
unfolding layers_of
layers_long o s c w ok =
    let sc = scene_for o s c in
    let more = joined (layer_added s.layers sc.subject.edges) sc.met in
    omega (
      arith,
      length-append s.layers (c.layers ++ more),
      length-append c.layers more,
      length-append s.coords c.coords,
      layers_added s.layers sc.subject.edges sc.met (scene_pairs o.grid (eqb o.op 5) s c),
      scene_coords o.grid (eqb o.op 5) s c,
      ok.subject.even,
      ok.cutter.even,
      ok.subject.layers_long,
      ok.cutter.layers_long,
    )

-- twice the half of an even number
whole_points : (a b t p n : ℕ) → a ≡ 2 * (a / 2) → b ≡ 2 * (b / 2) → (a + b) / 2 + t ≤ p → p ≤ n → a + b + 2 * t ≤ 2 * n
whole_points a b t p n e f h k = omega (arith, e, f, h, k)

pub accepted_fits : (o : Settings) (s c : Mesh) (l : Lists) → Accepted o s c l → Fits o s c l
unfolding state_with
accepted_fits o s c l h =
    let t = accepted ours o s c l h in
    let calm = calm_course ours o s c l t.state in
    let entry = passed o s c (length l.work) t.entry in
    let r = room (course o s c) o.m (point_room l) (piece_room l) (length l.nodes) calm t.state in
    let takes = course_takes o s c calm in
    let sum = length-append s.coords c.coords in
    let points = met_points (scene_for o s c).met (scene_pairs o.grid (eqb o.op 5) s c) in
    let coords : length (scene_for o s c).coords ≤ 2 * point_room l =
    omega (
      arith,
      scene_coords o.grid (eqb o.op 5) s c,
      sum,
      points,
      whole_points (length s.coords) (length c.coords) (total a_point (joined of_meeting (scene_for o s c).met)) (total a_point (course o s c)) (point_room l)
          entry.subject.even entry.cutter.even (subst (λ (x : ℕ). x / 2 + total a_point (joined of_meeting (scene_for o s c).met) ≤ total a_point
          (course o s c)) sum (course_points o s c)) r.0,
    ) in
    record {
      coords = omega (arith, coords);
      layers = omega (arith, coords, layers_long o s c (length l.work) entry);
      nodes = omega (arith, r.2, takes.nodes);
      ends = omega (arith, r.1, takes.places);
      kinds = omega (arith, r.1, takes.places);
      families = omega (arith, r.1, takes.places);
      meshes = omega (arith, r.1, takes.places);
      cells = omega (arith, r.1, takes.places);
    }

answered_lengths : (o : Settings) (s c : Mesh) (l : Lists) → Fits o s c l → SameLengths (answered o s c l).lists l
unfolding answered_with written
answered_lengths o s c l f =
    let runs = map (λ (p : Piece). p.nodes) (listing o s c) in
    let many = length-map (listing o s c) (λ (p : Piece). p.nodes) in
    record {
      coords = length_front l.coords (scene_for o s c).coords f.coords;
      layers = length_front l.layers (layers_of (scene_for o s c) s c) f.layers;
      nodes = length_front l.nodes (flat runs) f.nodes;
      ends = length_front l.ends (stops 0 runs) (omega (arith, f.ends, length_stops 0 runs, many));
      kinds = length_front l.kinds (map (λ (p : Piece). p.kind) (listing o s c)) (omega (arith, f.kinds, length-map (listing o s c) (λ (p : Piece). p.kind)));
      families = length_front l.families (map (λ (p : Piece). p.family) (listing o s c)) (omega (arith, f.families, length-map (listing o s c) (λ (p : Piece). p.family)));
      meshes =
          length_front l.meshes (map (λ (p : Piece). side_number p.mesh) (listing o s c))
          (omega (arith, f.meshes, length-map (listing o s c) (λ (p : Piece). side_number p.mesh)));
      cells = length_front l.cells (map (λ (p : Piece). p.cell) (listing o s c)) (omega (arith, f.cells, length-map (listing o s c) (λ (p : Piece). p.cell)));
      work = length-replicate _ _;
    }

same_lengths : (l : Lists) → SameLengths l l
same_lengths l = record { coords = refl; layers = refl; nodes = refl; ends = refl; kinds = refl; families = refl; meshes = refl; cells = refl; work = refl }

-- For all settings, meshes and lists, accepted or refused.
pub lengths_kept : (o : Settings) (s c : Mesh) (l : Lists) → SameLengths (overlay_of o s c l).lists l
lengths_kept o s c l = go (ending ours o s c l)
  where
    go : Ending ours o s c l → SameLengths (overlay_of o s c l).lists l
    go (input n) = rw (input_refused ours o s c l n) (same_lengths l)
    go (state_met e n) = rw (state_refused ours o s c l e n) (cleared_lengths l)
    go (success e f) =
        let same = succeeds ours o s c l e f in
        rw same (answered_lengths o s c l (accepted_fits o s c l (ap (λ (r : Result). r.code) same ∙ no_refusal ours o s c l)))
