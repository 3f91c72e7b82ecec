-- The whole from its parts: what is found before the cells, and the cells. Assumes nothing.
use mathlib.Core.Path.{◌≡◌, refl, sym, ap, ap₂, ◌∙◌}
use mathlib.Core.Bool.{Bool, true, false, cond}
use mathlib.Core.List.{List, [], ◌∷◌, ◌++◌, append_assoc, map}
use Prim.Native.Nat.{ℕ, zero, suc, ◌+◌, ◌*◌, ◌-◌, ◌/◌, ◌≤◌}
use native.Mathlib.Nat.{zero-add}
use native.Mathlib.Omega.{arith}
use lib.Dec.{leb}
use lib.ListN.{length, take, drop, length-append, length-map, take-append-drop}
use lib.Seq.{length-take-le, drop-append-le, drop-append_seam}
use lib.Ieee.{Float}
use Rattle.lists.specs.Search.{named, many}
use Rattle.lists.specs.Gather.{gathered}
use Rattle.lists.specs.Regions.{front, zeros}
use Rattle.lists.proofs.Regions.{front_put, take_front_of}
use Rattle.cutting.specs.Outcome.{Outcome, refusal, pieces, flat, stops}
use Rattle.cutting.proofs.Runs.{stops_length}
use Rattle.settings.specs.declared.Settings.{Settings}
use Rattle.entry.specs.Mesh.{Mesh, node_count}
use Rattle.entry.specs.Passed.{Passed}
use Rattle.rules.specs.Mesh.{Side, the_subject, the_cutter, side_number}
use Rattle.rules.specs.Neighbours.{subject_net, cutter_net}
use Rattle.rules.specs.Meetings.{Scene, net_of, added_by, scene_of}
use Rattle.rules.specs.Cell.{outcome_of}
use Rattle.rules.specs.Operations.{Piece, cuts, scene_for, kept, over_cells, listing, listing_with}
use Rattle.rules.specs.Refusals.{Event, meeting, point, piece, stop, of_cell, course, first_refusal}
use Rattle.rules.specs.Layers.{layers_of}
use Rattle.rules.specs.Overlay.{Lists, lent_lists, result_of, point_room, piece_room, written, named_points, state_of, state_with, answered, answered_with}
use Rattle.rules.proofs.Points.{points_counted}
use Rattle.finding.specs.Found.{found_events}
use Rattle.finding.proofs.Scenes.{course_is, found_passes}
use Rattle.pieces.specs.declared.Listed.{Listed}
use Rattle.pieces.specs.Pieces.{Yield}
use Rattle.pieces.proofs.Room.{refused}
use Rattle.pieces.proofs.Placing.{AllPlaced}
use Rattle.cutting_cells.specs.Yields.{meshes_yield, none_yet}
use Rattle.passes.specs.Tags.{kind_by, family_by, mesh_by, cell_by}
use Rattle.overlay.specs.declared.Counts.{Counts}
use Rattle.overlay.specs.declared.Prepared.{Prepared}
use Rattle.overlay.specs.Prepared.{PreparedIn, PlacedIn, runs_in}
use Rattle.overlay.proofs.Scene.{cell_events, nodes_of}
use Rattle.overlay.proofs.Yielded.{over_both, of_side, meshes_events, meshes_pieces, meshes_kinds, meshes_families, meshes_parent_meshes, meshes_parent_cells}

-- ---- a part of a list, lent and come back

pub front_back : {A : Type 0} (w xs w' : List A) (n : ℕ) → w' ≡ front (take n w) xs → length xs ≤ n → n ≤ length w → w' ++ drop n w ≡ front w xs
unfolding front
front_back w xs w' n e h l =
    ap (λ (v : List _). v ++ drop n w) e ∙ append_assoc xs (drop (length xs) (take n w)) (drop n w)
    ∙ ap (λ (v : List _). xs ++ v)
    (sym (drop-append-le (length xs) (take n w) (drop n w) (omega (arith, h, length-take-le n w l))) ∙ ap (drop (length xs)) (take-append-drop n w))

-- as many elements take the place of a front
front_over : {A : Type 0} (w xs ys : List A) (n : ℕ) → length xs ≡ n → length ys ≡ n → ys ++ drop n (front w xs) ≡ front w ys
unfolding front
front_over w xs ys n lx ly = rw (← lx, drop-append_seam, ly, lx)

-- ---- cells find no meetings and place no points

abbrev Cells : List Event → Type 0
Cells [] = Unit {0}
Cells (meeting ∷ es) = ⊥
Cells (point ∷ es) = ⊥
Cells (piece k ∷ es) = Cells es
Cells (stop r ∷ es) = Cells es

only_cells : (m p q n : ℕ) (es : List Event) → Cells es → first_refusal m p q n es ≡ first_refusal 0 0 q n es
unfolding first_refusal
only_cells m p q n [] h = refl
only_cells m p q n (meeting ∷ es) h = absurd h
only_cells m p q n (point ∷ es) h = absurd h
only_cells m p zero n (piece k ∷ es) h = refl
only_cells m p (suc q) n (piece k ∷ es) h = go (leb k n) (only_cells m p q (n - k) es h)
  where
    go : (t : Bool) → first_refusal m p q (n - k) es ≡ first_refusal 0 0 q (n - k) es
        → (let x : ℕ = elim t [ true ↦ first_refusal m p q (n - k) es | false ↦ 12 ] in
        let y : ℕ = elim t [ true ↦ first_refusal 0 0 q (n - k) es | false ↦ 12 ] in
        x ≡ y)
    go true ih = ih
    go false ih = refl
only_cells m p q n (stop r ∷ es) h = refl

cells_append : (es fs : List Event) → Cells es → Cells fs → Cells (es ++ fs)
cells_append [] fs h k = k
cells_append (meeting ∷ es) fs h k = absurd h
cells_append (point ∷ es) fs h k = absurd h
cells_append (piece j ∷ es) fs h k = cells_append es fs h k
cells_append (stop r ∷ es) fs h k = cells_append es fs h k

cells_of : (x : Outcome) (ps : List Piece) → Cells (of_cell x ps)
cells_of (refusal r) ps = tt
cells_of (pieces qs) ps = go ps
  where
    go : (rs : List Piece) → Cells (map (λ p. piece (length p.nodes)) rs)
    go [] = tt
    go (r ∷ rs) = go rs

cells_gathered : (n : ℕ) (f : ℕ → List Event) → ((i : ℕ) → Cells (f i)) → Cells (gathered n f)
unfolding gathered
cells_gathered zero f h = tt
cells_gathered (suc n) f h = cells_append (gathered n f) (f n) (cells_gathered n f h) (h n)

cells_over : (op : ℕ) (sc : Scene) → Cells (over_both op sc (cell_events op sc))
cells_over op sc = cells_append (one the_subject) (one the_cutter) (of the_subject) (of the_cutter)
  where
    one : Side → List Event
    one w = over_cells op sc w (cell_events op sc w)

    of : (w : Side) → Cells (over_cells op sc w (cell_events op sc w))
    of w = go (cuts op w)
      where
        go : (b : Bool) → Cells (cond b (gathered (length (net_of sc w).cells) (cell_events op sc w)) [])
        go true = cells_gathered (length (net_of sc w).cells) (cell_events op sc w) (λ i. cells_of (outcome_of sc w i) (kept sc w op i))
        go false = tt

-- ---- the refusal

module _ (o : Settings) (s c : Mesh) where
  abbrev sc₀ : Scene
  sc₀ = scene_for o s c

  module _ (m p q n : ℕ) where
    -- one met before the cells
    pub refused_before : (first_refusal m p q n (found_events o s c) ≡ 0 → ⊥) → first_refusal m p q n (course o s c) ≡ first_refusal m p q n (found_events o s c)
    refused_before h =
        ap (first_refusal m p q n) (course_is o s c)
        ∙ sym (refused (first_refusal m p q n (found_events o s c)) (found_events o s c) (over_both o.op sc₀ (cell_events o.op sc₀)) m p q n h refl)

    -- where none is met before, the cells' is the first
    pub cells_met : (x : ℕ) (es : List Event) → ((q n : ℕ) → 0 ≡ first_refusal m p q n (found_events o s c))
        → es ≡ over_both o.op sc₀ (cell_events o.op sc₀) → x ≡ first_refusal 0 0 (q - 0) (n - 0) es → x ≡ first_refusal m p q n (course o s c)
    cells_met x es none are e =
        let f = found_passes o s c m p q n (sym (none q n)) in
        let all = over_both o.op sc₀ (cell_events o.op sc₀) in
        let q₀ : q - 0 ≡ q = omega arith in
        let n₀ : n - 0 ≡ n = omega arith in
        e ∙ (λ i. first_refusal 0 0 (q₀ i) (n₀ i) (are i)) ∙ sym (only_cells f.0 f.1 q n all (cells_over o.op sc₀)) ∙ sym (f.2 all) ∙ ap (first_refusal m p q n) (sym (course_is o s c))

  -- ---- what the cells leave

  abbrev ps : List Piece
  ps = over_both o.op sc₀ (λ v. kept sc₀ v o.op)

  module _ (oc₀ : List Float) (ol₀ : List ℕ) (oc : List Float) (ol w : List ℕ) (p : Prepared) (ready : PreparedIn o s c oc₀ ol₀ oc ol w p) where
    -- what they yield
    abbrev y : Yield
    y = meshes_yield o.op o.grid (take (2 * p.next) oc) w p.regions s.ends c.ends

    pub yielded_events : (meshes_yield o.op o.grid (take (2 * p.next) oc) w p.regions s.ends c.ends).events ≡ over_both o.op (scene_for o s c) (cell_events o.op (scene_for o s c))
    yielded_events = meshes_events o.op sc₀ o.grid (take (2 * p.next) oc) w p.regions s.ends c.ends ready.stands

    -- the points behind the lent ones are those that the meetings add
    added_are : (k : ℕ) → length s.coords + length c.coords ≡ 2 * k → p.next - k ≡ length (added_by sc₀.met) / 2
    unfolding scene_of
    added_are k even =
        omega (arith, ready.long, even, length-append (s.coords ++ c.coords) (added_by sc₀.met), length-append s.coords c.coords)

    kinds_stand : (v : Side) → (net_of sc₀ v).kinds ≡ of_side s.kinds c.kinds v
    unfolding scene_of subject_net cutter_net
    kinds_stand the_subject = refl
    kinds_stand the_cutter = refl

    families_stand : (v : Side) → (net_of sc₀ v).families ≡ of_side s.families c.families v
    unfolding scene_of subject_net cutter_net
    families_stand the_subject = refl
    families_stand the_cutter = refl

    -- the corners of the pieces
    corners_read : (on oe ot on' oe' ot' : List ℕ) (r : Listed) → AllPlaced none_yet (meshes_yield o.op o.grid (take (2 * p.next) oc) w p.regions s.ends c.ends) on oe ot r on' oe' ot'
        → take r.entries on' ≡ flat (nodes_of ps)
    corners_read on oe ot on' oe' ot' r a =
        ap (take r.entries) (a.corners ∙ front_put on (flat y.pieces)) ∙ take_front_of on (flat y.pieces) r.entries (sym (a.entered ∙ zero-add (length (flat y.pieces))))
        ∙ ap flat (meshes_pieces o.op sc₀ o.grid (take (2 * p.next) oc) w p.regions s.ends c.ends ready.stands)

    -- the new points among them, counted behind the nodes lent
    named_are : (lent points : ℕ) (entries : List ℕ) → lent ≡ node_count s + node_count c → lent ≤ p.next → entries ≡ flat (nodes_of ps)
        → points ≡ many (λ k. named entries (lent + k)) (p.next - lent) → points ≡ length (named_points (node_count s + node_count c) (length sc₀.coords / 2) ps)
    named_are lent points entries is low read e =
        let all : lent + (p.next - lent) ≡ length sc₀.coords / 2 = omega (arith, ready.long, low) in
        e ∙ ap (λ (ns : List ℕ). many (λ k. named ns (lent + k)) (p.next - lent)) read ∙ sym (points_counted lent (p.next - lent) ps)
        ∙ ap₂ (λ (i n : ℕ). length (named_points i n ps)) is all

    pub placed_in : (n : ℕ) → Passed o s c n → (on oe ot on' oe' ot' : List ℕ) (r : Listed)
        → AllPlaced none_yet (meshes_yield o.op o.grid (take (2 * p.next) oc) w p.regions s.ends c.ends) on oe ot r on' oe' ot' → r.count ≤ length oe
        → (points : ℕ) → (let lent : ℕ = (length s.coords + length c.coords) / 2 in points ≡ many (λ k. named (take r.entries on') (lent + k)) (p.next - lent))
        → PlacedIn o s c (record { pieces = r.count; points = points; added = p.next - (length s.coords + length c.coords) / 2 }) oc₀ ol₀ on oe ot oc ol on' oe' ot'
    unfolding listing_with
    placed_in n ok on oe ot on' oe' ot' r a low points counted =
        let sc = sc₀ in
        let coords = take (2 * p.next) oc in
        let g = p.regions in
        let ins = ready.stands in
        let pieces : y.pieces ≡ nodes_of ps = meshes_pieces o.op sc o.grid coords w g s.ends c.ends ins in
        let lent : ℕ = (length s.coords + length c.coords) / 2 in
        let half : length s.coords + length c.coords ≡ 2 * lent = omega (arith, ok.subject.even, ok.cutter.even) in
        record {
          coords = ready.placed;
          layers = ready.layered;
          corners = a.corners ∙ front_put on (flat y.pieces) ∙ ap (λ (ks : List (List ℕ)). front on (flat ks)) pieces;
          ends = a.ends ∙ front_put oe (stops 0 y.pieces) ∙ ap (λ (ks : List (List ℕ)). front oe (stops 0 ks)) pieces;
          pieces = a.counted ∙ zero-add (length y.pieces) ∙ ap length pieces ∙ length-map ps (λ p. p.nodes);
          points = named_are lent points (take r.entries on') (omega (arith, half, ok.subject.even, ok.cutter.even)) ready.least (corners_read on oe ot on' oe' ot' r a) counted;
          added = added_are lent half;
          room = low;
          tags = y.tags;
          tagged = a.tags ∙ front_put ot y.tags;
          say = record {
            kinds = meshes_kinds o.op sc o.grid coords w g s.ends c.ends ins s.kinds c.kinds ok.subject.kinds_long kinds_stand;
            families = meshes_families o.op sc o.grid coords w g s.ends c.ends ins s.families c.families ok.subject.families_long families_stand;
            meshes = meshes_parent_meshes o.op sc o.grid coords w g s.ends c.ends ins;
            cells = meshes_parent_cells o.op sc o.grid coords w g s.ends c.ends ins;
          };
        }

-- ---- the answer

-- what is written to the front of a list that keeps its length has a place there
front_fits : {A : Type 0} (w xs w' : List A) → w' ≡ front w xs → length w' ≡ length w → length xs ≤ length w
unfolding front
front_fits w xs w' e kept = omega (arith, kept, ap length e, length-append xs (drop (length xs) w))

-- a part of n elements, written to and come back, is the front of its list
come_back : {A : Type 0} (w xs w' : List A) (n : ℕ) → n ≤ length w → w' ≡ front (take n w) xs → length w' ≡ length (take n w) → w' ++ drop n w ≡ front w xs
come_back w xs w' n l e kept = front_back w xs w' n e (omega (arith, front_fits (take n w) xs w' e kept, length-take-le n w l)) l

-- the points' room is that of the coordinates lent, and the pieces' that of the ends
pub state_is : (o : Settings) (s c : Mesh) (l : Lists)
    → state_of o s c l ≡ first_refusal o.m (length (take (2 * point_room l) l.coords) / 2) (length (take (piece_room l) l.ends)) (length l.nodes) (course o s c)
unfolding state_with
state_is o s c l =
    let points : point_room l ≡ length (take (2 * point_room l) l.coords) / 2 = omega (arith, length-take-le (2 * point_room l) l.coords (omega arith)) in
    let ends : piece_room l ≡ length (take (piece_room l) l.ends) = sym (length-take-le (piece_room l) l.ends (omega arith)) in
    λ i. first_refusal o.m (points i) (ends i) (length l.nodes) (course o s c)

module _ (o : Settings) (s c : Mesh) (l : Lists) (points room : ℕ) (most_points : points ≡ point_room l) (most : room ≡ piece_room l) where
  module _ (k : Counts) (oc : List Float) (ol on oe ot : List ℕ)
      (h : PlacedIn o s c k (take (2 * points) l.coords) (take points l.layers) l.nodes (take room l.ends) (take room l.families) oc ol on oe ot) where
    few : k.pieces ≤ room
    few = omega (arith, h.room, length-take-le room l.ends (omega (arith, most)))

    -- a number of each piece, as many as there are
    long : (f : Piece → ℕ) → length (map f (listing o s c)) ≡ k.pieces
    long f = length-map (listing o s c) f ∙ sym h.pieces

    tags_long : length h.tags ≡ k.pieces
    tags_long = sym (length-map h.tags (kind_by s.kinds c.kinds)) ∙ ap length h.say.kinds ∙ long (λ p. p.kind)

    tagged : ot ++ drop room l.families ≡ front l.families h.tags
    tagged = front_back l.families h.tags ot room h.tagged (omega (arith, tags_long, few)) (omega (arith, most))

    -- what the passes read
    abbrev read : List ℕ
    read = take k.pieces (ot ++ drop room l.families)

    read_is : read ≡ h.tags
    read_is = ap (take k.pieces) tagged ∙ take_front_of l.families h.tags k.pieces tags_long

    -- a list that a pass has written to by the tags
    by_tags : (list list' : List ℕ) (by : ℕ → ℕ) (part : Piece → ℕ) → map by h.tags ≡ map part (listing o s c) → list' ≡ front list (map by read)
        → list' ≡ front list (map part (listing o s c))
    by_tags list list' by part say e = e ∙ ap (λ (ts : List ℕ). front list (map by ts)) read_is ∙ ap (front list) say

    pub answer_is : length oc ≡ length (take (2 * points) l.coords) → length ol ≡ length (take points l.layers) → (ok fs om oi : List ℕ)
        → ok ≡ front l.kinds (map (kind_by s.kinds c.kinds) (take k.pieces (ot ++ drop room l.families)))
        → fs ≡ map (family_by s.families c.families) (take k.pieces (ot ++ drop room l.families))
        → (om ≡ front l.meshes (map (mesh_by (length s.ends)) (take k.pieces (ot ++ drop room l.families))))
        × (oi ≡ front l.cells (map (cell_by (length s.ends)) (take k.pieces (ot ++ drop room l.families))))
        → result_of 0 k.pieces k.points 0 k.added (lent_lists (oc ++ drop (2 * points) l.coords) (ol ++ drop points l.layers) on (oe ++ drop room l.ends) ok
        (fs ++ drop k.pieces (ot ++ drop room l.families)) om oi (zeros (length l.work)))
        ≡ answered o s c l
    unfolding answered_with written
    answer_is kc kl ok fs om oi ek ef (em, ei) =
        let runs = runs_in o s c in
        let coords = come_back l.coords (scene_for o s c).coords oc (2 * points) (omega (arith, most_points)) h.coords kc in
        let layers = come_back l.layers (layers_of (scene_for o s c) s c) ol points (omega (arith, most_points)) h.layers kl in
        let ends : oe ++ drop room l.ends ≡ front l.ends (stops 0 runs) =
        front_back l.ends (stops 0 runs) oe room h.ends
        (omega (arith, stops_length 0 runs, length-map (listing o s c) (λ (p : Piece). p.nodes), h.pieces, few)) (omega (arith, most)) in
        let kinds = by_tags l.kinds ok (kind_by s.kinds c.kinds) (λ p. p.kind) h.say.kinds ek in
        let meshes = by_tags l.meshes om (mesh_by (length s.ends)) (λ p. side_number p.mesh) h.say.meshes em in
        let cells = by_tags l.cells oi (cell_by (length s.ends)) (λ p. p.cell) h.say.cells ei in
        let of : fs ≡ map (λ p. p.family) (listing o s c) = ef ∙ ap (map (family_by s.families c.families)) read_is ∙ h.say.families in
        let families : fs ++ drop k.pieces (ot ++ drop room l.families) ≡ front l.families (map (λ p. p.family) (listing o s c)) =
        ap₂ (λ (u v : List ℕ). u ++ drop k.pieces v) of tagged
        ∙ front_over l.families h.tags (map (λ p. p.family) (listing o s c)) k.pieces tags_long (long (λ p. p.family)) in
        λ i. result_of 0 (h.pieces i) (h.points i) 0 (h.added i)
        (lent_lists (coords i) (layers i) (h.corners i) (ends i) (kinds i) (families i) (meshes i) (cells i) (zeros (length l.work)))
