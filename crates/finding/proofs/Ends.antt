-- How `place_coords`, `crowded` and `find` end, over plain variables. Assumes nothing.
use mathlib.Core.Path.{◌≡◌, refl, sym, ap, ap₂, ◌∙◌}
use mathlib.Core.Bool.{Bool, true, false, cond, not, ◌||◌, true≢false}
use mathlib.Core.List.{List, [], ◌++◌, append-nil}
use Prim.Native.Nat.{ℕ, ◌+◌, ◌*◌, ◌-◌, ◌/◌, ◌≤◌}
use native.Mathlib.Omega.{arith}
use lib.Dec.{eqb, leb}
use lib.ListN.{length, take, drop, length-append}
use lib.Seq.{length-take-le}
use lib.Ieee.{Float}
use borrow.Author.Tests.{leb-true, leb-false, not-true, not-false}
use Rattle.std.specs.Prelude.{Result, Ok, Err, IfOk, is_err}
use Rattle.lists.specs.Search.{has}
use Rattle.lists.specs.Gather.{joined}
use Rattle.lists.specs.Regions.{run, front, put, copied, zeros, fzeros}
use Rattle.lists.proofs.Regions.{length_front, take_front_of, front_put, copied_fits, length_copied, put_append}
use Rattle.cutting.specs.Edges.{Edge}
use Rattle.cutting.specs.Lent.{flat_edges, pairs}
use Rattle.cutting.proofs.Pairs.{pairs_ends}
use Rattle.settings.specs.declared.Settings.{Settings}
use Rattle.entry.specs.Mesh.{Mesh}
use Rattle.refusals.specs.declared.Refusal.{Refusal}
use Rattle.refusals.specs.Numbers.{number, by_number, refused_with}
use Rattle.refusals.proofs.Numbers.{some_not_zero}
use Rattle.rules.specs.Neighbours.{subject_net, cutter_net}
use Rattle.rules.specs.Meetings.{Met, added_by, meetings, Scene, scene_of}
use Rattle.rules.specs.Nodes.{overfull, crowded}
use Rattle.rules.specs.Operations.{scene_for}
use Rattle.rules.specs.Refusals.{of_meeting, first_refusal}
use Rattle.snap.proofs.Places.{put_front}
use Rattle.regions.specs.declared.Regions.{Regions}
use Rattle.regions.specs.Runs.{run_in}
use Rattle.meetings.specs.declared.Found.{Found as MeetFound}
use Rattle.regions.proofs.Parts.{run_long}
use Rattle.meetings.specs.InNumbers.{in_numbers, net_on, meetings_of}
use Rattle.meetings.proofs.Early.{early_met}
use Rattle.meetings.proofs.Reading.{length_in_numbers, in_numbers_at, meetings_fit, by_edges}
use Rattle.edge_nodes.specs.Links.{links_of, Linked}
use Rattle.edge_nodes.specs.Lent.{crowded_at}
use Rattle.edge_nodes.specs.Stored.{no_met, Stored}
use Rattle.edge_nodes.proofs.Scene.{numbers_stored, overfull_is}
use Rattle.finding.specs.declared.stages.Found.{Found}
use Rattle.finding.specs.declared.numbering.NetPlaces.{NetPlaces}
use Rattle.finding.specs.Nets.{Fit, NetRoom, FindAsks, subject_at, cutter_at, index_at, met_at, nets_of, netted}
use Rattle.finding.specs.Found.{found_events, found_as, regions_by, chains, links_in, worked, refused_lists, found_of}
use Rattle.finding.specs.Found.{both_full, LinkedIn, MeetingsRoom, CutterIndexed, met_in, MetWritten, LinkRoom, linked_by, StagesGive}
use Rattle.strips.specs.Index.{index_size}
use Rattle.finding.proofs.Whole.{subjects_before, cutters_before}
use Rattle.finding.proofs.Netted.{length_held, subjects_held, cutters_held, index_fits_lem, cutters_indexed}
use Rattle.finding.proofs.Held.{Holds, holds_linked, with, subjects_found, cutters_found, met_found, worked_holds}
use Rattle.finding.proofs.Events.{few_met, no_place, met_refused, met_all}
use Rattle.finding.proofs.Settled.{leaves, all_left, zeros_left}

-- ---- `place_coords`

module _ (sc cc oc : List Float) where
  pub both : (r r' : Bool) (oc₁ oc₂ : List Float) → r ≡ leb (0 + length sc) (length oc) → r ≡ true → oc₁ ≡ copied oc 0 sc
      → (r' ≡ leb (length sc + length cc) (length oc₁)) × (oc₂ ≡ copied oc₁ (length sc) cc)
      → (r' ≡ leb (length sc + length cc) (length oc)) × (r' ≡ true → oc₂ ≡ front oc (sc ++ cc))
  both r r' oc₁ oc₂ e t one two =
      let fits = leb-true (0 + length sc) (length oc) (sym e ∙ t) in
      let same : length oc₁ ≡ length oc = ap length one ∙ length_copied oc 0 sc in
      let first : oc₁ ≡ front oc sc = one ∙ copied_fits oc 0 sc fits ∙ front_put oc sc in (
        two.0 ∙ ap (leb (length sc + length cc)) same,
        λ u. two.1 ∙ copied_fits oc₁ (length sc) cc (leb-true (length sc + length cc) (length oc₁) (sym two.0 ∙ u))
            ∙ ap (λ (l : List Float). put l (length sc) cc) first ∙ put_front (length sc) oc sc cc refl (omega (arith, fits)),
      )

-- ---- `crowded`

module _ (es fs ms : List ℕ) where
  abbrev of_subject : Bool
  of_subject = has (crowded_at (pairs es) (pairs es) (pairs fs) ms) (length es / 2)

  abbrev of_cutter : Bool
  of_cutter = has (crowded_at (pairs fs) (pairs es) (pairs fs) ms) (length fs / 2)

  pub first_full : (x : Bool) → x ≡ of_subject → x ≡ true → true ≡ both_full es fs ms
  unfolding both_full
  first_full x e t = sym (ap (λ (u : Bool). u || of_cutter) (sym e ∙ t))

  pub second_full : (x y : Bool) → x ≡ of_subject → x ≡ false → y ≡ of_cutter → y ≡ both_full es fs ms
  unfolding both_full
  second_full x y e f g = g ∙ sym (ap (λ (u : Bool). u || of_cutter) (sym e ∙ f))

-- of parts of the working list
module _ (w : List ℕ) (g : Regions) (es fs ms : List ℕ) (is-es : es ≡ run_in w g.subject.edges) (is-fs : fs ≡ run_in w g.cutter.edges) (is-ms : ms ≡ run_in w g.met) where
  pub parts_linked : (ls : List ℕ) → ls ≡ run_in w g.links → LinkedIn w g → Linked (pairs es) (pairs fs) ms ls
  parts_linked ls is-ls ok = rw (is-es, is-fs, is-ms, is-ls) ok.linked

  pub parts_full : (r : Bool) → r ≡ both_full es fs ms → r ≡ both_full (run_in w g.subject.edges) (run_in w g.cutter.edges) (run_in w g.met)
  parts_full r e = e ∙ ap₂ (λ (x y : List ℕ). both_full x y ms) is-es is-fs ∙ ap (both_full (run_in w g.subject.edges) (run_in w g.cutter.edges)) is-ms

-- ---- `find`

module _ (o : Settings) (s c : Mesh) (w₀ : List ℕ)
    (ok : FindAsks o s c (length w₀)) (oc : List Float) where
  abbrev lines : Bool
  lines = eqb o.op 5

  abbrev fs : Fit false s
  fs = ok.subject

  abbrev fc : Fit lines c
  fc = ok.cutter

  abbrev scene : Scene
  scene = scene_for o s c

  abbrev placed : ℕ
  placed = length s.coords + length c.coords

  abbrev subjects : List Edge
  subjects = (subject_net s).edges

  abbrev cutters : List Edge
  cutters = (cutter_net lines s c).edges

  abbrev points : ℕ
  points = length (s.coords ++ c.coords) / 2

  len : length (s.coords ++ c.coords) ≡ placed
  len = length-append s.coords c.coords

  room₀ : NetRoom 0 s c (length w₀)
  room₀ = omega (arith, ok.room)

  -- ---- 9, by the numbers

  stored : Stored scene.met (in_numbers scene.met)
  unfolding scene_of
  stored =
      numbers_stored scene.met (in_numbers scene.met) (length_in_numbers scene.met) (λ q i h l. in_numbers_at scene.met q i no_met h l)
      (λ q h. (meetings_fit o.grid (s.coords ++ c.coords) (subject_net s) (cutter_net lines s c) q no_met h).3)

  full_is : (es : List Edge) → has (crowded_at (pairs (flat_edges es)) (pairs (flat_edges subjects)) (pairs (flat_edges cutters)) (in_numbers scene.met))
      (length (flat_edges es) / 2) ≡ overfull scene es
  unfolding scene_of
  full_is es =
      ap₂ (λ (a b : List Edge). has (crowded_at (pairs (flat_edges es)) a b (in_numbers scene.met)) (length (flat_edges es) / 2)) (pairs_ends subjects) (pairs_ends cutters)
      ∙ overfull_is scene (in_numbers scene.met) stored (flat_edges es) ∙ ap (overfull scene) (pairs_ends es)

  crowded_is : both_full (flat_edges subjects) (flat_edges cutters) (in_numbers scene.met) ≡ crowded scene
  unfolding crowded scene_of both_full
  crowded_is = ap₂ (λ (a b : Bool). a || b) (full_is subjects) (full_is cutters)

  -- ---- what follows after each stage

  -- the links stand too
  pub record AfterLink (f : MeetFound) (oc₂ : List Float) (g : Regions) (w₃ : List ℕ) : Type 0 where
    pub asks : LinkedIn w₃ g
    pub all : (b : Bool) → b ≡ both_full (run_in w₃ g.subject.edges) (run_in w₃ g.cutter.edges) (run_in w₃ g.met) → b ≡ false
        → leaves (Ok (record { regions = g; next = placed / 2 + f.points })) oc₂ w₃ ≡ found_of o s c oc w₀

  -- the meetings are found
  pub record AfterMeet (r : NetPlaces) (f : MeetFound) (oc₂ : List Float) (w₂ : List ℕ) : Type 0 where
    pub asks : LinkRoom r f.met (placed / 2 + 1) (length w₂)
    pub points : 2 * (placed / 2 + f.points) ≤ length oc₂
    pub linked : (g : Regions) (w₃ : List ℕ) → (g ≡ regions_by r f.met (placed / 2 + 1)) × (w₃ ≡ linked_by r f.met (placed / 2 + 1) w₂) → AfterLink f oc₂ g w₃

  -- the coordinates are placed, and the nets stand in the working list
  pub record AfterNets (oc₁ : List Float) (r : NetPlaces) (w₁ : List ℕ) : Type 0 where
    pub asks : MeetingsRoom r (length oc₁) (length w₁) placed o.m × CutterIndexed r (take placed oc₁) w₁
    pub met : (a : Result MeetFound Refusal) (oc₂ : List Float) (w₂ : List ℕ)
        → refused_with a ≡ first_refusal o.m (length oc₁ / 2 - placed / 2) 0 0 (joined of_meeting (met_in o.grid r placed oc₁ w₁)) → IfOk a (MetWritten o.grid r placed oc₁ w₁ oc₂ w₂)
        → length oc₂ ≡ length oc₁ → length w₂ ≡ length w₁ → (f : MeetFound) → a ≡ Ok f → AfterMeet r f oc₂ w₂

  -- ---- from stage to stage

  -- 12 for the lent coordinates
  pub twelve : (b : Bool) → b ≡ leb placed (length oc) → not b ≡ true → 12 ≡ first_refusal o.m (length oc / 2) 0 0 (found_events o s c)
  unfolding found_events
  twelve b e t =
      no_place points o.m (length oc / 2) (joined of_meeting scene.met) (crowded scene)
      (omega (arith, leb-false placed (length oc) (sym e ∙ not-true b t), len, fs.even, fc.even)) 0 0

  -- the coordinates that are lent to `nets`
  pub coords_lent : (b₀ : Bool) (oc₁ : List Float) → (b₀ ≡ leb placed (length oc)) × (b₀ ≡ true → oc₁ ≡ front oc (s.coords ++ c.coords)) → not b₀ ≡ false → (length oc₁ ≡ length oc)
      → (placed ≤ length oc₁) × (take placed oc₁ ≡ s.coords ++ c.coords)
  coords_lent b₀ oc₁ pe left same =
      let fits = leb-true placed (length oc) (sym pe.0 ∙ not-false b₀ left) in
      (omega (arith, fits, same), ap (take placed) (pe.1 (not-false b₀ left)) ∙ take_front_of oc (s.coords ++ c.coords) placed len)

  -- the coordinates are placed, and the nets stand in the working list
  module _ (b₀ : Bool) (oc₁ : List Float) (pe : (b₀ ≡ leb placed (length oc)) × (b₀ ≡ true → oc₁ ≡ front oc (s.coords ++ c.coords))) (left : not b₀ ≡ false) (r : NetPlaces) (w₁ : List ℕ)
      (ne : (r ≡ nets_of lines s c) × (w₁ ≡ netted lines s c w₀)) where
    fits : placed ≤ length oc
    fits = leb-true placed (length oc) (sym pe.0 ∙ not-false b₀ left)

    oe : oc₁ ≡ front oc (s.coords ++ c.coords)
    oe = pe.1 (not-false b₀ left)

    re : r ≡ nets_of lines s c
    re = ne.0

    we : w₁ ≡ netted lines s c w₀
    we = ne.1

    length_placed : length oc₁ ≡ length oc
    length_placed = ap length oe ∙ length_front oc (s.coords ++ c.coords) (omega (arith, fits, len))

    length_work : length w₁ ≡ length w₀
    length_work = ap length we ∙ length_held lines s c fs fc w₀ room₀

    asked_of : MeetingsRoom (nets_of lines s c) (length oc₁) (length w₁) placed o.m
    unfolding nets_of
    asked_of =
        let a = subjects_before lines s c fs fc w₀ room₀ in
        let b = cutters_before lines s c fs fc w₀ room₀ in
        record {
          placed_fits = omega (arith, fits, length_placed);
          placed_even = omega (arith, fs.even, fc.even);
          placed_most = omega (arith, fs.even, fc.even, fs.most_nodes, fc.most_nodes);
          subject = record { rises = omega arith; fits = omega (arith, a.0) };
          subject_most = omega (arith, a.1);
          cutter = record { rises = omega arith; fits = omega (arith, b.0) };
          cutter_most = omega (arith, b.1);
          met_fits = omega (arith, ok.room, length_work);
          met_most = ok.most;
        }

    -- what `compute_intersections` asks
    asked : MeetingsRoom r (length oc₁) (length w₁) placed o.m
    asked = rw re asked_of

    -- the edges and the index of the cutter's, as they are read
    subjects_read : run_in w₁ (nets_of lines s c).subject.edges ≡ flat_edges subjects
    unfolding nets_of
    subjects_read =
        ap (λ (w : List ℕ). run_in w (nets_of lines s c).subject.edges) we ∙ run_long (netted lines s c w₀) (subject_at s c) (2 * length subjects)
        ∙ subjects_held lines s c fs fc w₀ room₀

    cutters_read : run_in w₁ (nets_of lines s c).cutter.edges ≡ flat_edges cutters
    unfolding nets_of
    cutters_read =
        ap (λ (w : List ℕ). run_in w (nets_of lines s c).cutter.edges) we ∙ run_long (netted lines s c w₀) (cond lines (length c.coords / 2) (cutter_at s c)) (2 * length cutters)
        ∙ cutters_held lines s c fs fc w₀ room₀

    coords_read : take placed oc₁ ≡ s.coords ++ c.coords
    coords_read = ap (take placed) oe ∙ take_front_of oc (s.coords ++ c.coords) placed len

    indexed_of : CutterIndexed (nets_of lines s c) (take placed oc₁) w₁
    unfolding nets_of
    indexed_of =
        record {
          index = record { rises = omega arith; fits = index_fits_lem lines s c fs fc w₀ room₀ };
          indexed =
              let w = netted lines s c w₀ in
              rw (coords_read, we, run_long w (cond lines (length c.coords / 2) (cutter_at s c)) (2 * length cutters), run_long w (index_at s c) (index_size (length cutters)))
              (cutters_indexed lines s c fs fc w₀ room₀);
        }

    indexed : CutterIndexed r (take placed oc₁) w₁
    indexed = rw re indexed_of

    abbrev found : List Met
    found = met_in o.grid r placed oc₁ w₁

    met_are : found ≡ scene.met
    unfolding scene_of
    met_are =
        ap (λ (x : NetPlaces). met_in o.grid x placed oc₁ w₁) re
        ∙ ap₂ (λ (es fs : List ℕ). meetings_of o.grid (take placed oc₁) es fs) subjects_read cutters_read
        ∙ ap (λ (l : List Float). meetings_of o.grid l (flat_edges subjects) (flat_edges cutters)) coords_read
        ∙ ap₂ (λ (es fs : List Edge). meetings o.grid (s.coords ++ c.coords) (net_on es) (net_on fs)) (pairs_ends subjects) (pairs_ends cutters)
        ∙ sym (by_edges o.grid (s.coords ++ c.coords) (subject_net s) (cutter_net lines s c))

    points_fit : points ≤ length oc / 2
    points_fit = omega (arith, fits, len)

    -- the meetings are found
    module _ (a : Result MeetFound Refusal) (oc₂ : List Float) (w₂ : List ℕ) (code_met : refused_with a ≡ first_refusal o.m (length oc₁ / 2 - placed / 2) 0 0 (joined of_meeting found))
        (written : IfOk a (MetWritten o.grid r placed oc₁ w₁ oc₂ w₂)) (lo : length oc₂ ≡ length oc₁) (lw : length w₂ ≡ length w₁) where
      code_is : refused_with a ≡ first_refusal o.m (length oc / 2 - points) 0 0 (joined of_meeting scene.met)
      code_is =
          code_met ∙ ap₂ (λ (k : ℕ) (ms : List Met). first_refusal o.m k 0 0 (joined of_meeting ms)) (ap₂ (λ (i j : ℕ). i / 2 - j / 2) length_placed (sym len)) met_are

      length_coords : length oc₂ ≡ length oc
      length_coords = lo ∙ length_placed

      -- 8, and 12 for a new point
      pub met_stop : (e : Refusal) → a ≡ Err e → number e ≡ first_refusal o.m (length oc / 2) 0 0 (found_events o s c)
      unfolding found_events
      met_stop e i =
          met_refused points o.m (length oc / 2) (joined of_meeting scene.met) (crowded scene) points_fit (number e) (some_not_zero e) 0 0 (sym (ap refused_with i) ∙ code_is)

      module _ (f : MeetFound) (i : a ≡ Ok f) where
        z : refused_with a ≡ 0
        z = ap refused_with i

        all : MetWritten o.grid r placed oc₁ w₁ oc₂ w₂ f
        all = rw i at written

        count : f.met ≡ length scene.met
        count = ap (λ (x : MeetFound). x.met) all.found ∙ ap length met_are

        -- so have the new points
        points_in : 2 * (placed / 2 + f.points) ≤ length oc₂
        unfolding put front
        points_in =
            let xs : List Float = added_by found in
            let behind : List Float = xs ++ drop (length xs) (drop placed oc₁) in
            omega (
              arith,
              ap length all.coords,
              length-append (take placed oc₁) behind,
              length-append xs (drop (length xs) (drop placed oc₁)),
              length-take-le placed oc₁ (omega (arith, fits, length_placed)),
              ap (λ (x : MeetFound). x.points) all.found,
              fs.even,
              fc.even,
            )

        -- the meetings have their places
        few : length scene.met ≤ o.m
        few = few_met scene.met o.m (length oc / 2 - points) 0 0 (sym code_is ∙ z)

        link_asked_of : (h : ℕ) → h ≡ placed / 2 + 1 → LinkRoom (nets_of lines s c) (length scene.met) h (length w₀)
        unfolding nets_of
        link_asked_of h e =
            record {
              subject = record { rises = omega arith; fits = omega (arith, (subjects_before lines s c fs fc w₀ room₀).0) };
              cutter = record { rises = omega arith; fits = omega (arith, (cutters_before lines s c fs fc w₀ room₀).0) };
              links_fit = omega (arith, e, ok.room, few, fs.even, fc.even);
              some = omega (arith, e);
              few = omega (arith, few, ok.most);
            }

        -- what `link` asks
        link_asked : (h : ℕ) → h ≡ placed / 2 + 1 → LinkRoom r f.met h (length w₂)
        link_asked h e = rw (re, count, lw, length_work) (link_asked_of h e)

        -- the meetings, and nothing behind them yet
        work_then : w₂ ≡ with o s c fs fc w₀ room₀ []
        unfolding nets_of
        work_then =
            all.work ∙ ap₂ (λ (w : List ℕ) (ms : List Met). put w r.behind (in_numbers ms)) we met_are
            ∙ ap (λ (x : NetPlaces). put (netted lines s c w₀) x.behind (in_numbers scene.met)) re
            ∙ ap (put (netted lines s c w₀) (met_at s c)) (sym (append-nil (in_numbers scene.met)))

        linked_is : linked_by (nets_of lines s c) (length scene.met) (chains s c) (with o s c fs fc w₀ room₀ []) ≡ worked o s c w₀
        unfolding linked_by nets_of worked scene_of
        linked_is =
            let w = with o s c fs fc w₀ room₀ [] in
            let base : met_at s c ≤ length (netted lines s c w₀) = omega (arith, ok.room, length_held lines s c fs fc w₀ room₀) in
            let end : met_at s c + 5 * length scene.met ≡ met_at s c + length (in_numbers scene.met) = omega (arith, length_in_numbers scene.met) in
            let fit : met_at s c + length (in_numbers scene.met) ≤ length (netted lines s c w₀) = omega
            (arith, length_in_numbers scene.met, few, ok.room, length_held lines s c fs fc w₀ room₀) in
            ap₂ (λ (es fs : List ℕ). put w (met_at s c + 5 * length scene.met) (links_of (chains s c) (pairs es) (pairs fs) (run w (met_at s c) (5 * length scene.met))))
            (run_long w (subject_at s c) (2 * length subjects) ∙ subjects_found o s c fs fc w₀ room₀ [])
            (run_long w (cond lines (length c.coords / 2) (cutter_at s c)) (2 * length cutters) ∙ cutters_found o s c fs fc w₀ room₀ [])
            ∙ ap₂ (λ (es fs : List Edge). put w (met_at s c + 5 * length scene.met) (links_of (chains s c) es fs (run w (met_at s c) (5 * length scene.met))))
            (pairs_ends subjects) (pairs_ends cutters)
            ∙ ap₂ (λ (i : ℕ) (ms : List ℕ). put w i (links_of (chains s c) subjects cutters ms)) end (met_found o s c fs fc w₀ room₀ [])
            ∙ ap (λ (v : List ℕ). put (put (netted lines s c w₀) (met_at s c) v) (met_at s c + length (in_numbers scene.met)) (links_in o s c)) (append-nil (in_numbers scene.met))
            ∙ put_append (netted lines s c w₀) (met_at s c) base (in_numbers scene.met) (links_in o s c) fit

        -- ---- with the links

        module _ (h : ℕ) (he : h ≡ placed / 2 + 1) (g : Regions) (w₃ : List ℕ) (le : (g ≡ regions_by r f.met h) × (w₃ ≡ linked_by r f.met h w₂)) where
          chains_are : h ≡ chains s c
          chains_are = omega (arith, he, fs.even, fc.even)

          regions_are : g ≡ (found_as o s c).regions
          unfolding found_as
          regions_are = le.0 ∙ ap (λ (x : NetPlaces). regions_by x f.met h) re ∙ ap₂ (regions_by (nets_of lines s c)) count chains_are

          work_is : w₃ ≡ worked o s c w₀
          work_is =
              le.1 ∙ ap₂ (λ (x : NetPlaces) (w : List ℕ). linked_by x f.met h w) re work_then
              ∙ ap₂ (λ (i j : ℕ). linked_by (nets_of lines s c) i j (with o s c fs fc w₀ room₀ [])) count chains_are ∙ linked_is

          held : Holds o s c g w₃
          held = rw (regions_are, work_is) (worked_holds o s c fs fc w₀ room₀ ok.room few ok.most)

          -- what `crowded` asks
          crowded_asks : LinkedIn w₃ g
          crowded_asks = holds_linked o s c g w₃ held

          module _ (b : Bool) (be : b ≡ both_full (run_in w₃ g.subject.edges) (run_in w₃ g.cutter.edges) (run_in w₃ g.met)) where
            b_is : b ≡ crowded scene
            unfolding scene_of
            b_is =
                be ∙ ap₂ (λ (x y : List ℕ). both_full x y (run_in w₃ g.met)) held.subject_edges_lem held.cutter_edges_lem
                ∙ ap (both_full (flat_edges subjects) (flat_edges cutters)) held.met ∙ crowded_is

            end_code : cond b 9 0 ≡ first_refusal o.m (length oc / 2) 0 0 (found_events o s c)
            unfolding found_events
            end_code =
                ap (λ (t : Bool). cond t 9 0) b_is
                ∙ met_all points o.m (length oc / 2) (joined of_meeting scene.met) (crowded scene) points_fit (early_met scene.met) 0 0 (sym z ∙ code_is)

            -- 9
            pub nine_stop : b ≡ true → 9 ≡ first_refusal o.m (length oc / 2) 0 0 (found_events o s c)
            nine_stop t = sym (ap (λ (u : Bool). cond u 9 0) t) ∙ end_code

            -- none
            all_found : b ≡ false → leaves (Ok (record { regions = g; next = placed / 2 + f.points })) oc₂ w₃ ≡ found_of o s c oc w₀
            unfolding found_as scene_of
            all_found e =
                let half : placed / 2 + f.points ≡ length (s.coords ++ c.coords ++ added_by scene.met) / 2 =
                omega (
                  arith,
                  ap (λ (x : MeetFound). x.points) all.found,
                  ap (λ (ms : List Met). length (added_by ms)) met_are,
                  len,
                  length-append (s.coords ++ c.coords) (added_by scene.met),
                  fs.even,
                  fc.even,
                ) in
                let coords : oc₂ ≡ front oc scene.coords =
                all.coords ∙ ap₂ (λ (l : List Float) (ms : List Met). put l placed (added_by ms)) oe met_are
                ∙ put_front placed oc (s.coords ++ c.coords) (added_by scene.met) len fits in
                ap₂ (λ (x : Regions) (i : ℕ). leaves (Ok (record { regions = x; next = i })) oc₂ w₃) regions_are half
                ∙ ap₂ (leaves (Ok (found_as o s c))) coords work_is
                ∙ sym (all_left o s c oc w₀ (sym end_code ∙ ap (λ (u : Bool). cond u 9 0) e))

    pub after_nets : AfterNets oc₁ r w₁
    after_nets =
        record {
          asks = (asked, indexed);
          met = λ a oc₂ w₂ code written lo lw f i. record {
            asks = link_asked a oc₂ w₂ code written lo lw f i (placed / 2 + 1) refl;
            points = points_in a oc₂ w₂ code written lo lw f i;
            linked = λ g w₃ le. record {
              asks = crowded_asks a oc₂ w₂ code written lo lw f i (placed / 2 + 1) refl g w₃ le;
              all = λ b be. all_found a oc₂ w₂ code written lo lw f i (placed / 2 + 1) refl g w₃ le b be;
            };
          };
        }

  -- ---- the lists in the end

  module _ (r : Result Found Refusal) (oc' : List Float) (w' : List ℕ) (give : StagesGive o s c oc w₀ oc' w' r) where
    pub kept_all : is_err r ≡ false → leaves (by_number r) oc' w' ≡ found_of o s c oc w₀
    kept_all = go r give
      where
        go : (x : Result Found Refusal) → StagesGive o s c oc w₀ oc' w' x → is_err x ≡ false → leaves (by_number x) oc' w' ≡ found_of o s c oc w₀
        go (Ok f) g z = g
        go (Err e) g z = absurd (true≢false z)

    pub cleared_all : is_err r ≡ true → length oc' ≡ length oc → length w' ≡ length w₀ → (oc'' : List Float) (w'' : List ℕ) → oc'' ≡ fzeros (length oc')
        → w'' ≡ zeros (length w') → leaves (by_number r) oc'' w'' ≡ found_of o s c oc w₀
    cleared_all t lo lw oc'' w'' eo ew = go r give t
      where
        go : (x : Result Found Refusal) → StagesGive o s c oc w₀ oc' w' x → is_err x ≡ true → leaves (by_number x) oc'' w'' ≡ found_of o s c oc w₀
        go (Ok f) g z = absurd (true≢false (sym z))
        go (Err e) g z =
            ap₂ (leaves (Err (number e))) (eo ∙ ap fzeros lo) (ew ∙ ap zeros lw) ∙ ap (λ (k : ℕ). refused_lists k oc w₀) g
            ∙ sym (zeros_left o s c oc w₀ (λ y. some_not_zero e (g ∙ y)))
