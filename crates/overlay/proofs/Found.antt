-- What `find` leaves in the lists is what the cells ask for. Assumes nothing.
use mathlib.Core.Path.{◌≡◌, refl, sym, ap, ◌∙◌, subst}
use mathlib.Core.List.{List, ◌++◌}
use Prim.Native.Nat.{ℕ, ◌+◌, ◌-◌, ◌*◌, ◌/◌, ◌^◌, ◌≤◌, ◌<◌}
use native.Mathlib.Omega.{arith}
use lib.Dec.{eqb}
use lib.ListN.{length, take, drop, length-append}
use lib.Ieee.{Float}
use Rattle.lists.specs.Gather.{joined}
use Rattle.lists.specs.Regions.{front, put}
use Rattle.lists.proofs.Gather.{joined_append}
use Rattle.lists.proofs.Regions.{take_front_of}
use Rattle.segments.specs.declared.Meeting.{Meeting}
use Rattle.segments.specs.declared.Meeting.TheVariants.{Apart, Existing, New, Overlap}
use Rattle.cutting.specs.Edges.{Edge, edge_at}
use Rattle.cutting.specs.Lent.{flat_edges}
use Rattle.settings.specs.declared.Settings.{Settings}
use Rattle.entry.specs.Mesh.{Mesh, node_count}
use Rattle.entry.specs.Passed.{Passed}
use Rattle.entry.specs.Refused.{entry_of}
use Rattle.entry.proofs.Passed.{passed}
use Rattle.grid.specs.Grid.{Grid}
use Rattle.rules.specs.Neighbours.{Net, subject_net, cutter_net}
use Rattle.rules.specs.Meetings.{Met, Scene, added_by, recorded, meetings, scene_of}
use Rattle.rules.specs.Layers.{layers_of}
use Rattle.rules.specs.Operations.{scene_for}
use Rattle.rules.proofs.EdgePairs.{next_node, meetings_keep}
use Rattle.rules.proofs.Lengths.{layers_long}
use Rattle.std.specs.Prelude.{Result, Ok}
use Rattle.refusals.specs.declared.Refusal.{Refusal}
use Rattle.refusals.specs.Numbers.{by_number, refused_with}
use Rattle.finding.specs.declared.stages.Found.{Found}
use Rattle.finding.specs.Nets.{FindAsks}
use Rattle.rules.specs.Refusals.{first_refusal}
use Rattle.finding.specs.Found.{found_as, found_events, found_of}
use Rattle.finding.proofs.Passed.{bare, ready}
use Rattle.finding.proofs.Held.{Holds}
use Rattle.finding.proofs.Settled.{leaves}
use Rattle.finding.proofs.Result.{answer_is, coords_are, work_is, code_is, worked_long, calm, holds, low, met_few}
use Rattle.regions.specs.declared.Indexes.{Indexes}
use Rattle.regions.specs.Runs.{Within, run_in}
use Rattle.meetings.specs.InNumbers.{in_numbers}
use Rattle.meetings.proofs.Reading.{length_in_numbers}
use Rattle.layers.specs.Written.{layers_to}
use Rattle.layers.proofs.Scene.{layers_met}
use Rattle.indexing.specs.Indexes.{indexes, indexes_at, MeshIndexed, Asks}
use Rattle.indexing.proofs.Written.{subject_indexed, cutter_indexed}
use Rattle.cutting_cells.specs.Yields.{MeshesReady}
use Rattle.overlay.specs.Prepared.{MeshesIn, PointRoom, PreparedIn}
use Rattle.overlay.proofs.Stands.{meshes_in, meshes_ready}
use Rattle.overlay.proofs.Indexed.{index_asks, holds_after}

-- ---- new points take two numbers each

abbrev Even : List Met → Type 0
Even ms = (k : ℕ) × (length (added_by ms) ≡ 2 * k) × (k ≤ length ms)

even_one : (i j next : ℕ) (e f : Edge) (x : Meeting) → Even (recorded i j next e f x)
unfolding joined
even_one i j next e f Apart = (0, refl, omega arith)
even_one i j next e f (Existing p) = (0, refl, omega arith)
even_one i j next e f (New x y) = (1, refl, omega arith)
even_one i j next e f (Overlap p q) = (0, refl, omega arith)

even_append : (ms ns : List Met) → Even ms → Even ns → Even (ms ++ ns)
even_append ms ns a b = (
  a.0 + b.0,
  omega (arith, a.1, b.1, ap length (joined_append (λ (m : Met). m.point) ms ns), length-append (added_by ms) (added_by ns)),
  omega (arith, a.2, b.2, length-append ms ns),
)

even_met : (g : Grid) (coords : List Float) (s c : Net) → Even (meetings g coords s c)
unfolding joined
even_met g coords s c =
    meetings_keep g coords s c Even (0, refl, omega arith) (λ i j ms r k e a. even_append ms _ a (even_one i j (next_node g coords s c ms) (edge_at s.edges i) (edge_at c.edges j) r))

-- ---- the coordinates of a scene

module _ (o : Settings) (s c : Mesh) (es : length s.coords ≡ 2 * node_count s) (ec : length c.coords ≡ 2 * node_count c) where
  -- two for each node, and for each meeting with a new point
  coords_long : (k : ℕ) × (length (scene_for o s c).coords ≡ 2 * (node_count s + node_count c + k)) × (k ≤ length (scene_for o s c).met)
  unfolding scene_of
  coords_long =
      let ms : List Met = meetings o.grid (s.coords ++ c.coords) (subject_net s) (cutter_net (eqb o.op 5) s c) in
      let k = even_met o.grid (s.coords ++ c.coords) (subject_net s) (cutter_net (eqb o.op 5) s c) in
      (k.0, omega (arith, es, ec, k.1, length-append (s.coords ++ c.coords) (added_by ms), length-append s.coords c.coords), k.2)

-- ---- what `find` leaves

module _ (o : Settings) (s c : Mesh) (w₀ : List ℕ) (ok : Passed o s c (length w₀)) (oc oc' : List Float) (w' : List ℕ) (r : Result Found Refusal)
    (told : leaves (by_number r) oc' w' ≡ found_of o (bare s) (bare c) oc w₀) (x : Found) (z : r ≡ Ok x) where
  abbrev sc : Scene
  sc = scene_for o s c

  abbrev asks : FindAsks o (bare s) (bare c) (length w₀)
  asks = ready o s c (length w₀) ok

  held : Holds o s c x.regions w'
  held = holds o s c w₀ asks oc oc' w' r told x z

  work_long : length w' ≡ length w₀
  work_long =
      ap length (work_is o s c w₀ asks oc oc' w' r told x z) ∙ worked_long o s c (length oc / 2) 0 0 (sym (code_is o s c w₀ asks oc oc' w' r told 0 0) ∙ ap refused_with z) w₀ asks

  placed : oc' ≡ front oc sc.coords
  placed = coords_are o s c w₀ asks oc oc' w' r told x z

  -- the number of the next point
  next_is : x.next ≡ length sc.coords / 2
  unfolding found_as
  next_is = ap (λ (y : Found). y.next) (answer_is o s c w₀ asks oc oc' w' r told x z)

  next_long : length sc.coords ≡ 2 * x.next
  next_long = let k = coords_long o s c ok.subject.even ok.cutter.even in omega (arith, next_is, k.1)

  points_in_lem : 2 * x.next ≤ length oc'
  unfolding front
  points_in_lem = omega (arith, next_long, ap length placed, length-append sc.coords (drop (length sc.coords) oc))

  points : take (2 * x.next) oc' ≡ sc.coords
  points = ap (take (2 * x.next)) placed ∙ take_front_of oc sc.coords (2 * x.next) next_long

  least : (length s.coords + length c.coords) / 2 ≤ x.next
  least = let k = coords_long o s c ok.subject.even ok.cutter.even in omega (arith, next_long, k.1, ok.subject.even, ok.cutter.even)

  most : x.next < 2 ^ 32
  most =
      let k = coords_long o s c ok.subject.even ok.cutter.even in
      let few = met_few o s c (length oc / 2) 0 0 (sym (code_is o s c w₀ asks oc oc' w' r told 0 0) ∙ ap refused_with z) in
      omega (arith, next_long, k.1, k.2, few, ok.most, ok.subject.most_nodes, ok.cutter.most_nodes)

  -- the working list has a place for each new point
  marks : x.next - (length s.coords + length c.coords) / 2 ≤ length w₀
  marks =
      let k = coords_long o s c ok.subject.even ok.cutter.even in
      let few = met_few o s c (length oc / 2) 0 0 (sym (code_is o s c w₀ asks oc oc' w' r told 0 0) ∙ ap refused_with z) in
      omega (arith, next_long, k.1, k.2, few, ok.subject.even, ok.cutter.even, ok.room)

  -- ---- the layers

  -- by what stands in the working list
  abbrev by_list : List ℕ
  by_list = layers_to (length (run_in w' x.regions.met) / 5) s.layers c.layers (run_in w' x.regions.subject.edges) (run_in w' x.regions.met)

  layers_are : entry_of o s c (length w₀) ≡ 0 → by_list ≡ layers_of sc s c
  layers_are entered =
      let count : length (in_numbers sc.met) / 5 ≡ length sc.met = omega (arith, length_in_numbers sc.met) in
      (λ i. layers_to (length (held.met i) / 5) s.layers c.layers (held.subject_edges_lem i) (held.met i))
      ∙ ap (λ (k : ℕ). layers_to k s.layers c.layers (flat_edges sc.subject.edges) (in_numbers sc.met)) count ∙ layers_met o s c (length w₀) entered

  layers_fit : entry_of o s c (length w₀) ≡ 0 → (ol : List ℕ) → PointRoom oc ol → length oc' ≡ length oc → length by_list ≤ length ol
  layers_fit entered ol as_many kept =
      omega (arith, ap length (layers_are entered), layers_long o s c (length w₀) ok, next_long, points_in_lem, as_many, kept)

  -- ---- with the indexes

  index_ready : Asks w' x.regions s.ends c.ends
  index_ready = index_asks o s c x.regions w' (length w₀) ok work_long held (low o s c w₀ asks oc oc' w' r told x z)

  module _ (i : Indexes) (w'' : List ℕ) (built : (i ≡ indexes_at (take (2 * x.next) oc') w' x.regions s.ends c.ends)
      × (w'' ≡ put w' x.regions.links.end (indexes (take (2 * x.next) oc') w' x.regions s.ends c.ends))) where
    held'' : Holds o s c x.regions w''
    held'' =
        subst (λ (v : List ℕ). Holds o s c x.regions v) (sym built.1)
        (holds_after o s c x.regions w' (length w₀) ok work_long held (low o s c w₀ asks oc oc' w' r told x z) (take (2 * x.next) oc'))

    lists_hold : MeshesIn sc o.grid (take (2 * x.next) oc') w'' x.regions s.ends c.ends
    lists_hold = meshes_in o s c x.regions w'' held'' (take (2 * x.next) oc') (sym points)

    lists_ready : MeshesReady o.op (take (2 * x.next) oc') w'' x.regions i s.ends c.ends
    lists_ready =
        meshes_ready o s c x.regions w'' held'' (length w₀) ok (calm o s c w₀ asks oc oc' w' r told x z) (take (2 * x.next) oc') i
        (both (λ (y : Indexes) (v : List ℕ). MeshIndexed (take (2 * x.next) oc') v x.regions.subject s.ends y.subject)
        (subject_indexed (take (2 * x.next) oc') w' x.regions s.ends c.ends index_ready))
        (both (λ (y : Indexes) (v : List ℕ). MeshIndexed (take (2 * x.next) oc') v x.regions.cutter c.ends y.cutter)
        (cutter_indexed (take (2 * x.next) oc') w' x.regions s.ends c.ends index_ready))
      where
        both : (P : Indexes → List ℕ → Type 0) → P (indexes_at (take (2 * x.next) oc') w' x.regions s.ends c.ends)
            (put w' x.regions.links.end (indexes (take (2 * x.next) oc') w' x.regions s.ends c.ends)) → P i w''
        both P h = subst (λ (y : Indexes). P y w'') (sym built.0) (subst (P (indexes_at (take (2 * x.next) oc') w' x.regions s.ends c.ends)) (sym built.1) h)

    held_in : (ol ol' : List ℕ) → ol' ≡ front ol (layers_of sc s c) → length w'' ≡ length w'
        → PreparedIn o s c oc ol oc' ol' w'' (record { next = x.next; regions = x.regions; indexes = i })
    held_in ol ol' layered long =
        record {
          placed = placed;
          layered = layered;
          long = next_long;
          fits = points_in_lem;
          least = least;
          most = most;
          marks = omega (arith, marks, work_long, long);
          stands = lists_hold;
          ready = lists_ready;
        }

-- ---- what `prepare` comes to, where the entry refuses nothing

module _ (o : Settings) (s c : Mesh) (w : List ℕ) (entered : entry_of o s c (length w) ≡ 0) where
  pub find_asked : FindAsks o (bare s) (bare c) (length w)
  find_asked = ready o s c (length w) (passed o s c (length w) entered)

  module _ (oc oc' : List Float) (w' : List ℕ) where
    pub refusal_is : (r : Result Found Refusal) → leaves (by_number r) oc' w' ≡ found_of o (bare s) (bare c) oc w
        → (q n : ℕ) → refused_with r ≡ first_refusal o.m (length oc / 2) q n (found_events o s c)
    refusal_is r told = code_is o s c w find_asked oc oc' w' r told

    module _ (x : Found) (told : leaves (Ok x) oc' w' ≡ found_of o (bare s) (bare c) oc w) where
      abbrev ok : Passed o s c (length w)
      ok = passed o s c (length w) entered

      pub index_asked : Asks w' x.regions s.ends c.ends
      index_asked = index_ready o s c w ok oc oc' w' (Ok x) told x refl

      pub points_fit : 2 * x.next ≤ length oc'
      points_fit = points_in_lem o s c w ok oc oc' w' (Ok x) told x refl

      pub next_most : x.next < 2 ^ 32
      next_most = most o s c w ok oc oc' w' (Ok x) told x refl

      -- the runs that the layers are read from, and room for these
      pub edges_within : Within x.regions.subject.edges (length w')
      edges_within = (held o s c w ok oc oc' w' (Ok x) told x refl).lies.subject_edges

      pub met_within : Within x.regions.met (length w')
      met_within = (held o s c w ok oc oc' w' (Ok x) told x refl).lies.met

      pub layers_asked : (ol es ms : List ℕ) → es ≡ run_in w' x.regions.subject.edges → ms ≡ run_in w' x.regions.met → PointRoom oc ol → length oc' ≡ length oc
          → length (layers_to (length ms / 5) s.layers c.layers es ms) ≤ length ol
      layers_asked ol es ms e f as_many kept = rw (e, f) (layers_fit o s c w ok oc oc' w' (Ok x) told x refl entered ol as_many kept)

      pub prepared : (i : Indexes) (w'' : List ℕ) → (i ≡ indexes_at (take (2 * x.next) oc') w' x.regions s.ends c.ends)
          × (w'' ≡ put w' x.regions.links.end (indexes (take (2 * x.next) oc') w' x.regions s.ends c.ends)) → length w'' ≡ length w'
          → (ol ol' es ms : List ℕ) → es ≡ run_in w' x.regions.subject.edges → ms ≡ run_in w' x.regions.met
          → ol' ≡ front ol (layers_to (length ms / 5) s.layers c.layers es ms)
          → PreparedIn o s c oc ol oc' ol' w'' (record { next = x.next; regions = x.regions; indexes = i })
      prepared i w'' built long ol ol' es ms e f written =
          held_in o s c w ok oc oc' w' (Ok x) told x refl i w'' built ol ol'
          (written ∙ (λ k. front ol (layers_to (length (f k) / 5) s.layers c.layers (e k) (f k)))
          ∙ ap (front ol) (layers_are o s c w ok oc oc' w' (Ok x) told x refl entered)) long
