-- What the working list holds where nothing is refused: both nets, the meetings, and what is put behind these. Assumes nothing.
use mathlib.Core.Path.{◌≡◌, refl, sym, ap, ◌∙◌}
use mathlib.Core.Bool.{Bool, false, cond}
use mathlib.Core.List.{List, ◌++◌, append_assoc}
use Prim.Native.Nat.{ℕ, ◌+◌, ◌*◌, ◌≤◌}
use native.Mathlib.Omega.{arith}
use lib.Dec.{eqb}
use lib.ListN.{length, take, drop, length-append}
use lib.Seq.{take_at, drop_at, drop-drop}
use Rattle.lists.specs.Regions.{run, front, put}
use Rattle.lists.proofs.Regions.{length_put, drop_put, run_before}
use Rattle.cutting.specs.Lent.{flat_edges}
use Rattle.cutting.proofs.Pairs.{pairs_ends}
use Rattle.settings.specs.declared.Settings.{Settings}
use Rattle.entry.specs.Mesh.{Mesh, node_count}
use Rattle.rules.specs.Neighbours.{subject_net, cutter_net}
use Rattle.rules.specs.Meetings.{Met, scene_of}
use Rattle.rules.specs.Operations.{scene_for}
use Rattle.regions.specs.declared.Regions.{Regions}
use Rattle.regions.specs.Runs.{run_in, Lies}
use Rattle.edge_nodes.proofs.Linked.{linked, length_links}
use Rattle.meetings.specs.InNumbers.{in_numbers}
use Rattle.meetings.proofs.Reading.{length_in_numbers}
use Rattle.finding.specs.Nets.{Fit, NetRoom, cutter_entries, copied_at, subject_at, cutter_at, met_at, nets_of, netted}
use Rattle.regions.proofs.Parts.{run_long}
use Rattle.finding.specs.Found.{chains, regions_by, found_as, links_in, worked, LinkedIn}
use Rattle.finding.proofs.Whole.{subjects_before, cutters_before}
use Rattle.finding.proofs.Netted.{length_held, entries_held, copied_held, subjects_held, cutters_held}

-- ---- two lists in one region

module _ (w : List ℕ) (b : ℕ) (hb : b ≤ length w) (xs ys : List ℕ) where
  opened : drop b (put w b (xs ++ ys)) ≡ xs ++ (ys ++ drop (length (xs ++ ys)) (drop b w))
  unfolding front
  opened = drop_put w b hb (xs ++ ys) ∙ append_assoc xs ys (drop (length (xs ++ ys)) (drop b w))

  pub run_first : (n : ℕ) → length xs ≡ n → run (put w b (xs ++ ys)) b n ≡ xs
  unfolding run
  run_first n l = ap (take n) opened ∙ take_at xs (ys ++ drop (length (xs ++ ys)) (drop b w)) n l

  pub run_second : (n k : ℕ) → length xs ≡ n → length ys ≡ k → run (put w b (xs ++ ys)) (b + n) k ≡ ys
  unfolding run
  run_second n k l m =
      let rest : List ℕ = drop (length (xs ++ ys)) (drop b w) in
      ap (take k) (sym (drop-drop n b (put w b (xs ++ ys))) ∙ ap (drop n) opened ∙ drop_at xs (ys ++ rest) n l) ∙ take_at ys rest k m

-- ---- what the regions hold

-- both nets, the meetings and their links stand in w where g says
pub record Holds (o : Settings) (s c : Mesh) (g : Regions) (w : List ℕ) : Type 0 where
  pub lies : Lies g (length w)
  pub subject_edges_lem : run_in w g.subject.edges ≡ flat_edges (scene_for o s c).subject.edges
  pub subject_entries_lem : run_in w g.subject.entries ≡ s.nodes
  pub cutter_edges_lem : run_in w g.cutter.edges ≡ flat_edges (scene_for o s c).cutter.edges
  pub cutter_entries_lem : run_in w g.cutter.entries ≡ cutter_entries s c
  pub met : run_in w g.met ≡ in_numbers (scene_for o s c).met
  pub links : run_in w g.links ≡ links_in o s c
  pub few : length (scene_for o s c).met ≤ 65536

-- then the links are those of the meetings, between edges as they are read
pub holds_linked : (o : Settings) (s c : Mesh) (g : Regions) (w : List ℕ) → Holds o s c g w → LinkedIn w g
holds_linked o s c g w h =
    let es = (scene_for o s c).subject.edges in
    let fs = (scene_for o s c).cutter.edges in
    let ms = (scene_for o s c).met in
    record {
      lies = h.lies;
      linked = rw (h.subject_edges_lem, h.cutter_edges_lem, h.met, h.links, pairs_ends es, pairs_ends fs) (linked (chains s c) es fs (in_numbers ms) (omega arith));
    }

-- the regions stand before the end of the links, which isn't far, and no mesh has more edges than entries
pub record Low (o : Settings) (s c : Mesh) (g : Regions) : Type 0 where
  pub lies : Lies g g.links.end
  pub end : g.links.end ≤ 3 * (node_count s + node_count c) + 3 * (length s.nodes + length c.nodes) + 4 * length c.nodes + 7 * o.m + 14
  pub subjects : length (scene_for o s c).subject.edges ≤ length s.nodes
  pub cutters : length (scene_for o s c).cutter.edges ≤ length c.nodes

-- ---- the regions, with zs behind the meetings

module _ (o : Settings) (s c : Mesh) (fs : Fit false s) (fc : Fit (eqb o.op 5) c)
    (w₀ : List ℕ) (room : NetRoom 0 s c (length w₀)) where
  abbrev lines : Bool
  lines = eqb o.op 5

  abbrev met : List Met
  met = (scene_for o s c).met

  base : met_at s c ≤ length (netted lines s c w₀)
  base = omega (arith, room, length_held lines s c fs fc w₀ room)

  abbrev pub with : List ℕ → List ℕ
  with zs = put (netted lines s c w₀) (met_at s c) (in_numbers met ++ zs)

  module _ (zs : List ℕ) where
    before : (a n : ℕ) → a + n ≤ met_at s c → run (with zs) a n ≡ run (netted lines s c w₀) a n
    before a n h = run_before (netted lines s c w₀) (met_at s c) base (in_numbers met ++ zs) a n h

    pub entries_found : run (with zs) (node_count c) (length c.nodes) ≡ cutter_entries s c
    entries_found = before (node_count c) (length c.nodes) (omega arith) ∙ entries_held lines s c fs fc w₀ room

    pub copied_found : run (with zs) (copied_at s c) (length s.nodes) ≡ s.nodes
    copied_found = before (copied_at s c) (length s.nodes) (omega arith) ∙ copied_held lines s c fs fc w₀ room

    pub subjects_found : run (with zs) (subject_at s c) (2 * length (subject_net s).edges) ≡ flat_edges (subject_net s).edges
    subjects_found =
        before (subject_at s c) (2 * length (subject_net s).edges) (omega (arith, (subjects_before lines s c fs fc w₀ room).0))
        ∙ subjects_held lines s c fs fc w₀ room

    pub cutters_found : run (with zs) (cond lines (node_count c) (cutter_at s c)) (2 * length (cutter_net lines s c).edges) ≡ flat_edges (cutter_net lines s c).edges
    cutters_found =
        before (cond lines (node_count c) (cutter_at s c)) (2 * length (cutter_net lines s c).edges) (omega (arith, (cutters_before lines s c fs fc w₀ room).0))
        ∙ cutters_held lines s c fs fc w₀ room

    pub met_found : run (with zs) (met_at s c) (5 * length met) ≡ in_numbers met
    met_found = run_first (netted lines s c w₀) (met_at s c) base (in_numbers met) zs (5 * length met) (length_in_numbers met)

    pub behind_found : run (with zs) (met_at s c + 5 * length met) (length zs) ≡ zs
    behind_found = run_second (netted lines s c w₀) (met_at s c) base (in_numbers met) zs (5 * length met) (length zs) (length_in_numbers met) refl

  links_long : length (links_in o s c) ≡ 2 * (chains s c + length met)
  links_long =
      omega (arith, length_links (chains s c) (scene_for o s c).subject.edges (scene_for o s c).cutter.edges (in_numbers met), length_in_numbers met)

  module _ (more : NetRoom o.m s c (length w₀)) (few : length met ≤ o.m) where
    pub length_worked : length (worked o s c w₀) ≡ length w₀
    unfolding worked
    length_worked =
        let same = length_held lines s c fs fc w₀ room in
        length_put (netted lines s c w₀) (met_at s c) base (in_numbers met ++ links_in o s c)
        (omega (arith, more, few, same, length-append (in_numbers met) (links_in o s c), length_in_numbers met, links_long)) ∙ same

    -- the regions that are found have their places
    pub regions_lie : Lies (found_as o s c).regions (length w₀)
    unfolding found_as regions_by nets_of
    regions_lie =
        let a = (subjects_before lines s c fs fc w₀ room).0 in
        let b = (cutters_before lines s c fs fc w₀ room).0 in
        record {
          subject_edges = record { rises = omega arith; fits = omega (arith, more, a) };
          subject_entries = record { rises = omega arith; fits = omega (arith, more) };
          cutter_edges = record { rises = omega arith; fits = omega (arith, more, b) };
          cutter_entries = record { rises = omega arith; fits = omega (arith, more) };
          met = record { rises = omega arith; fits = omega (arith, more, few) };
          links = record { rises = omega arith; fits = omega (arith, more, few) };
        }

    pub regions_low : Low o s c (found_as o s c).regions
    unfolding found_as regions_by nets_of scene_of
    regions_low =
        let a = subjects_before lines s c fs fc w₀ room in
        let b = cutters_before lines s c fs fc w₀ room in
        record {
          lies = record {
            subject_edges = record { rises = omega arith; fits = omega (arith, a.0) };
            subject_entries = record { rises = omega arith; fits = omega arith };
            cutter_edges = record { rises = omega arith; fits = omega (arith, b.0) };
            cutter_entries = record { rises = omega arith; fits = omega arith };
            met = record { rises = omega arith; fits = omega arith };
            links = record { rises = omega arith; fits = omega arith };
          };
          end = omega (arith, few);
          subjects = a.2;
          cutters = b.2;
        }

    -- and hold what is found
    pub worked_holds : o.m ≤ 65536 → Holds o s c (found_as o s c).regions (worked o s c w₀)
    unfolding found_as regions_by nets_of scene_of worked
    worked_holds most =
        let zs = links_in o s c in
        let w = worked o s c w₀ in
        record {
          lies = rw length_worked regions_lie;
          subject_edges_lem = run_long w (subject_at s c) (2 * length (subject_net s).edges) ∙ subjects_found zs;
          subject_entries_lem = run_long w (copied_at s c) (length s.nodes) ∙ copied_found zs;
          cutter_edges_lem = run_long w (cond lines (node_count c) (cutter_at s c)) (2 * length (cutter_net lines s c).edges) ∙ cutters_found zs;
          cutter_entries_lem = run_long w (node_count c) (length c.nodes) ∙ entries_found zs;
          met = run_long w (met_at s c) (5 * length met) ∙ met_found zs;
          links = run_long w (met_at s c + 5 * length met) (2 * (chains s c + length met)) ∙ ap (run w (met_at s c + 5 * length met)) (sym links_long) ∙ behind_found zs;
          few = omega (arith, few, most);
        }
