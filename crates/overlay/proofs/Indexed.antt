-- The indexes behind what `find` leaves: there is room for them, and they leave it as it is. Assumes nothing.
use mathlib.Core.Path.{◌≡◌, ap, ◌∙◌}
use mathlib.Core.List.{List, [], ◌∷◌}
use Prim.Native.Nat.{ℕ, zero, suc, ◌+◌, ◌*◌, ◌≤◌, ◌<◌}
use native.Mathlib.Omega.{arith}
use native.Mathlib.Numerals.{add-one}
use lib.ListN.{length, get_or, length-map}
use lib.Ieee.{Float}
use Rattle.cutting.proofs.Pairs.{ends_length}
use Rattle.settings.specs.declared.Settings.{Settings}
use Rattle.entry.specs.Mesh.{Mesh, prior}
use Rattle.entry.specs.Passed.{Sound, Passed}
use Rattle.entry.proofs.Ends.{prior_more}
use Rattle.rules.specs.Snap.{weld}
use Rattle.rules.specs.Operations.{scene_for}
use Rattle.regions.specs.declared.Run.{Run}
use Rattle.regions.specs.declared.Regions.{Regions}
use Rattle.regions.specs.Runs.{Within, run_in}
use Rattle.strips.specs.Things.{thing_count}
use Rattle.strips.proofs.Sizes.{size_low}
use Rattle.indexing.specs.Indexes.{mesh_size, Asks}
use Rattle.indexing.proofs.Written.{after, length_after, kept_after}
use Rattle.finding.proofs.Held.{Holds, Low}

-- ---- how many things there are

-- cells have an entry each at least
prior_grows : (ends : List ℕ) → ((i : ℕ) → i < length ends → prior ends i < get_or ends i 0) → (i : ℕ) → i ≤ length ends → i ≤ prior ends i
prior_grows ends up zero h = omega arith
prior_grows ends up (suc i) h =
    let ih = prior_grows ends up i (omega (arith, h)) in
    omega (arith, ih, up i (omega (arith, h)), prior_more ends i, ap (prior ends) (add-one i))

count_low : (lines : _) (m : Mesh) → Sound lines m → (nodes : List ℕ) → length nodes ≡ length m.nodes → thing_count nodes m.ends ≤ length m.nodes
unfolding thing_count
count_low lines m ok nodes e = go m.ends (prior_grows m.ends ok.rises (length m.ends) (omega arith)) ok.last
  where
    go : (ends : List ℕ) → length ends ≤ prior ends (length ends) → prior ends (length ends) ≡ length m.nodes → thing_count nodes ends ≤ length m.nodes
    go [] h l = omega (arith, e)
    go (x ∷ xs) h l = omega (arith, h, l)

-- ---- room for the indexes of both meshes

module _ (o : Settings) (s c : Mesh) (g : Regions) (w : List ℕ) (n : ℕ) (ok : Passed o s c n) (long : length w ≡ n) (h : Holds o s c g w) (low : Low o s c g) where
  subject_edges_lem : thing_count (run_in w g.subject.edges) [] ≤ length s.nodes
  unfolding thing_count
  subject_edges_lem = omega (arith, ap length h.subject_edges_lem, ends_length (scene_for o s c).subject.edges, low.subjects)

  cutter_edges_lem : thing_count (run_in w g.cutter.edges) [] ≤ length c.nodes
  unfolding thing_count
  cutter_edges_lem = omega (arith, ap length h.cutter_edges_lem, ends_length (scene_for o s c).cutter.edges, low.cutters)

  subject_long : length (run_in w g.subject.entries) ≡ length s.nodes
  subject_long = ap length h.subject_entries_lem

  cutter_long : length (run_in w g.cutter.entries) ≡ length c.nodes
  cutter_long = ap length h.cutter_entries_lem ∙ length-map c.nodes (λ k. get_or (weld s c) k 0)

  subject_cells_lem : thing_count (run_in w g.subject.entries) s.ends ≤ length s.nodes
  subject_cells_lem = count_low _ s ok.subject (run_in w g.subject.entries) subject_long

  cutter_cells_lem : thing_count (run_in w g.cutter.entries) c.ends ≤ length c.nodes
  cutter_cells_lem = count_low _ c ok.cutter (run_in w g.cutter.entries) cutter_long

  subject_size : mesh_size w g.subject s.ends ≤ 8 * length s.nodes + 24
  subject_size =
      omega (arith, subject_edges_lem, subject_cells_lem, size_low (thing_count (run_in w g.subject.edges) []), size_low (thing_count (run_in w g.subject.entries) s.ends))

  cutter_size : mesh_size w g.cutter c.ends ≤ 8 * length c.nodes + 24
  cutter_size =
      omega (arith, cutter_edges_lem, cutter_cells_lem, size_low (thing_count (run_in w g.cutter.edges) []), size_low (thing_count (run_in w g.cutter.entries) c.ends))

  room : g.links.end + (mesh_size w g.subject s.ends + mesh_size w g.cutter c.ends) ≤ length w
  room = omega (arith, low.end, subject_size, cutter_size, ok.room, long)

  pub index_asks : Asks w g s.ends c.ends
  index_asks =
      record {
        subject = record {
          edges = low.lies.subject_edges;
          entries = low.lies.subject_entries;
          rising = λ i l. (omega (arith, ok.subject.rises i l), omega (arith, ok.subject.within i l, subject_long));
          few_edges = omega (arith, subject_edges_lem, ok.subject.most_entries);
          few_cells = omega (arith, subject_cells_lem, ok.subject.most_entries);
          room = omega (arith, room);
        };
        cutter = record {
          edges = low.lies.cutter_edges;
          entries = low.lies.cutter_entries;
          rising = λ i l. (omega (arith, ok.cutter.rises i l), omega (arith, ok.cutter.within i l, cutter_long));
          few_edges = omega (arith, cutter_edges_lem, ok.cutter.most_entries);
          few_cells = omega (arith, cutter_cells_lem, ok.cutter.most_entries);
          room = omega (arith, room);
        };
        room = room;
      }

  -- what the regions hold they hold with the indexes too
  pub holds_after : (coords : List Float) → Holds o s c g (after coords w g s.ends c.ends index_asks)
  holds_after coords =
      let kept : (r : Run) → Within r g.links.end → run_in (after coords w g s.ends c.ends index_asks) r ≡ run_in w r =
      kept_after coords w g s.ends c.ends index_asks in
      record {
        lies = rw (length_after coords w g s.ends c.ends index_asks) h.lies;
        subject_edges_lem = kept g.subject.edges low.lies.subject_edges ∙ h.subject_edges_lem;
        subject_entries_lem = kept g.subject.entries low.lies.subject_entries ∙ h.subject_entries_lem;
        cutter_edges_lem = kept g.cutter.edges low.lies.cutter_edges ∙ h.cutter_edges_lem;
        cutter_entries_lem = kept g.cutter.entries low.lies.cutter_entries ∙ h.cutter_entries_lem;
        met = kept g.met low.lies.met ∙ h.met;
        links = kept g.links low.lies.links ∙ h.links;
        few = h.few;
      }
