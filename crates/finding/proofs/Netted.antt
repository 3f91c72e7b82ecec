-- The nets with the index of the cutter's edges: what the regions hold. Assumes nothing.
use mathlib.Core.Path.{◌≡◌, sym, ap, ap₂, ◌∙◌}
use mathlib.Core.Bool.{Bool, false, cond}
use mathlib.Core.List.{List, [], ◌++◌}
use Prim.Native.Nat.{ℕ, ◌+◌, ◌*◌, ◌≤◌}
use native.Mathlib.Omega.{arith}
use lib.ListN.{length}
use lib.Ieee.{Float}
use Rattle.lists.specs.Regions.{run, put}
use Rattle.lists.proofs.Regions.{length_put, run_before, run_put}
use Rattle.cutting.specs.Edges.{Edge}
use Rattle.cutting.specs.Lent.{flat_edges}
use Rattle.cutting.proofs.Pairs.{ends_length}
use Rattle.entry.specs.Mesh.{Mesh, node_count}
use Rattle.rules.specs.Neighbours.{subject_net, cutter_net}
use Rattle.strips.specs.Things.{thing_count}
use Rattle.strips.specs.Index.{index_size, index_of, Indexed}
use Rattle.strips.proofs.Sizes.{size_low}
use Rattle.strips.proofs.IndexAt.{length_index}
use Rattle.finding.specs.declared.numbering.NetPlaces.{NetPlaces}
use Rattle.regions.specs.declared.Run.{Run}
use Rattle.regions.specs.Runs.{Within, run_in}
use Rattle.regions.proofs.Parts.{run_long}
use Rattle.indexing.specs.Indexes.{RunAsks}
use Rattle.indexing.proofs.Written.{Built}
use Rattle.finding.specs.Nets.{Fit, NetRoom, cutter_entries, copied_at, subject_at, cutter_at, index_at, met_at, between, edges_of, nets_of, edged, netted}
use Rattle.finding.proofs.Whole.{length_edged, entries_edged, copied_edged, subjects_edged, cutters_edged, subjects_before, cutters_before}

module _ (lines : Bool) (s c : Mesh) (fs : Fit false s) (fc : Fit lines c) (w₀ : List ℕ)
    (room : NetRoom 0 s c (length w₀)) where
  abbrev subjects : List Edge
  subjects = (subject_net s).edges

  abbrev cutters : List Edge
  cutters = (cutter_net lines s c).edges

  abbrev ix : List ℕ
  ix = index_of (s.coords ++ c.coords) (flat_edges cutters) []

  things : thing_count (flat_edges cutters) [] ≡ length cutters
  unfolding thing_count
  things = omega (arith, ends_length cutters)

  index_long : length ix ≡ index_size (length cutters)
  index_long = length_index (s.coords ++ c.coords) (flat_edges cutters) [] ∙ ap index_size things

  -- it has its place before the meetings
  pub index_fits_lem : index_at s c + index_size (length cutters) ≤ met_at s c
  index_fits_lem = omega (arith, size_low (length cutters), (cutters_before lines s c fs fc w₀ room).2)

  at_work : index_at s c ≤ length (edged lines s c w₀)
  at_work = omega (arith, room, length_edged lines s c fs fc w₀ room)

  pub length_held : length (netted lines s c w₀) ≡ length w₀
  unfolding netted
  length_held =
      let same = length_edged lines s c fs fc w₀ room in
      length_put (edged lines s c w₀) (index_at s c) at_work ix (omega (arith, index_long, index_fits_lem, room, same)) ∙ same

  before : (a n : ℕ) → a + n ≤ index_at s c → run (netted lines s c w₀) a n ≡ run (edged lines s c w₀) a n
  unfolding netted
  before a n h = run_before (edged lines s c w₀) (index_at s c) at_work ix a n h

  pub entries_held : run (netted lines s c w₀) (node_count c) (length c.nodes) ≡ cutter_entries s c
  entries_held = before (node_count c) (length c.nodes) (omega arith) ∙ entries_edged lines s c fs fc w₀ room

  pub copied_held : run (netted lines s c w₀) (copied_at s c) (length s.nodes) ≡ s.nodes
  copied_held = before (copied_at s c) (length s.nodes) (omega arith) ∙ copied_edged lines s c fs fc w₀ room

  pub subjects_held : run (netted lines s c w₀) (subject_at s c) (2 * length subjects) ≡ flat_edges subjects
  subjects_held =
      before (subject_at s c) (2 * length subjects) (subjects_before lines s c fs fc w₀ room).0 ∙ subjects_edged lines s c fs fc w₀ room

  pub cutters_held : run (netted lines s c w₀) (cond lines (node_count c) (cutter_at s c)) (2 * length cutters) ≡ flat_edges cutters
  cutters_held =
      before (cond lines (node_count c) (cutter_at s c)) (2 * length cutters) (cutters_before lines s c fs fc w₀ room).0
      ∙ cutters_edged lines s c fs fc w₀ room

  index_held : run (netted lines s c w₀) (index_at s c) (index_size (length cutters)) ≡ ix
  unfolding netted
  index_held = run_put (edged lines s c w₀) (index_at s c) at_work ix (index_size (length cutters)) index_long

  -- it is the index of the cutter's edges as they stand there
  pub cutters_indexed : Indexed (s.coords ++ c.coords) (run (netted lines s c w₀) (cond lines (node_count c) (cutter_at s c)) (2 * length cutters)) []
      (run (netted lines s c w₀) (index_at s c) (index_size (length cutters)))
  cutters_indexed =
      record {
        rising = λ i h. absurd (omega (arith, h));
        few = omega (arith, ap (λ (l : List ℕ). thing_count l []) cutters_held, things, (cutters_before lines s c fs fc w₀ room).1);
        is = index_held ∙ ap (λ (l : List ℕ). index_of (s.coords ++ c.coords) l []) (sym cutters_held);
      }

  -- ---- `nets`

  module _ (r : NetPlaces) (w₁ : List ℕ) (got : (r ≡ edges_of lines s c) × (w₁ ≡ edged lines s c w₀)) where
    lent : run_in w₁ r.cutter.edges ≡ flat_edges cutters
    unfolding edges_of
    lent =
        ap₂ (λ (w : List ℕ) (x : NetPlaces). run_in w x.cutter.edges) got.1 got.0
        ∙ run_long (edged lines s c w₀) (cond lines (node_count c) (cutter_at s c)) (2 * length cutters) ∙ cutters_edged lines s c fs fc w₀ room

    count_lent : thing_count (run_in w₁ r.cutter.edges) [] ≡ length cutters
    count_lent = ap (λ (l : List ℕ). thing_count l []) lent ∙ things

    from_is : r.index.from ≡ index_at s c
    unfolding edges_of
    from_is = ap (λ (x : NetPlaces). x.index.from) got.0

    before_index : Within r.cutter.edges r.index.from
    unfolding edges_of
    before_index = rw got.0 (record { rises = omega arith; fits = (cutters_before lines s c fs fc w₀ room).0 })

    -- what `index_run` asks
    pub index_asked : RunAsks w₁ r.cutter.edges [] r.index.from
    index_asked =
        record {
          lies = before_index;
          rising = λ i h. absurd (omega (arith, h));
          few = omega (arith, count_lent, (cutters_before lines s c fs fc w₀ room).1);
          room = omega (arith, ap index_size count_lent, from_is, index_fits_lem, room, ap length got.1, length_edged lines s c fs fc w₀ room);
        }

    pub nets_end : (coords : List Float) → coords ≡ s.coords ++ c.coords → (x : Run) (w₂ : List ℕ) → Built coords w₁ r.cutter.edges [] r.index.from x w₂
        → (record { subject = r.subject; cutter = r.cutter; index = x; behind = r.behind } ≡ nets_of lines s c) × (w₂ ≡ netted lines s c w₀)
    unfolding edges_of nets_of netted
    nets_end coords is x w₂ made =
        let size : length (index_of coords (run_in w₁ r.cutter.edges) []) ≡ index_size (length cutters) =
        length_index coords (run_in w₁ r.cutter.edges) [] ∙ ap index_size count_lent in
        let x_is : x ≡ between (index_at s c) (index_at s c + index_size (length cutters)) =
        made.0 ∙ ap₂ (λ (a n : ℕ). between a (a + n)) from_is size in (
          (λ i. record { subject = (got.0 i).subject; cutter = (got.0 i).cutter; index = x_is i; behind = (got.0 i).behind }),
          made.1 ∙ (λ i. put (got.1 i) (from_is i) (index_of (is i) (lent i) [])),
        )
