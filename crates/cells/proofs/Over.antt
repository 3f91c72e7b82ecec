-- An outline that has too many darts for the table: whether it repeats, edge by edge. Assumes nothing.
use mathlib.Core.Path.{◌≡◌, refl, sym, ap, ap₂, ◌∙◌, subst}
use mathlib.Core.Bool.{Bool, true, false, ◌||◌}
use mathlib.Core.List.{List, [], ◌∷◌, ◌++◌, map}
use Prim.Native.Nat.{ℕ, zero, suc, ◌+◌, ◌*◌, ◌≤◌, ◌<◌}
use native.Mathlib.Omega.{arith}
use lib.Dec.{eqb}
use lib.ListN.{length, get_or, take, drop, length-append, length-map}
use lib.Ieee.{Float}
use Rattle.std.specs.Prelude.{None, Some}
use Rattle.grid.specs.Grid.{Grid}
use Rattle.cutting.specs.Edges.{Edge, key, ring}
use Rattle.cutting.specs.Cell.{Laid, own_darts, outline_darts, among, repeats}
use Rattle.cutting.specs.Lent.{flat_edges, pairs}
use Rattle.dart_table.proofs.Adds.{darts_length}
use Rattle.cutting.proofs.Pairs.{ends_length, pairs_ends}
use Rattle.outlines.specs.Meets.{edges_meet}
use Rattle.outlines.proofs.Flat.{Holds}
use Rattle.outlines.proofs.Appended.{meets_append, repeats_append}
use Rattle.corners.specs.Corners.{next_corner}
use Rattle.lists.specs.Gather.{passing, joined}
use Rattle.lists.specs.Sort.{sorted}
use Rattle.lists.proofs.Gather.{tally_le, length_passing, length_slim}
use Rattle.lists.proofs.Regions.{take_front_of}
use Rattle.lists.proofs.Sort.{length_sorted}
use Rattle.rules.specs.Nodes.{Projected, projected, by_projection, by_projections, inner_of, before_last, along_edge}
use Rattle.rules.proofs.Rings.{length_ring, ring_from}
use Rattle.edge_nodes.specs.Lent.{collected_on, unless_none, sorted_in, nodes_on, Few}
use Rattle.regions.specs.declared.Regions.{Regions}
use Rattle.cells.specs.declared.OwnEdges.{OwnEdges}
use Rattle.cells.specs.Cells.{laid_in, outline_in}
use Rattle.cells.specs.Near.{outline_of, darts_at, outline_from}
use Rattle.cells.proofs.Own.{few_at}

-- ---- `lay`

projections_long : (coords : List Float) (k : Edge) (ns : List ℕ) → length (by_projections coords k ns) ≡ length ns
projections_long coords k ns =
    let ps = map (projected coords k) ns in
    length-map (sorted by_projection ps) (λ (p : Projected). p.node) ∙ length_sorted by_projection ps ∙ length-map ns (projected coords k)

before_short : (grid : Grid) (coords : List Float) (k : Edge) (ns : List ℕ) → length (before_last grid coords k ns) ≤ length ns + 1
unfolding before_last
before_short None coords k ns = omega (arith, projections_long coords k (k.0 ∷ ns))
before_short (Some i) coords k ns =
    omega (arith, projections_long coords k (passing (inner_of k) ns), length_passing (inner_of k) ns, tally_le (inner_of k) ns)

along_short : (grid : Grid) (coords : List Float) (k : Edge) (ns : List ℕ) → length (along_edge grid coords k ns) ≤ length ns + 2
unfolding along_edge
along_short grid coords k ns =
    let zs = before_last grid coords k ns in
    omega (arith, length_slim eqb (zs ++ k.1 ∷ []), length-append zs (k.1 ∷ []), before_short grid coords k ns)

sorted_short : (grid : Grid) (coords : List Float) (work : List ℕ) (g : Regions) (e : Edge) → length (collected_on work g e) ≤ 256
    → length (nodes_on grid coords work g e) ≤ 258
unfolding sorted_in
sorted_short grid coords work g e h = go (collected_on work g e) h
  where
    go : (ns : List ℕ) → length ns ≤ 256 → length (unless_none grid coords e ns) ≤ 258
    go [] k = omega arith
    go (n ∷ ns) k = omega (arith, along_short grid coords (key e) (n ∷ ns), k)

own_short : (e : Edge) (ns : List ℕ) → length (own_darts (record { edge = e; nodes = ns })) ≤ length ns + 1
unfolding own_darts
own_short e [] = omega (arith, darts_length e.1 (e.0 ∷ e.1 ∷ []) (omega arith))
own_short e (m ∷ ns) = omega (arith, darts_length e.1 (m ∷ ns) (omega arith))

-- the own edge at corner i, by its nodes as they are found
module _ (o : OwnEdges) (i : ℕ) (h : i < length o.cell.now) {b : ℕ} (eb : b ≡ next_corner o.cell.now i) {ns : List ℕ}
    (en : ns ≡ nodes_on o.scene.grid o.scene.coords.now o.scene.work.now o.scene.regions (get_or o.cell.now i 0, b)) where
  pub nodes_few : length ns ≤ 258
  nodes_few =
      let few = subst (λ (c : ℕ). Few o.scene.work.now o.scene.regions (get_or o.cell.now i 0, c)) (sym eb) (few_at o i h) in
      omega (arith, ap length en, sorted_short o.scene.grid o.scene.coords.now o.scene.work.now o.scene.regions (get_or o.cell.now i 0, b) few.few)

  pub laid_fits : (r : ℕ) → r ≡ 2 * length (own_darts (record { edge = (get_or o.cell.now i 0, b); nodes = ns })) → r ≤ 518
  laid_fits r e = omega (arith, own_short (get_or o.cell.now i 0, b) ns, nodes_few)

  pub laid_at : {r : ℕ} (list : List ℕ) {list' : List ℕ} → Holds (own_darts (record { edge = (get_or o.cell.now i 0, b); nodes = ns })) r list list'
      → take r list' ≡ flat_edges (darts_at o i)
  laid_at {r} list {list'} v =
      let own = own_darts (record { edge = (get_or o.cell.now i 0, b); nodes = ns }) in
      ap (take r) v.1 ∙ take_front_of list (flat_edges own) r (ends_length own ∙ sym v.0)
      ∙ ap (λ (l : List ℕ). flat_edges (own_darts (record { edge = (get_or o.cell.now i 0, b); nodes = l }))) en
      ∙ ap (λ (c : ℕ). flat_edges (own_darts (laid_in o.scene.grid o.scene.coords.now o.scene.work.now o.scene.regions (get_or o.cell.now i 0, c)))) eb

-- read back
laid_read : {darts : List Edge} {list : List ℕ} → list ≡ flat_edges darts → pairs list ≡ darts
laid_read {darts} e = ap pairs e ∙ pairs_ends darts

-- ---- `meets_later` and `outline_repeats`: what the edges from one on say is what all say

module _ (o : OwnEdges) where
  abbrev cell : List ℕ
  cell = o.cell.now

  abbrev laid : Edge → Laid
  laid = laid_in o.scene.grid o.scene.coords.now o.scene.work.now o.scene.regions

  pub all_from : outline_from o 0 ≡ outline_of o
  unfolding outline_in outline_from
  all_from = refl

  none_from : (j : ℕ) → length o.cell.now ≤ j → outline_from o j ≡ []
  unfolding outline_from outline_darts joined
  none_from j h = ap (λ (es : List Edge). outline_darts (map laid es)) (drop_past (ring cell) j (omega (arith, h, length_ring cell)))
    where
      drop_past : (es : List Edge) (k : ℕ) → length es ≤ k → drop k es ≡ []
      drop_past [] zero h = refl
      drop_past [] (suc k) h = refl
      drop_past (e ∷ es) zero h = absurd (omega (arith, h))
      drop_past (e ∷ es) (suc k) h = drop_past es k (omega (arith, h))

  module _ (j : ℕ) (h : j < length o.cell.now) where
    from_next : outline_from o j ≡ darts_at o j ++ outline_from o (j + 1)
    unfolding outline_from outline_darts joined
    from_next = ap (λ (es : List Edge). outline_darts (map laid es)) (ring_from cell j h)

    module _ {list : List ℕ} (v : list ≡ flat_edges (darts_at o j)) where
      module _ (ds : List Edge) {t : Bool} (et : t ≡ edges_meet ds (pairs list)) {all : Bool} (inv : edges_meet ds (outline_from o j) ≡ all) where
        both_meet : t || edges_meet ds (outline_from o (j + 1)) ≡ all
        both_meet = ap (λ (x : Bool). x || edges_meet ds (outline_from o (j + 1))) (et ∙ ap (edges_meet ds) (laid_read v))
            ∙ sym (ap (edges_meet ds) from_next ∙ meets_append ds (darts_at o j) (outline_from o (j + 1))) ∙ inv

        pub meets_now : t ≡ true → true ≡ all
        meets_now f = ap (λ (x : Bool). x || edges_meet ds (outline_from o (j + 1))) (sym f) ∙ both_meet

        pub meets_on : t ≡ false → edges_meet ds (outline_from o (j + 1)) ≡ all
        meets_on f = ap (λ (x : Bool). x || edges_meet ds (outline_from o (j + 1))) (sym f) ∙ both_meet

      module _ {t : Bool} (et : t ≡ repeats (pairs list)) {all : Bool} (inv : repeats (outline_from o j) ≡ all) where
        both_repeat : t || edges_meet (darts_at o j) (outline_from o (j + 1)) || repeats (outline_from o (j + 1)) ≡ all
        both_repeat = ap (λ (x : Bool). x || edges_meet (darts_at o j) (outline_from o (j + 1)) || repeats (outline_from o (j + 1))) (et ∙ ap repeats (laid_read v))
            ∙ sym (ap repeats from_next ∙ repeats_append (darts_at o j) (outline_from o (j + 1))) ∙ inv

        pub repeats_now : t ≡ true → true ≡ all
        repeats_now f = ap (λ (x : Bool). x || edges_meet (darts_at o j) (outline_from o (j + 1)) || repeats (outline_from o (j + 1))) (sym f) ∙ both_repeat

        module _ (f : t ≡ false) {u : Bool} (eu : u ≡ edges_meet (pairs list) (outline_from o (j + 1))) where
          later : u || repeats (outline_from o (j + 1)) ≡ all
          later = ap₂ (λ (x y : Bool). x || y || repeats (outline_from o (j + 1))) (sym f)
              (eu ∙ ap (λ (ds : List Edge). edges_meet ds (outline_from o (j + 1))) (laid_read v)) ∙ both_repeat

          pub repeats_later : u ≡ true → true ≡ all
          repeats_later g = ap (λ (x : Bool). x || repeats (outline_from o (j + 1))) (sym g) ∙ later

          pub repeats_on : u ≡ false → repeats (outline_from o (j + 1)) ≡ all
          repeats_on g = ap (λ (x : Bool). x || repeats (outline_from o (j + 1))) (sym g) ∙ later

  pub meets_out : (ds : List Edge) (j : ℕ) {all : Bool} → length o.cell.now ≤ j → edges_meet ds (outline_from o j) ≡ all → false ≡ all
  unfolding edges_meet among
  meets_out ds j h inv = sym (ap (edges_meet ds) (none_from j h) ∙ none ds) ∙ inv
    where
      none : (es : List Edge) → edges_meet es [] ≡ false
      none [] = refl
      none (e ∷ es) = none es

  pub repeats_out : (j : ℕ) {all : Bool} → length o.cell.now ≤ j → repeats (outline_from o j) ≡ all → false ≡ all
  unfolding repeats
  repeats_out j h inv = sym (ap repeats (none_from j h)) ∙ inv
