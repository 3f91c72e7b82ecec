-- A cell's own edges, one after the other. Assumes nothing.
use mathlib.Core.Path.{◌≡◌, refl, sym, ap, ◌∙◌, subst}
use mathlib.Core.List.{List, [], ◌∷◌, ◌++◌, map, map-append}
use Prim.Native.Nat.{ℕ, ◌+◌, ◌≤◌, ◌<◌}
use native.Mathlib.Nat.{le_antisymm}
use native.Mathlib.Omega.{arith}
use lib.ListN.{length, get_or, drop}
use lib.Ieee.{Float}
use Rattle.lists.specs.Gather.{gathered, joined}
use Rattle.lists.specs.Sort.{sort_onto, sorted}
use Rattle.lists.proofs.Gather.{each_more}
use Rattle.corners.specs.Corners.{next_corner}
use Rattle.cutting.specs.Edges.{Edge, ring}
use Rattle.cutting.specs.Cell.{Laid, own_darts, outline_darts, edge_slots, reverse_mark, stands_before, cell_table}
use Rattle.std.proofs.Common.{true, false, Result, is_err}
use Rattle.dart_table.specs.declared.Full.{Full}
use Rattle.cutting.specs.Lent.{flat_edges}
use Rattle.dart_table.specs.Table.{Darts, darts, table_in, with_darts, outline_with}
use Rattle.dart_table.proofs.Joins.{none_near, own_turn, own_outline, own_full}
use Rattle.rules.proofs.Rings.{side, sides, ring_each, length_ring, ring_at, sides_next}
use Rattle.edge_nodes.specs.Lent.{nodes_on, Few}
use Rattle.cells.specs.declared.OwnEdges.{OwnEdges}
use Rattle.cells.specs.Cells.{laid_in, outline_in}
use Rattle.cells.specs.Near.{outline_of}

-- after the first i own edges: the outline's entries and the table's slots are theirs
pub record Outlining (o : OwnEdges) (d : Darts) (i : ℕ) : Type 0 where
  pub low : i ≤ length o.cell.now
  pub outlined : d.outline ≡ flat_edges (outline_darts (map (laid_in o.scene.grid o.scene.coords.now o.scene.work.now o.scene.regions) (sides o.cell.now i)))
  pub held : d.slots ≡ sorted (stands_before o.scene.coords.now)
      (edge_slots reverse_mark (outline_darts (map (laid_in o.scene.grid o.scene.coords.now o.scene.work.now o.scene.regions) (sides o.cell.now i))))

module _ (o : OwnEdges) where
  abbrev coords : List Float
  coords = o.scene.coords.now

  abbrev cell : List ℕ
  cell = o.cell.now

  abbrev laid : Edge → Laid
  laid = laid_in o.scene.grid o.scene.coords.now o.scene.work.now o.scene.regions

  pub outline_start : Outlining o (darts [] []) 0
  unfolding sort_onto edge_slots outline_darts flat_edges joined gathered
  outline_start = record { low = omega arith; outlined = refl; held = refl }

  pub few_at : (i : ℕ) → i < length o.cell.now → Few o.scene.work.now o.scene.regions (get_or o.cell.now i 0, next_corner o.cell.now i)
  few_at i h = subst (λ (f : Edge). Few o.scene.work.now o.scene.regions f) (ring_at cell i h) (o.few i (omega (arith, h, length_ring cell)))

  module _ {d : Darts} {i : ℕ} (v : Outlining o d i) where
    abbrev done : List Edge
    done = sides cell i

    abbrev ls : List Laid
    ls = map laid done

    module _ {b : ℕ} (h : i < length o.cell.now) (eb : b ≡ next_corner o.cell.now i) where
      abbrev e : Edge
      e = (get_or cell i 0, b)

      abbrev rest : List Edge
      rest = drop (i + 1) (ring cell)

      e_is : e ≡ side cell i
      e_is = ap (λ (c : ℕ). (get_or cell i 0, c)) eb

      laid_split : ls ++ laid e ∷ map laid rest ≡ map laid (ring cell)
      laid_split = sym (map-append laid done (e ∷ rest)) ∙ ap (map laid) (ap (λ (f : Edge). done ++ f ∷ rest) e_is ∙ sides_next cell i h)

      module _ {ns : List ℕ} (en : ns ≡ nodes_on o.scene.grid o.scene.coords.now o.scene.work.now o.scene.regions (get_or o.cell.now i 0, b)) (r : Result (Unit {0}) Full) (d' : Darts)
          (lent : table_in r d'.slots ≡ with_darts o.scene.coords.now true (own_darts (record { edge = (get_or o.cell.now i 0, b); nodes = ns })) d.slots)
          (laid_lent : d'.outline ≡ outline_with (own_darts (record { edge = (get_or o.cell.now i 0, b); nodes = ns })) (length d.slots) d.outline) where
        got : table_in r d'.slots ≡ with_darts coords true (own_darts (laid e)) d.slots
        got = lent ∙ ap (λ (l : List ℕ). with_darts coords true (own_darts (record { edge = e; nodes = l })) d.slots) en

        put_there : d'.outline ≡ outline_with (own_darts (laid e)) (length d.slots) d.outline
        put_there = laid_lent ∙ ap (λ (l : List ℕ). outline_with (own_darts (record { edge = e; nodes = l })) (length d.slots) d.outline) en

        pub outline_turn : is_err r ≡ false → Outlining o d' (i + 1)
        outline_turn fits =
            let more : map laid (sides cell (i + 1)) ≡ ls ++ laid e ∷ [] =
            ap (map laid) (each_more i (side cell) ∙ ap (λ (f : Edge). done ++ f ∷ []) (sym e_is)) ∙ map-append laid done (e ∷ []) in
            let turn = own_turn coords ls (laid e) d.slots r d'.slots got v.held fits in
            record {
              low = omega arith;
              outlined = own_outline coords ls (laid e) d.slots r d'.slots got v.held d.outline d'.outline fits v.outlined put_there
                  ∙ ap (λ (l : List Laid). flat_edges (outline_darts l)) (sym more);
              held = turn ∙ ap (λ (l : List Laid). sorted (stands_before coords) (edge_slots reverse_mark (outline_darts l))) (sym more);
            }

        -- too many at this edge are too many in all
        pub outline_over : is_err r ≡ true → 1024 < length (cell_table o.scene.coords.now (outline_of o) [])
        unfolding outline_in
        outline_over full =
            omega (
              arith,
              own_full coords ls (laid e) d.slots r d'.slots got v.held (map laid rest) [] full,
              ap (λ (l : List Laid). length (cell_table coords (outline_darts l) [])) laid_split,
            )

    pub outline_end : length o.cell.now ≤ i → (d.slots ≡ cell_table o.scene.coords.now (outline_of o) []) × (d.outline ≡ flat_edges (outline_of o))
    unfolding outline_in
    outline_end past =
        let at : i ≡ length cell = le_antisymm v.low past in
        let all : done ≡ ring cell = ap (sides cell) at ∙ sym (ring_each cell) in (
          v.held ∙ ap (λ (es : List Edge). sorted (stands_before coords) (edge_slots reverse_mark (outline_darts (map laid es)))) all ∙ none_near coords
              (outline_darts (map laid (ring cell))),
          v.outlined ∙ ap (λ (es : List Edge). flat_edges (outline_darts (map laid es))) all,
        )
