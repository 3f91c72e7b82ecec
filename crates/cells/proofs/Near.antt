-- The edges near a cell, one after the other. Assumes nothing.
use mathlib.Core.Path.{◌≡◌, refl, sym, ap, ◌∙◌, subst}
use mathlib.Core.List.{List, [], ◌∷◌, ◌++◌, map, append_assoc, map-append}
use Prim.Native.Nat.{ℕ, ◌+◌, ◌≤◌, ◌<◌}
use native.Mathlib.Numerals.{add-one}
use native.Mathlib.Omega.{arith}
use lib.ListN.{length, get_or, take, drop, take-append-drop, length-map}
use lib.Seq.{take-suc, take_all}
use lib.Ieee.{Float}
use Rattle.cutting.specs.Edges.{Edge, edge_at}
use Rattle.cutting.specs.Cell.{Laid, near_darts, cell_table}
use Rattle.std.proofs.Common.{true, false, Result, is_err}
use Rattle.dart_table.specs.declared.Full.{Full}
use Rattle.cutting.specs.declared.Slot.{Slot}
use Rattle.cutting.specs.Lent.{pair_of}
use Rattle.dart_table.specs.Table.{table_in, with_edges}
use Rattle.dart_table.proofs.Joins.{near_turn, near_full}
use Rattle.cutting.proofs.Chunks.{pair_in}
use Rattle.edge_nodes.specs.Lent.{nodes_on, Few}
use Rattle.cells.specs.declared.NearEdges.{NearEdges}
use Rattle.cells.specs.Cells.{laid_in, near_in}
use Rattle.cells.specs.Near.{laid_near}

-- the table holds the edges at the first k places
pub record Nearing (n : NearEdges) (outline : List Edge) (t : List Slot) (k : ℕ) : Type 0 where
  pub within : k ≤ length n.places.now
  pub held : t ≡ cell_table n.scene.coords.now outline (near_in n.scene.grid n.scene.coords.now n.scene.work.now n.scene.regions (map pair_of n.edges.now) (take k n.places.now))

module _ (n : NearEdges) (outline : List Edge) where
  abbrev coords : List Float
  coords = n.scene.coords.now

  abbrev near : List Edge
  near = map pair_of n.edges.now

  abbrev js : List ℕ
  js = n.places.now

  abbrev laid : Edge → Laid
  laid = laid_in n.scene.grid n.scene.coords.now n.scene.work.now n.scene.regions

  abbrev near_by : List ℕ → List Laid
  near_by = near_in n.scene.grid n.scene.coords.now n.scene.work.now n.scene.regions (map pair_of n.edges.now)

  pub near_start : (t : List Slot) → t ≡ cell_table n.scene.coords.now outline [] → Nearing n outline t 0
  unfolding near_in
  near_start t e = record { within = omega arith; held = e }

  module _ {t : List Slot} {k : ℕ} (v : Nearing n outline t k) where
    module _ (h : k < length n.places.now) where
      abbrev j : ℕ
      j = get_or js k 0

      abbrev e : Edge
      e = pair_of (get_or n.edges.now j [])

      pub place_low : get_or n.places.now k 0 < length n.edges.now
      place_low = omega (arith, n.within k h, length-map n.edges.now pair_of)

      at_j : edge_at near j ≡ e
      at_j = pair_in [] refl n.edges.now j

      pub near_few : Few n.scene.work.now n.scene.regions (pair_of (get_or n.edges.now (get_or n.places.now k 0) []))
      near_few = subst (λ (f : Edge). Few n.scene.work.now n.scene.regions f) at_j (n.few j (n.within k h))

      more : near_by (take k js) ++ laid e ∷ [] ≡ near_by (take (k + 1) js)
      unfolding near_in
      more =
          ap (λ (f : Edge). near_by (take k js) ++ laid f ∷ []) (sym at_j)
          ∙ sym (ap near_by (ap (λ (n : ℕ). take n js) (add-one k) ∙ take-suc js k 0 h) ∙ map-append (λ (i : ℕ). laid (edge_at near i)) (take k js) (j ∷ []))

      -- and with the others
      split : near_by (take k js) ++ laid e ∷ near_by (drop (k + 1) js) ≡ near_by js
      unfolding near_in
      split =
          sym (append_assoc (near_by (take k js)) (laid e ∷ []) (near_by (drop (k + 1) js))) ∙ ap (λ (l : List Laid). l ++ near_by (drop (k + 1) js)) more
          ∙ sym (map-append (λ (i : ℕ). laid (edge_at near i)) (take (k + 1) js) (drop (k + 1) js)) ∙ ap near_by (take-append-drop (k + 1) js)

      module _ {ns : List ℕ} (en : ns ≡ nodes_on n.scene.grid n.scene.coords.now n.scene.work.now n.scene.regions
          (pair_of (get_or n.edges.now (get_or n.places.now k 0) []))) (r : Result (Unit {0}) Full) (t' : List Slot)
          (lent : table_in r t' ≡ with_edges n.scene.coords.now
          (near_darts (record { edge = pair_of (get_or n.edges.now (get_or n.places.now k 0) []); nodes = ns })) t) where
        got : table_in r t' ≡ with_edges coords (near_darts (laid e)) t
        got = lent ∙ ap (λ (l : List ℕ). with_edges coords (near_darts (record { edge = e; nodes = l })) t) en

        pub near_step : is_err r ≡ false → Nearing n outline t' (k + 1)
        near_step fits = record {
          within = omega (arith, h);
          held = near_turn coords outline t r t' (near_by (take k js)) (laid e) got v.held fits ∙ ap (cell_table coords outline) more;
        }

        -- too many at this edge are too many in all
        pub near_many : is_err r ≡ true → 1024 < length (cell_table n.scene.coords.now outline (laid_near n))
        near_many full =
            let all : 1024 < length (cell_table coords outline (near_by (take k js) ++ laid e ∷ near_by (drop (k + 1) js))) =
            near_full coords outline t r t' (near_by (take k js)) (laid e) got v.held (near_by (drop (k + 1) js)) full in
            omega (arith, all, ap (λ (l : List Laid). length (cell_table coords outline l)) split)

    pub near_end : length n.places.now ≤ k → t ≡ cell_table n.scene.coords.now outline (laid_near n)
    near_end past = v.held ∙ ap (λ (l : List ℕ). cell_table coords outline (near_by l)) (take_all k js past)
