-- For the next stage: a scene's cell, where its edges and meetings stand in lent lists, and the answer read. Assumes nothing.
use mathlib.Core.Path.{◌≡◌, refl, sym, ap, ap₂, ◌∙◌, subst}
use mathlib.Core.Bool.{true}
use mathlib.Core.List.{List, [], ◌∷◌, map}
use Prim.Native.Nat.{ℕ, suc, ◌+◌, ◌≤◌, ◌<◌}
use native.Mathlib.Omega.{arith}
use lib.ListN.{length, take}
use Rattle.lists.specs.Regions.{front}
use Rattle.lists.proofs.Regions.{take_front}
use Rattle.cutting.specs.Edges.{Edge, edge_at, same_key, ring}
use Rattle.cutting.specs.Cell.{Laid, outline_darts, cell_table}
use Rattle.cutting.specs.declared.Slot.{Slot}
use Rattle.cutting.specs.Edition.{ours}
use Rattle.cutting.specs.Outcome as Outcome
use Rattle.cutting.specs.Outcome.{Outcome, pieces, refusal, cut_outcome, copied_outcome, flat}
use Rattle.rules.specs.Mesh.{Side, other}
use Rattle.rules.specs.SpatialIndex.{box_of, candidates}
use Rattle.rules.specs.Meetings.{Scene, net_of}
use Rattle.rules.specs.Nodes.{sorted_nodes}
use Rattle.rules.specs.Cell.{laid, darts_of, near_edges, treated_by, treated, cell_of, near_of, outcome_of}
use Rattle.edge_nodes.specs.Lent.{nodes_on}
use Rattle.edge_nodes.proofs.Scene.{same_collected}
use Rattle.cells.proofs.Cut.{front_fits}
use Rattle.regions.specs.declared.Regions.{Regions}
use Rattle.regions.specs.Runs.{run_in, mesh_edges}
use Rattle.cells.specs.Cells.{laid_in, outline_in, near_in, table_in, Cut, cut_as, AllFew}

-- ---- refusal 9 passed

-- where few nodes are collected under the keys of some edges, so they are under those of edges that have their keys among these
pub same_keys : (work : List ℕ) (g : Regions) (es : List Edge) → AllFew work g es → (fs : List Edge)
    → ((i : ℕ) → i < length fs → (k : ℕ) × (k < length es) × (same_key (edge_at es k) (edge_at fs i) ≡ true)) → AllFew work g fs
same_keys work g es u fs among i h =
    let k = among i h in
    let v = u k.0 k.1 in
    let same = same_collected (edge_at es k.0) (edge_at fs i) k.2 (mesh_edges work g.subject) (mesh_edges work g.cutter) (run_in work g.met) in
    record { lies = v.lies; linked = v.linked; few = omega (arith, v.few, ap length same) }

-- ---- outline, table and outcome

module _ (sc : Scene) (work : List ℕ) (g : Regions) (same : (e : Edge) → nodes_on sc.grid sc.coords work g e ≡ sorted_nodes sc e) where
  laid_is : laid_in sc.grid sc.coords work g ≡ laid sc
  laid_is = λ t e. record { edge = e; nodes = same e t }

  pub outline_is : (cell : List ℕ) → outline_in sc.grid sc.coords work g cell ≡ darts_of sc cell
  unfolding outline_in darts_of
  outline_is cell = ap (λ (f : Edge → Laid). outline_darts (map f (ring cell))) laid_is

  pub table_is : (es : List Edge) (cell : List ℕ) (j : ℕ) (js : List ℕ) → table_in sc.grid sc.coords work g es (j ∷ js) cell
      ≡ cell_table sc.coords (darts_of sc cell) (near_edges sc es (j ∷ js))
  unfolding table_in near_in
  table_is es cell j js = ap₂ (λ (o : List Edge) (f : Edge → Laid). cell_table sc.coords o (map (λ i. f (edge_at es i)) (j ∷ js))) (outline_is cell) laid_is

-- cell i of mesh w
module _ (sc : Scene) (w : Side) (i : ℕ) where
  abbrev es : List Edge
  es = (net_of sc (other w)).edges

  -- with edges near it it comes to what the rules say of it
  pub cut_is : (work : List ℕ) (g : Regions) → ((e : Edge) → nodes_on sc.grid sc.coords work g e ≡ sorted_nodes sc e) → (fs : List Edge) → fs ≡ (net_of sc (other w)).edges
      → (j : ℕ) (js : List ℕ) → candidates sc.coords (net_of sc (other w)).edges (box_of sc.coords (cell_of sc w i)) ≡ j ∷ js
      → cut_outcome (outline_in sc.grid sc.coords work g (cell_of sc w i)) (table_in sc.grid sc.coords work g fs (j ∷ js) (cell_of sc w i)) ≡ outcome_of sc w i
  unfolding near_of treated
  cut_is work g same fs edges j js found =
      let cell = cell_of sc w i in
      ap (λ (l : List Edge). cut_outcome (outline_in sc.grid sc.coords work g cell) (table_in sc.grid sc.coords work g l (j ∷ js) cell)) edges
      ∙ ap₂ (λ (o : List Edge) (u : List Slot). cut_outcome o u) (outline_is sc work g same cell) (table_is sc work g same es cell j js)
      ∙ ap (λ (l : List ℕ). (treated_by sc w i l).outcome ours) (sym found)

  -- without any it is copied
  pub copied_is : candidates sc.coords (net_of sc (other w)).edges (box_of sc.coords (cell_of sc w i)) ≡ [] → outcome_of sc w i ≡ copied_outcome (cell_of sc w i)
  unfolding near_of treated
  copied_is none = ap (λ (js : List ℕ). (treated_by sc w i js).outcome ours) none

-- ---- the answer read

pub record Read (ps : List (List ℕ)) (x : Cut) : Type 0 where
  pub code : x.answer.code ≡ 0
  pub count : x.answer.pieces ≡ length ps
  pub corners : x.answer.entries ≡ length (flat ps)
  pub nodes_fit_lem : x.answer.entries ≤ length x.corners
  pub stops_fit_lem : x.answer.pieces ≤ length x.stops
  pub nodes : take x.answer.entries x.corners ≡ flat ps
  pub stops : take x.answer.pieces x.stops ≡ Outcome.stops 0 ps

stops_length : (k : ℕ) (ps : List (List ℕ)) → length (Outcome.stops k ps) ≡ length ps
unfolding Outcome.stops
stops_length k [] = refl
stops_length k (c ∷ ps) = ap suc (stops_length (k + length c) ps)

pub read_pieces : (ps : List (List ℕ)) (on os : List ℕ) (x : Cut) → x ≡ cut_as (pieces ps) on os → Read ps x
unfolding cut_as
read_pieces ps on os x e = subst (λ (y : Cut). Read ps y) (sym e) (record {
  code = refl;
  count = refl;
  corners = refl;
  nodes_fit_lem = front_fits on (flat ps);
  stops_fit_lem = omega (arith, front_fits os (Outcome.stops 0 ps), stops_length 0 ps);
  nodes = take_front on (flat ps);
  stops = ap (λ (n : ℕ). take n (front os (Outcome.stops 0 ps))) (sym (stops_length 0 ps)) ∙ take_front os (Outcome.stops 0 ps);
})

pub read_refusal : (k : ℕ) (on os : List ℕ) (x : Cut) → x ≡ cut_as (refusal k) on os → x.answer.code ≡ k
unfolding cut_as
read_refusal k on os x e = ap (λ (y : Cut). y.answer.code) e
