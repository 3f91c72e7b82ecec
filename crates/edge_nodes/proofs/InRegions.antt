-- Edges, meetings and links read from regions of the working list, and nodes by an edge or by its key. Assumes nothing.
use mathlib.Core.Path.{◌≡◌, refl, ap, ap₂, subst, ◌∙◌}
use mathlib.Core.List.{List, [], ◌∷◌}
use Prim.Native.Nat.{ℕ, ◌≤◌, min, max}
use native.Mathlib.Omega.{arith}
use lib.ListN.{length}
use lib.Ieee.{Float}
use Rattle.lists.proofs.Search.{both_true}
use Rattle.grid.specs.Grid.{Grid}
use Rattle.cutting.specs.Edges.{Edge, key}
use Rattle.cutting.specs.Lent.{pairs}
use Rattle.rules.specs.Nodes.{along_edge}
use Rattle.regions.specs.declared.Regions.{Regions}
use Rattle.regions.specs.Runs.{run_in}
use Rattle.edge_nodes.specs.Links.{Linked}
use Rattle.edge_nodes.specs.Lent.{collected_in, unless_none, sorted_in, nodes_on, Few}
use Rattle.edge_nodes.proofs.Scene.{same_collected}
use Rattle.lists.specs.Regions.{FrontIs}

key_again : (e : Edge) → key (key e) ≡ key e
key_again e =
    let a : min (min e.0 e.1) (max e.0 e.1) ≡ min e.0 e.1 = omega arith in
    let b : max (min e.0 e.1) (max e.0 e.1) ≡ max e.0 e.1 = omega arith in
    ap₂ (λ (x y : ℕ). (x, y)) a b

module _ (subject cutter : List Edge) (met : List ℕ) (e : Edge) where
  pub key_collected : collected_in subject cutter met (key e) ≡ collected_in subject cutter met e
  key_collected =
      same_collected (key e) e (both_true (key (key e)).0 (key e).0 (key (key e)).1 (key e).1 (ap (λ (x : Edge). x.0) (key_again e)) (ap (λ (x : Edge). x.1) (key_again e)))
      subject cutter met

  pub key_sorted : (grid : Grid) (coords : List Float) → sorted_in grid coords subject cutter met (key e) ≡ sorted_in grid coords subject cutter met e
  unfolding sorted_in
  key_sorted grid coords = ap (unless_none grid coords (key e)) key_collected ∙ go (collected_in subject cutter met e)
    where
      go : (ns : List ℕ) → unless_none grid coords (key e) ns ≡ unless_none grid coords e ns
      go [] = refl
      go (n ∷ ns) = ap (λ (k : Edge). along_edge grid coords k (n ∷ ns)) (key_again e)

module _ (g : Regions) (w : List ℕ) (e k : Edge) (subject cutter met : List ℕ) where
  pub lists_linked : (links : List ℕ) → Few w g e → subject ≡ run_in w g.subject.edges → cutter ≡ run_in w g.cutter.edges → met ≡ run_in w g.met → links ≡ run_in w g.links
      → Linked (pairs subject) (pairs cutter) met links
  lists_linked links h s c m l = rw (s, c, m, l) h.linked

  pub lists_few : Few w g e → subject ≡ run_in w g.subject.edges → cutter ≡ run_in w g.cutter.edges → met ≡ run_in w g.met → k ≡ key e
      → length (collected_in (pairs subject) (pairs cutter) met k) ≤ 256
  lists_few h s c m k-is =
      let same : collected_in (pairs subject) (pairs cutter) met k ≡ collected_in (pairs subject) (pairs cutter) met e =
      ap (collected_in (pairs subject) (pairs cutter) met) k-is ∙ key_collected (pairs subject) (pairs cutter) met e in
      let few : length (collected_in (pairs subject) (pairs cutter) met e) ≤ 256 = rw (s, c, m) h.few in
      omega (arith, ap length same, few)

  pub read_nodes : (grid : Grid) (coords : List Float) (out : List ℕ) (r : ℕ) (out' : List ℕ) → FrontIs (sorted_in grid coords (pairs subject) (pairs cutter) met k) out r out'
      → subject ≡ run_in w g.subject.edges → cutter ≡ run_in w g.cutter.edges → met ≡ run_in w g.met → k ≡ key e → FrontIs (nodes_on grid coords w g e) out r out'
  read_nodes grid coords out r out' h s c m k-is =
      let same : sorted_in grid coords (pairs subject) (pairs cutter) met k ≡ sorted_in grid coords (pairs subject) (pairs cutter) met e =
      ap (sorted_in grid coords (pairs subject) (pairs cutter) met) k-is ∙ key_sorted (pairs subject) (pairs cutter) met e grid coords in
      let here : FrontIs (sorted_in grid coords (pairs subject) (pairs cutter) met e) out r out' = subst (λ (xs : List ℕ). FrontIs xs out r out') same h in
      rw (← s, ← c, ← m) here
