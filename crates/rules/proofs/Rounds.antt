-- The outline darts of a cell whose edges are all forward lead round: as many into each node as out of it. Assumes nothing.
use mathlib.Core.Path.{◌≡◌, refl, sym, ap, subst}
use mathlib.Core.Bool.{true}
use mathlib.Core.List.{List, [], ◌∷◌, ◌++◌, map}
use Prim.Native.Nat.{ℕ}
use native.Mathlib.Omega.{arith}
use lib.Dec.{eqb}
use borrow.Author.Tests.{eqb-true}
use Rattle.lists.specs.Search.{bit}
use Rattle.lists.specs.Gather.{all, tally, passing, slim_after, slim, joined}
use Rattle.lists.proofs.Gather.{all_both}
use Rattle.lists.proofs.Sort.{sorted_head}
use Rattle.cutting.specs.Edges.{Edge, key, hops, ring}
use Rattle.cutting.specs.Cell.{or_ends, darts_along, own_darts, outline_darts}
use Rattle.cutting.specs.Areas.{Round}
use Rattle.cutting.proofs.Leads.{Leads, leads_on, leads_none, leads_edge, leads_turned, leads_hops, leads_key}
use Rattle.std.specs.Prelude.{None, Some}
use Rattle.grid.specs.Grid.{Grid}
use Rattle.rules.specs.Meetings.{Scene}
use Rattle.rules.specs.Nodes.{Projected, projected, by_projection, by_projections, inner_of, before_last, along_edge, collected, unless_none, sorted_nodes}
use Rattle.rules.specs.Cell.{laid, darts_of}
use Rattle.rules.specs.Forward.{forward_on, forward_edge}

-- ---- the darts of a forward edge lead from its first node to its second

-- a key's sorted nodes: its first node, others, and its second, adjacent equals dropped
record Begins (k : Edge) (ns : List ℕ) : Type 0 where
  inner : List ℕ
  are : ns ≡ k.0 ∷ slim_after eqb k.0 (inner ++ k.1 ∷ [])

along_begins : (g : Grid) (sc : Scene) (e : Edge) → forward_on g sc e ≡ true → Begins (key e) (along_edge g sc.coords (key e) (collected sc e))
unfolding forward_on along_edge before_last slim
along_begins (Some i) sc e h = record { inner = by_projections sc.coords (key e) (passing (inner_of (key e)) (collected sc e)); are = refl }
along_begins None sc e h =
    let k : Edge = key e in
    record {
      inner = by_projections sc.coords k (collected sc e);
      are = ap (λ (l : List Projected). slim eqb (map (λ p. p.node) l ++ k.1 ∷ []))
          (sorted_head by_projection (projected sc.coords k k.0) (projected sc.coords k) (collected sc e) h);
    }

-- turned or not, and also where both its ends are one node
pub edge_leads : (sc : Scene) (e : Edge) → forward_edge sc e ≡ true → Leads e.0 e.1 (own_darts (laid sc e))
unfolding own_darts sorted_nodes darts_along hops
edge_leads sc e h = go (collected sc e) (along_begins sc.grid sc e h)
  where
    k : Edge
    k = key e

    go : (ns : List ℕ) → Begins k (along_edge sc.grid sc.coords k ns) → Leads e.0 e.1 (darts_along e.1 (or_ends e (unless_none sc e ns)))
    go [] b = leads_turned e.0 e.1 (e ∷ []) (eqb e.1 e.0)
        (λ t a. omega (arith, leads_edge e.0 e.1 a, ap (λ (n : ℕ). bit (eqb n a)) (eqb-true e.1 e.0 t))) (λ f. leads_edge e.0 e.1)
    go (n ∷ ns) b = subst (λ (l : List ℕ). Leads e.0 e.1 (darts_along e.1 (or_ends e l))) (sym b.are) (leads_key e.0 e.1 _ (leads_hops k.0 b.inner k.1))

-- ---- those of a ring whose edges are all forward lead round

hops_lead : (sc : Scene) (x : ℕ) (ys : List ℕ) (z : ℕ) → all (forward_edge sc) (hops x (ys ++ z ∷ [])) ≡ true → Leads x z (outline_darts (map (laid sc) (hops x (ys ++ z ∷ []))))
unfolding hops outline_darts joined
hops_lead sc x [] z h = leads_on x z z (own_darts (laid sc (x, z))) [] (edge_leads sc (x, z) (all_both (forward_edge sc) (x, z) [] h).0) (leads_none z)
hops_lead sc x (y ∷ ys) z h =
    let b = all_both (forward_edge sc) (x, y) (hops y (ys ++ z ∷ [])) h in
    leads_on x y z (own_darts (laid sc (x, y))) _ (edge_leads sc (x, y) b.0) (hops_lead sc y ys z b.1)

-- As many outline darts lead from each node as to it.
pub forward_round : (sc : Scene) (cell : List ℕ) → all (forward_edge sc) (ring cell) ≡ true → Round (darts_of sc cell)
unfolding ring darts_of outline_darts joined tally
forward_round sc [] h a = refl
forward_round sc (x ∷ xs) h a = omega (arith, hops_lead sc x xs x h a)
