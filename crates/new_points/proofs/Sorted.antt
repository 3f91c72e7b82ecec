-- The sorted nodes of an edge have every node that was collected on it, and its key's second node. Assumes nothing.
use mathlib.Core.Path.{◌≡◌, refl, sym, ap₂}
use mathlib.Core.Bool.{Bool, true, false, not, ◌||◌, cond}
use mathlib.Core.List.Memᴰ
use mathlib.Core.List.{List, [], ◌∷◌, ◌++◌, map, Memᴰ}
use Prim.Native.Nat.{ℕ}
use lib.Dec.{eqb}
use lib.Ieee.{Float}
use borrow.Author.Tests.{eq-eqb, eqb-true}
use Rattle.std.specs.Prelude.{None, Some}
use Rattle.lists.specs.Gather.{passing}
use Rattle.lists.proofs.Gather.{in_passing}
use Rattle.grid.specs.Grid.{Grid}
use Rattle.lists.proofs.Members.{in_sorted, in_joined, slim_keeps}
use Rattle.cutting.specs.Edges.{Edge, edge_at, key, same_key}
use Rattle.cutting.proofs.Orders.{own_key}
use Rattle.rules.specs.Meetings.{Met, Scene}
use Rattle.rules.specs.Nodes.{Projected, projected, by_projection, by_projections, inner_of, before_last, along_edge, collected, unless_none, sorted_nodes}

-- ---- the nodes along an edge

by_has : (coords : List Float) (k : Edge) (ns : List ℕ) (n : ℕ) → Memᴰ n ns → Memᴰ n (by_projections coords k ns)
by_has coords k ns n m =
    let r = in_sorted by_projection (λ (p : Projected). eqb p.node n) (projected coords k n) (map (projected coords k) ns)
    (Memᴰ.map (projected coords k) m) (eq-eqb n n refl) in
    Memᴰ.cast (sym (eqb-true r.0.node n r.2)) (Memᴰ.map (λ (p : Projected). p.node) r.1)

-- on a grid the key's own nodes are there too, though put first and last
before_has : (g : Grid) (coords : List Float) (k : Edge) (ns : List ℕ) (n : ℕ) → Memᴰ n ns → Memᴰ n (before_last g coords k ns ++ k.1 ∷ [])
unfolding before_last
before_has None coords k ns n m = Memᴰ.append_left (k.1 ∷ []) (by_has coords k (k.0 ∷ ns) n (Memᴰ.tail m))
before_has (Some i) coords k ns n m = go (eqb n k.0) (eqb n k.1) refl refl
  where
    all : List ℕ
    all = k.0 ∷ by_projections coords k (passing (inner_of k) ns)

    go : (a b : Bool) → eqb n k.0 ≡ a → eqb n k.1 ≡ b → Memᴰ n (all ++ k.1 ∷ [])
    go true b e f = Memᴰ.append_left (k.1 ∷ []) (Memᴰ.head (eqb-true n k.0 e))
    go false true e f = Memᴰ.append_right all (Memᴰ.head (eqb-true n k.1 f))
    go false false e f =
        Memᴰ.append_left (k.1 ∷ []) (Memᴰ.tail (by_has coords k (passing (inner_of k) ns) n
        (in_passing (inner_of k) ns n m (ap₂ (λ (x y : Bool). not (x || y)) e f))))

along_has : (g : Grid) (coords : List Float) (k : Edge) (ns : List ℕ) (n : ℕ) → Memᴰ n ns → Memᴰ n (along_edge g coords k ns)
unfolding along_edge
along_has g coords k ns n m = slim_keeps n _ (before_has g coords k ns n m)

along_end : (g : Grid) (coords : List Float) (k : Edge) (ns : List ℕ) → Memᴰ k.1 (along_edge g coords k ns)
unfolding along_edge
along_end g coords k ns = slim_keeps k.1 (before_last g coords k ns ++ k.1 ∷ []) (Memᴰ.append_right (before_last g coords k ns) (Memᴰ.head refl))

module _ (sc : Scene) where
  -- what a meeting of a subject edge names is collected on that edge
  met_collected : (m : Met) → Memᴰ m sc.met → (n : ℕ) → Memᴰ n m.nodes → Memᴰ n (collected sc (edge_at sc.subject.edges m.subject_edge))
  unfolding collected
  met_collected m h n k =
      let e = edge_at sc.subject.edges m.subject_edge in
      Memᴰ.append_left _ (in_joined (λ (x : Met). cond (same_key (edge_at sc.subject.edges x.subject_edge) e) x.nodes []) m n sc.met h (rw (own_key e) k))

  sorted_has : (e : Edge) (n : ℕ) → Memᴰ n (collected sc e) → Memᴰ n (sorted_nodes sc e) × Memᴰ (key e).1 (sorted_nodes sc e)
  unfolding sorted_nodes
  sorted_has e n m = go (collected sc e) m
    where
      go : (ns : List ℕ) → Memᴰ n ns → Memᴰ n (unless_none sc e ns) × Memᴰ (key e).1 (unless_none sc e ns)
      go [] i = absurd (Memᴰ.not-nil i)
      go (x ∷ ns) i = (along_has sc.grid sc.coords (key e) (x ∷ ns) n i, along_end sc.grid sc.coords (key e) (x ∷ ns))

  -- A meeting's node is one of its subject edge's sorted nodes, and so is the second node of that edge's key.
  pub met_sorted : (m : Met) → Memᴰ m sc.met → (n : ℕ) → Memᴰ n m.nodes
      → let e = edge_at sc.subject.edges m.subject_edge in Memᴰ n (sorted_nodes sc e) × Memᴰ (key e).1 (sorted_nodes sc e)
  met_sorted m h n k = sorted_has (edge_at sc.subject.edges m.subject_edge) n (met_collected m h n k)
