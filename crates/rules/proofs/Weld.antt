-- What `weld` gives: a node is welded to one of its own layer; with one layer throughout, layers make no difference (W7). Assumes nothing.
use mathlib.Core.Path.{◌≡◌, refl, sym, ap, ◌∙◌, subst}
use mathlib.Core.Bool.{Bool, true, false, not, cond, true≢false}
use mathlib.Core.List.{List, ◌++◌}
use Prim.Native.Nat.{ℕ, zero, suc, ◌+◌, ◌≤◌, ◌<◌}
use native.Mathlib.Nat.{le_refl}
use native.Mathlib.Omega.{arith}
use lib.Dec.{ltb, eqb}
use lib.ListN.{length, get_or, get_or-append, get_or-replicate}
use lib.Seq.{get_or-append-add}
use Rattle.std.specs.Prelude.{Option, None, Some, IfSome}
use lib.Ieee.{Float, lt}
use borrow.Author.Tests.{eqb-true, eq-eqb, ltb-true, lt-ltb}
use Rattle.lists.specs.Search.{many, named}
use Rattle.lists.specs.Gather.{tally, joined}
use Rattle.lists.specs.Sort.{sorted}
use Rattle.lists.specs.Regions.{zeros}
use Rattle.lists.proofs.Search.{many_has, many_some}
use Rattle.lists.proofs.Gather.{get_or_each, each_ext, each_get_or, tally_each, places_at}
use Rattle.lists.proofs.Sort.{sorted_tally}
use Rattle.plane.specs.declared.Point.{Point}
use Rattle.plane.specs.Plane.{point_at}
use Rattle.entry.specs.Mesh.{Mesh, mesh, node_count}
use Rattle.rules.specs.Snap.{precedes, used_nodes, sorted_indices_for, distance2, nearer, nearest_to, closest_within, or_shifted, number_of, weld}
use Rattle.rules.specs.Meetings.{Scene}
use Rattle.rules.specs.Layers.{layer_added, layers_of, InLayer}
use Rattle.rules.specs.declared.Nearest.{Nearest}

-- each number is below n
abbrev Below : ℕ → List ℕ → Type 0
Below n xs = (k : ℕ) → k < length xs → get_or xs k 0 < n

-- ---- the nodes in order are those of the subject

-- what holds of each element holds of each of the sorted ones
sorted_below : (stands : ℕ → ℕ → Bool) (n : ℕ) (xs : List ℕ) → Below n xs → Below n (sorted stands xs)
sorted_below stands n xs h k l = go (ltb (get_or ys k 0) n) refl
  where
    ys : List ℕ
    ys = sorted stands xs

    over : ℕ → Bool
    over v = not (ltb v n)

    count : (zs : List ℕ) → tally over zs ≡ many (λ i. over (get_or zs i 0)) (length zs)
    count zs = ap (tally over) (sym (each_get_or zs 0)) ∙ tally_each over (length zs) (λ i. get_or zs i 0)

    go : (t : Bool) → ltb (get_or ys k 0) n ≡ t → get_or ys k 0 < n
    go true e = ltb-true (get_or ys k 0) n e
    go false e =
        let some_over : 0 < many (λ i. over (get_or xs i 0)) (length xs) =
        omega (arith, many_has (λ i. over (get_or ys i 0)) (length ys) k l (ap not e), count ys, count xs, sorted_tally stands over xs) in
        let r = many_some (λ i. over (get_or xs i 0)) (length xs) some_over in
        absurd (true≢false (sym r.2 ∙ ap not (lt-ltb (get_or xs r.0 0) n (h r.0 r.1))))

pub order_below : (s : Mesh) → Below (node_count s) (sorted_indices_for s)
unfolding sorted_indices_for used_nodes
order_below s = sorted_below (λ i j. precedes (point_at s.coords i) (point_at s.coords j)) (node_count s) (used_nodes s) (λ k h. (places_at (named s.nodes) (node_count s) k h).0)

-- ---- W7: a node is welded to one of its own layer

-- the nearest node, if any, is of the layer sought, and one of those looked at
module _ (coords : List Float) (layers order : List ℕ) (sought : ℕ) (p : Point) where
  abbrev Sought : Option ℕ → Type 0
  Sought o = IfSome o (λ n. (get_or layers n 0 ≡ sought) × ((m : ℕ) → Below m order → n < m))

  nearest_sought : (k : ℕ) → k ≤ length order → Sought (nearest_to k coords layers order sought p).node
  unfolding nearest_to
  nearest_sought zero h = tt
  nearest_sought (suc k) h = go (eqb (get_or layers n 0) sought) (lt (distance2 p (point_at coords n)) best.dist2) refl (nearest_sought k (omega arith))
    where
      n : ℕ
      n = get_or order k 0

      best : Nearest
      best = nearest_to k coords layers order sought p

      go : (t u : Bool) → eqb (get_or layers n 0) sought ≡ t → Sought best.node
          → (let near : Nearest = cond t (cond u (record { dist2 = distance2 p (point_at coords n); node = Some n }) best) best in Sought near.node)
      go true true e ih = (eqb-true (get_or layers n 0) sought e, λ m b. b k h)
      go true false e ih = ih
      go false u e ih = ih

-- a node of the subject keeps its number, and is listed with its layer
pub subject_layer_kept : (sc : Scene) (s c : Mesh) (n : ℕ) → n < length s.layers → get_or (layers_of sc s c) n 0 ≡ get_or s.layers n 0
unfolding layers_of
subject_layer_kept sc s c n h = get_or-append s.layers (c.layers ++ joined (layer_added s.layers sc.subject.edges) sc.met) 0 n h

module _ (s c : Mesh) (j : ℕ) (h : j < node_count c) where
  -- a node of the cutter is welded to one of the subject, which has its layer, or has a number of its own
  pub data Welded (n : ℕ) : Type 0 where
    to_one : n < node_count s → get_or s.layers n 0 ≡ get_or c.layers j 0 → Welded n
    own : n ≡ j + node_count s → Welded n

  pub welded : Welded (get_or (weld s c) j 0)
  unfolding weld closest_within
  welded = subst Welded (sym (get_or_each (node_count c) (number_of s c order) j 0 h)) (by_name (named c.nodes j))
    where
      order : List ℕ
      order = sorted_indices_for s

      near : Option ℕ
      near = (nearest_to (length order) s.coords s.layers order (get_or c.layers j 0) (point_at c.coords j)).node

      by_near : (o : Option ℕ) → Sought s.coords s.layers order (get_or c.layers j 0) (point_at c.coords j) o → Welded (or_shifted (j + node_count s) o)
      by_near None q = own refl
      by_near (Some n) q = to_one (q.1 (node_count s) (order_below s)) q.0

      by_name : (t : Bool) → Welded (cond t (or_shifted (j + node_count s) near) (j + node_count s))
      by_name true = by_near near (nearest_sought s.coords s.layers order (get_or c.layers j 0) (point_at c.coords j) (length order) (le_refl (length order)))
      by_name false = own refl

  -- A node is only ever welded to one of its own layer: a number below the subject's node count is that of a node with this layer.
  pub welded_in_layer : get_or (weld s c) j 0 < node_count s → get_or s.layers (get_or (weld s c) j 0) 0 ≡ get_or c.layers j 0
  welded_in_layer b = go (get_or (weld s c) j 0) welded b
    where
      go : (n : ℕ) → Welded n → n < node_count s → get_or s.layers n 0 ≡ get_or c.layers j 0
      go n (to_one a e) b = e
      go n (own e) b = absurd (omega (arith, e, b))

  -- So under its number each node of the cutter is listed with the layer that it was lent with.
  pub layer_kept : (sc : Scene) → length s.layers ≡ node_count s → length c.layers ≡ node_count c → get_or (layers_of sc s c) (get_or (weld s c) j 0) 0 ≡ get_or c.layers j 0
  unfolding layers_of
  layer_kept sc es ec = go (get_or (weld s c) j 0) welded
    where
      more : List ℕ
      more = joined (layer_added s.layers sc.subject.edges) sc.met

      go : (n : ℕ) → Welded n → get_or (s.layers ++ (c.layers ++ more)) n 0 ≡ get_or c.layers j 0
      go n (to_one a e) = subject_layer_kept sc s c n (omega (arith, a, es)) ∙ e
      go n (own e) =
          let at : n ≡ length s.layers + j = omega (arith, e, es) in
          ap (λ (i : ℕ). get_or (s.layers ++ (c.layers ++ more)) i 0) at ∙ get_or-append-add s.layers (c.layers ++ more) j 0
          ∙ get_or-append c.layers more 0 j (omega (arith, h, ec))

-- ---- W7: in one layer

abbrev All : (ls order : List ℕ) → ℕ → Type 0
All ls order k = (i : ℕ) → i < length order → get_or ls (get_or order i 0) 0 ≡ k

-- Where all nodes looked at are of the layer sought, the test of layers passes none over: the next is compared with the nearest before, as document 01 has it.
pub none_passed_over : (coords : List Float) (p : Point) (ls order : List ℕ) (sought : ℕ) → All ls order sought → (k : ℕ) → k < length order
    → nearest_to (suc k) coords ls order sought p ≡ (let n = get_or order k 0 in nearer (distance2 p (point_at coords n)) n (nearest_to k coords ls order sought p))
unfolding nearest_to
none_passed_over coords p ls order sought all k h =
    let n = get_or order k 0 in
    let best = nearest_to k coords ls order sought p in
    ap (λ (t : Bool). cond t (nearer (distance2 p (point_at coords n)) n best) best) (eq-eqb (get_or ls n 0) sought (all k h))

-- so of which layer they are makes no difference
nearest_same : (coords : List Float) (p : Point) (ls ms order : List ℕ) (a b : ℕ) → All ls order a → All ms order b → (k : ℕ) → k ≤ length order
    → nearest_to k coords ls order a p ≡ nearest_to k coords ms order b p
unfolding nearest_to
nearest_same coords p ls ms order a b one other zero h = refl
nearest_same coords p ls ms order a b one other (suc k) h =
    let n = get_or order k 0 in
    none_passed_over coords p ls order a one k (omega arith)
    ∙ ap (nearer (distance2 p (point_at coords n)) n) (nearest_same coords p ls ms order a b one other k (omega arith))
    ∙ sym (none_passed_over coords p ms order b other k (omega arith))

-- meshes like these, all in layer 0
abbrev pub unlayered : Mesh → Mesh
unlayered m = mesh m.coords (zeros (node_count m)) m.nodes m.ends m.kinds m.families

-- With one layer throughout the weld is that of all nodes in layer 0.
pub weld_unlayered : (k : ℕ) (s c : Mesh) → InLayer k s → InLayer k c → weld s c ≡ weld (unlayered s) (unlayered c)
unfolding weld closest_within sorted_indices_for used_nodes
weld_unlayered k s c es ec =
    each_ext (node_count c) _ _ (λ j h. ap (λ (x : Nearest). cond (named c.nodes j) (or_shifted (j + node_count s) x.node) (j + node_count s)) (near j h))
  where
    order : List ℕ
    order = sorted_indices_for s

    in_layer : (m : Mesh) (k : ℕ) → InLayer k m → (n : ℕ) → n < node_count m → get_or m.layers n 0 ≡ k
    in_layer m k e n h = ap (λ (ls : List ℕ). get_or ls n 0) e ∙ get_or-replicate (node_count m) n k 0 h

    -- those of the subject are all of the layer of the cutter's node j
    all_of : (i : ℕ) (s' c' : Mesh) → InLayer i s' → InLayer i c' → node_count s' ≡ node_count s → node_count c' ≡ node_count c
        → (j : ℕ) → j < node_count c → All s'.layers order (get_or c'.layers j 0)
    all_of i s' c' a b m n j h l o =
        in_layer s' i a (get_or order l 0) (omega (arith, order_below s l o, m)) ∙ sym (in_layer c' i b j (omega (arith, h, n)))

    near : (j : ℕ) → j < node_count c → nearest_to (length order) s.coords s.layers order (get_or c.layers j 0) (point_at c.coords j)
        ≡ nearest_to (length order) s.coords (zeros (node_count s)) order (get_or (zeros (node_count c)) j 0) (point_at c.coords j)
    near j h =
        nearest_same s.coords (point_at c.coords j) s.layers (zeros (node_count s)) order (get_or c.layers j 0) (get_or (zeros (node_count c)) j 0)
        (all_of k s c es ec refl refl j h) (all_of 0 (unlayered s) (unlayered c) refl refl refl refl j h) (length order) (le_refl (length order))
