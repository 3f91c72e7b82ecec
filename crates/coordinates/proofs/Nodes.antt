-- The ends of edges and the nodes of meetings are nodes of the scene: both coordinates of each stand in its list. Assumes nothing.
use mathlib.Core.Path.{◌≡◌, refl, sym, ap, ◌∙◌, subst}
use mathlib.Core.Bool.{Bool, true, false, cond}
use mathlib.Core.List.{List, [], ◌∷◌, ◌++◌, map, Memᴰ}
use Prim.Native.Nat.{ℕ, ◌+◌, ◌*◌, ◌/◌, ◌≤◌, ◌<◌}
use native.Mathlib.Nat.{le_refl}
use native.Mathlib.Omega.{arith}
use lib.Dec.{ltb, eqb}
use lib.ListN.{length, get_or, length-append, length-map, get_or-map}
use lib.Ieee.{Float}
use borrow.Author.Tests.{ltb-true, ltb-false}
use Rattle.lists.specs.Gather.{joined, slim_after, slim, passing}
use Rattle.lists.specs.Sort.{insert, sort_onto}
use Rattle.lists.proofs.Gather.{length_each, get_or_each, in_list, mem_at, joined_append, passing_at}
use Rattle.lists.proofs.Regions.{length_run}
use Rattle.std.proofs.lemmas.List.{get_or_past}
use Rattle.segments.specs.declared.PointId.{PointId}
use Rattle.segments.specs.declared.PointId.TheVariants.{P1, P2, P3, P4}
use Rattle.segments.specs.declared.Meeting.{Meeting}
use Rattle.segments.specs.declared.Meeting.TheVariants.{Apart, Existing, New, Overlap}
use Rattle.cutting.specs.Edges.{Edge, edge_at, key, same_key, reversed_if, ring}
use Rattle.cutting.specs.Cell.{Laid, or_ends, darts_along, own_darts, outline_darts}
use Rattle.entry.specs.Mesh.{Mesh, node_count, prior, cell_size}
use Rattle.entry.specs.Passed.{Sound}
use Rattle.entry.proofs.Passed.{cell_within}
use Rattle.std.specs.Prelude.{None, Some}
use Rattle.grid.specs.Grid.{Grid}
use Rattle.rules.specs.Mesh.{Side, cell_at, cells_of}
use Rattle.rules.specs.Snap.{weld}
use Rattle.rules.specs.Neighbours.{Net, compute_descending, line_edges, renumbered, cutter_net}
use Rattle.rules.specs.Meetings.{Met, Scene, node_of, added_by, recorded, meetings}
use Rattle.rules.specs.Nodes.{Projected, projected, by_projection, by_projections, inner_of, before_last, along_edge, collected, unless_none, sorted_nodes}
use Rattle.rules.specs.Cell.{laid, darts_of, treated_by, treated, cell_of, near_of, outline_of}
use Rattle.rules.proofs.EdgePairs.{PairKeeps, meetings_keep}
use Rattle.snap.proofs.Welds.{length_weld, weld_below}
use Rattle.coordinates.proofs.Points.{Each, each_join, each_none, each_cons, hops_each, ring_each, Under, Both, descending_under, corners_under}

pub each_joined : {A B : Type 0} (P : B → Type 0) (f : A → List B) (xs : List A) → ((x : A) → Memᴰ x xs → Each P (f x)) → Each P (joined f xs)
unfolding joined
each_joined P f [] h = each_none P
each_joined P f (x ∷ xs) h = each_join (f x) (joined f xs) (h x (Memᴰ.head refl)) (each_joined P f xs (λ y m. h y (Memᴰ.tail m)))

pub each_map : {A B : Type 0} (P : B → Type 0) (f : A → B) (xs : List A) → Each (λ x. P (f x)) xs → Each P (map f xs)
each_map P f [] h = each_none P
each_map P f (x ∷ xs) h = each_cons (f x) (map f xs) (h x (Memᴰ.head refl)) (each_map P f xs (λ y m. h y (Memᴰ.tail m)))

-- ---- the cutter's edges, under its nodes' numbers

module _ (s c : Mesh) (lines : Bool) (ok : Sound lines c) where
  abbrev all : ℕ
  all = node_count s + node_count c

  abbrev number : ℕ → ℕ
  number n = get_or (weld s c) n 0

  abbrev cells : List (List ℕ)
  cells = renumbered (weld s c) (cells_of c)

  pub many_cells : length cells ≡ length c.ends
  unfolding cells_of
  many_cells = length-map (cells_of c) (map number) ∙ length_each (length c.ends) (cell_at c)

  cell_renumbered : (j : ℕ) → j < length c.ends → get_or cells j [] ≡ map number (cell_at c j)
  unfolding cells_of
  cell_renumbered j h = get_or-map (map number) (cells_of c) j [] ∙ ap (map number) (get_or_each (length c.ends) (cell_at c) j [] h)

  pub cells_under : (j : ℕ) → j < length cells → Each (Under all) (get_or cells j [])
  cells_under j h =
      let l : j < length c.ends = omega (arith, many_cells) in
      subst (Each (Under all)) (sym (cell_renumbered j l))
      (each_map (Under all) number (cell_at c j) (λ n m. weld_below s c n (let k = corners_under lines c ok j l n m in omega (arith, length_weld s c))))

  cell_length : (j : ℕ) → j < length c.ends → length (cell_at c j) ≡ cell_size c.ends j
  unfolding cell_at
  cell_length j h = length_run c.nodes (prior c.ends j) (cell_size c.ends j) (cell_within lines c ok j h)

  line_ends : (l : List ℕ) → length l ≡ 2 → Each (Under all) l → Both all (get_or l 0 0, get_or l 1 0)
  line_ends l e h = (h (get_or l 0 0) (in_list l 0 (omega arith) 0), h (get_or l 1 0) (in_list l 1 (omega arith) 0))

  line_under : lines ≡ true → (l : List ℕ) → Memᴰ l cells → Both all (get_or l 0 0, get_or l 1 0)
  line_under e l m =
      let r = mem_at cells l m in
      let k : r.0 < length c.ends = omega (arith, many_cells, r.1) in
      let two : length l ≡ 2 =
      ap length (sym (r.2 []) ∙ cell_renumbered r.0 k) ∙ length-map (cell_at c r.0) number ∙ cell_length r.0 k ∙ (ok.line_kind r.0 k e).1 in
      line_ends l two (subst (Each (Under all)) (r.2 []) (cells_under r.0 r.1))

  pub cutter_under : Each (Both (node_count s + node_count c)) (cutter_net lines s c).edges
  unfolding cutter_net
  cutter_under = go lines refl
    where
      go : (b : Bool) → lines ≡ b → Each (Both all) (cond b (line_edges cells) (compute_descending cells))
      go true e = each_map (Both all) (λ (l : List ℕ). (get_or l 0 0, get_or l 1 0)) cells (line_under e)
      go false e = descending_under all (length cells) cells (le_refl (length cells)) cells_under

-- an edge number beyond the list gives (0, 0)
pub edge_any : (n : ℕ) (es : List Edge) → Each (Both n) es → 0 < n → (j : ℕ) → Both n (edge_at es j)
edge_any n es h k j = go (ltb j (length es)) refl
  where
    go : (b : Bool) → ltb j (length es) ≡ b → Both n (edge_at es j)
    go true e = h (edge_at es j) (in_list es j (ltb-true j (length es) e) (0, 0))
    go false e = subst (Both n) (sym (get_or_past es j (0, 0) (ltb-false j (length es) e))) (k, k)

-- ---- the nodes of meetings

-- both numbers of the node x stand among the first k
abbrev pub Stands : ℕ → ℕ → Type 0
Stands k x = 2 * x + 1 < k

abbrev pub StandAll : ℕ → Met → Type 0
StandAll k m = Each (Stands k) m.nodes

stand_more : (k l : ℕ) (ms : List Met) → k ≤ l → Each (StandAll k) ms → Each (StandAll l) ms
stand_more k l ms h a m i x j = let b : 2 * x + 1 < k = a m i x j in omega arith

pub end_under : (n : ℕ) (e f : Edge) (p : PointId) → Both n e → Both n f → node_of e f p < n
end_under n e f P1 a b = a.0
end_under n e f P2 a b = a.1
end_under n e f P3 a b = b.0
end_under n e f P4 a b = b.1

recorded_stand : (n i j k : ℕ) (e f : Edge) (r : Meeting) → 2 * n ≤ k → Both n e → Both n f
    → Each (StandAll (k + length (added_by (recorded i j (k / 2) e f r)))) (recorded i j (k / 2) e f r)
unfolding joined
recorded_stand n i j k e f Apart h a b = each_none (StandAll (k + 0))
recorded_stand n i j k e f (Existing p) h a b =
    let u = end_under n e f p a b in
    each_cons _ [] (each_cons (node_of e f p) [] (omega arith) (each_none (Stands (k + 0)))) (each_none (StandAll (k + 0)))
recorded_stand n i j k e f (New x y) h a b = each_cons _ [] (each_cons (k / 2) [] (omega arith) (each_none (Stands (k + 2)))) (each_none (StandAll (k + 2)))
recorded_stand n i j k e f (Overlap p q) h a b =
    let u = end_under n e f p a b in
    let v = end_under n e f q a b in
    each_cons _ [] (each_cons (node_of e f p) (node_of e f q ∷ []) (omega arith) (each_cons (node_of e f q) [] (omega arith) (each_none (Stands (k + 0))))) (each_none (StandAll (k + 0)))

-- where the ends of edges are below n
module _ (g : Grid) (coords : List Float) (s c : Net) (n : ℕ) (room : 2 * n ≤ length coords) (sub : Each (Both n) s.edges) (cut : Each (Both n) c.edges) where
  -- with what meetings add
  abbrev many : List Met → ℕ
  many ms = length coords + length (added_by ms)

  abbrev AllStand : List Met → Type 0
  AllStand ms = Each (StandAll (many ms)) ms

  stand_kept : PairKeeps g coords s c AllStand
  stand_kept i j ms r k e a =
      let new = recorded i j (many ms / 2) (edge_at s.edges i) (edge_at c.edges j) r in
      let u : Both n (edge_at s.edges i) = sub (edge_at s.edges i) (in_list s.edges i k.subject (0, 0)) in
      let v : Both n (edge_at c.edges j) = cut (edge_at c.edges j) (in_list c.edges j k.cutter (0, 0)) in
      let more : length (added_by (ms ++ new)) ≡ length (added_by ms) + length (added_by new) =
      ap length (joined_append (λ (m : Met). m.point) ms new) ∙ length-append (added_by ms) (added_by new) in
      each_join ms new (stand_more (many ms) (many (ms ++ new)) ms (omega (arith, more)) a)
      (stand_more (many ms + length (added_by new)) (many (ms ++ new)) new (omega (arith, more))
      (recorded_stand n i j (many ms) (edge_at s.edges i) (edge_at c.edges j) r (omega (arith, room)) u v))

  pub meetings_stand : Each (StandAll (length coords + length (added_by (meetings g coords s c)))) (meetings g coords s c)
  meetings_stand = meetings_keep g coords s c AllStand (each_none (StandAll (many []))) stand_kept

-- what is collected under a key
pub collected_under : (sc : Scene) (n : ℕ) → ((m : Met) → Memᴰ m sc.met → Each (Under n) m.nodes) → (e : Edge) → Each (Under n) (collected sc e)
unfolding collected
collected_under sc n h e =
    each_join _ _ (each_joined (Under n) _ sc.met (λ m i. pick (same_key (edge_at sc.subject.edges m.subject_edge) e) m i))
    (each_joined (Under n) _ sc.met (λ m i. pick (same_key (edge_at sc.cutter.edges m.cutter_edge) e) m i))
  where
    pick : (b : Bool) (m : Met) → Memᴰ m sc.met → Each (Under n) (cond b m.nodes [])
    pick true m i = h m i
    pick false m i = each_none (Under n)

-- ---- the nodes of an outline as cut

module _ {A : Type 0} (P : A → Type 0) where
  each_insert : (before : A → A → Bool) (x : A) (xs : List A) → P x → Each P xs → Each P (insert before x xs)
  unfolding insert
  each_insert before x [] h k = each_cons x [] h k
  each_insert before x (y ∷ ys) h k = go (before x y) (each_insert before x ys h (λ z m. k z (Memᴰ.tail m)))
    where
      go : (b : Bool) → Each P (insert before x ys) → let r : List A = elim b [ true ↦ x ∷ y ∷ ys | false ↦ y ∷ insert before x ys ] in Each P r
      go true i = each_cons x (y ∷ ys) h k
      go false i = each_cons y (insert before x ys) (k y (Memᴰ.head refl)) i

  pub each_sorted : (before : A → A → Bool) (done xs : List A) → Each P done → Each P xs → Each P (sort_onto before done xs)
  unfolding sort_onto
  each_sorted before done [] h k = h
  each_sorted before done (x ∷ xs) h k = each_sorted before (insert before x done) xs (each_insert before x done (k x (Memᴰ.head refl)) h) (λ z m. k z (Memᴰ.tail m))

  each_slim_after : (same : A → A → Bool) (x : A) (xs : List A) → Each P xs → Each P (slim_after same x xs)
  unfolding slim_after
  each_slim_after same x [] h = each_none P
  each_slim_after same x (y ∷ ys) h =
      go (same x y) (each_slim_after same x ys (λ z m. h z (Memᴰ.tail m))) (each_slim_after same y ys (λ z m. h z (Memᴰ.tail m)))
    where
      go : (b : Bool) → Each P (slim_after same x ys) → Each P (slim_after same y ys)
          → let r : List A = elim b [ true ↦ slim_after same x ys | false ↦ y ∷ slim_after same y ys ] in Each P r
      go true i j = i
      go false i j = each_cons y (slim_after same y ys) (h y (Memᴰ.head refl)) j

  each_slim : (same : A → A → Bool) (xs : List A) → Each P xs → Each P (slim same xs)
  unfolding slim
  each_slim same [] h = each_none P
  each_slim same (x ∷ xs) h = each_cons x (slim_after same x xs) (h x (Memᴰ.head refl)) (each_slim_after same x xs (λ z m. h z (Memᴰ.tail m)))

module _ (sc : Scene) (n : ℕ) (met : (m : Met) → Memᴰ m sc.met → Each (Under n) m.nodes) where
  pub key_under : (e : Edge) → Both n e → Both n (key e)
  key_under e h = (omega (arith, h.0, h.1), omega (arith, h.0, h.1))

  by_under : (k : Edge) (ns : List ℕ) → Each (Under n) ns → Each (Under n) (by_projections sc.coords k ns)
  by_under k ns a =
      each_map (Under n) (λ (p : Projected). p.node) _ (each_sorted (λ (p : Projected). Under n p.node) by_projection [] _ (each_none (λ (p : Projected). Under n p.node))
      (each_map (λ (p : Projected). Under n p.node) (projected sc.coords k) ns a))

  before_under : (g : Grid) (k : Edge) (ns : List ℕ) → Both n k → Each (Under n) ns → Each (Under n) (before_last g sc.coords k ns)
  unfolding before_last
  before_under None k ns h a = by_under k (k.0 ∷ ns) (each_cons k.0 ns h.0 a)
  before_under (Some i) k ns h a = each_cons k.0 _ h.0 (by_under k (passing (inner_of k) ns) (λ x m. a x (passing_at (inner_of k) ns x m).0))

  along_under : (k : Edge) (ns : List ℕ) → Both n k → Each (Under n) ns → Each (Under n) (along_edge sc.grid sc.coords k ns)
  unfolding along_edge
  along_under k ns h a = each_slim (Under n) eqb _ (each_join _ (k.1 ∷ []) (before_under sc.grid k ns h a) (each_cons k.1 [] h.1 (each_none (Under n))))

  pub sorted_under : (e : Edge) → Both n e → Each (Under n) (sorted_nodes sc e)
  unfolding sorted_nodes
  sorted_under e h = go (collected sc e) (collected_under sc n met e)
    where
      go : (ns : List ℕ) → Each (Under n) ns → Each (Under n) (unless_none sc e ns)
      go [] a = each_none (Under n)
      go (x ∷ ns) a = along_under (key e) (x ∷ ns) (key_under e h) a

  own_under : (e : Edge) → Both n e → Each (Both n) (own_darts (laid sc e))
  unfolding own_darts darts_along
  own_under e h = go (sorted_nodes sc e) (sorted_under e h)
    where
      turned : (b : Bool) (f : Edge) → Both n f → Both n (reversed_if b f)
      turned true f k = (k.1, k.0)
      turned false f k = k

      go : (ns : List ℕ) → Each (Under n) ns → Each (Both n) (darts_along e.1 (or_ends e ns))
      go [] a = each_map (Both n) (reversed_if (eqb e.1 e.0)) _
          (λ f m. turned (eqb e.1 e.0) f (hops_each (Under n) e.0 (e.1 ∷ []) h.0 (each_cons e.1 [] h.1 (each_none (Under n))) f m))
      go (x ∷ ns) a = each_map (Both n) (reversed_if (eqb e.1 x)) _
          (λ f m. turned (eqb e.1 x) f (hops_each (Under n) x ns (a x (Memᴰ.head refl)) (λ z i. a z (Memᴰ.tail i)) f m))

  pub darts_under : (cell : List ℕ) → Each (Under n) cell → Each (Both n) (darts_of sc cell)
  unfolding darts_of outline_darts
  darts_under cell h =
      each_joined (Both n) own_darts (map (laid sc) (ring cell))
      (each_map (λ (l : Laid). Each (Both n) (own_darts l)) (laid sc) (ring cell) (λ e m. own_under e (ring_each (Under n) cell h e m)))

  -- an outline, where the corners of its cell are below n
  pub outline_under : (w : Side) (i : ℕ) → Each (Under n) (cell_of sc w i) → Each (Both n) (outline_of sc w i)
  unfolding treated
  outline_under w i h = go (near_of sc w i)
    where
      go : (js : List ℕ) → Each (Both n) (treated_by sc w i js).outline
      go [] = ring_each (Under n) (cell_of sc w i) h
      go (j ∷ js) = darts_under (cell_of sc w i) h
