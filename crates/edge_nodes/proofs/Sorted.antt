-- The sorted nodes of an edge, from what was put in order. Assumes nothing.
use mathlib.Core.Path.{◌≡◌, refl, sym, ap, ap₂, ◌∙◌}
use mathlib.Core.Bool.{true, false}
use mathlib.Core.List.{List, [], ◌∷◌, ◌++◌, map}
use Prim.Native.Nat.{ℕ, ◌+◌, ◌/◌, ◌≤◌, ◌<◌}
use native.Mathlib.Numerals.{add-one}
use native.Mathlib.Omega.{arith}
use lib.Dec.{eqb}
use lib.ListN.{length, get_or, drop}
use lib.Seq.{drop-cons}
use Rattle.lists.specs.Regions.{FrontIs}
use Rattle.std.proofs.lemmas.List.{drop_all, nil_from_length}
use lib.Ieee.{Float}
use Rattle.lists.specs.Gather.{passing, slim}
use Rattle.lists.specs.Sort.{insert, sort_onto}
use Rattle.lists.specs.Regions.{front}
use Rattle.lists.proofs.Sort.{sort_onto_append, length_sort_onto}
use Rattle.grid.specs.Grid.{Grid}
use Rattle.cutting.specs.Edges.{Edge, key}
use Rattle.keys.specs.declared.SortedKey.{SortedKey}
use Rattle.rules.specs.Nodes.{along_edge}
use Rattle.edge_nodes.specs.declared.nodes.Placed.{Placed}
use Rattle.edge_nodes.specs.Chained.{edge_of}
use Rattle.edge_nodes.specs.Lent.{placed, first_placed, goes_in, all_placed, stands_before, node_of, under, under_in, collected_in, unless_none, sorted_in}
use Rattle.cutting.specs.Lent.{pairs}
use Rattle.edge_nodes.specs.declared.sides.Meetings.{Meetings}
use Rattle.edge_nodes.specs.declared.chains.LinkedMeetings.{LinkedMeetings}
use Rattle.edge_nodes.specs.Sides.{subject_meetings, cutter_meetings}
use Rattle.edge_nodes.proofs.Count.{length_collected}
use Rattle.edge_nodes.proofs.Placing.{placed_in, placed_out, placed_append, placed_few, nodes_before}
use Rattle.edge_nodes.proofs.Under.{sorted_key}

-- ---- one after the other

module _ (grid : Grid) (coords : List Float) (k : Edge) (nodes : List ℕ) (i : ℕ) (ys : List Placed) where
  module _ (h : i < length nodes) where
    abbrev n : ℕ
    n = get_or nodes i 0

    next : n ∷ drop (i + 1) nodes ≡ drop i nodes
    next = ap (λ (j : ℕ). n ∷ drop j nodes) (add-one i) ∙ sym (drop-cons nodes i 0 h)

    -- the next of some nodes is put in
    pub one_on : (zs : List Placed) (x : Placed) → goes_in grid k (get_or nodes i 0) ≡ true → x ≡ placed coords k (get_or nodes i 0) → zs ≡ insert stands_before x ys
        → sort_onto stands_before zs (all_placed grid coords k (drop (i + 1) nodes)) ≡ sort_onto stands_before ys (all_placed grid coords k (drop i nodes))
    unfolding sort_onto
    one_on zs x t x-is z-is =
        ap (λ (l : List Placed). sort_onto stands_before l (all_placed grid coords k (drop (i + 1) nodes))) (z-is ∙ ap (λ (p : Placed). insert stands_before p ys) x-is)
        ∙ ap (sort_onto stands_before ys) (sym (placed_in grid coords k n (drop (i + 1) nodes) t) ∙ ap (all_placed grid coords k) next)

    -- or not
    pub one_passed : goes_in grid k (get_or nodes i 0) ≡ false
        → sort_onto stands_before ys (all_placed grid coords k (drop (i + 1) nodes)) ≡ sort_onto stands_before ys (all_placed grid coords k (drop i nodes))
    one_passed t = ap (sort_onto stands_before ys) (sym (placed_out grid coords k n (drop (i + 1) nodes) t) ∙ ap (all_placed grid coords k) next)

  pub none_left : length nodes ≤ i → ys ≡ sort_onto stands_before ys (all_placed grid coords k (drop i nodes))
  unfolding sort_onto all_placed passing
  none_left h = sym (ap (λ (r : List ℕ). sort_onto stands_before ys (all_placed grid coords k r)) (drop_all i nodes h))

-- ---- the sorted nodes of a key

some_in : (grid : Grid) (coords : List Float) (e : Edge) (xs : List ℕ) → (length xs ≡ 0 → ⊥) → along_edge grid coords (key e) xs ≡ unless_none grid coords e xs
some_in grid coords e [] h = absurd (h refl)
some_in grid coords e (x ∷ xs) h = refl

module _ (grid : Grid) (coords : List Float) (subject cutter : List Edge) (met : List ℕ) (k : SortedKey) where
  abbrev e : Edge
  e = edge_of k

  abbrev all : List ℕ
  all = collected_in subject cutter met (edge_of k)

  abbrev puts : List ℕ → List Placed
  puts = all_placed grid coords (edge_of k)

  abbrev by_subject : List ℕ
  by_subject = under (length met / 5) subject met 0 (edge_of k)

  abbrev by_cutter : List ℕ
  by_cutter = under (length met / 5) cutter met 1 (edge_of k)

  -- where none is collected there are none
  pub no_nodes : length (collected_in subject cutter met (edge_of k)) ≡ 0 → (out : List ℕ) → FrontIs (sorted_in grid coords subject cutter met (edge_of k)) out 0 out
  unfolding sorted_in front
  no_nodes h out =
      let none : unless_none grid coords e all ≡ [] = ap (unless_none grid coords e) (nil_from_length all h) in
      record { count = sym (ap length none); fits = omega arith; held = sym (ap (λ (l : List ℕ). front out l) none) }

  module _ (xs ys zs : List Placed) (x-is : xs ≡ first_placed grid coords (edge_of k) ∷ [])
      (y-is : ys ≡ sort_onto stands_before xs (all_placed grid coords (edge_of k) (under (length met / 5) subject met 0 (edge_of k))))
      (z-is : zs ≡ sort_onto stands_before ys (all_placed grid coords (edge_of k) (under (length met / 5) cutter met 1 (edge_of k)))) where
    all_sorted : zs ≡ sort_onto stands_before (first_placed grid coords e ∷ []) (puts all)
    unfolding collected_in
    all_sorted =
        z-is ∙ ap (λ (l : List Placed). sort_onto stands_before l (puts by_cutter)) (y-is ∙ ap (λ (l : List Placed). sort_onto stands_before l (puts by_subject)) x-is)
        ∙ sym (sort_onto_append stands_before (first_placed grid coords e ∷ []) (puts by_subject) (puts by_cutter))
        ∙ sym (ap (sort_onto stands_before (first_placed grid coords e ∷ [])) (placed_append grid coords e by_subject by_cutter))

    pub some_nodes : (length (collected_in subject cutter met (edge_of k)) ≡ 0 → ⊥)
        → slim eqb (map node_of zs ++ k.second ∷ []) ≡ sorted_in grid coords subject cutter met (edge_of k)
    unfolding sorted_in along_edge
    some_nodes h =
        ap (λ (l : List ℕ). slim eqb (l ++ k.second ∷ [])) (ap (map node_of) all_sorted ∙ nodes_before grid coords e all)
        ∙ sym (ap (λ (f : Edge). along_edge grid coords f all) (sorted_key k)) ∙ some_in grid coords e all h

-- ---- as they were put in, by one mesh and then by the other

module _ (t : LinkedMeetings) (grid : Grid) (coords : List Float) (k : SortedKey) (none xs ys : List Placed) (p : Placed) (a b : Meetings) (none-is : none ≡ [])
    (p-is : p ≡ first_placed grid coords (edge_of k)) (x-is : xs ≡ insert stands_before p none) (a-is : a ≡ subject_meetings t) (b-is : b ≡ cutter_meetings t)
    (y-is : ys ≡ sort_onto stands_before xs (all_placed grid coords (edge_of k) (under_in a (edge_of k)))) where
  first_in : xs ≡ first_placed grid coords (edge_of k) ∷ []
  unfolding insert
  first_in = x-is ∙ ap₂ (insert stands_before) p-is none-is

  subject_in : ys ≡ sort_onto stands_before xs (all_placed grid coords (edge_of k) (under_in (subject_meetings t) (edge_of k)))
  subject_in = y-is ∙ ap (λ (m : Meetings). sort_onto stands_before xs (all_placed grid coords (edge_of k) (under_in m (edge_of k)))) a-is

  -- those of the cutter's edges have their places too
  pub second_fits : length (collected_in (pairs t.subject.now) (pairs t.cutter.now) t.met.now (edge_of k)) ≤ 256 → length ys + length (under_in b (edge_of k)) ≤ 257
  second_fits few =
      omega (
        arith,
        few,
        ap length first_in,
        ap length subject_in ∙ length_sort_onto stands_before xs (all_placed grid coords (edge_of k) (under_in (subject_meetings t) (edge_of k))),
        placed_few grid coords (edge_of k) (under_in (subject_meetings t) (edge_of k)),
        ap (λ (m : Meetings). length (under_in m (edge_of k))) b-is,
        length_collected (pairs t.subject.now) (pairs t.cutter.now) t.met.now (edge_of k),
      )

  module _ (m n : ℕ) (m-is : m ≡ length (under_in a (edge_of k))) (n-is : n ≡ length (under_in b (edge_of k))) where
    many : length (collected_in (pairs t.subject.now) (pairs t.cutter.now) t.met.now (edge_of k)) ≡ m + n
    many =
        omega (
          arith,
          m-is ∙ ap (λ (l : Meetings). length (under_in l (edge_of k))) a-is,
          n-is ∙ ap (λ (l : Meetings). length (under_in l (edge_of k))) b-is,
          length_collected (pairs t.subject.now) (pairs t.cutter.now) t.met.now (edge_of k),
        )

    pub none_under : m + n ≡ 0 → (out : List ℕ) → FrontIs (sorted_in grid coords (pairs t.subject.now) (pairs t.cutter.now) t.met.now (edge_of k)) out 0 out
    none_under h out = no_nodes grid coords (pairs t.subject.now) (pairs t.cutter.now) t.met.now k (many ∙ h) out

    pub some_under : (zs items : List Placed) → zs ≡ sort_onto stands_before ys (all_placed grid coords (edge_of k) (under_in b (edge_of k))) → items ≡ zs → (m + n ≡ 0 → ⊥)
        → slim eqb (map node_of items ++ k.second ∷ []) ≡ sorted_in grid coords (pairs t.subject.now) (pairs t.cutter.now) t.met.now (edge_of k)
    some_under zs items z-is same h =
        ap (λ (l : List Placed). slim eqb (map node_of l ++ k.second ∷ [])) same
        ∙ some_nodes grid coords (pairs t.subject.now) (pairs t.cutter.now) t.met.now k xs ys zs first_in subject_in
        (z-is ∙ ap (λ (l : Meetings). sort_onto stands_before ys (all_placed grid coords (edge_of k) (under_in l (edge_of k)))) b-is) (λ e. h (sym many ∙ e))
