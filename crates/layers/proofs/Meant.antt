-- By the meetings' numbers the layers are those that the rules say: a new point has the next number, and every node of an edge a lower one. Assumes nothing.
use mathlib.Core.Path.{◌≡◌, refl, sym, ap, ◌∙◌, subst}
use mathlib.Core.Bool.{Bool, true, false, cond}
use mathlib.Core.List.{List, [], ◌∷◌, ◌++◌, append-nil, append_assoc}
use Prim.Native.Nat.{ℕ, zero, suc, ◌+◌, ◌*◌, ◌≤◌, ◌<◌}
use native.Mathlib.Omega.{arith}
use lib.Dec.{eqb}
use lib.ListN.{length, get_or, get_or-append, length-append}
use lib.Seq.{get_or-append-add}
use lib.Ieee.{Float}
use borrow.Author.Tests.{eq-eqb, ne_eqb}
use Rattle.lists.specs.Gather.{joined}
use Rattle.lists.proofs.Gather.{joined_snoc, in_list}
use Rattle.segments.specs.declared.PointId.{PointId}
use Rattle.segments.specs.declared.Meeting.{Meeting}
use Rattle.segments.specs.declared.Meeting.TheVariants.{Apart, Existing, New, Overlap}
use Rattle.cutting.specs.Edges.{Edge, edge_at}
use Rattle.cutting.specs.Lent.{flat_edges}
use Rattle.cutting.proofs.Pairs.{ends_length, pairs_at, pairs_ends}
use Rattle.grid.specs.Grid.{Grid}
use Rattle.rules.specs.Neighbours.{Net}
use Rattle.rules.specs.Meetings.{Met, node_of, added_by, recorded, meetings}
use Rattle.rules.specs.Layers.{layer_added}
use Rattle.rules.proofs.EdgePairs.{next_node, PairKeeps, meetings_keep}
use Rattle.meetings.specs.InNumbers.{five_numbers, in_numbers}
use Rattle.meetings.proofs.Reading.{length_in_numbers}
use Rattle.coordinates.proofs.Points.{Each, Both}
use Rattle.coordinates.proofs.Nodes.{end_under}
use Rattle.layers.specs.Written.{layer_at, layers_to}

-- ---- one meeting more

-- numbers behind those of the first k meetings aren't read
before : (k : ℕ) (ss cs es xs ys : List ℕ) → 5 * k ≤ length xs → layers_to k ss cs es (xs ++ ys) ≡ layers_to k ss cs es xs
unfolding layers_to
before zero ss cs es xs ys h = refl
before (suc k) ss cs es xs ys h =
    let first = get_or-append xs ys 0 (5 * k) (omega arith) in
    let node = get_or-append xs ys 0 (5 * k + 3) (omega arith) in
    let same = before k ss cs es xs ys (omega arith) in
    λ i. cond (eqb (node i) (length (same i))) (same i ++ layer_at ss es (first i) ∷ []) (same i)

module _ (ls cs es : List ℕ) where
  abbrev written : List Met → List ℕ
  written ms = layers_to (length ms) ls cs es (in_numbers ms)

  module _ (ms : List Met) (m : Met) where
    number : (j : ℕ) → get_or (in_numbers ms ++ five_numbers m) (5 * length ms + j) 0 ≡ get_or (five_numbers m) j 0
    number j =
        ap (λ (k : ℕ). get_or (in_numbers ms ++ five_numbers m) (k + j) 0) (sym (length_in_numbers ms)) ∙ get_or-append-add (in_numbers ms) (five_numbers m) j 0

    one_more : written (ms ++ m ∷ []) ≡ cond (eqb (get_or m.nodes 0 0) (length (written ms))) (written ms ++ layer_at ls es m.subject_edge ∷ []) (written ms)
    unfolding layers_to
    one_more =
        let many : length (ms ++ m ∷ []) ≡ suc (length ms) = omega (arith, length-append ms (m ∷ [])) in
        let at : 5 * length ms ≡ 5 * length ms + 0 = omega arith in
        let first = ap (λ (k : ℕ). get_or (in_numbers ms ++ five_numbers m) k 0) at ∙ number 0 in
        let node = number 3 in
        let same = before (length ms) ls cs es (in_numbers ms) (five_numbers m) (omega (arith, length_in_numbers ms)) in
        (λ i. layers_to (many i) ls cs es (joined_snoc five_numbers ms m i))
        ∙ (λ i. cond (eqb (node i) (length (same i))) (same i ++ layer_at ls es (first i) ∷ []) (same i))

-- ---- what each edge pair keeps

-- the first node of edge i, as its number is read
first_read : (es : List Edge) (i : ℕ) → i < length es → get_or (flat_edges es) (2 * i) 0 ≡ (edge_at es i).0
first_read es i h =
    sym (ap (λ (e : Edge). e.0) (pairs_at (flat_edges es) i (omega (arith, ends_length es)))) ∙ ap (λ (fs : List Edge). (edge_at fs i).0) (pairs_ends es)

-- s and c have edges between the first n nodes, which are those lent
module _ (g : Grid) (coords : List Float) (s c : Net) (ls cs : List ℕ) (n : ℕ) (two : length coords ≡ 2 * n) (lent : length ls + length cs ≡ n)
    (sub : Each (Both n) s.edges) (cut : Each (Both n) c.edges) where
  abbrev added : List Met → List ℕ
  added ms = joined (layer_added ls s.edges) ms

  abbrev so_far : List Met → List ℕ
  so_far ms = written ls cs (flat_edges s.edges) ms

  -- as the rules say, and one layer for each point
  record Meant (ms : List Met) : Type 0 where
    layers : so_far ms ≡ ls ++ (cs ++ added ms)
    points : length (added_by ms) ≡ 2 * length (added ms)

  long : (ms : List Met) → Meant ms → length (so_far ms) ≡ n + length (added ms)
  long ms h = omega (arith, ap length h.layers, length-append ls (cs ++ added ms), length-append cs (added ms), lent)

  -- a meeting at a node of an edge
  known : (ms : List Met) (i j a : ℕ) (ns : List ℕ) → a < n → Meant ms
      → Meant (ms ++ record { subject_edge = i; cutter_edge = j; nodes = a ∷ ns; point = [] } ∷ [])
  known ms i j a ns low h =
      let m : Met = record { subject_edge = i; cutter_edge = j; nodes = a ∷ ns; point = [] } in
      let none : added (ms ++ m ∷ []) ≡ added ms = joined_snoc (layer_added ls s.edges) ms m ∙ append-nil (added ms) in
      let points : added_by (ms ++ m ∷ []) ≡ added_by ms = joined_snoc (λ (k : Met). k.point) ms m ∙ append-nil (added_by ms) in
      let other : eqb a (length (so_far ms)) ≡ false = ne_eqb a (length (so_far ms)) (λ z. absurd (omega (arith, z, low, long ms h))) in
      record {
        layers =
            one_more ls cs (flat_edges s.edges) ms m
            ∙ ap (λ (t : Bool). cond t (so_far ms ++ layer_at ls (flat_edges s.edges) i ∷ []) (so_far ms)) other
            ∙ h.layers ∙ ap (λ (v : List ℕ). ls ++ (cs ++ v)) (sym none);
        points = ap length points ∙ h.points ∙ ap (λ (v : List ℕ). 2 * length v) (sym none);
      }

  -- one with a new point
  new : (ms : List Met) (i j : ℕ) (x y : Float) → i < length s.edges → Meant ms
      → Meant (ms ++ record { subject_edge = i; cutter_edge = j; nodes = next_node g coords s c ms ∷ []; point = x ∷ y ∷ [] } ∷ [])
  new ms i j x y here h =
      let next = next_node g coords s c ms in
      let m : Met = record { subject_edge = i; cutter_edge = j; nodes = next ∷ []; point = x ∷ y ∷ [] } in
      let layer = get_or ls (edge_at s.edges i).0 0 in
      let one : added (ms ++ m ∷ []) ≡ added ms ++ layer ∷ [] = joined_snoc (layer_added ls s.edges) ms m in
      let points : added_by (ms ++ m ∷ []) ≡ added_by ms ++ x ∷ y ∷ [] = joined_snoc (λ (k : Met). k.point) ms m in
      let this : eqb next (length (so_far ms)) ≡ true = eq-eqb next (length (so_far ms)) (omega (arith, two, long ms h, h.points)) in
      record {
        layers =
            one_more ls cs (flat_edges s.edges) ms m
            ∙ ap (λ (t : Bool). cond t (so_far ms ++ layer_at ls (flat_edges s.edges) i ∷ []) (so_far ms)) this
            ∙ (λ k. h.layers k ++ get_or ls (first_read s.edges i here k) 0 ∷ [])
            ∙ append_assoc ls (cs ++ added ms) (layer ∷ []) ∙ ap (λ (v : List ℕ). ls ++ v) (append_assoc cs (added ms) (layer ∷ []))
            ∙ ap (λ (v : List ℕ). ls ++ (cs ++ v)) (sym one);
        points = omega (arith, ap length points, length-append (added_by ms) (x ∷ y ∷ []), h.points, ap length one, length-append (added ms) (layer ∷ []));
      }

  kept : PairKeeps g coords s c Meant
  kept i j ms r k e h = go r
    where
      e₁ : Edge
      e₁ = edge_at s.edges i

      e₂ : Edge
      e₂ = edge_at c.edges j

      under : (p : PointId) → node_of e₁ e₂ p < n
      under p = end_under n e₁ e₂ p (sub e₁ (in_list s.edges i k.subject (0, 0))) (cut e₂ (in_list c.edges j k.cutter (0, 0)))

      go : (q : Meeting) → Meant (ms ++ recorded i j (next_node g coords s c ms) e₁ e₂ q)
      go Apart = subst Meant (sym (append-nil ms)) h
      go (Existing p) = known ms i j (node_of e₁ e₂ p) [] (under p) h
      go (New x y) = new ms i j x y k.subject h
      go (Overlap p q) = known ms i j (node_of e₁ e₂ p) (node_of e₁ e₂ q ∷ []) (under p) h

  none : Meant []
  unfolding layers_to joined
  none = record { layers = ap (λ (v : List ℕ). ls ++ v) (sym (append-nil cs)); points = refl }

  pub layers_meant : (let ms : List Met = meetings g coords s c in
      layers_to (length ms) ls cs (flat_edges s.edges) (in_numbers ms) ≡ ls ++ (cs ++ joined (layer_added ls s.edges) ms))
  layers_meant = (meetings_keep g coords s c Meant none kept).layers
