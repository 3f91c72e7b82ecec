-- The nodes of a scene's edges, where its meetings stand in a lent list. Assumes nothing.
use mathlib.Core.Path.{◌≡◌, refl, sym, ap, ap₂, ◌∙◌}
use mathlib.Core.Bool.{true, false, cond, ◌&&◌}
use mathlib.Core.List.{List, [], ◌∷◌, ◌++◌}
use Prim.Native.Nat.{ℕ, ◌+◌, ◌*◌, ◌/◌, ◌≤◌, ◌<◌}
use native.Mathlib.Omega.{arith}
use lib.Dec.{ltb, eqb}
use lib.ListN.{length, get_or, take}
use borrow.Author.Tests.{eqb-true, ltb-false}
use Rattle.lists.specs.Search.{has}
use Rattle.lists.specs.Gather.{joined}
use Rattle.lists.proofs.Search.{first_ext, has_none, and_true}
use Rattle.lists.proofs.Gather.{gathered_ext, joined_is}
use Rattle.cutting.specs.Edges.{Edge, edge_at, key, same_key}
use Rattle.cutting.specs.Lent.{pairs}
use Rattle.cutting.proofs.Pairs.{pairs_length}
use Rattle.rules.specs.Meetings.{Met, Scene}
use Rattle.rules.specs.Nodes as Nodes
use Rattle.rules.specs.Nodes.{collected, overfull, sorted_nodes, along_edge}
use Rattle.edge_nodes.specs.Stored.{no_met, Stored}
use Rattle.edge_nodes.specs.Lent.{met_nodes, under_at, under, collected_in, unless_none, sorted_in, crowded_at}

-- ---- what is collected goes by the key alone

module _ (e f : Edge) (same : same_key e f ≡ true) where
  one_key : key e ≡ key f
  one_key =
      let t = and_true (eqb (key e).0 (key f).0) (eqb (key e).1 (key f).1) same in
      ap₂ (λ (a b : ℕ). (a, b)) (eqb-true (key e).0 (key f).0 t.0) (eqb-true (key e).1 (key f).1 t.1)

  one_under : (n : ℕ) (es : List Edge) (met : List ℕ) (which : ℕ) → under n es met which e ≡ under n es met which f
  unfolding under under_at
  one_under n es met which =
      gathered_ext n (under_at es met which e) (under_at es met which f)
      (λ q h. let g : Edge = edge_at es (get_or met (5 * q + which) 0) in ap (λ (k : Edge). cond (eqb (key g).0 k.0 && eqb (key g).1 k.1) (met_nodes met q) []) one_key)

  module _ (subject cutter : List Edge) (met : List ℕ) where
    pub same_collected : collected_in subject cutter met e ≡ collected_in subject cutter met f
    unfolding collected_in
    same_collected = ap₂ (λ (l r : List ℕ). l ++ r) (one_under (length met / 5) subject met 0) (one_under (length met / 5) cutter met 1)

-- ---- the meetings of a scene in a lent list

-- the numbers of a meeting: its edges, how many nodes it has, the first of them, and the second or 0
abbrev pub numbers_of : Met → List ℕ
numbers_of x = x.subject_edge ∷ x.cutter_edge ∷ length x.nodes ∷ get_or x.nodes 0 0 ∷ get_or x.nodes 1 0 ∷ []

read_back : (ns : List ℕ) → length ns ≤ 2 → take (length ns) (get_or ns 0 0 ∷ get_or ns 1 0 ∷ []) ≡ ns
read_back [] h = refl
read_back (a ∷ []) h = refl
read_back (a ∷ b ∷ []) h = refl
read_back (a ∷ b ∷ c ∷ ns) h = absurd (omega arith)

pub numbers_stored : (ms : List Met) (met : List ℕ) → length met ≡ 5 * length ms
    → ((q k : ℕ) → q < length ms → k < 5 → get_or met (5 * q + k) 0 ≡ get_or (numbers_of (get_or ms q no_met)) k 0)
    → ((q : ℕ) → q < length ms → length (get_or ms q no_met).nodes ≤ 2) → Stored ms met
unfolding met_nodes
numbers_stored ms met n at few =
    record {
      count = omega (arith, n);
      subjects = λ q h. let z : 5 * q ≡ 5 * q + 0 = omega arith in ap (λ (k : ℕ). get_or met k 0) z ∙ at q 0 h (omega arith);
      cutters = λ q h. at q 1 h (omega arith);
      nodes_at = λ q h. ap₂ (λ (c : ℕ) (ns : List ℕ). take c ns) (at q 2 h (omega arith))
          (ap₂ (λ (v w : ℕ). v ∷ w ∷ []) (at q 3 h (omega arith)) (at q 4 h (omega arith))) ∙ read_back (get_or ms q no_met).nodes (few q h);
    }

module _ (ms : List Met) (met : List ℕ) (stored : Stored ms met) where
  under_is : (es : List Edge) (which : ℕ) (e : Edge) (edge : Met → ℕ) → ((q : ℕ) → q < length ms → get_or met (5 * q + which) 0 ≡ edge (get_or ms q no_met))
      → under (length met / 5) es met which e ≡ joined (λ m. cond (same_key (edge_at es (edge m)) e) m.nodes []) ms
  unfolding under under_at
  under_is es which e edge at =
      let held : Met → List ℕ = λ m. cond (same_key (edge_at es (edge m)) e) m.nodes [] in
      ap (λ (n : ℕ). under n es met which e) stored.count
      ∙ gathered_ext (length ms) (under_at es met which e) (λ i. held (get_or ms i no_met))
      (λ q h. ap₂ (λ (k : ℕ) (ns : List ℕ). cond (same_key (edge_at es k) e) ns []) (at q h) (stored.nodes_at q h))
      ∙ sym (joined_is held ms no_met)

module _ (sc : Scene) (met : List ℕ) (stored : Stored sc.met met) where
  pub collected_is : (e : Edge) → collected_in sc.subject.edges sc.cutter.edges met e ≡ collected sc e
  unfolding collected_in collected
  collected_is e =
      let zero_on : (q : ℕ) → 5 * q + 0 ≡ 5 * q = λ q. omega arith in
      ap₂ (λ (l r : List ℕ). l ++ r)
      (under_is sc.met met stored sc.subject.edges 0 e (λ m. m.subject_edge) (λ q h. ap (λ (k : ℕ). get_or met k 0) (zero_on q) ∙ stored.subjects q h))
      (under_is sc.met met stored sc.cutter.edges 1 e (λ m. m.cutter_edge) (λ q h. stored.cutters q h))

  unless_is : (e : Edge) (ns : List ℕ) → unless_none sc.grid sc.coords e ns ≡ Nodes.unless_none sc e ns
  unless_is e [] = refl
  unless_is e (n ∷ ns) = refl

  pub sorted_is : (e : Edge) → sorted_in sc.grid sc.coords sc.subject.edges sc.cutter.edges met e ≡ sorted_nodes sc e
  unfolding sorted_in sorted_nodes
  sorted_is e = unless_is e (collected_in sc.subject.edges sc.cutter.edges met e) ∙ ap (Nodes.unless_none sc e) (collected_is e)

  -- the answer of `overfull`
  pub overfull_is : (edges : List ℕ) → has (crowded_at (pairs edges) sc.subject.edges sc.cutter.edges met) (length edges / 2) ≡ overfull sc (pairs edges)
  overfull_is edges =
      ap (has (crowded_at (pairs edges) sc.subject.edges sc.cutter.edges met)) (sym (pairs_length edges))
      ∙ ap (λ (k : ℕ). ltb k (length (pairs edges)))
      (first_ext (crowded_at (pairs edges) sc.subject.edges sc.cutter.edges met) (λ i. ltb 256 (length (collected sc (edge_at (pairs edges) i)))) (length (pairs edges))
      (λ i h. ap (λ (l : List ℕ). ltb 256 (length l)) (collected_is (edge_at (pairs edges) i))))

-- ---- what `sorted_nodes` asks of its caller

-- where no edge has too many, neither has an edge of the same key
pub within : (es subject cutter : List Edge) (met : List ℕ) (n i : ℕ) (e : Edge) → has (crowded_at es subject cutter met) n ≡ false → i < n → same_key e (edge_at es i) ≡ true
    → length (collected_in subject cutter met e) ≤ 256
within es subject cutter met n i e none h same =
    let few : length (collected_in subject cutter met (edge_at es i)) ≤ 256 = ltb-false 256 (length (collected_in subject cutter met (edge_at es i)))
    (has_none (crowded_at es subject cutter met) n i none h) in
    omega (arith, few, ap length (same_collected e (edge_at es i) same subject cutter met))
