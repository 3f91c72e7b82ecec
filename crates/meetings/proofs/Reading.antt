-- What the next stage reads: the numbers of a meeting in the working list, and their bounds. Assumes nothing.
use mathlib.Core.Path.{◌≡◌, refl, ap, ◌∙◌}
use mathlib.Core.List.{List, [], ◌∷◌, ◌++◌}
use Prim.Native.Nat.{ℕ, zero, suc, ◌+◌, ◌*◌, ◌≤◌, ◌<◌}
use native.Mathlib.Omega.{arith}
use lib.ListN.{length, get_or, take, get_or-append}
use lib.Seq.{get_or-append-add}
use lib.Ieee.{Float}
use Rattle.lists.specs.Gather.{joined}
use Rattle.segments.specs.declared.Meeting.{Meeting}
use Rattle.segments.specs.declared.Meeting.TheVariants.{Apart, Existing, New, Overlap}
use Rattle.cutting.specs.Edges.{Edge, edge_at}
use Rattle.grid.specs.Grid.{Grid}
use Rattle.rules.specs.SpatialIndex.{edge_box, candidates}
use Rattle.rules.specs.Neighbours.{Net}
use Rattle.rules.specs.Meetings.{Met, recorded, met_pair, met_all, meetings_to, meetings}
use Rattle.rules.proofs.EdgePairs.{next_node, meetings_keep}
use Rattle.meetings.specs.InNumbers.{five_numbers, in_numbers, net_on}

-- ---- five numbers a meeting

pub length_in_numbers : (ms : List Met) → length (in_numbers ms) ≡ 5 * length ms
unfolding joined
length_in_numbers [] = refl
length_in_numbers (x ∷ ms) = omega (arith, length_in_numbers ms)

-- number k of meeting q
pub in_numbers_at : (ms : List Met) (q k : ℕ) (d : Met) → q < length ms → k < 5 → get_or (in_numbers ms) (5 * q + k) 0 ≡ get_or (five_numbers (get_or ms q d)) k 0
unfolding joined
in_numbers_at [] q k d h l = absurd (omega arith)
in_numbers_at (x ∷ ms) zero k d h l =
    let at : 5 * zero + k ≡ k = omega arith in
    ap (λ (i : ℕ). get_or (five_numbers x ++ in_numbers ms) i 0) at ∙ get_or-append (five_numbers x) (in_numbers ms) 0 k l
in_numbers_at (x ∷ ms) (suc q) k d h l =
    let at : 5 * suc q + k ≡ 5 + (5 * q + k) = omega arith in
    ap (λ (i : ℕ). get_or (five_numbers x ++ in_numbers ms) i 0) at ∙ get_or-append-add (five_numbers x) (in_numbers ms) (5 * q + k) 0 ∙ in_numbers_at ms q k d (omega arith) l

-- ---- a meeting's edges are edges of the nets, and it has one or two nodes

module _ (g : Grid) (coords : List Float) (s c : Net) where
  abbrev pub Fit : Met → Type 0
  Fit x = (x.subject_edge < length s.edges) × (x.cutter_edge < length c.edges) × (1 ≤ length x.nodes) × (length x.nodes ≤ 2)

  abbrev AllFit : List Met → Type 0
  AllFit [] = Unit {0}
  AllFit (x ∷ xs) = Fit x × AllFit xs

  fit_append : (xs ys : List Met) → AllFit xs → AllFit ys → AllFit (xs ++ ys)
  fit_append [] ys a b = b
  fit_append (x ∷ xs) ys a b = (a.0, fit_append xs ys a.1 b)

  fit_at : (xs : List Met) (q : ℕ) (d : Met) → AllFit xs → q < length xs → Fit (get_or xs q d)
  fit_at [] q d a h = absurd (omega arith)
  fit_at (x ∷ xs) zero d a h = a.0
  fit_at (x ∷ xs) (suc q) d a h = fit_at xs q d a.1 (omega arith)

  fit_recorded : (i j next : ℕ) (e f : Edge) (x : Meeting) → i < length s.edges → j < length c.edges → AllFit (recorded i j next e f x)
  fit_recorded i j next e f Apart hi hj = tt
  fit_recorded i j next e f (Existing p) hi hj = ((hi, hj, omega arith, omega arith), tt)
  fit_recorded i j next e f (New x y) hi hj = ((hi, hj, omega arith, omega arith), tt)
  fit_recorded i j next e f (Overlap p q) hi hj = ((hi, hj, omega arith, omega arith), tt)

  pub meetings_fit : (q : ℕ) (d : Met) → q < length (meetings g coords s c) → Fit (get_or (meetings g coords s c) q d)
  meetings_fit q d h =
      let all : AllFit (meetings g coords s c) =
      meetings_keep g coords s c AllFit tt
      (λ i j ms r k e a. fit_append ms _ a (fit_recorded i j (next_node g coords s c ms) (edge_at s.edges i) (edge_at c.edges j) r k.subject k.cutter)) in
      fit_at (meetings g coords s c) q d all h

  -- a net gives its edges only
  all_edges : (i : ℕ) (js : List ℕ) (ms : List Met) → met_all g coords s c i js ms ≡ met_all g coords (net_on s.edges) (net_on c.edges) i js ms
  unfolding met_all met_pair
  all_edges i [] ms = refl
  all_edges i (j ∷ js) ms = all_edges i js (met_pair g coords s c i j ms)

  to_edges : (i : ℕ) → meetings_to g coords s c i ≡ meetings_to g coords (net_on s.edges) (net_on c.edges) i
  unfolding meetings_to
  to_edges zero = refl
  to_edges (suc i) =
      let js : List ℕ = candidates coords c.edges (edge_box coords (edge_at s.edges i)) in
      all_edges i js (meetings_to g coords s c i) ∙ ap (met_all g coords (net_on s.edges) (net_on c.edges) i js) (to_edges i)

  pub by_edges : meetings g coords s c ≡ meetings g coords (net_on s.edges) (net_on c.edges)
  unfolding meetings
  by_edges = to_edges (length s.edges)

-- one or two nodes, from their count and two numbers
pub nodes_read : (ns : List ℕ) → 1 ≤ length ns → length ns ≤ 2 → ns ≡ take (length ns) (get_or ns 0 0 ∷ get_or ns 1 0 ∷ [])
nodes_read [] h l = absurd (omega arith)
nodes_read (a ∷ []) h l = refl
nodes_read (a ∷ b ∷ []) h l = refl
nodes_read (a ∷ b ∷ c ∷ ns) h l = absurd (omega arith)
