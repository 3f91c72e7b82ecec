-- Meetings are found one edge pair after another: what each pair keeps, all meetings keep. Assumes nothing.
use mathlib.Core.Path.{◌≡◌, refl, subst}
use mathlib.Core.Bool.{true}
use mathlib.Core.List.{List, [], ◌∷◌, ◌++◌, Memᴰ}
use Prim.Native.Nat.{ℕ, zero, suc, ◌+◌, ◌/◌, ◌≤◌, ◌<◌}
use native.Mathlib.Nat.{le_refl}
use native.Mathlib.Omega.{arith}
use lib.ListN.{length}
use lib.Ieee.{Float}
use Rattle.lists.proofs.Gather.{mem_at, places_at}
use Rattle.segments.specs.declared.Meeting.{Meeting}
use Rattle.cutting.specs.Edges.{Edge, edge_at}
use Rattle.grid.specs.Grid.{Grid}
use Rattle.rules.specs.Neighbours.{Net}
use Rattle.rules.specs.SpatialIndex.{edge_box, boxes_meet, candidates}
use Rattle.rules.specs.Meetings.{Met, segment_of, added_by, recorded, met_pair, met_all, meetings_to, meetings, meeting_on}
use Rattle.rules.specs.declared.Bounds.{Bounds}

-- the candidates of a box are edges whose boxes meet it
candidate_meets : (coords : List Float) (es : List Edge) (b : Bounds) (j : ℕ) → Memᴰ j (candidates coords es b)
    → (j < length es) × (boxes_meet (edge_box coords (edge_at es j)) b ≡ true)
unfolding candidates
candidate_meets coords es b j m =
    let r = mem_at (candidates coords es b) j m in
    subst (λ (i : ℕ). (i < length es) × (boxes_meet (edge_box coords (edge_at es i)) b ≡ true)) (r.2 0)
    (places_at (λ i. boxes_meet (edge_box coords (edge_at es i)) b) (length es) r.0 r.1)

module _ (g : Grid) (coords : List Float) (s c : Net) where
  -- edge i of s and edge j of c, the boxes of which meet
  pub record Close (i j : ℕ) : Type 0 where
    pub subject : i < length s.edges
    pub cutter : j < length c.edges
    pub boxes : boxes_meet (edge_box coords (edge_at c.edges j)) (edge_box coords (edge_at s.edges i)) ≡ true

  -- the number of the next new point
  abbrev pub next_node : List Met → ℕ
  next_node ms = (length coords + length (added_by ms)) / 2

  -- such a pair keeps P: r is what the meeting rule says of it
  abbrev pub PairKeeps : (List Met → Type 0) → Type 0
  PairKeeps P = (i j : ℕ) (ms : List Met) (r : Meeting) → Close i j → meeting_on g (segment_of coords (edge_at s.edges i)) (segment_of coords (edge_at c.edges j)) ≡ r → P ms
      → P (ms ++ recorded i j (next_node ms) (edge_at s.edges i) (edge_at c.edges j) r)

  module _ (P : List Met → Type 0) (none : P []) (kept : PairKeeps P) where
    all_keep : (i : ℕ) (js : List ℕ) (ms : List Met) → ((j : ℕ) → Memᴰ j js → Close i j) → P ms → P (met_all g coords s c i js ms)
    unfolding met_all met_pair
    all_keep i [] ms h p = p
    all_keep i (j ∷ js) ms h p = all_keep i js (met_pair g coords s c i j ms) (λ k m. h k (Memᴰ.tail m)) (kept i j ms _ (h j (Memᴰ.head refl)) refl p)

    to_keep : (i : ℕ) → i ≤ length s.edges → P (meetings_to g coords s c i)
    unfolding meetings_to
    to_keep zero h = none
    to_keep (suc i) h =
        all_keep i (candidates coords c.edges (edge_box coords (edge_at s.edges i))) (meetings_to g coords s c i)
        (λ j m. let b = candidate_meets coords c.edges (edge_box coords (edge_at s.edges i)) j m in record { subject = omega arith; cutter = b.0; boxes = b.1 })
        (to_keep i (omega arith))

    pub meetings_keep : P (meetings g coords s c)
    unfolding meetings
    meetings_keep = to_keep (length s.edges) (le_refl (length s.edges))
