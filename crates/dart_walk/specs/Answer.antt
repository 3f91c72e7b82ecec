-- What a walk answers, and writes to lent lists. Assumes nothing.
use Rattle.std.specs.Prelude.{◌≡◌, true, Result, Ok, Err, List, [], ◌∷◌, ℕ, zero, suc, ◌+◌, ◌-◌, ◌≤◌, ◌<◌, length, get_or, set, take, drop}
use Rattle.lists.specs.Regions.{front, zeros}
use Rattle.dart_walk.specs.declared.Counts.{Counts}
use Rattle.cutting.specs.declared.Slot.{Slot}
use Rattle.cutting.specs.Walk.{walk_from, slot, srcs, dsts, marks_of}
use Rattle.cutting.specs.Outcome.{Outcome, refusal, pieces, of_walk, flat, stops}

-- for k pieces with m corners in all
abbrev pub closed_with : ℕ → ℕ → Result Counts ℕ
closed_with k m = Ok (record { pieces = k; entries = m })

-- how many pieces and corners, or the refusal by document 01's number
abbrev pub answer : Outcome → Result Counts ℕ
answer (pieces ps) = closed_with (length ps) (length (flat ps))
answer (refusal k) = Err k

-- what the lists of corners and of ends come to: the pieces at their front, or zeros on a refusal
unfoldable pub corners_in : Outcome → List ℕ → List ℕ
corners_in (pieces ps) nodes = front nodes (flat ps)
corners_in (refusal k) nodes = zeros (length nodes)

unfoldable pub ends_in : Outcome → List ℕ → List ℕ
ends_in (pieces ps) stops₀ = front stops₀ (stops 0 ps)
ends_in (refusal k) stops₀ = zeros (length stops₀)

-- the first k pieces as they are read from the two lists, after the first `from` corners
unfoldable pub pieces_in : ℕ → ℕ → List ℕ → List ℕ → List (List ℕ)
pieces_in from zero nodes stops₀ = []
pieces_in from (suc k) nodes [] = []
pieces_in from (suc k) nodes (e ∷ stops₀) = take (e - from) nodes ∷ pieces_in e k (drop (e - from) nodes) stops₀

-- ---- what only inner functions' contracts and laws cite

-- what the walk of some slots comes to, from those on the heap
abbrev pub walked_from : List Slot → List ℕ → Outcome
walked_from slots heap = of_walk (walk_from true (length slots) (srcs slots) (dsts slots) (marks_of slots) heap)

-- the same slots, but that slot i is marked
pub record Marked (slots : List Slot) (i : ℕ) (slots' : List Slot) : Type 0 where
  pub from : srcs slots' ≡ srcs slots
  pub to : dsts slots' ≡ dsts slots
  pub marks : marks_of slots' ≡ set (marks_of slots) i true

-- the slot that leads back along slot i
abbrev pub reverse_in : List Slot → ℕ → ℕ
reverse_in slots i = slot (length slots) (srcs slots) (dsts slots) (get_or (dsts slots) i 0) (get_or (srcs slots) i 0)

-- slot i was gone along, to the node y, with the reverse r
pub record Followed (slots : List Slot) (heap : List ℕ) (i : ℕ) (slots' : List Slot) (heap' : List ℕ) (y r : ℕ) : Type 0 where
  pub marked : Marked slots i slots'
  pub node : y ≡ get_or (dsts slots) i 0
  pub reverse : r ≡ reverse_in slots i
  pub within : r < length slots
  pub pushed : heap' ≡ r ∷ heap

-- there is room for the walk of n slots
pub record Room (n : ℕ) (heap nodes stops : List ℕ) : Type 0 where
  pub small : n ≤ 1024
  pub heaps : n + length heap ≤ 2048
  pub corners : n ≤ length nodes
  pub stopped : n ≤ length stops

abbrev pub Written : Outcome → List ℕ → List ℕ → List ℕ → List ℕ → Type 0
Written (pieces ps) nodes₀ stops₀ nodes stops' = (nodes ≡ front nodes₀ (flat ps)) × (stops' ≡ front stops₀ (stops 0 ps))
Written (refusal k) nodes₀ stops₀ nodes stops' = Unit {0}
