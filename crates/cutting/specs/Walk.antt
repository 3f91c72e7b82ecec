-- `walk_dart_map`: document 01, module 6; document 02, W1. Assumes nothing.
use Rattle.std.specs.Prelude.{Bool, true, false, not, ◌&&◌, List, [], ◌∷◌, ◌++◌, map, ℕ, zero, suc, ◌+◌, ◌*◌, eqb, ltb, length, get_or, set}
use Rattle.lists.specs.Search.{first}
use Rattle.cutting.specs.Edges.{Edge}
use Rattle.cutting.specs.declared.Slot.{Slot}

-- where a walk stands: between two pieces, or on a slot, with the piece's first corner and its others so far
pub data Phase : Type 0 where
  resting : Phase
  on_slot : ℕ → List ℕ → ℕ → Phase

-- the heap's end stands first in `heap`
pub record State : Type 0 where
  pub marks : List Bool
  pub heap : List ℕ
  pub done : List (List ℕ)
  pub phase : Phase

abbrev pub state : List Bool → List ℕ → List (List ℕ) → Phase → State
state marks heap done phase = record { marks = marks; heap = heap; done = done; phase = phase }

-- what a step leads to: a further state, the pieces once the heap is empty, refusal 11, or what no cell's table comes to (no slot for a dart, or too few steps)
pub data Next : Type 0 where
  more : State → Next
  closed : List (List ℕ) → Next
  stuck : Next
  broken : Next

abbrev pub or_else : Bool → ℕ → ℕ → ℕ
or_else true j k = j
or_else false j k = k

-- the slot i leads from the node a to the node b
abbrev pub leads : List ℕ → List ℕ → ℕ → ℕ → ℕ → Bool
leads src dst a b i = eqb (get_or src i 0) a && eqb (get_or dst i 0) b

-- the slot i is an unmarked one at the node a
abbrev pub open_at : List ℕ → List Bool → ℕ → ℕ → Bool
open_at src marks a i = eqb (get_or src i 0) a && not (get_or marks i false)

-- the first slot that leads from a to b; n where none does
unfoldable pub slot : ℕ → List ℕ → List ℕ → ℕ → ℕ → ℕ
slot n src dst a b = first (leads src dst a b) 0 n

-- the first unmarked slot of the node a after its slot r, going round; r itself last, where the walk may turn back; n where there is none
unfoldable pub next_open : Bool → ℕ → List ℕ → List Bool → ℕ → ℕ → ℕ
next_open turning n src marks a r =
    let late = first (open_at src marks a) (r + 1) n in
    let early = first (open_at src marks a) 0 r in
    or_else (ltb late n) late (or_else (ltb early r) early (or_else (turning && not (get_or marks r false)) r n))

-- whether the walk may turn back along the reverse of the dart it came by; a table of n slots: slot i leads from the node src i to the node dst i
module _ (turning : Bool) (n : ℕ) (src dst : List ℕ) where
  -- the slot i is taken off the heap: unmarked, it begins a piece; marked, it is passed over
  unfoldable pub begin : State → ℕ → Next
  begin s i =
      let from : Phase = elim (get_or s.marks i false) [ true ↦ resting | false ↦ on_slot (get_or src i 0) [] i ] in
      elim (ltb i n) [ true ↦ more (state s.marks s.heap s.done from) | false ↦ broken ]

  -- between two pieces
  unfoldable pub rest : State → Next
  rest s = elim s.heap [ [] ↦ closed s.done | i ∷ heap ↦ begin (state s.marks heap s.done resting) i ]

  -- a piece of the corners `start` and `mid` goes on along the slot j
  unfoldable pub onward : State → ℕ → List ℕ → ℕ → Next
  onward s start mid j = elim (ltb j n) [ true ↦ more (state s.marks s.heap s.done (on_slot start mid j)) | false ↦ stuck ]

  -- It comes to the node y, by a slot whose reverse is r, and closes when its first node returns.
  unfoldable pub arrive : State → ℕ → List ℕ → ℕ → ℕ → Next
  arrive s start mid y r = elim (eqb y start) [
    | true ↦ more (state s.marks s.heap (s.done ++ (start ∷ mid) ∷ []) resting)
    | false ↦ onward s start (mid ++ y ∷ []) (next_open turning n src s.marks y r)
  ]

  -- along the slot i: it is marked, and its reverse goes onto the heap, unmarked as it is
  unfoldable pub follow : State → ℕ → List ℕ → ℕ → Next
  follow s start mid i =
      let y = get_or dst i 0 in
      let r = slot n src dst y (get_or src i 0) in
      elim (ltb r n) [ true ↦ arrive (state (set s.marks i true) (r ∷ s.heap) s.done s.phase) start mid y r | false ↦ broken ]

  unfoldable pub step : State → Next
  step s = elim s.phase [ resting ↦ rest s | on_slot start mid i ↦ follow s start mid i ]

  -- at most k steps
  unfoldable pub walk_steps : ℕ → State → Next
  walk_steps zero s = broken
  walk_steps (suc k) s = elim (step s) [ more t ↦ walk_steps k t | closed ps ↦ closed ps | stuck ↦ stuck | broken ↦ broken ]

-- the first slots of the outline darts, the last dart's first
unfoldable pub starts : ℕ → List ℕ → List ℕ → List Edge → List ℕ → List ℕ
starts n src dst [] heap = heap
starts n src dst (e ∷ es) heap = starts n src dst es (slot n src dst e.0 e.1 ∷ heap)

-- a step marks a slot or takes one off the heap, and puts one on it only where it marks: so many steps do
unfoldable pub walk_from : Bool → ℕ → List ℕ → List ℕ → List Bool → List ℕ → Next
walk_from turning n src dst marks heap = walk_steps turning n src dst (2 * n + length heap + 1) (state marks heap [] resting)

abbrev pub srcs : List Slot → List ℕ
srcs t = map (λ s. s.src) t

abbrev pub dsts : List Slot → List ℕ
dsts t = map (λ s. s.dst) t

abbrev pub marks_of : List Slot → List Bool
marks_of t = map (λ s. s.marked) t

-- an unmarked slot at the node a
abbrev pub opens_from : ℕ → Slot → Bool
opens_from a s = eqb s.src a && not s.marked

-- the walk of a table from the outline's darts, by whether it may turn back
unfoldable pub walk_with : Bool → List Edge → List Slot → Next
walk_with turning outline t = walk_from turning (length t) (srcs t) (dsts t) (marks_of t) (starts (length t) (srcs t) (dsts t) outline [])

-- it may: "when no other slot is free, the walk shall turn back along the reverse of the dart it came by, if that slot is unmarked"
abbrev pub walk : List Edge → List Slot → Next
walk outline t = walk_with true outline t
