-- Nodes in order: the search for a place among them, and that sorted nodes are in order. Assumes nothing.
use mathlib.Core.Path.{◌≡◌, refl, sym, ap, ◌∙◌}
use mathlib.Core.Bool.{Bool, true, false, true≢false}
use mathlib.Core.List.{List}
use Prim.Native.Nat.{ℕ, ◌+◌, ◌*◌, ◌/◌, ◌≤◌}
use native.Mathlib.Nat.{le_antisymm}
use native.Mathlib.Omega.{arith}
use lib.ListN.{length, get_or}
use lib.Ieee.{Float}
use Rattle.lists.specs.Gather.{places}
use Rattle.lists.specs.Sort.{sorted}
use Rattle.lists.specs.Regions.{front}
use Rattle.lists.proofs.Gather.{places_le, places_at}
use Rattle.lists.proofs.Sort.{length_sorted}
use Rattle.lists.proofs.Halving.{Turns}
use Rattle.lists.proofs.Rising.{All, all_at, all_of, rising_at, sorted_all, sorted_rising}
use Rattle.plane.specs.Plane.{is_number, x_of, y_of, point_at}
use Rattle.plane.proofs.FloatOrder.{finite_number}
use Rattle.entry.specs.Passed.{Placed}
use Rattle.entry.proofs.Passed.{placed_finite}
use Rattle.snap.specs.Steps.{AllPlaced, NodePlaced, InOrder, marked, before, indices_in_order}
use Rattle.snap.proofs.Precedence.{precedes_asym, precedes_through}

-- ---- the search for a place

-- the test of the search
abbrev pub behind_at : List Float → List ℕ → ℕ → ℕ → Bool
behind_at coords order v i = before coords v (get_or order i 0)

placed_number : (x : Float) → Placed x → is_number x ≡ true
placed_number x p = finite_number x (placed_finite x p)

pub before_asym : (coords : List Float) (u v : ℕ) → before coords u v ≡ true → before coords v u ≡ false
before_asym coords u v = precedes_asym (point_at coords u) (point_at coords v)

-- what doesn't stand before goes on through a node with a place
pub before_through : (coords : List Float) (u v w : ℕ) → NodePlaced coords v → before coords u v ≡ false → before coords v w ≡ false
    → before coords u w ≡ false
unfolding point_at
before_through coords u v w p h k =
    precedes_through (point_at coords u) (point_at coords v) (point_at coords w) (placed_number (x_of coords v) p.0) (placed_number (y_of coords v) p.1) h k

pub place_turns : (coords : List Float) (order : List ℕ) (v : ℕ) → InOrder coords order → Turns (behind_at coords order v) (length order)
place_turns coords order v o i j h l e = go (behind_at coords order v j) refl
  where
    go : (t : Bool) → behind_at coords order v j ≡ t → behind_at coords order v j ≡ true
    go true f = f
    go false f = absurd (true≢false (sym e ∙ before_through coords v (get_or order j 0) (get_or order i 0) (o.placed j l) f (o.rises i j h l)))

-- ---- the sort

-- the marked ones of the first i nodes, in order
abbrev pub order_to : ℕ → List Float → List ℕ → List ℕ
order_to i coords marks = sorted (before coords) (places (marked marks) i)

-- nodes of a mesh that the entry lets pass
pub marked_placed : (coords : List Float) (marks : List ℕ) (i : ℕ) → AllPlaced coords → i ≤ length coords / 2 → All (NodePlaced coords) (places (marked marks) i)
marked_placed coords marks i placed h =
    let xs : List ℕ = places (marked marks) i in
    all_of (NodePlaced coords) xs 0 (λ k l. let b = (places_at (marked marks) i k l).0 in (placed (2 * get_or xs k 0) (omega arith), placed (2 * get_or xs k 0 + 1) (omega arith)))

pub sorted_in_order : (coords : List Float) (xs : List ℕ) → All (NodePlaced coords) xs → InOrder coords (sorted (before coords) xs)
sorted_in_order coords xs good =
    record {
      placed = λ k l. all_at (NodePlaced coords) (sorted (before coords) xs) (sorted_all (before coords) (NodePlaced coords) xs good) k 0 l;
      rises = λ k j b l. rising_at (before coords) (sorted (before coords) xs)
          (sorted_rising (before coords) (NodePlaced coords) (before_asym coords) (before_through coords) xs good) k j 0 b l;
    }

pub order_rises : (coords : List Float) (marks : List ℕ) (i : ℕ) → AllPlaced coords → i ≤ length coords / 2 → InOrder coords (order_to i coords marks)
order_rises coords marks i placed h = sorted_in_order coords (places (marked marks) i) (marked_placed coords marks i placed h)

module _ (coords : List Float) (marks : List ℕ) where
  pub length_order_to : (i : ℕ) → length (order_to i coords marks) ≤ i
  length_order_to i = omega (arith, length_sorted (before coords) (places (marked marks) i), places_le (marked marks) i)

  pub order_end : (s : List ℕ) (k i : ℕ) → i ≤ length marks → length marks ≤ i → k ≡ length (order_to i coords marks) → s ≡ front marks (order_to i coords marks)
      → (k ≡ length (indices_in_order coords marks)) × (s ≡ front marks (indices_in_order coords marks))
  unfolding indices_in_order
  order_end s k i a b ke se =
      let all : order_to i coords marks ≡ order_to (length marks) coords marks = ap (λ (j : ℕ). order_to j coords marks) (le_antisymm {n = i} {m = length marks} a b) in
      (ke ∙ ap length all, se ∙ ap (front marks) all)
