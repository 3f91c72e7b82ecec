-- What callers use of `weld`: what it looks at, how many numbers there are, and how large they are. Assumes nothing.
use mathlib.Core.Path.{◌≡◌, refl}
use mathlib.Core.Bool.{Bool, true, false, cond}
use mathlib.Core.List.{List, []}
use Prim.Native.Nat.{ℕ, zero, suc, ◌+◌, ◌≤◌, ◌<◌}
use native.Mathlib.Omega.{arith}
use lib.Dec.{eqb}
use lib.ListN.{length, get_or}
use lib.Ieee.{Float, lt}
use Rattle.lists.specs.Search.{named}
use Rattle.lists.proofs.Gather.{length_each, get_or_each}
use Rattle.plane.specs.declared.Point.{Point}
use Rattle.plane.specs.Plane.{point_at}
use Rattle.entry.specs.Mesh.{Mesh, mesh, node_count}
use Rattle.std.specs.Prelude.{Some}
use Rattle.rules.specs.declared.Nearest.{Nearest}
use Rattle.rules.specs.Snap.{used_nodes, sorted_indices_for, distance2, nearest_to, closest_within, or_shifted, number_of, weld}
use Rattle.rules.proofs.Weld.{order_below}
use Rattle.snap.specs.Steps.{Below}

-- only coordinates, layers and node numbers count
pub weld_lists : (s c : Mesh) → weld s c ≡ weld (mesh s.coords s.layers s.nodes [] [] []) (mesh c.coords c.layers c.nodes [] [] [])
unfolding weld used_nodes sorted_indices_for
weld_lists s c = refl

-- ---- so each number is that of a node of one of the meshes

or_shifted_below : (m other : ℕ) → other < m → (coords : List Float) (layers order : List ℕ) (sought : ℕ) (p : Point) → Below m order → (k : ℕ) → k ≤ length order
    → or_shifted other (nearest_to k coords layers order sought p).node < m
unfolding nearest_to
or_shifted_below m other o coords layers order sought p b zero h = o
or_shifted_below m other o coords layers order sought p b (suc k) h =
    go (eqb (get_or layers n 0) sought) (lt (distance2 p (point_at coords n)) best.dist2) (or_shifted_below m other o coords layers order sought p b k (omega arith))
  where
    n : ℕ
    n = get_or order k 0

    best : Nearest
    best = nearest_to k coords layers order sought p

    go : (s t : Bool) → or_shifted other best.node < m
        → (let r : Nearest = cond s (cond t (record { dist2 = distance2 p (point_at coords n); node = Some n }) best) best in or_shifted other r.node < m)
    go true true ih = b k (omega arith)
    go true false ih = ih
    go false t ih = ih

module _ (s c : Mesh) where
  pub length_weld : length (weld s c) ≡ node_count c
  unfolding weld
  length_weld = length_each (node_count c) (number_of s c (sorted_indices_for s))

  pub weld_at : (j : ℕ) → j < node_count c → get_or (weld s c) j 0 ≡ number_of s c (sorted_indices_for s) j
  unfolding weld
  weld_at j h = get_or_each (node_count c) (number_of s c (sorted_indices_for s)) j 0 h

  pub weld_below : Below (node_count s + node_count c) (weld s c)
  unfolding closest_within
  weld_below j h = rw (weld_at j within) (go (named c.nodes j))
    where
      within : j < node_count c
      within = omega (arith, length_weld)

      order : List ℕ
      order = sorted_indices_for s

      near : ℕ
      near = or_shifted (j + node_count s) (closest_within s.coords s.layers order (get_or c.layers j 0) (point_at c.coords j))

      near_below : near < node_count s + node_count c
      near_below =
          or_shifted_below (node_count s + node_count c) (j + node_count s) (omega (arith, within)) s.coords s.layers order (get_or c.layers j 0) (point_at c.coords j)
          (λ k l. omega (arith, order_below s k l)) (length order) (omega arith)

      go : (t : Bool) → cond t near (j + node_count s) < node_count s + node_count c
      go true = near_below
      go false = omega (arith, within)
