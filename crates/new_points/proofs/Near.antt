-- A cell is cut, and not copied, where an edge of the other mesh has a box that meets that of one of its edges. Assumes nothing.
use mathlib.Core.Path.{◌≡◌, refl, ap₂}
use mathlib.Core.Bool.{true, false, cond}
use mathlib.Core.List.Memᴰ
use mathlib.Core.List.{List, [], ◌∷◌, ◌++◌, Memᴰ}
use Prim.Native.Nat.{ℕ, ◌+◌, ◌*◌, ◌<◌}
use lib.ListN.{length}
use lib.Ieee.{Float, inf}
use Rattle.lists.proofs.Gather.{in_gathered}
use Rattle.plane.specs.Plane.{point_at}
use Rattle.plane.specs.declared.Point.{Point}
use Rattle.cutting.specs.Edges.{Edge, edge_at, ring}
use Rattle.rules.specs.Mesh.{Side, other}
use Rattle.rules.specs.SpatialIndex.{stretched, box_to, box_of, edge_box, boxes_meet, candidates}
use Rattle.rules.specs.Meetings.{Scene, net_of}
use Rattle.rules.specs.Cell.{darts_of, cell_of, near_of, treated_by, treated, outline_of}
use Rattle.coordinates.proofs.Meetings.{same_point}
use Rattle.new_points.proofs.Boxes.{Numbers, box_covers_edge, meets_covering}
use Rattle.new_points.proofs.Rings.{ring_ends}

-- ---- coordinates behind those lent change no box

pub same_box : (coords more : List Float) (e : Edge) → 2 * e.0 + 1 < length coords → 2 * e.1 + 1 < length coords → edge_box (coords ++ more) e ≡ edge_box coords e
unfolding box_to
same_box coords more e h k =
    ap₂ (λ (p q : Point). stretched (stretched (record { left = inf false; low = inf false; right = inf true; high = inf true }) p) q) (same_point coords more e.0 h)
    (same_point coords more e.1 k)

-- ---- near edges

module _ (sc : Scene) (w : Side) (i : ℕ) (numbers : (n : ℕ) → Memᴰ n (cell_of sc w i) → Numbers (point_at sc.coords n)) (e : Edge) (own : Memᴰ e (ring (cell_of sc w i)))
    (j : ℕ) (low : j < length (net_of sc (other w)).edges)
    (meets : boxes_meet (edge_box sc.coords (edge_at (net_of sc (other w)).edges j)) (edge_box sc.coords e) ≡ true) where
  near_has : Memᴰ j (near_of sc w i)
  unfolding near_of candidates
  near_has =
      let ends = ring_ends (cell_of sc w i) e own in
      let b = box_of sc.coords (cell_of sc w i) in
      let es = (net_of sc (other w)).edges in
      let yes_it_meets : boxes_meet (edge_box sc.coords (edge_at es j)) b ≡ true =
      meets_covering (edge_box sc.coords (edge_at es j)) (edge_box sc.coords e) b meets (box_covers_edge sc.coords (cell_of sc w i) numbers e ends.0 ends.1) in
      in_gathered (length es) (λ k. cond (boxes_meet (edge_box sc.coords (edge_at es k)) b) (k ∷ []) []) j j low (rw yes_it_meets (Memᴰ.head refl))

  -- The outline as cut is the list of outline darts.
  pub near_cut : outline_of sc w i ≡ darts_of sc (cell_of sc w i)
  unfolding treated
  near_cut = go (near_of sc w i) near_has
    where
      go : (js : List ℕ) → Memᴰ j js → (treated_by sc w i js).outline ≡ darts_of sc (cell_of sc w i)
      go [] m = absurd (Memᴰ.not-nil m)
      go (k ∷ ks) m = refl
