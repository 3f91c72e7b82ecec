-- The coordinates of an overlay that the entry lets pass: what is lent is allowed, and where each new point comes from. Assumes nothing.
use mathlib.Core.Path.{◌≡◌, refl, sym, ap, ◌∙◌, subst}
use mathlib.Core.Logic.{◌⊎◌, inl, inr}
use mathlib.Core.Bool.{Bool, true, false, cond, not, ◌&&◌, true≢false}
use mathlib.Core.List.Memᴰ
use mathlib.Core.List.{List, [], ◌∷◌, ◌++◌, Memᴰ}
use Prim.Native.Nat.{ℕ, zero, suc, ◌+◌, ◌*◌, ◌^◌, ◌≤◌, ◌<◌}
use native.Mathlib.Nat.{le_refl}
use native.Mathlib.Omega.{arith}
use lib.Dec.{eqb, leb}
use lib.ListN.{length, get_or, get_or-append}
use lib.Ieee.{Float, nan, up, down}
use borrow.Author.Tests.{le-leb, ne_eqb}
use Rattle.lists.specs.Search.{has}
use Rattle.lists.specs.Regions.{run}
use Rattle.lists.proofs.Gather.{length_each, get_or_each, in_list, mem_at}
use Rattle.lists.proofs.Regions.{length_run, get_or_run}
use Rattle.entry.specs.Mesh.{Mesh, node_count, prior, cell_size}
use Rattle.entry.specs.Refused.{coord_ok}
use Rattle.entry.specs.Passed.{Placed, Sound}
use Rattle.entry.proofs.Passed.{cell_within, corner_below, node_within}
use Rattle.plane.specs.Plane.{point_at}
use Rattle.segments.specs.Meet.{meeting}
use Rattle.segments.specs.declared.Segment.{Segment}
use Rattle.segments.specs.declared.Meeting.{Meeting}
use Rattle.segments.specs.declared.Meeting.TheVariants.{Apart, Existing, New, Overlap}
use Rattle.cutting.specs.Edges.{Edge, edge_at, same_key, hops, ring}
use Rattle.grid.specs.Grid.{Grid, booked}
use Rattle.rules.specs.Mesh.{cell_at, cells_of}
use Rattle.rules.specs.Neighbours.{added, added_all, descending_to, subject_net}
use Rattle.rules.specs.Meetings.{segment_of, meeting_on, moved_to}
use Rattle.coordinates.specs.Booked.{Allowed, AllowedEnds}
use Rattle.coordinates.specs.Points.{Doubles}

-- what holds of each element
abbrev pub Each : {A : Type 0} → (A → Type 0) → List A → Type 0
Each {A} P xs = (x : A) → Memᴰ x xs → P x

pub each_join : {A : Type 0} {P : A → Type 0} (xs ys : List A) → Each P xs → Each P ys → Each P (xs ++ ys)
each_join {A} {P} xs ys h k x m = go (Memᴰ.append_cases xs m)
  where
    go : Memᴰ x xs ⊎ Memᴰ x ys → P x
    go (inl i) = h x i
    go (inr i) = k x i

pub each_none : {A : Type 0} (P : A → Type 0) → Each P []
each_none P x m = absurd (Memᴰ.not-nil m)

pub each_cons : {A : Type 0} {P : A → Type 0} (x : A) (xs : List A) → P x → Each P xs → Each P (x ∷ xs)
each_cons {A} {P} x xs h k y m = go (Memᴰ.cases_cons m)
  where
    go : (y ≡ x) ⊎ Memᴰ y xs → P y
    go (inl e) = subst P (sym e) h
    go (inr i) = k y i

-- ---- what holds of nodes holds of both ends of the edges between them

module _ (P : ℕ → Type 0) where
  abbrev BothEnds : Edge → Type 0
  BothEnds e = P e.0 × P e.1

  pub hops_each : (x : ℕ) (ys : List ℕ) → P x → Each P ys → Each (λ (e : Edge). P e.0 × P e.1) (hops x ys)
  unfolding hops
  hops_each x [] h k = each_none BothEnds
  hops_each x (y ∷ ys) h k = each_cons (x, y) (hops y ys) (h, k y (Memᴰ.head refl)) (hops_each y ys (k y (Memᴰ.head refl)) (λ z m. k z (Memᴰ.tail m)))

  pub ring_each : (xs : List ℕ) → Each P xs → Each (λ (e : Edge). P e.0 × P e.1) (ring xs)
  unfolding ring
  ring_each [] h = each_none BothEnds
  ring_each (x ∷ xs) h =
      hops_each x (xs ++ x ∷ []) (h x (Memᴰ.head refl)) (each_join xs (x ∷ []) (λ z m. h z (Memᴰ.tail m)) (each_cons x [] (h x (Memᴰ.head refl)) (each_none P)))

-- ---- the edges of a mesh are edges of its cells

module _ (P : Edge → Type 0) where
  added_each : (es : List Edge) (e : Edge) → Each P es → P e → Each P (added es e)
  unfolding added
  added_each es e h k = go (has (λ i. same_key (edge_at es i) e) (length es))
    where
      go : (b : Bool) → Each P (cond b es (es ++ e ∷ []))
      go true = h
      go false = each_join es (e ∷ []) h (each_cons e [] k (each_none P))

  added_all_each : (es fs : List Edge) → Each P es → Each P fs → Each P (added_all es fs)
  unfolding added_all
  added_all_each es [] h k = h
  added_all_each es (f ∷ fs) h k = added_all_each (added es f) fs (added_each es f h (k f (Memᴰ.head refl))) (λ z m. k z (Memᴰ.tail m))

  -- what holds of each edge of every cell holds of those that `compute_descending` keeps
  pub descending_each : (i : ℕ) (cells : List (List ℕ)) → i ≤ length cells → ((j : ℕ) → j < length cells → Each P (ring (get_or cells j []))) → Each P (descending_to i cells)
  unfolding descending_to
  descending_each zero cells h k = each_none P
  descending_each (suc i) cells h k = added_all_each (descending_to i cells) (ring (get_or cells i [])) (descending_each i cells (omega arith) k) (k i (omega arith))

-- ---- the nodes of a mesh's edges

module _ (n : ℕ) where
  abbrev pub Under : ℕ → Type 0
  Under x = x < n

  abbrev pub Both : Edge → Type 0
  Both e = (e.0 < n) × (e.1 < n)

  pub descending_under : (i : ℕ) (cells : List (List ℕ)) → i ≤ length cells → ((j : ℕ) → j < length cells → Each Under (get_or cells j [])) → Each Both (descending_to i cells)
  descending_under i cells h k = descending_each Both i cells h (λ j l. ring_each Under (get_or cells j []) (k j l))

-- those of a mesh of lines or of cells
module _ (lines : Bool) (s : Mesh) (ok : Sound lines s) where
  pub corners_under : (i : ℕ) → i < length s.ends → Each (Under (node_count s)) (cell_at s i)
  unfolding cell_at
  corners_under i h x m =
      let r = mem_at (run s.nodes (prior s.ends i) (cell_size s.ends i)) x m in
      let long : length (run s.nodes (prior s.ends i) (cell_size s.ends i)) ≡ cell_size s.ends i =
      length_run s.nodes (prior s.ends i) (cell_size s.ends i) (cell_within lines s ok i h) in
      let l : r.0 < cell_size s.ends i = omega (arith, r.1) in
      subst (λ (k : ℕ). k < node_count s) (sym (get_or_run s.nodes (prior s.ends i) (cell_size s.ends i) r.0 0 l) ∙ r.2 0) (corner_below lines s ok i h r.0 l)

  pub edges_under : Each (Both (node_count s)) (subject_net s).edges
  unfolding subject_net cells_of
  edges_under =
      let n : length (cells_of s) ≡ length s.ends = length_each (length s.ends) (cell_at s) in
      descending_under (node_count s) (length (cells_of s)) (cells_of s) (le_refl (length (cells_of s)))
      (λ j h. subst (Each (Under (node_count s))) (sym (get_or_each (length s.ends) (cell_at s) j [] (omega (arith, n)))) (corners_under j (omega (arith, n))))

-- ---- their ends are allowed

placed_ok : (x : Float) → Placed x → coord_ok x ≡ true
unfolding coord_ok
placed_ok x p = ap coord_ok p.finite ∙ go p.sign p.unsigned
  where
    go : (t : Bool) → (p.size ≡ 0 → t ≡ false) → leb (p.size * up p.power) (2 ^ 40 * down p.power) && not (t && eqb p.size 0) ≡ true
    go false k = rw (le-leb (p.size * up p.power) (2 ^ 40 * down p.power) p.bounded) refl
    go true k = rw (le-leb (p.size * up p.power) (2 ^ 40 * down p.power) p.bounded, ne_eqb p.size 0 (λ z. true≢false (k z))) refl

-- what a mesh lends is allowed
pub mesh_allowed : (lines : Bool) (m : Mesh) → Sound lines m → Doubles m.coords → Each Allowed m.coords
mesh_allowed lines m ok f64 x h =
    let r = mem_at m.coords x h in
    subst Allowed (r.2 nan) (record { fit = f64 r.0 r.1; ok = placed_ok (get_or m.coords r.0 nan) (ok.placed r.0 r.1) })

module _ (s c : Mesh) (ok : Sound false s) (f64 : Doubles s.coords) where
  allowed_at : (i : ℕ) → i < length s.coords → Allowed (get_or (s.coords ++ c.coords) i nan)
  allowed_at i h = subst Allowed (sym (get_or-append s.coords c.coords nan i h)) (mesh_allowed false s ok f64 (get_or s.coords i nan) (in_list s.coords i h nan))

  pub allowed_ends : (e : Edge) → Both (node_count s) e → AllowedEnds (segment_of (s.coords ++ c.coords) e)
  unfolding point_at
  allowed_ends e h =
      let a = node_within false s ok e.0 h.0 in
      let b = node_within false s ok e.1 h.1 in
      record { ax = allowed_at (2 * e.0) (omega arith); ay = allowed_at (2 * e.0 + 1) a; bx = allowed_at (2 * e.1) (omega arith); by = allowed_at (2 * e.1 + 1) b }

-- ---- the meeting rule on a grid

-- a new point on the grid is one before it was put there
pub before_moved : (g : Grid) (s o : Segment) (x y : Float) → meeting_on g s o ≡ New x y
    → (u : Float) × (v : Float) × (meeting s o ≡ New u v) × (booked g u ≡ x) × (booked g v ≡ y)
unfolding meeting_on
before_moved g s o x y e = go (meeting s o) refl e
  where
    go : (r : Meeting) → meeting s o ≡ r → moved_to g r ≡ New x y → (u : Float) × (v : Float) × (meeting s o ≡ New u v) × (booked g u ≡ x) × (booked g v ≡ y)
    go Apart i e = absurd cc
    go (Existing p) i e = absurd cc
    go (New u v) i e = (u, v, i, cc, cc)
    go (Overlap p q) i e = absurd cc
