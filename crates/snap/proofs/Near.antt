-- The turns of `closest_within`: which nodes are looked at, and that the others are too far. Assumes nothing.
use mathlib.Core.Path.{◌≡◌, refl, sym, ap, ap₂, ◌∙◌, subst}
use mathlib.Core.Bool.{Bool, true, false, cond, true≢false}
use mathlib.Core.List.{List}
use Rattle.std.specs.Prelude.{Some}
use Prim.Native.Nat.{ℕ, zero, suc, ◌+◌, ◌-◌, ◌≤◌, ◌<◌}
use native.Mathlib.Nat.{le_antisymm, le_of_eq, add-zero}
use native.Mathlib.Decide.{dec_le, ℕ_discrete}
use native.Mathlib.Omega.{arith}
use native.Mathlib.Numerals.{add-one}
use lib.Dec.{T, eqb}
use lib.ListN.{length, get_or, take, drop, length-drop}
use lib.Seq.{get_or-drop, take_all}
use lib.Ieee.{Float, neg, lt, le}
use lib.Ieee.Scale.{finite}
use Rattle.lists.proofs.Search.{first_none}
use Rattle.lists.proofs.Halving.{Turns}
use Rattle.plane.specs.Plane.{◌⊖◌, ◌⊗◌, x_of, point_at}
use Rattle.plane.specs.declared.Point.{Point}
use Rattle.plane.proofs.FloatLe.{le_not_lt}
use Rattle.plane.proofs.FloatOrder.{lt_asym, lt_irrefl, not_lt_trans, number_right}
use Rattle.entry.proofs.Passed.{placed_finite}
use Rattle.rules.specs.Snap.{weld_eps, distance2, nearest_to, nearer, closest_within}
use Rattle.rules.specs.declared.Nearest.{Nearest}
use Rattle.snap.specs.Steps.{InOrder, ahead, window_start}
use Rattle.rounding.proofs.Differences.{stays_above, stays_below}
use Rattle.snap.proofs.Squares.{square_number, far_left, far_right}
use Rattle.snap.proofs.Precedence.{precedes_left}

-- ---- nodes that are too far

-- a node that isn't nearer leaves the nearest as it is, whatever its layer
left_out : (s : Bool) (d : Float) (v : ℕ) (best : Nearest) → lt d best.dist2 ≡ false → cond s (nearer d v best) best ≡ best
left_out true d v best e = ap (λ (t : Bool). cond t (record { dist2 = d; node = Some v }) best) e
left_out false d v best e = refl

-- the squared distance of the i-th node isn't below that asked for
abbrev FarAt : List Float → Point → List ℕ → ℕ → Type 0
FarAt coords p order i = lt (distance2 p (point_at coords (get_or order i 0))) (weld_eps ⊗ weld_eps) ≡ false

module _ (coords : List Float) (layers : List ℕ) (sought : ℕ) (p : Point) where
  nearest_within : (order : List ℕ) (k : ℕ) → lt (weld_eps ⊗ weld_eps) (nearest_to k coords layers order sought p).dist2 ≡ false
  unfolding nearest_to
  nearest_within order zero = lt_irrefl (weld_eps ⊗ weld_eps)
  nearest_within order (suc k) = go (eqb (get_or layers (get_or order k 0) 0) sought) (lt d best.dist2) refl (nearest_within order k)
    where
      best : Nearest
      best = nearest_to k coords layers order sought p

      d : Float
      d = distance2 p (point_at coords (get_or order k 0))

      go : (s t : Bool) → lt d best.dist2 ≡ t → lt (weld_eps ⊗ weld_eps) best.dist2 ≡ false
          → (let r : Nearest = cond s (cond t (record { dist2 = d; node = Some (get_or order k 0) }) best) best in lt (weld_eps ⊗ weld_eps) r.dist2 ≡ false)
      go true true e ih = not_lt_trans (weld_eps ⊗ weld_eps) best.dist2 d (number_right d best.dist2 e) ih (lt_asym d best.dist2 e)
      go true false e ih = ih
      go false t e ih = ih

  -- they leave the nearest as it is
  far_kept : (order : List ℕ) (m n : ℕ) → m ≤ n → ((i : ℕ) → m ≤ i → i < n → FarAt coords p order i)
      → nearest_to n coords layers order sought p ≡ nearest_to m coords layers order sought p
  unfolding nearest_to
  far_kept order m zero h far = ap (λ (k : ℕ). nearest_to k coords layers order sought p) (let e : 0 ≡ m = omega arith in e)
  far_kept order m (suc n) h far = go (dec_le m n) (λ l. far_kept order m n l (λ i a b. far i a (omega arith)))
    where
      best : Nearest
      best = nearest_to n coords layers order sought p

      go : Dec (m ≤ n) → (m ≤ n → best ≡ nearest_to m coords layers order sought p)
          → nearest_to (suc n) coords layers order sought p ≡ nearest_to m coords layers order sought p
      go (yes l) ih =
          let d : Float = distance2 p (point_at coords (get_or order n 0)) in
          left_out (eqb (get_or layers (get_or order n 0) 0) sought) d (get_or order n 0) best
          (not_lt_trans d (weld_eps ⊗ weld_eps) best.dist2 square_number (far n l (omega arith)) (nearest_within order n)) ∙ ih l
      go (no l) ih = ap (λ (k : ℕ). nearest_to k coords layers order sought p) (let e : suc n ≡ m = omega arith in e)

  -- those in front are left out
  far_dropped : (order : List ℕ) (m : ℕ) → ((i : ℕ) → i < m → FarAt coords p order i) → (k : ℕ)
      → nearest_to (m + k) coords layers order sought p ≡ nearest_to k coords layers (drop m order) sought p
  unfolding nearest_to
  far_dropped order m far zero = ap (λ (k : ℕ). nearest_to k coords layers order sought p) (add-zero m) ∙ far_kept order 0 m (omega arith) (λ i a b. far i b)
  far_dropped order m far (suc k) =
      ap (λ (j : ℕ). nearest_to j coords layers order sought p) (let e : m + suc k ≡ suc (m + k) = omega arith in e)
      ∙ ap₂ (λ (n : ℕ) (b : Nearest). cond (eqb (get_or layers n 0) sought) (nearer (distance2 p (point_at coords n)) n b) b)
      (sym (get_or-drop m order k 0)) (far_dropped order m far k)

-- ---- the window

module _ (coords : List Float) (order : List ℕ) (p : Point) where
  -- the test of the search: the i-th node isn't 1e-12 or more to the left of p
  abbrev pub near_at : ℕ → Bool
  near_at i = lt (ahead coords p (get_or order i 0)) weld_eps

  module _ (o : InOrder coords order) where
    not_left : (i j : ℕ) → i < j → j < length order → lt (point_at coords (get_or order j 0)).x (point_at coords (get_or order i 0)).x ≡ false
    not_left i j h l = precedes_left (point_at coords (get_or order j 0)) (point_at coords (get_or order i 0)) (o.rises i j h l)

    finite_x : (i : ℕ) → i < length order → T (finite (point_at coords (get_or order i 0)).x)
    unfolding point_at
    finite_x i h = placed_finite (x_of coords (get_or order i 0)) (o.placed i h).0

    pub window_turns : Turns near_at (length order)
    window_turns i j h l e = go (near_at j) refl
      where
        go : (t : Bool) → near_at j ≡ t → near_at j ≡ true
        go true f = f
        go false f = absurd (true≢false (sym e ∙ stays_above p.x weld_eps (point_at coords (get_or order i 0)).x (point_at coords (get_or order j 0)).x
            (finite_x i (omega arith)) (finite_x j l) (not_left i j h l) f))

    -- from a node on that lies 1e-12 or more to the right of p all are too far
    far_behind : (i : ℕ) → i < length order → lt (neg weld_eps) (ahead coords p (get_or order i 0)) ≡ false → (j : ℕ) → i ≤ j → j < length order → FarAt coords p order j
    far_behind i h e j l m = far_right p (point_at coords (get_or order j 0)) (go (ℕ_discrete i j))
      where
        go : Dec (i ≡ j) → lt (neg weld_eps) (ahead coords p (get_or order j 0)) ≡ false
        go (yes q) = ap (λ (k : ℕ). lt (neg weld_eps) (ahead coords p (get_or order k 0))) (sym q) ∙ e
        go (no q) = stays_below p.x (neg weld_eps) (point_at coords (get_or order i 0)).x (point_at coords (get_or order j 0)).x
            (finite_x i h) (finite_x j m) (not_left i j (omega arith) m) e

-- ---- the loop

module _ (coords : List Float) (layers order : List ℕ) (sought : ℕ) (p : Point) where
  -- a node of the layer sought; one of another leaves the nearest as it is
  pub near_turn : (b c : Nearest) (q : Point) (d : Float) (l i : ℕ) → b ≡ nearest_to i coords layers order sought p → q ≡ point_at coords (get_or order i 0)
      → l ≡ get_or layers (get_or order i 0) 0 → eqb l sought ≡ true → d ≡ distance2 p q → c ≡ nearer d (get_or order i 0) b
      → c ≡ nearest_to (i + 1) coords layers order sought p
  unfolding nearest_to
  near_turn b c q d l i be qe le t de ce =
      let dist : d ≡ distance2 p (point_at coords (get_or order i 0)) = de ∙ ap (distance2 p) qe in
      let same : eqb (get_or layers (get_or order i 0) 0) sought ≡ true = ap (λ (k : ℕ). eqb k sought) (sym le) ∙ t in
      ce ∙ ap₂ (λ (e : Float) (a : Nearest). nearer e (get_or order i 0) a) dist be ∙ rw (add-one, same)

  pub near_end : (b : Nearest) (i : ℕ) → b ≡ nearest_to i coords layers order sought p → i ≤ length order → length order ≤ i
      → b.node ≡ closest_within coords layers order sought p
  unfolding closest_within
  near_end b i be l m =
      ap (λ (a : Nearest). a.node) be ∙ ap (λ (k : ℕ). (nearest_to k coords layers order sought p).node) (le_antisymm {n = i} {m = length order} l m)

  -- it has come to a node 1e-12 or more to the right of p
  pub near_stop : InOrder coords order → (b : Nearest) (q : Point) (i : ℕ) → b ≡ nearest_to i coords layers order sought p → i < length order
      → q ≡ point_at coords (get_or order i 0) → le (p.x ⊖ q.x) (neg weld_eps) ≡ true → b.node ≡ closest_within coords layers order sought p
  unfolding closest_within
  near_stop o b q i be l qe t =
      let right : lt (neg weld_eps) (ahead coords p (get_or order i 0)) ≡ false =
      ap (λ (r : Point). lt (neg weld_eps) (p.x ⊖ r.x)) (sym qe) ∙ le_not_lt (p.x ⊖ q.x) (neg weld_eps) t in
      ap (λ (a : Nearest). a.node) be
      ∙ ap (λ (a : Nearest). a.node) (sym (far_kept coords layers sought p order i (length order) (omega arith) (far_behind coords order p o i l right)))

-- ---- the nodes from the window on, as they are lent

abbrev pub lent_from : ℕ → List ℕ → List ℕ
lent_from from order = take (length order - from) (drop from order)

lent_drop : (from : ℕ) (order : List ℕ) → lent_from from order ≡ drop from order
lent_drop from order = take_all (length order - from) (drop from order) (le_of_eq (length-drop from order))

-- the nodes before the window are too far
pub window_whole : (coords : List Float) (layers order : List ℕ) (sought : ℕ) (p : Point) (from : ℕ) → from ≡ window_start coords order p → from ≤ length order
    → closest_within coords layers (lent_from from order) sought p ≡ closest_within coords layers order sought p
unfolding closest_within window_start
window_whole coords layers order sought p from e l =
    let far : (i : ℕ) → i < from → FarAt coords p order i =
    λ i h. far_left p (point_at coords (get_or order i 0)) (first_none (near_at coords order p) 0 (length order) i (omega arith) (omega arith) (omega (arith, e))) in
    let len : from + length (drop from order) ≡ length order = omega (arith, length-drop from order) in
    ap (λ (os : List ℕ). (nearest_to (length os) coords layers os sought p).node) (lent_drop from order)
    ∙ ap (λ (b : Nearest). b.node) (sym (far_dropped coords layers sought p order from far (length (drop from order)))
    ∙ ap (λ (k : ℕ). nearest_to k coords layers order sought p) len)

pub window_order : (coords : List Float) (order : List ℕ) (from : ℕ) → InOrder coords order → InOrder coords (lent_from from order)
window_order coords order from o =
    subst (InOrder coords) (sym (lent_drop from order))
    (record {
      placed = λ i h. rw get_or-drop (o.placed (from + i) (omega (arith, length-drop from order)));
      rises = λ i j h l. rw (get_or-drop from order j 0, get_or-drop from order i 0) (o.rises (from + i) (from + j) (omega arith) (omega (arith, length-drop from order)));
    })
