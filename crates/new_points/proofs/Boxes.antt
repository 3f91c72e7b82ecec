-- A box of points lies round each of them: a box that meets the box of some of them meets that of all. Assumes nothing.
use mathlib.Core.Path.{◌≡◌, refl, ap₂, subst}
use mathlib.Core.Bool.{Bool, true, false, cond, ◌&&◌}
use mathlib.Core.List.{List, Memᴰ}
use Prim.Native.Nat.{ℕ, zero, suc, ◌≤◌, ◌<◌}
use native.Mathlib.Omega.{arith}
use native.Mathlib.Decide.{dec_le}
use lib.ListN.{length, get_or}
use lib.Ieee.{Float, nan, inf, fin, lt, eq, le}
use Rattle.lists.proofs.Search.{and_true}
use Rattle.lists.proofs.Gather.{in_list, mem_at}
use Rattle.plane.specs.Plane.{is_number, larger, point_at}
use Rattle.plane.specs.declared.Point.{Point}
use Rattle.plane.proofs.FloatOrder.{lt_asym, lt_irrefl, number_left}
use Rattle.cutting.specs.Edges.{Edge}
use Rattle.rules.specs.declared.Bounds.{Bounds}
use Rattle.rules.specs.SpatialIndex.{smaller, stretched, box_to, box_of, edge_box, boxes_meet}
use Rattle.plane.proofs.FloatLe.{not_lt_le, le_trans}

-- ---- the smaller and the larger of two numbers

le_self : (x : Float) → is_number x ≡ true → le x x ≡ true
le_self x n = not_lt_le x x n n (lt_irrefl x)

lt_le : (x y : Float) → is_number y ≡ true → lt x y ≡ true → le x y ≡ true
lt_le x y n h = not_lt_le x y (number_left x y h) n (lt_asym x y h)

smaller_number : (x y : Float) → is_number x ≡ true → is_number y ≡ true → is_number (smaller x y) ≡ true
smaller_number x y n k = go (lt y x)
  where
    go : (t : Bool) → is_number (cond t y x) ≡ true
    go true = k
    go false = n

smaller_first : (x y : Float) → is_number x ≡ true → le (smaller x y) x ≡ true
smaller_first x y n = go (lt y x) refl
  where
    go : (t : Bool) → lt y x ≡ t → le (cond t y x) x ≡ true
    go true e = lt_le y x n e
    go false e = le_self x n

smaller_second : (x y : Float) → is_number x ≡ true → is_number y ≡ true → le (smaller x y) y ≡ true
smaller_second x y n k = go (lt y x) refl
  where
    go : (t : Bool) → lt y x ≡ t → le (cond t y x) y ≡ true
    go true e = le_self y k
    go false e = not_lt_le x y n k e

below_smaller : (b x y : Float) → le b x ≡ true → le b y ≡ true → le b (smaller x y) ≡ true
below_smaller b x y h k = go (lt y x)
  where
    go : (t : Bool) → le b (cond t y x) ≡ true
    go true = k
    go false = h

larger_number : (x y : Float) → is_number x ≡ true → is_number y ≡ true → is_number (larger x y) ≡ true
unfolding larger
larger_number x y n k = go (lt x y)
  where
    go : (t : Bool) → is_number (cond t y x) ≡ true
    go true = k
    go false = n

larger_first : (x y : Float) → is_number x ≡ true → is_number y ≡ true → le x (larger x y) ≡ true
unfolding larger
larger_first x y n k = go (lt x y) refl
  where
    go : (t : Bool) → lt x y ≡ t → le x (cond t y x) ≡ true
    go true e = lt_le x y k e
    go false e = le_self x n

larger_second : (x y : Float) → is_number x ≡ true → is_number y ≡ true → le y (larger x y) ≡ true
unfolding larger
larger_second x y n k = go (lt x y) refl
  where
    go : (t : Bool) → lt x y ≡ t → le y (cond t y x) ≡ true
    go true e = le_self y k
    go false e = not_lt_le y x k n e

above_larger : (b x y : Float) → le x b ≡ true → le y b ≡ true → le (larger x y) b ≡ true
unfolding larger
above_larger b x y h k = go (lt x y)
  where
    go : (t : Bool) → le (cond t y x) b ≡ true
    go true = k
    go false = h

-- every number lies between the infinities
below_inf : (x : Float) → is_number x ≡ true → le x (inf false) ≡ true
unfolding le lt eq
below_inf nan n = n
below_inf (inf true) n = refl
below_inf (inf false) n = refl
below_inf (fin s m e) n = refl

above_inf : (x : Float) → is_number x ≡ true → le (inf true) x ≡ true
unfolding le lt eq
above_inf nan n = n
above_inf (inf true) n = refl
above_inf (inf false) n = refl
above_inf (fin s m e) n = refl

-- ---- a box stretched to a point

-- both coordinates are numbers
pub record Numbers (p : Point) : Type 0 where
  pub x : is_number p.x ≡ true
  pub y : is_number p.y ≡ true

-- all four limits are numbers
pub record Limits (b : Bounds) : Type 0 where
  pub left : is_number b.left ≡ true
  pub low : is_number b.low ≡ true
  pub right : is_number b.right ≡ true
  pub high : is_number b.high ≡ true

-- the point lies in the box
pub record Around (b : Bounds) (p : Point) : Type 0 where
  pub left : le b.left p.x ≡ true
  pub low : le b.low p.y ≡ true
  pub right : le p.x b.right ≡ true
  pub high : le p.y b.high ≡ true

-- the box b lies in the box w
pub record Covers (w b : Bounds) : Type 0 where
  pub left : le w.left b.left ≡ true
  pub low : le w.low b.low ≡ true
  pub right : le b.right w.right ≡ true
  pub high : le b.high w.high ≡ true

module _ (b : Bounds) (p : Point) (l : Limits b) (n : Numbers p) where
  stretched_limits : Limits (stretched b p)
  stretched_limits =
      record {
        left = smaller_number b.left p.x l.left n.x;
        low = smaller_number b.low p.y l.low n.y;
        right = larger_number b.right p.x l.right n.x;
        high = larger_number b.high p.y l.high n.y;
      }

  -- round the point
  stretched_here : Around (stretched b p) p
  stretched_here =
      record {
        left = smaller_second b.left p.x l.left n.x;
        low = smaller_second b.low p.y l.low n.y;
        right = larger_second b.right p.x l.right n.x;
        high = larger_second b.high p.y l.high n.y;
      }

  -- and round what it lay round before
  stretched_there : (q : Point) → Around b q → Around (stretched b p) q
  stretched_there q a =
      record {
        left = le_trans (smaller b.left p.x) b.left q.x (smaller_first b.left p.x l.left) a.left;
        low = le_trans (smaller b.low p.y) b.low q.y (smaller_first b.low p.y l.low) a.low;
        right = le_trans q.x b.right (larger b.right p.x) a.right (larger_first b.right p.x l.right n.x);
        high = le_trans q.y b.high (larger b.high p.y) a.high (larger_first b.high p.y l.high n.y);
      }

-- a box round b and p lies round b stretched to p
covers_stretched : (w b : Bounds) (p : Point) → Covers w b → Around w p → Covers w (stretched b p)
covers_stretched w b p c a =
    record {
      left = below_smaller w.left b.left p.x c.left a.left;
      low = below_smaller w.low b.low p.y c.low a.low;
      right = above_larger w.right b.right p.x c.right a.right;
      high = above_larger w.high b.high p.y c.high a.high;
    }

-- ---- the box of nodes

module _ (coords : List Float) (ns : List ℕ) where
  abbrev AllNumbers : ℕ → Type 0
  AllNumbers i = (k : ℕ) → k < i → Numbers (point_at coords (get_or ns k 0))

  box_limits : (i : ℕ) → AllNumbers i → Limits (box_to i coords ns)
  unfolding box_to eq
  box_limits zero n = record { left = refl; low = refl; right = refl; high = refl }
  box_limits (suc i) n = stretched_limits (box_to i coords ns) (point_at coords (get_or ns i 0)) (box_limits i (λ k h. n k (omega arith))) (n i (omega arith))

  box_around : (i : ℕ) → AllNumbers i → (k : ℕ) → k < i → Around (box_to i coords ns) (point_at coords (get_or ns k 0))
  unfolding box_to
  box_around zero n k h = absurd (omega arith)
  box_around (suc i) n k h = go (dec_le (suc k) i) (λ l. box_around i (λ j m. n j (omega arith)) k l)
    where
      b : Bounds
      b = box_to i coords ns

      p : Point
      p = point_at coords (get_or ns i 0)

      l : Limits b
      l = box_limits i (λ j m. n j (omega arith))

      go : Dec (suc k ≤ i) → (k < i → Around b (point_at coords (get_or ns k 0))) → Around (stretched b p) (point_at coords (get_or ns k 0))
      go (yes m) ih = stretched_there b p l (n i (omega arith)) (point_at coords (get_or ns k 0)) (ih m)
      go (no m) ih =
          let e : i ≡ k = omega (arith, m, h) in
          subst (λ (j : ℕ). Around (stretched b p) (point_at coords (get_or ns j 0))) e (stretched_here b p l (n i (omega arith)))

-- the box of an edge lies in a box round both its ends
covers_edge : (coords : List Float) (w : Bounds) (e : Edge) → Limits w → Around w (point_at coords e.0) → Around w (point_at coords e.1) → Covers w (edge_box coords e)
unfolding box_to
covers_edge coords w e l a b =
    covers_stretched w _ (point_at coords e.1) (covers_stretched w _ (point_at coords e.0)
    (record { left = below_inf w.left l.left; low = below_inf w.low l.low; right = above_inf w.right l.right; high = above_inf w.high l.high })
    a) b

-- The box of nodes covers that of an edge between two of them.
pub box_covers_edge : (coords : List Float) (ns : List ℕ) → ((n : ℕ) → Memᴰ n ns → Numbers (point_at coords n))
    → (e : Edge) → Memᴰ e.0 ns → Memᴰ e.1 ns → Covers (box_of coords ns) (edge_box coords e)
box_covers_edge coords ns h e a b = covers_edge coords (box_of coords ns) e (box_limits coords ns (length ns) at) (around e.0 a) (around e.1 b)
  where
    at : (k : ℕ) → k < length ns → Numbers (point_at coords (get_or ns k 0))
    at k l = h (get_or ns k 0) (in_list ns k l 0)

    around : (n : ℕ) → Memᴰ n ns → Around (box_of coords ns) (point_at coords n)
    around n m =
        let r = mem_at ns n m in
        subst (λ (x : ℕ). Around (box_of coords ns) (point_at coords x)) (r.2 0) (box_around coords ns (length ns) at r.0 r.1)

-- A box that meets another meets every box that covers it.
pub meets_covering : (a b w : Bounds) → boxes_meet a b ≡ true → Covers w b → boxes_meet a w ≡ true
unfolding boxes_meet
meets_covering a b w h c =
    let three = and_true (le a.left b.right && le b.left a.right && le a.low b.high) (le b.low a.high) h in
    let two = and_true (le a.left b.right && le b.left a.right) (le a.low b.high) three.0 in
    let one = and_true (le a.left b.right) (le b.left a.right) two.0 in
    ap₂ ◌&&◌ (ap₂ ◌&&◌ (ap₂ ◌&&◌ (le_trans a.left b.right w.right one.0 c.right) (le_trans w.left b.left a.right c.left one.1))
    (le_trans a.low b.high w.high two.1 c.high)) (le_trans w.low b.low a.high c.low three.1)
