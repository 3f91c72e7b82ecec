-- Where a new point comes from: how far it is off, and that it is finite and at most 2^42 in size. Assumes nothing.
use mathlib.Core.Path.{◌≡◌, refl, sym}
use mathlib.Core.Bool.{Bool, true, false, cond, not, ◌&&◌, ◌||◌, false≢true}
use mathlib.Core.List.{List}
use Prim.Native.Nat.{ℕ, ◌*◌, ◌^◌, ◌≤◌, ◌<◌, max}
use native.Mathlib.Nat.{le_trans, le_of_eq, mul_right_comm, mul-le-mul_right, le_of_mul-le-mul_right}
use native.Mathlib.Omega.{arith}
use lib.Dec.{leb, ltb, eqb, lit≤}
use lib.ListN.{get_or}
use lib.Ieee.{Float, nan, inf, fin, binary64, up, down, le, lt, eq, of_bits, fits}
use lib.Ieee.Bits.{is_true}
use lib.Ieee.Fits.{down_pos, div-fits}
use borrow.Author.Tests.{ltb-true, eqb-true, leb-true}
use Rattle.std.specs.Prelude.{None}
use Rattle.exact.specs.Exact.{mag}
use Rattle.exact.proofs.ExactUnits.{exact_units, size_coord}
use Rattle.entry.specs.Refused.{coord_ok}
use Rattle.plane.specs.Plane.{◌⊕◌, ◌⊖◌, ◌⊗◌, ◌⊘◌, zero_f, one_f, in_unit, between, dot, cross, along, magnitude, tolerance}
use Rattle.segments.specs.Colinear.{parameters, orderable, in_order, first_then_second, of_order, colinear}
use Rattle.segments.specs.Meet.{near, settled, crossing, meeting_or, meeting}
use Rattle.plane.specs.declared.Point.{Point}
use Rattle.segments.specs.declared.Segment.{Segment}
use Rattle.segments.specs.declared.PointId.{PointId}
use Rattle.segments.specs.declared.PointId.TheVariants.{P1, P2, P3, P4}
use Rattle.segments.specs.declared.Meeting.TheVariants.{Apart, Existing, New, Overlap}
use Rattle.plane.proofs.FloatOrder.{and_left, and_right}
use Rattle.coordinates.specs.Booked.{Allowed, AllowedEnds, parameter, largest, off_by, allowance}
use Rattle.coordinates.specs.Finite.{Bounded}
use Rattle.rounding.proofs.Operations.{Number}
use Rattle.coordinates.proofs.Along.{along_number, along_near, along_size}

-- ---- sizes in units

in_units : (n d k a l : ℕ) → 0 < d → n * l ≡ a * d → n ≤ k * d → a ≤ k * l
in_units n d k a l h e i = le_of_mul-le-mul_right {m = a} {n = k * l} {k = d} (le_trans (le_of_eq (sym e)) (le_trans (mul-le-mul_right l i) (le_of_eq (mul_right_comm k d l)))) h

-- ---- what refusal 3 allows is finite, and at most 2^40

pub allowed_number : (x : Float) → Allowed x → Number x
unfolding coord_ok
allowed_number nan h = absurd (false≢true h.ok)
allowed_number (inf s) h = absurd (false≢true h.ok)
allowed_number (fin s m e) h = record { fit = h.fit; end = tt }

pub allowed_size : (x : Float) → Allowed x → mag x ≤ 2 ^ 1114
unfolding coord_ok
allowed_size nan h = absurd (false≢true h.ok)
allowed_size (inf s) h = absurd (false≢true h.ok)
allowed_size (fin s m e) h =
    in_units (m * up e) (down e) (2 ^ 40) (mag (fin s m e)) (2 ^ 1074) (down_pos e) (exact_units (fin s m e) h.fit tt).1
    (leb-true (m * up e) (2 ^ 40 * down e) (and_left (leb (m * up e) (2 ^ 40 * down e)) (not (s && eqb m 0)) h.ok))

-- ---- what lies in 0..1 is at most 2^1074 units

or_le : (a b : ℕ) (t : Bool) → (ltb a b || (eqb a b && t)) ≡ true → a ≤ b
or_le a b t h = go (ltb a b) (eqb a b) refl refl h
  where
    go : (p q : Bool) → ltb a b ≡ p → eqb a b ≡ q → (p || (q && t)) ≡ true → a ≤ b
    go true q e f h = let l = ltb-true a b e in omega arith
    go false true e f h = let l = eqb-true a b f in omega arith
    go false false e f h = absurd (false≢true h)

unit_number : (t : Float) → fits binary64 t ≡ true → le zero_f t ≡ true → le t one_f ≡ true → Number t
unfolding le lt eq of_bits
unit_number nan f h k = absurd (false≢true k)
unit_number (inf false) f h k = absurd (false≢true k)
unit_number (inf true) f h k = absurd (false≢true h)
unit_number (fin s m e) f h k = record { fit = f; end = tt }

unit_size : (t : Float) → fits binary64 t ≡ true → le zero_f t ≡ true → le t one_f ≡ true → mag t ≤ 2 ^ 1074
unfolding le lt eq of_bits
unit_size nan f h k = absurd (false≢true k)
unit_size (inf false) f h k = absurd (false≢true k)
unit_size (inf true) f h k = absurd (false≢true h)
unit_size (fin false m e) f h k =
    le_trans (in_units (m * up e) (down e) 1 (mag (fin false m e)) (2 ^ 1074) (down_pos e) (exact_units (fin false m e) f tt).1 (let l = or_le (m * up e * 1) (1 * 1 * down e) true k in omega arith))
    (le_of_eq refl)
unit_size (fin true m e) f h k =
    let z : 0 * 1 * down e ≡ m * up e * 1 = eqb-true (0 * 1 * down e) (m * up e * 1) (and_left (eqb (0 * 1 * down e) (m * up e * 1)) (eqb (0 * 1 * down e) 0) h) in
    le_trans (in_units (m * up e) (down e) 1 (mag (fin true m e)) (2 ^ 1074) (down_pos e) (exact_units (fin true m e) f tt).1 (omega arith)) (le_of_eq refl)

-- ---- where a new point comes from

apart_not_new : {x y : Float} → Apart ≡ New x y → ⊥
apart_not_new e = let z : ◌≡◌ {A = ℕ} 0 1 = cc in omega arith

existing_not_new : {i : PointId} {x y : Float} → Existing i ≡ New x y → ⊥
existing_not_new e = let z : ◌≡◌ {A = ℕ} 0 1 = cc in omega arith

overlap_not_new : {i j : PointId} {x y : Float} → Overlap i j ≡ New x y → ⊥
overlap_not_new e = let z : ◌≡◌ {A = ℕ} 0 1 = cc in omega arith

settled_new : (s o : Segment) (p : Point) (eps x y : Float) → settled s o p eps ≡ New x y → (x ≡ p.x) × (y ≡ p.y)
unfolding settled
settled_new s o p eps x y = go (near s.a p eps) (near s.b p eps) (near o.a p eps) (near o.b p eps)
  where
    go : (a b c d : Bool)
        → cond a (Existing P1) (cond b (Existing P2) (cond c (Existing P3) (cond d (Existing P4) (New p.x p.y)))) ≡ New x y
        → (x ≡ p.x) × (y ≡ p.y)
    go true b c d e = absurd (existing_not_new e)
    go false true c d e = absurd (existing_not_new e)
    go false false true d e = absurd (existing_not_new e)
    go false false false true e = absurd (existing_not_new e)
    go false false false false e = (cc, cc)

of_order_not_new : (ids : List PointId) (x y : Float) → of_order Apart ids ≡ New x y → ⊥
unfolding of_order
of_order_not_new ids x y =
    let p = get_or ids 0 P1 in
    let q = get_or ids 1 P1 in
    let r = get_or ids 2 P1 in
    let s = get_or ids 3 P1 in
    go (first_then_second p q || first_then_second r s) (first_then_second p r || first_then_second p s || first_then_second q s || first_then_second q r)
  where
    go : (a b : Bool) → cond a Apart (cond b (Overlap (get_or ids 1 P1) (get_or ids 2 P1)) Apart) ≡ New x y → ⊥
    go true b e = apart_not_new e
    go false true e = overlap_not_new e
    go false false e = apart_not_new e

colinear_not_new : (s o : Segment) (x y : Float) → colinear Apart s o ≡ New x y → ⊥
unfolding colinear
colinear_not_new s o x y = go (orderable (parameters s o))
  where
    go : (a : Bool) → cond a (of_order Apart (in_order (parameters s o))) Apart ≡ New x y → ⊥
    go true e = of_order_not_new (in_order (parameters s o)) x y e
    go false e = apart_not_new e

-- it is p1 + t v1, for a t in 0..1
pub record Crossed (s o : Segment) (x y : Float) : Type 0 where
  pub inside : in_unit (parameter s o) ≡ true
  at_x : x ≡ (along s.a (parameter s o) (between s.a s.b)).x
  at_y : y ≡ (along s.a (parameter s o) (between s.a s.b)).y

crossing_new : (s o : Segment) (eps x y : Float) → crossing s o (between s.a s.b) (between o.a o.b) (between s.a o.a) eps ≡ New x y → Crossed s o x y
unfolding crossing
crossing_new s o eps x y = go (in_unit (parameter s o)) refl (in_unit u)
  where
    u : Float
    u = cross (between s.a o.a) (between s.a s.b) ⊘ cross (between s.a s.b) (between o.a o.b)

    p : Point
    p = along s.a (parameter s o) (between s.a s.b)

    go : (a : Bool) → in_unit (parameter s o) ≡ a → (b : Bool) → cond (a && b) (settled s o p eps) Apart ≡ New x y → Crossed s o x y
    go true i true e = let f = settled_new s o p eps x y e in record { inside = i; at_x = f.0; at_y = f.1 }
    go true i false e = absurd (apart_not_new e)
    go false i b e = absurd (apart_not_new e)

pub meeting_new : (s o : Segment) (x y : Float) → meeting s o ≡ New x y → Crossed s o x y
unfolding meeting_or
meeting_new s o x y = go (lt (dot v2 v2) eps || lt (dot v1 v1) eps) (lt (magnitude (cross v1 v2)) eps) (lt eps (magnitude (cross v3 v1)))
  where
    v1 : Point
    v1 = between s.a s.b

    v2 : Point
    v2 = between o.a o.b

    v3 : Point
    v3 = between s.a o.a

    eps : Float
    eps = tolerance v1 v2

    go : (a b c : Bool) → cond a Apart (cond b (cond c Apart (colinear Apart s o)) (crossing s o v1 v2 v3 eps)) ≡ New x y → Crossed s o x y
    go true b c e = absurd (apart_not_new e)
    go false true true e = absurd (apart_not_new e)
    go false true false e = absurd (colinear_not_new s o x y e)
    go false false c e = crossing_new s o eps x y e

-- ---- every new point

pub allowed_bounded : (x : Float) → Allowed x → Bounded x
allowed_bounded x h = record { fit = h.fit; end = (allowed_number x h).end; size = le_trans (allowed_size x h) (lit≤ tt) }

largest_least : (a b c d m : ℕ) → a ≤ m → b ≤ m → c ≤ m → d ≤ m → max (max a b) (max c d) ≤ m
largest_least a b c d m h i j k = omega arith

-- M is 2^40 at most
largest_size : (s : Segment) → AllowedEnds s → largest s ≤ 2 ^ 1114
largest_size s h =
    largest_least (mag s.a.x) (mag s.a.y) (mag s.b.x) (mag s.b.y) (2 ^ 1114) (allowed_size s.a.x h.ax) (allowed_size s.a.y h.ay) (allowed_size s.b.x h.bx) (allowed_size s.b.y h.by)

-- a coordinate x of a new point, from p to q: how far it is off, and that it is finite and at most 2^42 in size
pub record Coordinate (m : ℕ) (x p q t : Float) : Type 0 where
  pub off : off_by x p q t ≤ allowance None m
  pub bounded : Bounded x

module _ (s o : Segment) (h : AllowedEnds s) (inside : in_unit (parameter s o) ≡ true) where
  abbrev t : Float
  t = parameter s o

  fit : fits binary64 t ≡ true
  fit = is_true _ (div-fits binary64 _ _)

  lo : le zero_f t ≡ true
  lo = and_left (le zero_f t) (le t one_f) inside

  hi : le t one_f ≡ true
  hi = and_right (le zero_f t) (le t one_f) inside

  coordinate : (p q : Float) → Allowed p → Allowed q → mag p ≤ largest s → mag q ≤ largest s → Coordinate (largest s) (p ⊕ t ⊗ (q ⊖ p)) p q t
  coordinate p q i j k l =
      let P = allowed_number p i in
      let Q = allowed_number q j in
      let U = unit_number t fit lo hi in
      let kp = le_trans (le_of_eq (size_coord p)) k in
      let kq = le_trans (le_of_eq (size_coord q)) l in
      let kt = le_trans (le_of_eq (size_coord t)) (unit_size t fit lo hi) in
      let small = largest_size s h in
      let n = along_number p q t (largest s) P Q U kp kq kt small in
      let size : mag (p ⊕ t ⊗ (q ⊖ p)) ≤ 4 * largest s = le_trans (le_of_eq (sym (size_coord (p ⊕ t ⊗ (q ⊖ p))))) (along_size p q t (largest s) P Q U kp kq kt small) in
      record { off = along_near p q t (largest s) P Q U kp kq kt small; bounded = record { fit = n.fit; end = n.end; size = le_trans size (le_trans (four (largest s) small) (lit≤ tt)) } }
    where
      four : (m : ℕ) → m ≤ 2 ^ 1114 → 4 * m ≤ 4 * 2 ^ 1114
      four m h = omega arith

-- the largest of four is none less than each
in_largest : (a b c d : ℕ) → (a ≤ max (max a b) (max c d)) × (b ≤ max (max a b) (max c d)) × (c ≤ max (max a b) (max c d)) × (d ≤ max (max a b) (max c d))
in_largest a b c d = (omega arith, omega arith, omega arith, omega arith)

-- Both coordinates of a new point are such, whatever P3 and P4 are.
pub new_point_lem : (s o : Segment) → AllowedEnds s → (x y : Float) → meeting s o ≡ New x y
    → Coordinate (largest s) x s.a.x s.b.x (parameter s o) × Coordinate (largest s) y s.a.y s.b.y (parameter s o)
unfolding along between
new_point_lem s o h x y e =
    let f = meeting_new s o x y e in
    let n = in_largest (mag s.a.x) (mag s.a.y) (mag s.b.x) (mag s.b.y) in (
      rw f.at_x (coordinate s o h f.inside s.a.x s.b.x h.ax h.bx n.0 n.2),
      rw f.at_y (coordinate s o h f.inside s.a.y s.b.y h.ay h.by n.1 n.3),
    )
