-- How far a point lies along a key, of coordinates up to 2^42 in size, is a number; and the total order of numbers. Assumes nothing.
use mathlib.Core.Path.{◌≡◌, refl, sym, ◌∙◌}
use mathlib.Core.Logic.{inl, inr}
use mathlib.Core.Bool.{Bool, true, false, true≢false}
use Prim.Native.Nat.{ℕ, ◌*◌, ◌^◌, ◌≤◌}
use native.Mathlib.Nat.{le_trans, le_of_eq}
use lib.Dec.{T, lit≤}
use lib.IntN.{nat_abs}
use lib.Ieee.{Float, binary64, lt, eq}
use lib.Ieee.Bits.{is_true}
use lib.Ieee.Fits.{sub-fits, mul-fits}
use lib.Ieee.Scale.{finite}
use Rattle.exact.specs.Exact.{coord}
use Rattle.plane.specs.Plane.{◌⊕◌, ◌⊖◌, ◌⊗◌, between, dot}
use Rattle.plane.specs.declared.Point.{Point}
use Rattle.plane.proofs.FloatOrder.{eq_sym, trichotomy}
use Rattle.rules.specs.Nodes.{sign_bit}
use Rattle.coordinates.specs.Finite.{Bounded, Ordered}
use Rattle.rounding.proofs.Sizes.{add_most, sub_most, mul_most}
use Rattle.rounding.proofs.Operations.{Number, add_rounds, sub_rounds, rounds_near, near_most, mul_near, product_most}
use Rattle.exact.proofs.ExactUnits.{size_coord}

-- ---- a finite f64 of at most n units
record Sized (n : ℕ) (x : Float) : Type 0 where
  number : Number x
  size : nat_abs (coord x) ≤ n

bounded_sized : (x : Float) → Bounded x → Sized (2 ^ 1116) x
bounded_sized x h = record { number = record { fit = h.fit; end = h.end }; size = le_trans (le_of_eq (size_coord x)) (le_trans h.size (lit≤ tt)) }

difference_sized : (p q : Float) → Bounded p → Bounded q → Sized (2 ^ 1118) (q ⊖ p)
difference_sized p q h k =
    let P = bounded_sized p h in
    let Q = bounded_sized q k in
    let most = sub_most (coord q) (coord p) (2 ^ 1116) Q.size P.size in
    let near = rounds_near (sub_rounds q p Q.number P.number) (le_trans most (lit≤ tt)) in
    record { number = record { fit = is_true _ (sub-fits binary64 q p); end = near.end }; size = le_trans (near_most near (2 * 2 ^ 1116) most) (lit≤ tt) }

product_sized : (v w : Float) → Sized (2 ^ 1118) v → Sized (2 ^ 1118) w → Sized (2 ^ 1164) (v ⊗ w)
product_sized v w H K =
    let most = mul_most (coord v) (coord w) (2 ^ 1118) (2 ^ 1118) H.size K.size in
    let near = mul_near v w H.number K.number (le_trans most (lit≤ tt)) in
    record { number = record { fit = is_true _ (mul-fits binary64 v w); end = near.end }; size = le_trans (product_most near (2 ^ 1162) (le_trans most (lit≤ tt))) (lit≤ tt) }

sum_finite : (v w : Float) → Sized (2 ^ 1164) v → Sized (2 ^ 1164) w → T (finite (v ⊕ w))
sum_finite v w H K = (rounds_near (add_rounds v w H.number K.number) (le_trans (add_most (coord v) (coord w) (2 ^ 1164) H.size K.size) (lit≤ tt))).end

-- ---- the projection of n on the key from p to q

pub record BoundedPoint (p : Point) : Type 0 where
  pub x : Bounded p.x
  pub y : Bounded p.y

pub projection_finite : (p q n : Point) → BoundedPoint p → BoundedPoint q → BoundedPoint n → T (finite (dot (between p q) (between p n)))
unfolding between
projection_finite p q n P Q N =
    sum_finite _ _ (product_sized _ _ (difference_sized p.x q.x P.x Q.x) (difference_sized p.x n.x P.x N.x))
    (product_sized _ _ (difference_sized p.y q.y P.y Q.y) (difference_sized p.y n.y P.y N.y))

-- ---- the total order

pub numbers_ordered : (x y : Float) → eq x x ≡ true → eq y y ≡ true → Ordered x y
numbers_ordered x y n k = go (lt x y) (lt y x) (eq x y) refl refl refl
  where
    signs : (a b : Bool) → lt x y ≡ false → lt y x ≡ false → eq x y ≡ true → sign_bit x ≡ a → sign_bit y ≡ b → Ordered x y
    signs true true e f g h i = inr (inr (g, h ∙ sym i))
    signs false false e f g h i = inr (inr (g, h ∙ sym i))
    signs true false e f g h i = inl (rw (e, g, h, i) refl)
    signs false true e f g h i = inr (inl (rw (f, eq_sym x y g, h, i) refl))

    go : (a b c : Bool) → lt x y ≡ a → lt y x ≡ b → eq x y ≡ c → Ordered x y
    go true b c e f g = inl (rw e refl)
    go false true c e f g = inr (inl (rw f refl))
    go false false false e f g = absurd (true≢false (sym (trichotomy x y n k f g) ∙ e))
    go false false true e f g = signs (sign_bit x) (sign_bit y) e f g refl refl
