-- Keys compared, and the order of two slots at one node. Assumes nothing.
use mathlib.Core.Path.{◌≡◌, refl, sym, ap, ap₂, ◌∙◌}
use mathlib.Core.Bool.{Bool, true, false, ◌&&◌}
use mathlib.Core.List.{List}
use Prim.Native.Nat.{ℕ}
use lib.Dec.{eqb}
use lib.Ieee.{Float, sub, binary64}
use borrow.Author.Tests.{eq-eqb, ne_eqb}
use Rattle.exact.specs.Angle.{angles}
use Rattle.std.specs.declared.cmp.Ordering.{Ordering}
use Rattle.plane.specs.Plane.{between, point_at}
use Rattle.plane.specs.declared.Point.{Point}
use Rattle.cutting.specs.Edges.{Edge, key, same_key}
use Rattle.exact.specs.Exact.{is_less}
use Rattle.cutting.specs.Cell.{stands}

pub own_key : (e : Edge) → same_key e e ≡ true
own_key e = ap₂ ◌&&◌ (eq-eqb (key e).0 (key e).0 refl) (eq-eqb (key e).1 (key e).1 refl)

module _ (a b c d k k' l l' : ℕ) (ek : ◌≡◌ {A = Edge} (k, k') (key (a, b))) (el : ◌≡◌ {A = Edge} (l, l') (key (c, d))) where
  pub keys_apart : (k ≡ l → ⊥) → false ≡ same_key (a, b) (c, d)
  keys_apart h = sym (ap₂ (λ (x y : Edge). eqb x.0 y.0 && eqb x.1 y.1) (sym ek) (sym el) ∙ ap (λ (t : Bool). t && eqb k' l') (ne_eqb k l h))

  pub keys_meet : k ≡ l → eqb k' l' ≡ same_key (a, b) (c, d)
  keys_meet h = sym (ap₂ (λ (x y : Edge). eqb x.0 y.0 && eqb x.1 y.1) (sym ek) (sym el) ∙ ap (λ (t : Bool). t && eqb k' l') (eq-eqb k l h))

module _ (coords : List Float) (a b c d : ℕ) where
  pub stands_apart : (a ≡ c → ⊥) → false ≡ stands coords a b c d
  unfolding stands
  stands_apart h = sym (ap (λ (t : Bool). t && is_less (angles (between (point_at coords a) (point_at coords b)).x
      (between (point_at coords a) (point_at coords b)).y (between (point_at coords c) (point_at coords d)).x (between (point_at coords c) (point_at coords d)).y)) (ne_eqb a c h))

  pub stands_meet : (p q s : Point) (o : Ordering) (r : Bool) → a ≡ c → p ≡ point_at coords a → q ≡ point_at coords b → s ≡ point_at coords d
      → o ≡ angles (sub binary64 q.x p.x) (sub binary64 q.y p.y) (sub binary64 s.x p.x) (sub binary64 s.y p.y) → r ≡ is_less o → r ≡ stands coords a b c d
  unfolding stands between
  stands_meet p q s o r h ep eq es eo er =
      er ∙ ap is_less (eo ∙ λ t. angles (sub binary64 (eq t).x (ep t).x) (sub binary64 (eq t).y (ep t).y) (sub binary64 (es t).x (ep t).x) (sub binary64 (es t).y (ep t).y))
      ∙ ap (λ (n : ℕ). is_less (angles (between (point_at coords a) (point_at coords b)).x (between (point_at coords a) (point_at coords b)).y
      (between (point_at coords n) (point_at coords d)).x (between (point_at coords n) (point_at coords d)).y)) h
      ∙ sym (ap (λ (t : Bool). t && is_less (angles (between (point_at coords a) (point_at coords b)).x (between (point_at coords a) (point_at coords b)).y
      (between (point_at coords c) (point_at coords d)).x (between (point_at coords c) (point_at coords d)).y)) (eq-eqb a c h))
