-- `precedes` is an order: asymmetric, and what doesn't precede goes on through a point of numbers. Assumes nothing.
use mathlib.Core.Path.{◌≡◌, refl, sym, ap₂, ◌∙◌}
use mathlib.Core.Bool.{Bool, true, false, ◌&&◌, ◌||◌, and-false, true≢false}
use lib.Ieee.{Float, lt, eq}
use Rattle.plane.specs.Plane.{is_number}
use Rattle.plane.specs.declared.Point.{Point}
use Rattle.plane.proofs.FloatOrder.{lt_asym, not_lt_trans, eq_sym, eq_number, eq_not_lt, trichotomy, and_left, and_right}
use Rattle.lists.proofs.Search.{or_false}
use Rattle.rules.specs.Snap.{precedes}

pub precedes_asym : (p q : Point) → precedes p q ≡ true → precedes q p ≡ false
precedes_asym p q h = go (lt p.x q.x) refl (eq q.x p.x) refl h
  where
    go : (a : Bool) → lt p.x q.x ≡ a → (b : Bool) → eq q.x p.x ≡ b → a || (eq p.x q.x && lt p.y q.y) ≡ true → precedes q p ≡ false
    go true l true e h = absurd (true≢false (sym l ∙ eq_not_lt p.x q.x (eq_sym q.x p.x e)))
    go true l false e h = ap₂ (λ (s t : Bool). s || (t && lt q.y p.y)) (lt_asym p.x q.x l) e
    go false l b e h =
        let level = and_left (eq p.x q.x) (lt p.y q.y) h in
        let low = and_right (eq p.x q.x) (lt p.y q.y) h in
        ap₂ (λ (s t : Bool). s || (eq q.x p.x && t)) (eq_not_lt q.x p.x (eq_sym p.x q.x level)) (lt_asym p.y q.y low) ∙ and-false (eq q.x p.x)

-- x and z level, y not above x and not below z: it is level with both
level_between : (x y z : Float) → is_number y ≡ true → eq x z ≡ true → lt x y ≡ false → lt y z ≡ false → (eq x y ≡ true) × (eq y z ≡ true)
level_between x y z n e h k =
    let hx : is_number x ≡ true = eq_number x z e in
    let hz : is_number z ≡ true = eq_number z x (eq_sym x z e) in
    let yx : lt y x ≡ false = not_lt_trans y z x hz k (eq_not_lt z x (eq_sym x z e)) in
    let zy : lt z y ≡ false = not_lt_trans z x y hx (eq_not_lt z x (eq_sym x z e)) h in
    (levels x y hx n h yx, levels y z n hz k zy)
  where
    levels : (a b : Float) → is_number a ≡ true → is_number b ≡ true → lt a b ≡ false → lt b a ≡ false → eq a b ≡ true
    levels a b m o f g = go (eq a b) refl
      where
        go : (t : Bool) → eq a b ≡ t → eq a b ≡ true
        go true q = q
        go false q = absurd (true≢false (sym (trichotomy a b m o g q) ∙ f))

pub precedes_through : (p q r : Point) → is_number q.x ≡ true → is_number q.y ≡ true → precedes p q ≡ false → precedes q r ≡ false → precedes p r ≡ false
precedes_through p q r nx ny h k =
    let a = or_false (lt p.x q.x) (eq p.x q.x && lt p.y q.y) h in
    let b = or_false (lt q.x r.x) (eq q.x r.x && lt q.y r.y) k in
    let left : lt p.x r.x ≡ false = not_lt_trans p.x q.x r.x nx a.0 b.0 in
    go left (eq p.x r.x) refl a b
  where
    go : lt p.x r.x ≡ false → (t : Bool) → eq p.x r.x ≡ t
        → (lt p.x q.x ≡ false) × (eq p.x q.x && lt p.y q.y ≡ false)
        → (lt q.x r.x ≡ false) × (eq q.x r.x && lt q.y r.y ≡ false)
        → precedes p r ≡ false
    go left false e a b = ap₂ (λ (s t : Bool). s || (t && lt p.y r.y)) left e
    go left true e a b =
        let both = level_between p.x q.x r.x nx e a.0 b.0 in
        let pq : lt p.y q.y ≡ false = rw both.0 at a.1 in
        let qr : lt q.y r.y ≡ false = rw both.1 at b.1 in
        ap₂ (λ (s t : Bool). s || (eq p.x r.x && t)) left (not_lt_trans p.y q.y r.y ny pq qr) ∙ and-false (eq p.x r.x)

-- one that doesn't precede another isn't to its left
pub precedes_left : (p q : Point) → precedes p q ≡ false → lt p.x q.x ≡ false
precedes_left p q h = (or_false (lt p.x q.x) (eq p.x q.x && lt p.y q.y) h).0
