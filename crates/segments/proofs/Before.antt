-- P2 never comes before P1 in the colinear order, whatever the coordinates are. Assumes nothing.
use mathlib.Core.Path.{◌≡◌, refl}
use mathlib.Core.Bool.{Bool, true, false, cond, ◌||◌}
use mathlib.Core.List.{List, [], ◌∷◌}
use lib.Ieee.{Float, lt}
use Rattle.lists.specs.Sort.{insert, sort_onto}
use Rattle.plane.specs.Plane.{◌⊖◌, ◌⊘◌, between, magnitude}
use Rattle.segments.specs.Colinear.{mean, spread, parameters, parameter_of, in_order, is_first, is_second}
use Rattle.segments.specs.declared.Segment.{Segment}
use Rattle.segments.specs.declared.PointId.{PointId}
use Rattle.segments.specs.declared.PointId.TheVariants.{P1, P2, P3, P4}
use Rattle.rounding.proofs.Differences.{difference_rises, difference_side}
use Rattle.rounding.proofs.Quotients.{quotient_order}

-- ---- the parameters of P1 and P2

-- whatever m is
ends_order : (p q m : Float) → lt ((q ⊖ m) ⊘ (q ⊖ p)) ((p ⊖ m) ⊘ (q ⊖ p)) ≡ false
ends_order p q m = quotient_order (q ⊖ m) (p ⊖ m) (q ⊖ p) (λ h. difference_rises q p m ((difference_side q p).0 h)) (λ h. difference_rises p q m ((difference_side q p).1 h))

-- P2's parameter is not below P1's, whatever the four ends are.
pub second_not_below : (s o : Segment) → lt (parameter_of (parameters s o) P2) (parameter_of (parameters s o) P1) ≡ false
unfolding parameters
second_not_below s o = go (lt (magnitude (between s.a s.b).y) (magnitude (between s.a s.b).x))
  where
    go : (b : Bool) → let ts : List Float = cond b (spread s.a.x s.b.x o.a.x o.b.x) (spread s.a.y s.b.y o.a.y o.b.y) in
        lt (parameter_of ts P2) (parameter_of ts P1) ≡ false
    go true = ends_order s.a.x s.b.x (mean s.a.x s.b.x o.a.x o.b.x)
    go false = ends_order s.a.y s.b.y (mean s.a.y s.b.y o.a.y o.b.y)

-- ---- so P1 stands before P2 among the four

-- P holds with P4 at each place among the other three
abbrev pub Fourth : (List PointId → Type 0) → (a b c : PointId) → Type 0
Fourth P a b c = P (P4 ∷ a ∷ b ∷ c ∷ []) × P (a ∷ P4 ∷ b ∷ c ∷ []) × P (a ∷ b ∷ P4 ∷ c ∷ []) × P (a ∷ b ∷ c ∷ P4 ∷ [])

-- and with P3 at each place among p and q
abbrev pub EachOrder : (List PointId → Type 0) → (p q : PointId) → Type 0
EachOrder P p q = Fourth P P3 p q × Fourth P p P3 q × Fourth P p q P3

module _ (ts : List Float) (P : List PointId → Type 0) where
  abbrev before : PointId → PointId → Bool
  before p q = lt (parameter_of ts p) (parameter_of ts q)

  third_in : (a b : PointId) → EachOrder P a b → P (insert before P4 (insert before P3 (a ∷ b ∷ [])))
  unfolding insert
  third_in a b h = go (before P3 a) (before P3 b)
    where
      fourth_in : (a b c : PointId) → Fourth P a b c → P (insert before P4 (a ∷ b ∷ c ∷ []))
      fourth_in a b c h = go (before P4 a) (before P4 b) (before P4 c)
        where
          go : (d e f : Bool) → P (elim d [ true ↦ P4 ∷ a ∷ b ∷ c ∷ [] | false ↦ a ∷ elim e [ true ↦ P4 ∷ b ∷ c ∷ [] | false ↦ b ∷ elim f [ true ↦ P4 ∷ c ∷ [] | false ↦ c ∷ P4 ∷ [] ] ] ])
          go true e f = h.0
          go false true f = h.1
          go false false true = h.2
          go false false false = h.3

      go : (c d : Bool) → P (insert before P4 (elim c [ true ↦ P3 ∷ a ∷ b ∷ [] | false ↦ a ∷ elim d [ true ↦ P3 ∷ b ∷ [] | false ↦ b ∷ P3 ∷ [] ] ]))
      go true d = fourth_in P3 a b h.0
      go false true = fourth_in a P3 b h.1
      go false false = fourth_in a b P3 h.2

  first_two : before P2 P1 ≡ false → insert before P2 (insert before P1 []) ≡ P1 ∷ P2 ∷ []
  unfolding insert
  first_two h = rw (h, insert) refl

  -- what holds of the twelve orders with P1 before P2 holds of theirs
  pub twelve_ways : before P2 P1 ≡ false → EachOrder P P1 P2 → P (in_order ts)
  unfolding in_order sort_onto
  twelve_ways h w = rw (first_two h) (third_in P1 P2 w)

-- P2 is one of them
abbrev pub has_second : List PointId → Bool
has_second [] = false
has_second (p ∷ ids) = is_second p || has_second ids

-- P1 is one of them, and P2 comes after it
abbrev pub in_turn : List PointId → Bool
in_turn [] = false
in_turn (p ∷ ids) = cond (is_first p) (has_second ids) (in_turn ids)

-- P1 stands before P2 in the colinear order, whatever the four ends are.
pub first_before_second : (s o : Segment) → in_turn (in_order (parameters s o)) ≡ true
first_before_second s o =
    let ts = parameters s o in
    twelve_ways ts (λ ids. in_turn ids ≡ true) (second_not_below s o) ((refl, refl, refl, refl), (refl, refl, refl, refl), (refl, refl, refl, refl))
