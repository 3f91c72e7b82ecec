-- What a scan of a list finds stands where the sorted list has it. Assumes nothing.
use mathlib.Core.Path.{◌≡◌, refl, sym, ◌∙◌, ap}
use mathlib.Core.Bool.{Bool, true, false, cond, ◌&&◌, true≢false}
use mathlib.Core.List.{List, [], ◌∷◌, ◌++◌}
use lib.Ieee.{Float, lt}
use Rattle.std.specs.Prelude.{Option, None, Some}
use Rattle.std.specs.Option.{option_and_then}
use Rattle.lists.specs.Gather.{all}
use Rattle.lists.specs.Sort.{insert, sorted}
use Rattle.lists.proofs.Gather.{all_snoc}
use Rattle.lists.proofs.Sort.{sorted_snoc}
use Rattle.plane.specs.Plane.{is_number}
use Rattle.polygons.specs.Interior.{first_two, lowest}
use Rattle.polygons.specs.Scans.{exceeds, first_above, lower, closer, taken_of, taken}
use Rattle.polygons.specs.declared.Lowest.TheVariants.{Two}
use Rattle.plane.proofs.FloatOrder.{lt_trans}

-- ---- the first above h

pub exceeds_trans : (h : Option Float) (x y : Float) → exceeds h x ≡ true → lt x y ≡ true → exceeds h y ≡ true
exceeds_trans None x y h k = refl
exceeds_trans (Some z) x y h k = lt_trans z x y h k

above_insert : (h : Option Float) (x : Float) (ys : List Float) → first_above h (insert lt x ys) ≡ closer h (first_above h ys) x
unfolding first_above insert closer
above_insert h x [] = refl
above_insert h x (y ∷ ys) = go (above_insert h x ys) (lt x y) refl
  where
    rest : Option Float
    rest = first_above h ys

    in_front : (p q : Bool) → exceeds h x ≡ p → exceeds h y ≡ q → lt x y ≡ true → cond p (Some x) (cond q (Some y) rest)
        ≡ cond p (lower (cond q (Some y) rest) x) (cond q (Some y) rest)
    in_front false q f g e = refl
    in_front true true f g e = rw e refl
    in_front true false f g e = absurd (true≢false (sym (exceeds_trans h x y f e) ∙ g))

    behind : (p q : Bool) → lt x y ≡ false → cond q (Some y) (cond p (lower rest x) rest) ≡ cond p (lower (cond q (Some y) rest) x) (cond q (Some y) rest)
    behind p false e = refl
    behind false true e = refl
    behind true true e = rw e refl

    go : first_above h (insert lt x ys) ≡ closer h rest x → (b : Bool) → lt x y ≡ b
        → first_above h (elim b [ true ↦ x ∷ y ∷ ys | false ↦ y ∷ insert lt x ys ]) ≡ closer h (cond (exceeds h y) (Some y) rest) x
    go i true e = in_front (exceeds h x) (exceeds h y) refl refl e
    go i false e = ap (λ (r : Option Float). cond (exceeds h y) (Some y) r) i ∙ behind (exceeds h x) (exceeds h y) e

pub above_more : (h : Option Float) (xs : List Float) (x : Float) → first_above h (sorted lt (xs ++ (x ∷ []))) ≡ closer h (first_above h (sorted lt xs)) x
above_more h xs x = ap (λ (l : List Float). first_above h l) (sorted_snoc lt xs x) ∙ above_insert h x (sorted lt xs)

-- ---- the two lowest

two_insert : (x : Float) (ys : List Float) → first_two (insert lt x ys) ≡ taken_of (first_two ys) x
unfolding insert
two_insert x [] = refl
two_insert x (a ∷ []) = go (lt x a)
  where
    go : (p : Bool) → first_two (elim p [ true ↦ x ∷ a ∷ [] | false ↦ a ∷ x ∷ [] ]) ≡ cond p (Two x a) (Two a x)
    go true = refl
    go false = refl
two_insert x (a ∷ b ∷ ys) = go (lt x a) (lt x b)
  where
    go : (p q : Bool) → first_two (elim p [ true ↦ x ∷ a ∷ b ∷ ys | false ↦ a ∷ elim q [ true ↦ x ∷ b ∷ ys | false ↦ b ∷ insert lt x ys ] ])
        ≡ cond p (Two x a) (cond q (Two a x) (Two a b))
    go true q = refl
    go false true = refl
    go false false = refl

pub lowest_more : (xs : List Float) (x : Float) → lowest (xs ++ (x ∷ [])) ≡ option_and_then (λ l. taken l x) (lowest xs)
unfolding lowest taken
lowest_more xs x =
    rw (all_snoc is_number xs x, sorted_snoc lt xs x, two_insert) (go (all is_number xs) (is_number x))
  where
    go : (p q : Bool) → cond (p && q) (Some (taken_of (first_two (sorted lt xs)) x)) None
        ≡ option_and_then (λ l. cond q (Some (taken_of l x)) None) (cond p (Some (first_two (sorted lt xs))) None)
    go true true = refl
    go true false = refl
    go false true = refl
    go false false = refl
