-- Edges between the same two nodes, of lists one after the other. Assumes nothing.
use mathlib.Core.Path.{◌≡◌, refl, ap₂, ◌∙◌}
use mathlib.Core.Bool.{Bool, true, false, ◌||◌}
use mathlib.Core.List.{List, [], ◌∷◌, ◌++◌}
use lib.Dec.{eqb}
use Rattle.cutting.specs.Edges.{Edge, same_key}
use Rattle.cutting.specs.Cell.{among, repeats}
use Rattle.outlines.specs.Meets.{edges_meet}

among_append : (e : Edge) (xs ys : List Edge) → among e (xs ++ ys) ≡ among e xs || among e ys
unfolding among
among_append e [] ys = refl
among_append e (x ∷ xs) ys = go (same_key x e) (among_append e xs ys)
  where
    go : (t : Bool) → among e (xs ++ ys) ≡ among e xs || among e ys → t || among e (xs ++ ys) ≡ (t || among e xs) || among e ys
    go true ih = refl
    go false ih = ih

pub meets_append : (xs ys zs : List Edge) → edges_meet xs (ys ++ zs) ≡ edges_meet xs ys || edges_meet xs zs
unfolding edges_meet
meets_append [] ys zs = refl
meets_append (x ∷ xs) ys zs = ap₂ (λ (s t : Bool). s || t) (among_append x ys zs) (meets_append xs ys zs) ∙ go (among x ys) (among x zs) (edges_meet xs ys) (edges_meet xs zs)
  where
    go : (a b m n : Bool) → (a || b) || (m || n) ≡ (a || m) || (b || n)
    go true b m n = refl
    go false true true n = refl
    go false true false n = refl
    go false false m n = refl

pub repeats_append : (xs ys : List Edge) → repeats (xs ++ ys) ≡ repeats xs || edges_meet xs ys || repeats ys
unfolding repeats edges_meet
repeats_append [] ys = refl
repeats_append (x ∷ xs) ys =
    ap₂ (λ (s t : Bool). eqb x.0 x.1 || s || t) (among_append x xs ys) (repeats_append xs ys) ∙ go (eqb x.0 x.1) (among x xs) (among x ys)
    (repeats xs) (edges_meet xs ys) (repeats ys)
  where
    go : (l a b r m y : Bool) → (l || (a || b)) || ((r || m) || y) ≡ (((l || a) || r) || (b || m)) || y
    go true a b r m y = refl
    go false true b r m y = refl
    go false false true true m y = refl
    go false false true false m y = refl
    go false false false true m y = refl
    go false false false false m y = refl
