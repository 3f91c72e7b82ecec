-- Sums of a weight that changes sign with the direction of an edge: lists that use each edge as often, up to its reverse, have one sum. Assumes nothing.
use mathlib.Core.Path.{◌≡◌, refl, sym, ap, ap₂, ◌∙◌}
use mathlib.Core.Bool.{Bool, true, false, ◌&&◌}
use mathlib.Core.List.{List, [], ◌∷◌, ◌++◌}
use Prim.Native.Nat.{ℕ, zero, suc, ◌+◌, ◌≤◌}
use native.Mathlib.Omega.{arith}
use lib.Dec.{eqb}
use lib.IntN.{ℤ, pos, negsuc, neg_ℤ, ◌+ℤ◌, +ℤ_assoc, +ℤ_comm, +ℤ_idl, +ℤ_idr, +ℤ_invl, neg_ℤ-+ℤ, pos-ne-negsuc}
use Rattle.lists.specs.Search.{bit}
use Rattle.cutting.specs.Edges.{Edge, hit, times}
use Rattle.cutting.proofs.EdgeLaws.{hit_back, hit_self, times_append, both}

-- the edges the other way
unfoldable flip : List Edge → List Edge
flip [] = []
flip (e ∷ es) = (e.1, e.0) ∷ flip es

times_flip : (a b : ℕ) (es : List Edge) → times a b (flip es) ≡ times b a es
unfolding flip times
times_flip a b [] = refl
times_flip a b (e ∷ es) = omega (arith, times_flip a b es, hit_back a b e.1 e.0)

-- the list without the first edge from a to b
unfoldable without : ℕ → ℕ → List Edge → List Edge
without a b [] = []
without a b (e ∷ es) = elim (eqb e.0 a && eqb e.1 b) [ true ↦ es | false ↦ e ∷ without a b es ]

-- what taking an edge out changes
times_without : (a b : ℕ) (es : List Edge) → 1 ≤ times a b es → (x y : ℕ) → times x y es ≡ hit x y a b + times x y (without a b es)
unfolding times without
times_without a b [] h x y = absurd (omega arith)
times_without a b (e ∷ es) h x y = pick (eqb e.0 a && eqb e.1 b) refl (λ l. times_without a b es l x y)
  where
    pick : (t : Bool) → (eqb e.0 a && eqb e.1 b) ≡ t → (1 ≤ times a b es → times x y es ≡ hit x y a b + times x y (without a b es))
        → times x y (e ∷ es) ≡ hit x y a b + times x y (elim t [ true ↦ es | false ↦ e ∷ without a b es ])
    pick true q tail = let at = both e.0 a e.1 b q in omega (arith, ap₂ (λ u v. hit x y u v) at.0 at.1)
    pick false q tail = let rest = tail (omega (arith, ap bit q)) in omega arith

-- an edge that stands in a list, at the front of it
none : (es : List Edge) → ((a b : ℕ) → times a b es ≡ 0) → es ≡ []
unfolding times
none [] h = refl
none (e ∷ es) h = absurd (omega (arith, h e.0 e.1, hit_self e.0 e.1))

double_zero : (z : ℤ) → z ≡ neg_ℤ z → z ≡ pos 0
double_zero (pos zero) e = refl
double_zero (pos (suc m)) e = absurd (pos-ne-negsuc (suc m) m e)
double_zero (negsuc m) e = absurd (pos-ne-negsuc (suc m) m (sym e))

-- with a zero sum beside it
cancel : (x y : ℤ) → x +ℤ neg_ℤ y ≡ pos 0 → x ≡ y
cancel x y e = sym (+ℤ_idr x) ∙ ap (λ (z : ℤ). x +ℤ z) (sym (+ℤ_invl y)) ∙ sym (+ℤ_assoc x (neg_ℤ y) y) ∙ ap (λ (z : ℤ). z +ℤ y) e ∙ +ℤ_idl y

module _ (w : ℕ → ℕ → ℤ) where
  unfoldable pub sum : List Edge → ℤ
  sum [] = pos 0
  sum (e ∷ es) = w e.0 e.1 +ℤ sum es

  pub sum_append : (es fs : List Edge) → sum (es ++ fs) ≡ sum es +ℤ sum fs
  unfolding sum
  sum_append [] fs = sym (+ℤ_idl (sum fs))
  sum_append (e ∷ es) fs = ap (λ (z : ℤ). w e.0 e.1 +ℤ z) (sum_append es fs) ∙ sym (+ℤ_assoc (w e.0 e.1) (sum es) (sum fs))

  swap_front : (x y z : ℤ) → x +ℤ (y +ℤ z) ≡ y +ℤ (x +ℤ z)
  swap_front x y z = sym (+ℤ_assoc x y z) ∙ ap (λ (u : ℤ). u +ℤ z) (+ℤ_comm x y) ∙ +ℤ_assoc y x z

  sum_without : (a b : ℕ) (es : List Edge) → 1 ≤ times a b es → sum es ≡ w a b +ℤ sum (without a b es)
  unfolding times without sum
  sum_without a b [] h = absurd (omega arith)
  sum_without a b (e ∷ es) h = pick (eqb e.0 a && eqb e.1 b) refl (λ l. sum_without a b es l)
    where
      pick : (t : Bool) → (eqb e.0 a && eqb e.1 b) ≡ t → (1 ≤ times a b es → sum es ≡ w a b +ℤ sum (without a b es))
          → sum (e ∷ es) ≡ w a b +ℤ sum (elim t [ true ↦ es | false ↦ e ∷ without a b es ])
      pick true q tail = let at = both e.0 a e.1 b q in ap₂ (λ u v. w u v +ℤ sum es) at.0 at.1
      pick false q tail = ap (λ (z : ℤ). w e.0 e.1 +ℤ z) (tail (omega (arith, ap bit q))) ∙ swap_front (w e.0 e.1) (w a b) (sum (without a b es))

  -- two lists with the same edges, each as often, have one sum
  sum_same : (es fs : List Edge) → ((a b : ℕ) → times a b es ≡ times a b fs) → sum es ≡ sum fs
  unfolding sum times
  sum_same [] fs h = ap sum (sym (none fs (λ a b. sym (h a b))))
  sum_same (e ∷ es) fs h =
      let some : 1 ≤ times e.0 e.1 fs = omega (arith, h e.0 e.1, hit_self e.0 e.1) in
      ap (λ (z : ℤ). w e.0 e.1 +ℤ z) (sum_same es (without e.0 e.1 fs) (λ a b. omega (arith, h a b, times_without e.0 e.1 fs some a b))) ∙
      sym (sum_without e.0 e.1 fs some)

  module _ (odd : (a b : ℕ) → w a b ≡ neg_ℤ (w b a)) where
    sum_flip : (es : List Edge) → sum (flip es) ≡ neg_ℤ (sum es)
    unfolding sum flip
    sum_flip [] = refl
    sum_flip (e ∷ es) = ap₂ (λ u v. u +ℤ v) (odd e.1 e.0) (sum_flip es) ∙ sym (neg_ℤ-+ℤ (w e.0 e.1) (sum es))

    -- edges that balance those of an outline have its sum
    pub sum_even : (es outline : List Edge) → ((a b : ℕ) → times a b es + times b a outline ≡ times b a es + times a b outline) → sum es ≡ sum outline
    sum_even es outline h =
        let all = es ++ flip outline in
        let turned : sum all ≡ neg_ℤ (sum all) = sum_same all (flip all)
        (λ a b. omega (
          arith,
          h a b,
          times_flip a b all,
          times_append a b es (flip outline),
          times_append b a es (flip outline),
          times_flip a b outline,
          times_flip b a outline,
        )) ∙ sum_flip all in
        cancel (sum es) (sum outline) (ap (λ (z : ℤ). sum es +ℤ z) (sym (sum_flip outline)) ∙ sym (sum_append es (flip outline)) ∙ double_zero (sum all) turned)
