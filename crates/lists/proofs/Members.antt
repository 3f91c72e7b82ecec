-- What stands in a list once it is sorted, joined or slimmed, and the numbers that a list names. Assumes nothing.
use mathlib.Core.Path.{◌≡◌, refl, sym, ap, ◌∙◌, subst}
use mathlib.Core.Logic.{◌⊎◌, inl, inr}
use mathlib.Core.Bool.{Bool, true, false}
use mathlib.Core.List.Memᴰ
use mathlib.Core.List.{
  List,
  [],
  ◌∷◌,
  ◌++◌,
  Memᴰ,
}
use Prim.Native.Nat.{ℕ, ◌+◌, ◌<◌}
use native.Mathlib.Omega.{arith}
use lib.Dec.{eqb}
use lib.ListN.{length, get_or}
use borrow.Author.Tests.{eq-eqb, eqb-true}
use Rattle.lists.specs.Search.{named, bit}
use Rattle.lists.specs.Gather.{tally, joined, slim_after, slim}
use Rattle.lists.specs.Sort.{sorted}
use Rattle.lists.proofs.Search.{has_at, has_some}
use Rattle.lists.proofs.Gather.{in_list, mem_at}
use Rattle.lists.proofs.Sort.{sorted_tally}

module _ {A : Type 0} where
  pub tally_in : (p : A → Bool) (x : A) (xs : List A) → Memᴰ x xs → p x ≡ true → 0 < tally p xs
  unfolding tally
  tally_in p x [] m h = absurd (Memᴰ.not-nil m)
  tally_in p x (y ∷ ys) m h = go (λ i. tally_in p x ys i h) (Memᴰ.cases_cons m)
    where
      go : (Memᴰ x ys → 0 < tally p ys) → (x ≡ y) ⊎ Memᴰ x ys → 0 < bit (p y) + tally p ys
      go ih (inl e) = let one : bit (p y) ≡ 1 = ap (λ (z : A). bit (p z)) (sym e) ∙ ap bit h in omega (arith, one)
      go ih (inr i) = omega (arith, ih i)

  pub in_tally : (p : A → Bool) (xs : List A) → 0 < tally p xs → (x : A) × Memᴰ x xs × (p x ≡ true)
  unfolding tally
  in_tally p [] h = absurd (omega arith)
  in_tally p (y ∷ ys) h = go (p y) refl (λ l. in_tally p ys l) h
    where
      go : (t : Bool) → p y ≡ t → (0 < tally p ys → (x : A) × Memᴰ x ys × (p x ≡ true)) → 0 < bit t + tally p ys → (x : A) × Memᴰ x (y ∷ ys) × (p x ≡ true)
      go true e ih l = (y, Memᴰ.head refl, e)
      go false e ih l = let r = ih (omega (arith, l)) in (r.0, Memᴰ.tail r.1, r.2)

  -- the order of a list has an element that passes, where the list has one
  pub in_sorted : (before : A → A → Bool) (p : A → Bool) (x : A) (xs : List A) → Memᴰ x xs → p x ≡ true → (y : A) × Memᴰ y (sorted before xs) × (p y ≡ true)
  in_sorted before p x xs m h = in_tally p (sorted before xs) (let k = tally_in p x xs m h in omega (arith, k, sorted_tally before p xs))

  pub in_joined : {B : Type 0} (f : A → List B) (x : A) (y : B) (xs : List A) → Memᴰ x xs → Memᴰ y (f x) → Memᴰ y (joined f xs)
  unfolding joined
  in_joined f x y [] m h = absurd (Memᴰ.not-nil m)
  in_joined {B} f x y (z ∷ zs) m h = go (λ i. in_joined f x y zs i h) (Memᴰ.cases_cons m)
    where
      go : (Memᴰ x zs → Memᴰ y (joined f zs)) → (x ≡ z) ⊎ Memᴰ x zs → Memᴰ y (f z ++ joined f zs)
      go ih (inl e) = Memᴰ.append_left (joined f zs) (rw e at h)
      go ih (inr i) = Memᴰ.append_right (f z) (ih i)

-- where adjacent equals are dropped, one of them stays
slim_after_keeps : (n x : ℕ) (ys : List ℕ) → Memᴰ n (x ∷ ys) → Memᴰ n (x ∷ slim_after eqb x ys)
unfolding slim_after
slim_after_keeps n x [] m = m
slim_after_keeps n x (y ∷ ys) m = go (eqb x y) refl (λ i. slim_after_keeps n x ys i) (λ i. slim_after_keeps n y ys i) (Memᴰ.cases_cons m)
  where
    go : (t : Bool) → eqb x y ≡ t → (Memᴰ n (x ∷ ys) → Memᴰ n (x ∷ slim_after eqb x ys)) → (Memᴰ n (y ∷ ys) → Memᴰ n (y ∷ slim_after eqb y ys))
        → (n ≡ x) ⊎ Memᴰ n (y ∷ ys) → let r : List ℕ = elim t [ true ↦ slim_after eqb x ys | false ↦ y ∷ slim_after eqb y ys ] in Memᴰ n (x ∷ r)
    go true e same other (inl q) = Memᴰ.head q
    go true e same other (inr i) = again (Memᴰ.cases_cons i)
      where
        again : (n ≡ y) ⊎ Memᴰ n ys → Memᴰ n (x ∷ slim_after eqb x ys)
        again (inl q) = Memᴰ.head (q ∙ sym (eqb-true x y e))
        again (inr j) = same (Memᴰ.tail j)
    go false e same other (inl q) = Memᴰ.head q
    go false e same other (inr i) = Memᴰ.tail (other i)

pub slim_keeps : (n : ℕ) (xs : List ℕ) → Memᴰ n xs → Memᴰ n (slim eqb xs)
unfolding slim
slim_keeps n [] m = m
slim_keeps n (x ∷ xs) m = slim_after_keeps n x xs m

-- ---- the numbers that a list names

pub named_in : (ns : List ℕ) (n : ℕ) → named ns n ≡ true → Memᴰ n ns
named_in ns n e =
    let r = has_some (λ k. eqb (get_or ns k 0) n) (length ns) e in
    subst (λ (x : ℕ). Memᴰ x ns) (eqb-true (get_or ns r.0 0) n r.2) (in_list ns r.0 r.1 0)

pub in_named : (ns : List ℕ) (n : ℕ) → Memᴰ n ns → named ns n ≡ true
in_named ns n m =
    let r = mem_at ns n m in
    has_at (λ k. eqb (get_or ns k 0) n) (length ns) r.0 r.1 (eq-eqb (get_or ns r.0 0) n (r.2 0))
