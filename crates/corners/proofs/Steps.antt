-- What an iterator of a ring has left, and folds over all that it gives. Assumes nothing.
use mathlib.Core.Path.{◌≡◌, refl, sym, ap, ap₂, ◌∙◌, subst}
use mathlib.Core.List.{[], ◌∷◌}
use Prim.Native.Nat.{ℕ, zero, suc, ◌+◌, ◌≤◌, ◌<◌}
use native.Mathlib.Numerals.{add-one}
use native.Mathlib.Nat.{zero-add}
use native.Mathlib.Omega.{arith}
use lib.ListN.{length, drop, drop_of_length-le}
use lib.Seq.{drop-cons}
use Rattle.std.specs.List.{fold, enumerate_from}
use Rattle.std.proofs.lemmas.List.Sums.{fold-append}
use Rattle.lists.specs.Gather.{gathered, each}
use Rattle.lists.proofs.Gather.{length_each, get_or_each, each_head, each_ext}
use Rattle.corners.specs.Ring.{as_read, edge_at, edges}
use Rattle.corners.specs.declared.Ring.{Ring}
use Rattle.corners.proofs.Corners.{length_oriented}

module _ {A : Type 0} (n m i : ℕ) (f : ℕ → A) (e : m ≡ n) where
  pub one_left : (x : A) → x ≡ f i → i < m → drop i (each n f) ≡ x ∷ drop (i + 1) (each n f)
  one_left x g h =
      let l : i < n = subst (λ k. i < k) e h in
      rw (add-one, g) (drop-cons (each n f) i (f i) (rw length_each l) ∙ ap (λ y. y ∷ drop (suc i) (each n f)) (get_or_each n f i (f i) l))

  pub none_left : m ≤ i → drop i (each n f) ≡ []
  none_left h = drop_of_length-le (each n f) (rw length_each (subst (λ k. k ≤ i) e h))

-- a fold takes the steps that F counts
pub fold_each : {A B : Type 0} (F : ℕ → B) (h : B → A → B) (f : ℕ → A) → ((k : ℕ) → F (suc k) ≡ h (F k) (f k)) → (n : ℕ) → fold h (F 0) (each n f) ≡ F n
unfolding gathered
fold_each F h f more zero = refl
fold_each F h f more (suc n) = fold-append h (F 0) (each n f) (f n ∷ []) ∙ ap (λ b. h b (f n)) (fold_each F h f more n) ∙ sym (more n)

enumerate_each : {A : Type 0} (m n : ℕ) (f : ℕ → A) → enumerate_from m (each n f) ≡ each n (λ i. (m + i, f i))
unfolding gathered
enumerate_each m zero f = refl
enumerate_each m (suc n) f =
    let e : m + 0 ≡ m = omega arith in
    ap (enumerate_from m) (each_head n f) ∙ ap₂ (λ k l. (k, f 0) ∷ l) (sym e) (enumerate_each (m + 1) n (λ i. f (suc i)) ∙ each_ext n _ _ (λ i l. ap (λ k. (k, f (suc i))) (omega arith)))
    ∙ sym (each_head n (λ i. (m + i, f i)))

-- the same with the number of each
pub fold_counted : {A B : Type 0} (F : ℕ → B) (h : B → ℕ × A → B) (f : ℕ → A) → ((k : ℕ) → F (suc k) ≡ h (F k) (k, f k)) → (n : ℕ) → fold h (F 0) (enumerate_from 0 (each n f)) ≡ F n
fold_counted F h f more n =
    ap (fold h (F 0)) (enumerate_each 0 n f ∙ each_ext n _ _ (λ i l. ap (λ k. (k, f i)) (zero-add i))) ∙ fold_each F h (λ i. (i, f i)) more n

pub length_edges : (r : Ring) → length (edges r) ≡ length r.corners.now
length_edges r = length_each (length (as_read r)) (edge_at r) ∙ length_oriented r.back r.corners.now
