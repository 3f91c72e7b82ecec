-- A list whose test turns once: `partition_point` gives the first that passes. Assumes nothing.
use mathlib.Core.Path.{◌≡◌, refl, sym, ap, ◌∙◌}
use mathlib.Core.Bool.{Bool, true, false, not, true≢false}
use mathlib.Core.List.{List}
use Prim.Native.Nat.{ℕ, ◌≤◌}
use native.Mathlib.Decide.{ℕ_discrete}
use native.Mathlib.Omega.{arith}
use lib.ListN.{length, get_or}
use denote.Ref.{Bor}
use denote.Param.Members.{Mut}
use Rattle.std.specs.Fn.{Called, ComputesKey}
use Rattle.std.specs.List.Sorted.{IsPartitionedBy, IsPartitionPoint}
use Rattle.std.proofs.lemmas.List.Sorted.{IsPartitionPoint-from_clause}
use Rattle.std.proofs.lemmas.List.{get_or_default}
use Rattle.lists.specs.Search.{first}
use Rattle.lists.proofs.Halving.{Turns, between_end}

not_true : (t : Bool) → not t ≡ true → t ≡ false
not_true true e = absurd (true≢false (sym e))
not_true false e = refl

not_false : (t : Bool) → not t ≡ false → t ≡ true
not_false true e = refl
not_false false e = absurd (true≢false e)

module _ (p : ℕ → Bool) (xs : List ℕ) where
  abbrev test : ℕ → Bool
  test i = p (get_or xs i 0)

  pub partitioned : Turns test (length xs) → IsPartitionedBy (λ y. not (p y)) xs
  partitioned turns i j d h l e = ap (λ (x : ℕ). not (p x)) (get_or_default xs i d 0 (omega arith)) ∙ go (test i) refl
    where
      off : test j ≡ false
      off = ap p (get_or_default xs j 0 d l) ∙ not_true (p (get_or xs j d)) e

      on : test i ≡ true → test j ≡ true
      on f = elim (ℕ_discrete i j) [ yes q ↦ ap test (sym q) ∙ f | no q ↦ turns i j (omega arith) l f ]

      go : (t : Bool) → test i ≡ t → not t ≡ true
      go true f = absurd (true≢false (sym (on f) ∙ off))
      go false f = refl

  pub partition_first : (i : ℕ) → IsPartitionPoint (λ y. not (p y) ≡ true) (λ y. not (p y) ≡ false) xs i → i ≤ length xs → (i ≡ first test 0 (length xs)) × (i ≤ length xs)
  partition_first i r h =
      between_end test (length xs) i i
      (record {
        order = omega arith;
        within = h;
        fail = λ k l. not_true (test k) (r.0 k 0 (omega arith) l);
        pass = λ k l m. not_false (test k) (r.1 k 0 l m);
      })
      (omega arith)

  -- what `partition_point` promises of a closure that gives `not (p y)`
  pub partition_of : {F : Type 0} {g : Mut F (Bor ℕ × Unit {0}) Bool} {f : F} (i : ℕ) → Turns test (length xs)
      → ((q : ℕ → Bool) → ComputesKey g q f → IsPartitionedBy q xs → IsPartitionPoint (λ y. q y ≡ true) (λ y. q y ≡ false) xs i)
      → ((a : Bor ℕ × Unit {0}) (r : Bool) (f' : F) → Called g f a r f' → (r ≡ not (p a.0.now)) × (f' ≡ f)) → i ≤ length xs
      → (i ≡ first test 0 (length xs)) × (i ≤ length xs)
  partition_of i turns clause called h = partition_first i (IsPartitionPoint-from_clause (λ y. not (p y)) xs i clause (partitioned turns) called) h
