-- A loop that marks the nodes of a list one after the other. Assumes nothing.
use mathlib.Core.Path.{◌≡◌, refl, sym, ap, ◌∙◌}
use mathlib.Core.Bool.{Bool, true, false}
use mathlib.Core.List.{List}
use Prim.Native.Nat.{ℕ, ◌+◌, ◌-◌, ◌≤◌, ◌<◌}
use native.Mathlib.Decide.{ℕ_discrete}
use native.Mathlib.Omega.{arith}
use lib.Dec.{eqb}
use lib.ListN.{length, get_or, set, length-set, length-replicate, get_or-replicate}
use lib.Seq.{ext_get_or, get_or-set_same, get_or-set_other}
use borrow.Author.Tests.{eq-eqb, ne_eqb}
use Rattle.lists.specs.Search.{seek, first, has, bit}
use Rattle.lists.specs.Gather.{each}
use Rattle.lists.specs.Regions.{zeros}
use Rattle.lists.specs.Marks.{marks_from}
use Rattle.lists.proofs.Search.{has_at, has_skip}
use Rattle.lists.proofs.Gather.{length_each, get_or_each, each_ext}

module _ (nodes : List ℕ) (b n : ℕ) where
  -- one of the first i entries is the node b + k
  abbrev named_to : ℕ → ℕ → Bool
  named_to i k = has (λ j. eqb (get_or nodes j 0) (b + k)) i

  -- the marks of the first i
  unfoldable pub marks_to : ℕ → List ℕ
  marks_to i = each n (λ k. bit (named_to i k))

  pub length_marks : (i : ℕ) → length (marks_to i) ≡ n
  unfolding marks_to
  length_marks i = length_each n (λ k. bit (named_to i k))

  mark_at : (i k : ℕ) → k < n → get_or (marks_to i) k 0 ≡ bit (named_to i k)
  unfolding marks_to
  mark_at i k h = get_or_each n (λ k. bit (named_to i k)) k 0 h

  none_named : (k : ℕ) → named_to 0 k ≡ false
  unfolding first seek
  none_named k = refl

  pub none_marked : zeros n ≡ marks_to 0
  none_marked =
      let long : length (zeros n) ≡ n = length-replicate {A = ℕ} n 0 in
      ext_get_or 0 (zeros n) (marks_to 0) (long ∙ sym (length_marks 0))
      (λ k h. let l : k < n = omega (arith, h, long) in get_or-replicate n k 0 0 l ∙ sym (mark_at 0 k l ∙ ap bit (none_named k)))

  module _ (i : ℕ) where
    abbrev v : ℕ
    v = get_or nodes i 0

    itself : (k : ℕ) → v ≡ b + k → named_to (i + 1) k ≡ true
    itself k q = has_at (λ j. eqb (get_or nodes j 0) (b + k)) (i + 1) i (omega arith) (eq-eqb v (b + k) q)

    -- an entry names no other node
    others : (k : ℕ) → (v ≡ b + k → ⊥) → named_to (i + 1) k ≡ named_to i k
    others k q = has_skip (λ j. eqb (get_or nodes j 0) (b + k)) i (ne_eqb v (b + k) q)

    -- the entry's node has a place
    pub one_marked : b ≤ v → v - b < n → set (marks_to i) (v - b) 1 ≡ marks_to (i + 1)
    one_marked low high =
        let long : length (set (marks_to i) (v - b) 1) ≡ n = length-set (marks_to i) (v - b) 1 ∙ length_marks i in
        ext_get_or 0 (set (marks_to i) (v - b) 1) (marks_to (i + 1)) (long ∙ sym (length_marks (i + 1)))
        (λ k h. at k (omega (arith, h, long)) (ℕ_discrete k (v - b)))
      where
        at : (k : ℕ) → k < n → Dec (k ≡ v - b) → get_or (set (marks_to i) (v - b) 1) k 0 ≡ get_or (marks_to (i + 1)) k 0
        at k h (yes q) =
            let is : v ≡ b + k = omega (arith, low, q) in
            ap (λ (x : ℕ). get_or (set (marks_to i) (v - b) 1) x 0) q
            ∙ get_or-set_same (marks_to i) (v - b) 1 0 (omega (arith, high, length_marks i)) ∙ sym (mark_at (i + 1) k h ∙ ap bit (itself k is))
        at k h (no q) =
            get_or-set_other (marks_to i) (v - b) k 1 0 q ∙ mark_at i k h
            ∙ sym (mark_at (i + 1) k h ∙ ap bit (others k (λ e. q (omega (arith, e)))))

    -- it has none
    pub none_more : (b ≤ v → v - b < n → ⊥) → marks_to i ≡ marks_to (i + 1)
    unfolding marks_to
    none_more out =
        each_ext n (λ k. bit (named_to i k)) (λ k. bit (named_to (i + 1) k))
        (λ k h. ap bit (sym (others k (λ e. out (omega (arith, e)) (omega (arith, e, h))))))

  pub all_marked : (i : ℕ) → i ≡ length nodes → marks_to i ≡ marks_from nodes b n
  unfolding marks_to marks_from
  all_marked i e = ap marks_to e

-- the loop's start: the list lent, with its n entries set to zero
pub none_yet : (nodes : List ℕ) (b n : ℕ) (ms : List ℕ) → ms ≡ zeros n → ms ≡ marks_to nodes b (length ms) 0
none_yet nodes b n ms e =
    let long : length ms ≡ n = ap length e ∙ length-replicate {A = ℕ} n 0 in
    e ∙ none_marked nodes b n ∙ ap (λ (k : ℕ). marks_to nodes b k 0) (sym long)
