-- `duplicates_from`: the lists from call to call, and that `weld` stands at its front in the end. Assumes nothing.
use mathlib.Core.Path.{◌≡◌, refl, sym, ap, ap₂, ◌∙◌, subst}
use mathlib.Core.Bool.{Bool, true, false, cond}
use mathlib.Core.List.{List, [], ◌++◌, append_assoc}
use Prim.Native.Nat.{ℕ, ◌+◌, ◌/◌, ◌≤◌, ◌<◌}
use native.Mathlib.Omega.{arith}
use lib.Dec.{eqb}
use lib.ListN.{length, get_or, take, drop, length-append, length-replicate}
use lib.Seq.{drop-drop}
use lib.Ieee.{Float}
use Rattle.lists.specs.Search.{bit, named}
use Rattle.lists.specs.Gather.{each, places}
use Rattle.lists.specs.Sort.{sorted}
use Rattle.lists.specs.Regions.{front, zeros}
use Rattle.lists.proofs.Gather.{each_ext, length_each, places_ext}
use Rattle.lists.proofs.Regions.{length_front, take_front_of}
use Rattle.plane.specs.Plane.{point_at}
use Rattle.entry.specs.Mesh.{mesh}
use Rattle.rules.specs.Snap.{used_nodes, sorted_indices_for, closest_within, or_shifted, number_of, weld}
use Rattle.snap.specs.Steps.{AllPlaced, InOrder, used, marked, before, indices_in_order, number_by}
use Rattle.snap.proofs.Marks.{length_used, get_or_used, marked_used}
use Rattle.snap.proofs.Orders.{length_order_to, order_rises}
use Rattle.snap.proofs.Numbers.{number_in}

-- ---- the numbers: by the marks of the cutter's nodes, and the subject's marked nodes in order

order_is : (sc : List Float) (sl sn : List ℕ) (k : ℕ) → k ≡ length sc / 2 → indices_in_order sc (used sn k) ≡ sorted_indices_for (mesh sc sl sn [] [] [])
unfolding indices_in_order sorted_indices_for used_nodes
order_is sc sl sn k e =
    ap (sorted (before sc)) (ap (places (marked (used sn k))) (length_used sn k) ∙ places_ext (marked (used sn k)) (named sn) k (λ i h. marked_used sn k i h) ∙
    ap (places (named sn)) e)

order_le : (sc : List Float) (sn : List ℕ) (k : ℕ) → length (indices_in_order sc (used sn k)) ≤ k
unfolding indices_in_order
order_le sc sn k = omega (arith, length_order_to sc (used sn k) (length (used sn k)), length_used sn k)

number_is : (sc : List Float) (sl sn : List ℕ) (cc : List Float) (cl cn order : List ℕ) (j : ℕ)
    → number_by sc sl order cc cl (bit (named cn j)) j ≡ number_of (mesh sc sl sn [] [] []) (mesh cc cl cn [] [] []) order j
unfolding number_by
number_is sc sl sn cc cl cn order j = go (named cn j)
  where
    far : ℕ
    far = j + length sc / 2

    near : ℕ
    near = or_shifted far (closest_within sc sl order (get_or cl j 0) (point_at cc j))

    go : (t : Bool) → cond (eqb (bit t) 0) far near ≡ cond t near far
    go true = refl
    go false = refl

-- ---- from call to call: the cutter's marks a, the subject's marks b, the r nodes in order at the front of s

module _ (sc : List Float) (sn : List ℕ) (k : ℕ) (b s : List ℕ) (r : ℕ) (be : b ≡ used sn k) (re : r ≡ length (indices_in_order sc b)) (se : s ≡ front b (indices_in_order sc b)) where
  lb : length b ≡ k
  lb = ap length be ∙ length_used sn k

  some_nodes : length (indices_in_order sc b) ≤ k
  some_nodes = omega (arith, order_le sc sn k, ap (λ (l : List ℕ). length (indices_in_order sc l)) be)

  pub within : r ≤ length s
  within = omega (arith, re, ap length se, length_front b (indices_in_order sc b) (omega (arith, lb, some_nodes)), lb, some_nodes)

  -- the nodes in order, as they are lent
  lent : take r s ≡ indices_in_order sc (used sn k)
  lent = ap (take r) se ∙ take_front_of b (indices_in_order sc b) r (sym re) ∙ ap (indices_in_order sc) be

  pub ordered : AllPlaced sc → k ≡ length sc / 2 → InOrder sc (take r s)
  unfolding indices_in_order
  ordered placed ke = subst (InOrder sc) (sym lent) (order_rises sc (used sn k) (length (used sn k)) placed (omega (arith, length_used sn k)))

  module _ (sl : List ℕ) (cc : List Float) (cl cn : List ℕ) (n : ℕ) (a : List ℕ) (ae : a ≡ used cn n) (ne : n ≡ length cc / 2) (ke : k ≡ length sc / 2) where
    abbrev welded : List ℕ
    welded = weld (mesh sc sl sn [] [] []) (mesh cc cl cn [] [] [])

    numbers_are : each (length a) (number_in sc sl (take r s) cc cl a) ≡ welded
    unfolding weld
    numbers_are =
        let order : List ℕ = sorted_indices_for (mesh sc sl sn [] [] []) in
        let mark : (j : ℕ) → j < n → get_or a j 0 ≡ bit (named cn j) = λ j h. ap (λ (l : List ℕ). get_or l j 0) ae ∙ get_or_used cn n j h in
        ap (λ (i : ℕ). each i (number_in sc sl (take r s) cc cl a)) (ap length ae ∙ length_used cn n)
        ∙ each_ext n _ _ (λ j h. ap₂ (λ (o : List ℕ) (m : ℕ). number_by sc sl o cc cl m j) (lent ∙ order_is sc sl sn k ke) (mark j h) ∙ number_is sc sl sn cc cl cn order j)
        ∙ ap (λ (i : ℕ). each i (number_of (mesh sc sl sn [] [] []) (mesh cc cl cn [] [] []) order)) ne

    -- x with the numbers, z the zeros, and what stands behind them
    pub whole : (w x z rest : List ℕ) → x ≡ each (length a) (number_in sc sl (take r s) cc cl a) → z ≡ zeros k → rest ≡ drop k (drop n w)
        → x ++ (z ++ rest) ≡ front w (welded ++ zeros (length sc / 2))
    unfolding front
    whole w x z rest xe ze e =
        let lw : length welded ≡ n = ap length (sym numbers_are) ∙ length_each (length a) (number_in sc sl (take r s) cc cl a) ∙ ap length ae ∙ length_used cn n in
        let lz : length (zeros k) ≡ k = length-replicate {A = ℕ} k 0 in
        let size : n + k ≡ length (welded ++ zeros k) = omega (arith, length-append welded (zeros k), lw, lz) in
        ap₂ (λ (u v : List ℕ). u ++ v) (xe ∙ numbers_are) (ap₂ (λ (u v : List ℕ). u ++ v) ze (e ∙ drop-drop k n w ∙ ap (λ (i : ℕ). drop i w) size))
        ∙ sym (append_assoc welded (zeros k) (drop (length (welded ++ zeros k)) w)) ∙ ap (λ (i : ℕ). (welded ++ zeros i) ++ drop (length (welded ++ zeros i)) w) ke
