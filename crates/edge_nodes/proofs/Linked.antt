-- The links of some meetings are linked. Assumes nothing.
use mathlib.Core.Path.{◌≡◌, sym, ap, ◌∙◌}
use mathlib.Core.List.{List, ◌++◌}
use Prim.Native.Nat.{ℕ, ◌+◌, ◌*◌, ◌-◌, ◌/◌, ◌<◌}
use native.Mathlib.Omega.{arith}
use lib.ListN.{length, length-append}
use Rattle.lists.specs.Gather.{each}
use Rattle.lists.proofs.Gather.{length_each}
use Rattle.cutting.specs.Edges.{Edge}
use Rattle.edge_nodes.specs.Links.{head_at, next_at, links_of, Linked}

four : (a b c d : List ℕ) → length (a ++ b ++ c ++ d) ≡ length a + length b + length c + length d
four a b c d = omega (arith, length-append (a ++ b ++ c) d, length-append (a ++ b) c, length-append a b)

module _ (h : ℕ) (subject cutter : List Edge) (met : List ℕ) where
  abbrev count : ℕ
  count = length met / 5

  pub length_links : length (links_of h subject cutter met) ≡ 2 * h + 2 * count
  unfolding links_of
  length_links =
      let a = head_at h subject met 0 in
      let b = head_at h cutter met 1 in
      let c = next_at h subject met 0 in
      let d = next_at h cutter met 1 in
      let sum : h + h + count + count ≡ 2 * h + 2 * count = omega arith in
      four (each h a) (each h b) (each count c) (each count d) ∙ rw (length_each h a, length_each h b, length_each count c, length_each count d) sum

  pub linked : 0 < h → Linked subject cutter met (links_of h subject cutter met)
  linked some =
      let n : length (links_of h subject cutter met) / 2 - count ≡ h = omega (arith, length_links) in
      record { some = omega (arith, length_links, some); are = ap (λ (k : ℕ). links_of k subject cutter met) (sym n) }
