-- How many marks stand for named nodes. Assumes nothing.
use mathlib.Core.Path.{◌≡◌, refl, sym, ◌∙◌}
use mathlib.Core.Bool.{Bool, true, false, not}
use mathlib.Core.List.{List}
use Prim.Native.Nat.{ℕ, ◌+◌}
use lib.Dec.{eqb}
use Rattle.std.specs.List.{count_by}
use Rattle.lists.specs.Search.{named, bit, many}
use Rattle.lists.specs.Marks.{marks_from}
use Rattle.lists.proofs.Gather.{tally_each, many_ext}
use Rattle.lists.proofs.Library.{tally_list}

pub marks_counted : (nodes : List ℕ) (first n : ℕ) → count_by (λ (mark : ℕ). not (eqb mark 0)) (marks_from nodes first n) ≡ many (λ k. named nodes (first + k)) n
unfolding marks_from
marks_counted nodes first n =
    sym (tally_list (λ (mark : ℕ). not (eqb mark 0)) (marks_from nodes first n)) ∙ tally_each (λ (mark : ℕ). not (eqb mark 0)) n (λ k. bit (named nodes (first + k)))
    ∙ many_ext (λ k. not (eqb (bit (named nodes (first + k))) 0)) (λ k. named nodes (first + k)) n (λ k h. set_is (named nodes (first + k)))
  where
    set_is : (t : Bool) → not (eqb (bit t) 0) ≡ t
    set_is true = refl
    set_is false = refl
