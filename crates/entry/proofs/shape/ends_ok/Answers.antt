use Rattle.std.proofs.Common.{arith, rules}
use lib.Dec.{ltb}
use lib.ListN.{get_or}
use mathlib.Core.Logic.{◌≢◌}
use Rattle.std.proofs.lemmas.List.Sorted.{answers_always}
use Rattle.entry.proofs.Ends.{ends_last}
use Rattle.entry.proofs.shape.ends_ok.Goals as goal

pub returns-then-last-n : goal.returns-then-last-n
returns-then-last-n c =
    let first : get_or c.args.ends.now 0 0 ≢ 0 = λ e. absurd (omega arith) in
    ends_last _ _ (omega arith) first _ (c.is_sorted_by.ensures.cases ltb (answers_always _ _ _ (λ f a r q k. search rules))) c.if-last-n.true
