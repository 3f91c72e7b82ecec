use mathlib.Core.Path.{ap, ◌∙◌}
use Prim.Native.Nat.{ℕ}
use lib.ListN.{take, drop}
use Rattle.strips.specs.Index.{chain_count}
use Rattle.strips.proofs.Searching.{links_read, chains_read}
use Rattle.strips.proofs.gathering.Index.gather.Goals as goal

pub invariant_of-search : goal.invariant_of-search
invariant_of-search c =
    let s = c.args.self.now in
    let t = s.things in
    let h = c.chain_count.ensures ∙ ap chain_count c.count.ensures in
    record {
      chained = chains_read t.coords.now t.nodes.now t.ends.now _ _ _
          (links_read t.coords.now t.nodes.now t.ends.now s.numbers.now s.is _ c.split_at.ensures.back _ c.split_at-2.ensures.back)
          (c.split_at-3.ensures.front ∙ ap (λ (k : ℕ). take k c.split_at-2.result.1.now) h) (c.split_at-3.ensures.back ∙ ap (λ (k : ℕ). drop k c.split_at-2.result.1.now) h);
    }
