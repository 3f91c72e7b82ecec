use Rattle.std.proofs.Common.{◌≡◌, ◌-◌, [], refl, sym, ap, ◌∙◌, arith, length, length-drop, take, drop}
use Rattle.std.proofs.Math.ListN.{length-set}
use Rattle.std.proofs.Math.Seq.{length-take-le}
use borrow.Rule.Slice.PartMut.{same_len_mid}
use Rattle.text.specs.Read.{cell_from}
use Rattle.reading_lines.proofs.Many.{cells_turn}
use Rattle.reading_lines.proofs.lines.read_cells.Goals as goal

pub loop-k-preserved : goal.loop-k-preserved
loop-k-preserved c =
    let i = c.loop-k.invariant in
    let s = i.same_lists in
    let ns = c.loop-k.lists.nodes.now in
    let n = c.loop-k.entries in
    let kept = c.read_cell.auto.nodes in
    let lent : length (take (length ns - n) (drop n ns)) ≡ length ns - n
    = length-take-le (length ns - n) (drop n ns) (omega (arith, length-drop n ns)) in
    let left : length c.args.lists.now.nodes.now - n ≡ length (take (length ns - n) (drop n ns)) = omega (arith, lent, s.nodes.long) in
    record {
      entries = omega (arith, c.in_ok-cell.ensures.within, lent, s.nodes.long, i.entries);
      same_lists =
          record {
            nodes = record { name = s.nodes.name; long = same_len_mid n (length ns - n) ns c.read_cell.new.nodes kept ∙ s.nodes.long };
            ends = record { name = s.ends.name; long = simp length-set s.ends.long };
            kinds = record { name = s.kinds.name; long = simp length-set s.kinds.long };
            families = record { name = s.families.name; long = simp length-set s.families.long };
          };
      so_far =
          sym (cells_turn _ _ n ns _ _ _ _ _ s.nodes.long i.entries c.loop-k-test.true _ (sym c.in-Some.ensures) _ _ _ c.read_cell.new.nodes _ _
          (omega (arith, s.ends.long)) (omega (arith, s.kinds.long)) (omega (arith, s.families.long)) (omega (arith, c.in_ok-cell.ensures.within, kept)) refl
          (ap (λ k. cell_from k [] c.in-Some.line.now) left ∙ sym c.in_ok-cell.ensures.read)) ∙ i.so_far;
    }
