use mathlib.Core.Path.{◌≡◌, sym, ap, ◌∙◌, subst}
use mathlib.Core.List.{List}
use Rattle.std.proofs.Common.{Err}
use Rattle.cutting.specs.Edges.{Edge}
use Rattle.cutting.specs.Cell.{cell_table}
use Rattle.cutting.specs.Lent.{pairs}
use Rattle.cutting.specs.Outcome.{refusal}
use Rattle.refusals.specs.declared.Refusal.{Refusal}
use Rattle.refusals.specs.declared.Refusal.TheVariants.{FullTable, RepeatedEdge}
use Rattle.refusals.specs.Numbers.{number}
use Rattle.cells.specs.Cells.{outline_in, near_in, Places, AllFew, cut, cut_as, cut_by}
use Rattle.cells.proofs.Cut.{as_pairs, own_table, cut_as_lent, too_many_own, repeated_own}
use Rattle.cells.proofs.cut_cell.Goals as goal
use Rattle.cells.proofs.cut_cell.Goals.{then-outline_repeats, else-outline_repeats}

pub invariant_of-near : goal.invariant_of-near
invariant_of-near c =
    let a = c.args in
    let lent = sym (as_pairs a.scene.work.now a.edges _ _ c.part.ensures c.as_chunks.ensures.front) in
    record { few = subst (λ (es : List Edge). AllFew a.scene.work.now a.scene.regions es) lent c.requires.2; within = subst (λ (es : List Edge). Places a.js.now es) lent c.requires.3 }

pub returns-then-is_err : goal.returns-then-is_err
returns-then-is_err c =
    let a = c.args in
    let as_refused : (r : Refusal) → c.if-outline_repeats.why ≡ r
    → cut (Err c.if-outline_repeats.why) c.clear.new.runs c.clear.new.stops ≡ cut_as (refusal (number r)) a.runs.now a.stops.now =
    λ r e. c.clear.ensures (number c.if-outline_repeats.why) ∙ ap (λ (s : Refusal). cut_as (refusal (number s)) a.runs.now a.stops.now) e in
    elim c.if-outline_repeats.branch [
      | then-outline_repeats w ↦ as_refused RepeatedEdge w.why-is ∙ repeated_own a.scene.grid a.scene.coords.now a.scene.work.now a.scene.regions a.edges a.js.now a.cell.now a.runs.now a.stops.now
          (sym c.outline_repeats.ensures ∙ w.if-outline_repeats.true)
      | else-outline_repeats w ↦ as_refused FullTable w.why-is ∙ too_many_own a.scene.grid a.scene.coords.now a.scene.work.now a.scene.regions a.edges a.js.now a.cell.now a.runs.now a.stops.now
          (sym c.outline_repeats.ensures ∙ w.if-outline_repeats.false) (c.add_darts.ensures.held.over (sym c.is_err.ensures.value ∙ c.if-is_err.true))
    ]

pub cut-requires : goal.cut-requires
cut-requires c =
    let a = c.args in
    let own = c.add_darts in
    let fits = sym c.is_err.ensures.value ∙ c.if-is_err.false in (
      own_table a.scene.coords.now (outline_in a.scene.grid a.scene.coords.now a.scene.work.now a.scene.regions a.cell.now) own.new.table.outline
          (own.ensures.outlined fits) own.new.table.slots (own.ensures.held.fits fits),
      c.requires.4,
      c.requires.5,
    )

pub returns : goal.returns
returns c =
    let a = c.args in
    let own = c.add_darts in
    let fits = sym c.is_err.ensures.value ∙ c.if-is_err.false in
    cut_as_lent a.scene.grid a.scene.coords.now a.scene.work.now a.scene.regions a.edges a.js.now a.cell.now a.runs.now a.stops.now own.new.table.outline _
    (own.ensures.outlined fits) (c.cut.ensures ∙ ap (λ (es : List Edge). cut_by (pairs own.new.table.outline)
    (cell_table a.scene.coords.now (pairs own.new.table.outline) (near_in a.scene.grid a.scene.coords.now a.scene.work.now a.scene.regions es a.js.now)) a.runs.now a.stops.now)
    (as_pairs a.scene.work.now a.edges _ _ c.part.ensures c.as_chunks.ensures.front))
