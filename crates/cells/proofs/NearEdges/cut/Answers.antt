use mathlib.Core.Path.{sym, ap, ◌∙◌}
use mathlib.Core.List.{List}
use Prim.Native.Nat.{ℕ}
use Rattle.cutting.specs.Cell.{repeats}
use Rattle.cutting.specs.Walk.{walk}
use Rattle.cutting.specs.Outcome.{of_walk}
use Rattle.cutting.specs.Lent.{pairs}
use Rattle.cells.specs.Cells.{cut_as}
use Rattle.cells.proofs.Cut.{as_walked, answered}
use Rattle.cells.proofs.NearEdges.cut.Goals as goal

pub returns : goal.returns
returns c =
    let a = c.args in
    let w = c.walk_dart_map in
    let cuts = answered (of_walk (walk (pairs c.outline-2.result.now) c.slots.result.now)) w.result a.runs.now a.stops.now _ _ w.ensures.0 w.ensures.1 w.ensures.2 in
    let outline = c.outline-2.ensures ∙ c.add_darts.ensures.outline in
    let once = ap (λ (o : List ℕ). repeats (pairs o)) (sym c.outline.ensures) ∙ (sym c.edges_repeat.ensures ∙ c.if-edges_repeat.false) in
    as_walked _ (pairs a.table.now.outline) _ c.add_darts.new.table.slots a.runs.now a.stops.now _ once c.slots.ensures.few
    (c.add_darts.ensures.held.fits (sym c.is_err.ensures.value ∙ c.if-is_err.false))
    (cuts ∙ (λ t. cut_as (of_walk (walk (pairs (outline t)) (c.slots.ensures.slots t))) a.runs.now a.stops.now))
