-- `dart_walk::walk_dart_map` meets its contract. Assumes nothing.
use mathlib.Core.Path.{sym, ◌∙◌}
use Rattle.dart_walk.proofs.Answers.{as_closed, as_refused}
use Rattle.dart_walk.proofs.walk_dart_map.Goals as goal

pub returns-then-is_ok : goal.returns-then-is_ok
returns-then-is_ok c =
    let a = c.args in
    let w = c.walk_table-walked in
    as_closed a.nodes.now a.stops.now w.new.nodes w.new.stops w.result _ (sym c.is_ok.ensures.value ∙ c.if-is_ok.true) w.ensures

pub returns : goal.returns
returns c =
    let a = c.args in
    let w = c.walk_table-walked in
    as_refused a.nodes.now a.stops.now w.new.nodes w.new.stops w.result _ _ _ (sym c.is_ok.ensures.value ∙ c.if-is_ok.false) w.ensures.0
    (c.fill.ensures.after (λ _ h. h)) (c.fill-2.ensures.after (λ _ h. h)) w.auto.nodes w.auto.stops
