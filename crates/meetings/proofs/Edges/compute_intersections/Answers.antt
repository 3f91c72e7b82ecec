use mathlib.Core.Path.{refl, sym}
use native.Mathlib.Omega.{arith}
use Rattle.std.proofs.Common.{rules}
use Rattle.meetings.proofs.Loops.{all_found, one_refused}
use Rattle.meetings.proofs.Edges.compute_intersections.Goals as goal

pub returns-in-Ok-clause-found : goal.returns-in-Ok-clause-found
returns-in-Ok-clause-found c =
    let same = c.in-Ok.ensures.same in
    all_found _ _ c.add_for_edges.new.lists refl refl c.in-Ok.ensures _ _ (search (rules, sym same.points.name)) (search (rules, sym same.met.name))

pub returns-in-Err-clause-found : goal.returns-in-Err-clause-found
returns-in-Err-clause-found c =
    one_refused _ c.args.points.now c.args.met.now c.in-Err.e c.in-Err.ensures _ _ _ _ (c.fill.ensures.after (λ _ h. h)) (c.fill-in-Err.ensures.after (λ _ h. h))
    (omega arith) (omega arith)
