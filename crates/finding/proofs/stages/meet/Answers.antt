-- `finding::stages::meet` meets its contract. Assumes nothing.
use mathlib.Core.Path.{◌∙◌}
use mathlib.Core.List.{[]}
use Rattle.regions.specs.Runs.{run_in}
use Rattle.strips.specs.Index.{Indexed}
use Rattle.finding.proofs.Lent.{few_lent, index_lent, met_code}
use Rattle.finding.proofs.stages.meet.Goals as goal
use Rattle.finding.proofs.stages.meet.Goals.{After-part}

-- the index of the cutter's edges as they are lent
lent : (c : After-part) → Indexed c.split_at_mut-coords.result.0.now c.part.result.now [] (run_in c.split_at_mut-nets.result.0.now c.args.n.index)
lent c = index_lent c.args.settings.grid _ _ _ _ _ c.requires.0 _ c.split_at_mut-nets.ensures.front c.requires.1 _ c.split_at_mut-coords.ensures.front _ c.part.ensures

pub invariant_of-things : goal.invariant_of-things
invariant_of-things c = let ix = lent (goal.at.invariant_of-things c).After-part in record { rising = ix.rising; few = ix.few }

pub invariant_of-cutter : goal.invariant_of-cutter
invariant_of-cutter c = record { is = c.part-2.ensures ∙ (lent (goal.at.invariant_of-cutter c).After-part).is }

pub invariant_of-edges-clause-few : goal.invariant_of-edges-clause-few
invariant_of-edges-clause-few c = few_lent c.args.settings.grid _ _ _ _ _ c.requires.0 _ c.split_at_mut-nets.ensures.front _ c.part-3.ensures

pub returns-clause-code : goal.returns-clause-code
returns-clause-code c =
    let coords = c.split_at_mut-coords.ensures in
    let nets = c.split_at_mut-nets.ensures in
    let met = c.split_at_mut-met.ensures in
    met_code _ _ _ _ _ _ c.requires.0 _ _ _ _ _ _ coords.front coords.back nets.front nets.back met.front met.back _ _ c.part-3.ensures c.part.ensures
    _ _ _ c.compute_intersections.ensures.found
