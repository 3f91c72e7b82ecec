use mathlib.Core.Path.{◌≡◌, ap}
use mathlib.Core.List.{List}
use Prim.Native.Nat.{ℕ}
use native.Mathlib.Omega.{arith}
use Rattle.strips.specs.Things.{thing_count}
use Rattle.strips.specs.Index.{index_size}
use Rattle.regions.specs.Runs.{run_in}
use Rattle.indexing.proofs.Written.{run_lent, run_written}
use Rattle.indexing.proofs.index_run.Goals as goal
use Rattle.indexing.proofs.index_run.Goals.{After-part-nodes}

-- the nodes that are lent are the run
lent : (c : After-part-nodes) → c.part-nodes.result.now ≡ run_in c.args.w.now c.args.r
lent c = run_lent c.args.coords.now _ _ c.args.ends.now _ c.requires _ _ c.split_at_mut-before.ensures.front c.part-nodes.ensures

pub invariant_of-things : goal.invariant_of-things
invariant_of-things c =
    let same = lent (goal.at.invariant_of-things c).After-part-nodes in
    record { rising = rw same c.requires.rising; few = rw same c.requires.few }

pub build-size-requires : goal.build-size-requires
build-size-requires c = rw (lent (goal.at.build-size-requires c).After-part-nodes) (omega (arith, c.requires.room, c.split_at_mut-before.ensures.back_len))

pub overflow_add-result : goal.overflow_add-result
overflow_add-result c =
    let same = lent (goal.at.overflow_add-result c).After-part-nodes in
    omega (arith, c.well_formed, c.requires.room, c.build-size.ensures.0, ap (λ (l : List ℕ). index_size (thing_count l c.args.ends.now)) same)

pub returns : goal.returns
returns c =
    let before = c.split_at_mut-before.ensures in
    run_written c.args.coords.now _ _ _ _ c.requires _ _ _ _ (lent (goal.at.returns c).After-part-nodes) _ c.build-size.ensures.0 before.front before.back c.build-size.ensures.1
