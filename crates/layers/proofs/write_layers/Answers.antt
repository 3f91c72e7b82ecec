-- `layers::write_layers` meets its contract. Assumes nothing.
use Rattle.std.proofs.Common.{ap, ◌∙◌, arith, ℕ, get_or}
use Rattle.lists.specs.Regions.{front}
use Rattle.layers.specs.Written.{layers_to}
use Rattle.layers.proofs.Turns.{start, place_at, turn_new, turn_known}
use Rattle.layers.proofs.write_layers.Goals as goal
use Rattle.layers.proofs.write_layers.Goals.{then-node-next, else-node-next}

pub loop-edge-init : goal.loop-edge-init
loop-edge-init c = start _ _ _ _ _ _ c.requires _ _ c.copy_at.ensures.after c.copy_at-2.ensures.after

pub bounds-layers-next : goal.bounds-layers-next
bounds-layers-next c = place_at _ _ _ _ _ c.requires _ c.as_chunks.ensures.front _ (omega arith) _ _ c.loop-edge.invariant _ c.if-node-next.true

pub loop-edge-preserved : goal.loop-edge-preserved
loop-edge-preserved c =
    elim c.if-node-next.branch [
      | then-node-next w ↦
          turn_new _ _ _ _ _ c.requires _ c.as_chunks.ensures.front _ (omega arith) _ _ c.loop-edge.invariant _ w.if-node-next.true _
          (w.number_at.ensures ∙ ap (λ (n : ℕ). get_or c.args.subject.now n 0) w.number_at-first.ensures) _ _ w.layers-is w.next-is
      | else-node-next w ↦
          turn_known _ _ _ _ _ c.requires _ c.as_chunks.ensures.front _ (omega arith) _ _ c.loop-edge.invariant _ w.if-node-next.false _ _ w.layers-is w.next-is
    ]

pub returns : goal.returns
returns c = c.loop-edge.invariant.0 ∙ ap (λ (i : ℕ). front c.args.layers.now (layers_to i c.args.subject.now c.args.cutter.now c.args.edges.now c.args.met.now)) (omega arith)
