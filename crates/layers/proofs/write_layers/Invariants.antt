-- `layers::write_layers` meets its contract: the layers by the meetings before this one stand in front. Assumes nothing.
use mathlib.Core.Path.{◌≡◌}
use lib.ListN.{length}
use Rattle.lists.specs.Regions.{front}
use Rattle.layers.specs.Written.{layers_to}
use Rattle.layers.proofs.write_layers.Given as goal

abbrev pub invariant-loop-edge : goal.invariant-loop-edge
invariant-loop-edge l =
    (l.layers ≡ front l.fn.layers (layers_to l.edge-index l.subject l.cutter l.edges l.met))
    × (l.next ≡ length (layers_to l.edge-index l.subject l.cutter l.edges l.met))
