-- `snap::Nodes::nearest` meets its contract. The loop's invariant: `best` is the nearest of the nodes so far. Assumes nothing.
use mathlib.Core.Path.{◌≡◌}
use Rattle.rules.specs.Snap.{nearest_to}
use Rattle.snap.proofs.Nodes.nearest.Given as goal

abbrev pub invariant-loop-v : goal.invariant-loop-v
invariant-loop-v l = l.best ≡ nearest_to l.v-index l.self.coords.now l.layers l.self.order.now l.sought l.p
