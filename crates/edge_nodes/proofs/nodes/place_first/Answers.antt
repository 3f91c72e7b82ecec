use mathlib.Core.Path.{sym, ap}
use lib.Ieee.{of_bits}
use Rattle.grid.specs.Grid.{Grid}
use Rattle.edge_nodes.specs.Chained.{edge_of}
use Rattle.edge_nodes.specs.Lent.{first_placed}
use Rattle.edge_nodes.proofs.nodes.place_first.Goals as goal

pub returns-in-Some : goal.returns-in-Some
unfolding first_placed of_bits
returns-in-Some c = sym (ap (λ (g : Grid). first_placed g c.args.coords.now (edge_of c.args.key)) c.in-Some.is)
