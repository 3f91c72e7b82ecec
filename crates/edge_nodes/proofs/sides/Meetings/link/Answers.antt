use mathlib.Core.Path.{refl}
use Rattle.std.proofs.Common.{rules}
use Rattle.edge_nodes.proofs.Linking.{link_start, link_turn}
use Rattle.edge_nodes.proofs.sides.Meetings.link.Goals as goal

pub loop-q-init : goal.loop-q-init
loop-q-init c = link_start _ _ _ _ _ _ _ (c.fill.ensures.after (λ y e. e)) refl c.requires.1

pub loop-q-preserved : goal.loop-q-preserved
loop-q-preserved c = search (rules, link_turn)
