use lib.ListN.{length}
use Rattle.strips.specs.Lent.{chain_in, level_in}
use Rattle.strips.proofs.Linking.{Linked}
use Rattle.strips.proofs.things.Things.link.Given as goal

abbrev pub invariant-loop-j : goal.invariant-loop-j
invariant-loop-j l = Linked (chain_in l.self l.xs l.ys) (level_in l.self l.xs l.ys) (length l.fn.heads) l.n l.j l.heads l.nexts l.levels
