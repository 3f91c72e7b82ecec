use Rattle.strips.specs.Chain.{chain_left}
use Rattle.strips.specs.Search.{wanted, chain}
use Rattle.strips.proofs.Walk.{Putting}
use Rattle.strips.proofs.gathering.Search.gather_chain.Given as goal

abbrev pub invariant-loop-j : goal.invariant-loop-j
invariant-loop-j l = Putting (wanted l.self) (chain l.self l.c) l.k l.initial.found (chain_left l.j-iterator) l.r l.found
