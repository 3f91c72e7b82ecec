use mathlib.Core.Path.{sym, ap, ◌∙◌}
use mathlib.Core.Bool.{not}
use Rattle.lists.proofs.Search.{every_none, every_more, every_end, every_fails}
use Rattle.entry.specs.Refused.{absent, cell_ok}
use Rattle.entry.proofs.nodes.cell_ok.Invariants.{new_at}
use Rattle.entry.proofs.nodes.cell_ok.Goals as goal

pub loop-j-init : goal.loop-j-init
loop-j-init c = every_none _

pub returns-then-contains : goal.returns-then-contains
unfolding cell_ok absent
returns-then-contains c = every_fails (new_at c.args.cell.now) c.loop-j.j _ c.loop-j-test.true (ap not (sym c.contains.ensures.value ∙ c.if-contains.true))

pub loop-j-preserved : goal.loop-j-preserved
unfolding absent
loop-j-preserved c = every_more (new_at c.args.cell.now) c.loop-j.j c.loop-j.invariant (ap not (sym c.contains.ensures.value ∙ c.if-contains.false))

pub returns : goal.returns
unfolding cell_ok
returns c = every_end (new_at c.args.cell.now) c.loop-j.j _ c.loop-j.invariant c.loop-j.auto.j-end c.loop-j-test.false
