-- `exact::rows::Rows::add` meets its contract. Assumes nothing.
use Rattle.exact.proofs.Terms.{taken_away, added}
use Rattle.exact.proofs.rows.Rows.add.Goals as goal

pub returns-then-a-b-clause-total : goal.returns-then-a-b-clause-total
returns-then-a-b-clause-total c = taken_away c.args.self.now c.args.a c.args.b c.times.ensures c.if-a-b.true c.add_product.ensures

pub returns-else-a-b-clause-total : goal.returns-else-a-b-clause-total
returns-else-a-b-clause-total c = added c.args.self.now c.args.a c.args.b c.times-else-a-b.ensures c.if-a-b.false c.add_product-else-a-b.ensures
