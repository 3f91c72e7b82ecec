-- `exact::near::orient_near` meets its contract. Assumes nothing.
use mathlib.Core.Path.{◌∙◌}
use Rattle.exact.proofs.Scaled.{near, term_fits, term_is}
use Rattle.exact.proofs.near.orient_near.Goals as goal

pub overflow_mul-p : goal.overflow_mul-p
overflow_mul-p c = term_fits c.over.ensures c.over-x.ensures c.over-2.ensures c.over-y.ensures c.from.ensures c.from-2.ensures

pub overflow_mul-q : goal.overflow_mul-q
overflow_mul-q c = term_fits c.over-3.ensures c.over-y.ensures c.over-4.ensures c.over-x.ensures c.from-3.ensures c.from-4.ensures

pub returns : goal.returns
returns c =
    c.cmp.ensures
    ∙ near c.over.ensures c.over-3.ensures c.over-4.ensures c.over-2.ensures c.over-x.ensures c.over-y.ensures
    (term_is c.over.ensures c.over-x.ensures c.over-2.ensures c.over-y.ensures c.from.ensures c.from-2.ensures)
    (term_is c.over-3.ensures c.over-y.ensures c.over-4.ensures c.over-x.ensures c.from-3.ensures c.from-4.ensures)
