-- `exact::rows::orient_far` meets its contract. Assumes nothing.
use mathlib.Core.Path.{◌∙◌, ap}
use Rattle.exact.specs.Exact.{sign}
use Rattle.exact.specs.Inner.{signed_size}
use Rattle.exact.proofs.Terms.{all}
use Rattle.exact.proofs.rows.orient_far.Goals as goal

pub returns : goal.returns
returns c =
    let a = c.args.a in
    let b = c.args.b in
    let o = c.args.c in
    c.sign.ensures
    ∙ ap sign (all (signed_size a.x) (signed_size a.y) (signed_size b.x) (signed_size b.y) (signed_size o.x) (signed_size o.y)
    c.negated.ensures c.negated-2.ensures c.negated-3.ensures c.new-rows.ensures.total c.add.ensures.total c.add-2.ensures.total c.add-3.ensures.total
    c.add-4.ensures.total c.add-5.ensures.total c.add-6.ensures.total)
