-- `exact::orient::orient2d` meets its contract. Assumes nothing.
use Rattle.exact.proofs.Terms.{to_number}
use Rattle.exact.proofs.orient.orient2d.Goals as goal

pub returns-then-w-clause-number : goal.returns-then-w-clause-number
returns-then-w-clause-number c =
    to_number _ _ _ _ _ _ c.orient_near.ensures c.of-a.ensures.x c.of-a.ensures.y c.of-b.ensures.x c.of-b.ensures.y c.of-c.ensures.x c.of-c.ensures.y

pub returns-else-w-clause-number : goal.returns-else-w-clause-number
returns-else-w-clause-number c =
    to_number _ _ _ _ _ _ c.orient_far.ensures c.of-a.ensures.x c.of-a.ensures.y c.of-b.ensures.x c.of-b.ensures.y c.of-c.ensures.x c.of-c.ensures.y
