-- `exact::parts::Parts::over` meets its contract. Assumes nothing.
use Rattle.exact.proofs.Scaled.{over_positive, over_negative}
use Rattle.exact.proofs.parts.Parts.over.Goals as goal

pub returns-then-self : goal.returns-then-self
returns-then-self c = over_negative c.requires c.if-self-eq0.false c.if-self.true

pub returns-else-self : goal.returns-else-self
returns-else-self c = over_positive c.requires c.if-self-eq0.false c.if-self.false
