use Rattle.strips.proofs.Rising.{v_there, v_more, v_full, v_behind}
use Rattle.strips.proofs.gathering.put_rising.Goals as goal

pub returns-in_default : goal.returns-in_default
returns-in_default c = v_there _ _ _ c.requires _ c.in_default.ensures.place

pub returns-then-k-found : goal.returns-then-k-found
returns-then-k-found c = v_more _ _ _ c.requires _ c.in-Err.ensures.place c.if-k-found.true _ c.insert_at.ensures.after

pub returns-then-p-k : goal.returns-then-p-k
returns-then-p-k c = v_full _ _ _ c.requires _ c.in-Err.ensures.place c.if-k-found.false c.if-p-k.true _ c.insert_at-then-p-k.ensures.after

pub returns-else-p-k : goal.returns-else-p-k
returns-else-p-k c = v_behind _ _ _ c.requires _ c.in-Err.ensures.place c.if-k-found.false c.if-p-k.false
