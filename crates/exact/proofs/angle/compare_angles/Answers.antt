-- `exact::angle::compare_angles` meets its contract. Assumes nothing.
use mathlib.Core.Path.{◌∙◌}
use Rattle.exact.proofs.SignLaws.{other_part, to_angles, angles_number_lem}
use Rattle.exact.proofs.angle.compare_angles.Goals as goal

pub returns-else-is_eq : goal.returns-else-is_eq
returns-else-is_eq c =
    let value = other_part _ _ _ _ c.part_of.ensures c.part_of-2.ensures c.order-turn.ensures c.is_eq.ensures c.if-is_eq.false
    ∙ to_angles _ _ _ _ c.of-v.ensures.x c.of-v.ensures.y c.of-w.ensures.x c.of-w.ensures.y in
    record { value = value; number = angles_number_lem _ _ _ _ value }
