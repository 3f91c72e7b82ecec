-- The derived order of the parts of the plane is that of their numbers. Assumes nothing.
use mathlib.Core.Path.{◌≡◌, refl}
use Rattle.exact.specs.Exact.{ordered}
use Rattle.exact.specs.Inner.{part_number}
use Rattle.exact.specs.declared.angle.Part.{Part}
use Rattle.exact.specs.declared.angle.Part.TheVariants.{Above, East, Below}
use Rattle.exact.specs.contracts.angle.PartOrd.TheImpl as part_ord

pub part_order : (p q : Part) → (part_ord.ghosts).cmp p q ≡ ordered (part_number p) (part_number q)
unfolding ordered
part_order Above Above = refl
part_order Above East = refl
part_order Above Below = refl
part_order East Above = refl
part_order East East = refl
part_order East Below = refl
part_order Below Above = refl
part_order Below East = refl
part_order Below Below = refl
