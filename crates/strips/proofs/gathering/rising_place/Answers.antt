use Rattle.strips.proofs.Rising.{halved_place}
use Rattle.strips.proofs.gathering.rising_place.Goals as goal

pub returns-in-Some : goal.returns-in-Some
returns-in-Some c = record { place = halved_place _ _ c.requires _ c.binary_search.ensures.position }
