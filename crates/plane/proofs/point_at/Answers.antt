-- `plane::point_at` meets its contract: `unfolding(..)` alone was tried, and the search leaves it open, since NaN is the look-up's default here. Assumes nothing.
use Rattle.std.proofs.Common.{arith}
use mathlib.Core.Path.{ap₂}
use lib.Ieee.{Float, nan, of_bits}
use Rattle.plane.specs.declared.Point.{Point}
use Rattle.plane.specs.Plane.{point_at}
use Rattle.plane.proofs.point_at.Goals as goal

pub returns : goal.returns
unfolding of_bits point_at
returns c =
    ap₂ {C = Point} (λ (x y : Float). record { x = x; y = y }) (rw (c.unwrap_or.ensures, c.copied.ensures) (c.get.ensures.lookup.4 (omega arith) nan))
    (rw (c.unwrap_or-2.ensures, c.copied-2.ensures) (c.get-2.ensures.lookup.4 (omega arith) nan))
