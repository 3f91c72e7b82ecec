-- Document 01, modules 2 and 7 (overlay.rs, `point_inside`): whether a piece lies inside the other mesh. Assumes nothing.
use Rattle.std.specs.Prelude.{Bool, false, Option, None, Some, ◌&&◌, List, [], ℕ, length, get_or, Float}
use Rattle.lists.specs.Search.{has}
use Rattle.insides.specs.Inside.{inside}
use Rattle.polygons.specs.Interior.{strict_interior_point}
use Rattle.rules.specs.SpatialIndex.{box_of, box_holds}
use Rattle.plane.specs.declared.Point.{Point}

-- "a polygon without an inner point is outside"; otherwise some cell whose box holds the point, turned counter-clockwise, contains it
unfoldable pub some_holds : List Float → List (List ℕ) → Option Point → Bool
some_holds coords cells None = false
some_holds coords cells (Some p) =
    has (λ i. box_holds (box_of coords (get_or cells i [])) p && inside coords (get_or cells i []) p) (length cells)

unfoldable pub point_inside : List Float → List (List ℕ) → List ℕ → Bool
point_inside coords cells piece = some_holds coords cells (strict_interior_point coords piece)
