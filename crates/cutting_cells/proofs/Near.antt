-- The edges near a cell: all of them are found. Assumes nothing.
use mathlib.Core.Path.{◌≡◌, sym, ap, ◌∙◌}
use mathlib.Core.List.{List, []}
use Prim.Native.Nat.{ℕ, ◌≤◌}
use native.Mathlib.Omega.{arith}
use lib.ListN.{length, take}
use lib.Seq.{take_all}
use lib.Ieee.{Float}
use Rattle.lists.proofs.Gather.{places_le, places_at}
use Rattle.lists.proofs.Regions.{length_front, take_front_of}
use Rattle.cutting.specs.Edges.{Edge}
use Rattle.cutting.specs.Lent.{pairs}
use Rattle.cutting.proofs.Pairs.{pairs_length}
use Rattle.rules.specs.declared.Bounds.{Bounds}
use Rattle.rules.specs.SpatialIndex.{candidates}
use Rattle.spatial_index.specs.Candidates.{places_from, meets}
use Rattle.spatial_index.proofs.Candidates.{candidates_from_lem}
use Rattle.strips.specs.Things.{thing_count, thing_box}
use Rattle.strips.specs.Meeting.{things_meeting}
use Rattle.cells.specs.Cells.{Places}
use Rattle.lists.specs.Regions.{FrontIs}

module _ (coords : List Float) (near : List ℕ) (b : Bounds) where
  abbrev es : List Edge
  es = pairs near

  candidates_in : Places (candidates coords (pairs near) b) (pairs near)
  unfolding candidates
  candidates_in k h = (places_at (meets coords es b) (length es) k h).0

  module _ (few : thing_count near [] ≤ 65536) (found found' : List ℕ) (room : length found ≡ 65536) (n : ℕ)
      (got : FrontIs (take (length found) (things_meeting coords near [] b 0)) found n found') where
    all : things_meeting coords near [] b 0 ≡ candidates coords es b
    unfolding thing_count thing_box
    all = ap (places_from (meets coords es b) 0) (sym (pairs_length near)) ∙ candidates_from_lem coords es b

    fits : length (candidates coords es b) ≤ length found
    unfolding candidates thing_count
    fits = omega (arith, room, few, places_le (meets coords es b) (length es), pairs_length near)

    found_all : take (length found) (things_meeting coords near [] b 0) ≡ candidates coords es b
    found_all = ap (take (length found)) all ∙ take_all (length found) (candidates coords es b) fits

    pub near_read : take n found' ≡ candidates coords (pairs near) b
    near_read = ap (take n) got.held ∙ take_front_of found (take (length found) (things_meeting coords near [] b 0)) n (sym got.count) ∙ found_all

    pub near_places : Places (take n found') (pairs near)
    near_places = rw near_read candidates_in

    pub near_fits : n ≤ length found'
    near_fits =
        omega (arith, got.fits, ap length got.held, length_front found (take (length found) (things_meeting coords near [] b 0)) (omega (arith, got.count, got.fits)))
