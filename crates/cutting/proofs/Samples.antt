-- K1's cell, K10's cell, a cell with an edge traced again, also by document 01 alone, and one whose outline repeats, by computation; the next slot; exact areas.
-- Assumes nothing.
use mathlib.Core.Path.{◌≡◌, refl}
use mathlib.Core.Bool.{Bool, true, false}
use mathlib.Core.List.{List, [], ◌∷◌}
use Prim.Native.Nat.{ℕ, ◌*◌, ◌^◌}
use lib.IntN.{pos, neg_ℤ}
use lib.Ieee.{Float, binary64, of_bits, sub}
use Rattle.lists.specs.Search.{seek, first}
use Rattle.lists.specs.Gather.{gathered, all, passing, joined, tally}
use Rattle.lists.specs.Sort.{insert, sort_onto}
use Rattle.exact.specs.Angle.{angles}
use Rattle.exact.specs.Exact.{coord, mag, sign, ordered}
use Rattle.plane.specs.Plane.{between, point_at}
use Rattle.cutting.specs.Edges.{Edge, hops, ring, rings, times}
use Rattle.cutting.specs.Edition.{Edition, base, ours}
use Rattle.cutting.specs.Cell.{
  Laid,
  darts_along,
  own_darts,
  outline_darts,
  is_new,
  new_to,
  near_darts,
  among,
  repeats,
  inner,
  inner_with,
  edge_slots,
  table,
  stands,
  cell_table_with,
  doubled,
}
use Rattle.cutting.specs.Walk.{slot, next_open, begin, rest, onward, arrive, follow, step, walk_steps, starts, walk_from, walk_with}
use Rattle.cutting.proofs.Remainders.{slots_at, published_next}
use Rattle.cutting.specs.Areas.{doubled_area}
use Rattle.cutting.specs.Outcome.{Outcome, refusal, pieces, closes_up, too_many, cut_outcome_with}

abbrev laid : ℕ → ℕ → List ℕ → Laid
laid a b nodes = record { edge = (a, b); nodes = nodes }

abbrev f0 : Float
f0 = of_bits binary64 0

abbrev f1 : Float
f1 = of_bits binary64 0x3ff0_0000_0000_0000

abbrev f2 : Float
f2 = of_bits binary64 0x4000_0000_0000_0000

abbrev f3 : Float
f3 = of_bits binary64 0x4008_0000_0000_0000

-- -1
abbrev m1 : Float
m1 = of_bits binary64 0xbff0_0000_0000_0000

-- the square 0 1 2 3, then K1's square 4 5 6 7 and the points 8 and 9
abbrev k1 : List Float
k1 = f0 ∷ f0 ∷ f2 ∷ f0 ∷ f2 ∷ f2 ∷ f0 ∷ f2 ∷ f1 ∷ m1 ∷ f3 ∷ m1 ∷ f3 ∷ f3 ∷ f1 ∷ f3 ∷ f1 ∷ f0 ∷ f1 ∷ f2 ∷ []

-- the same square with K10's line 4 5 and the point 6
abbrev k10 : List Float
k10 = f0 ∷ f0 ∷ f2 ∷ f0 ∷ f2 ∷ f2 ∷ f0 ∷ f2 ∷ f1 ∷ m1 ∷ f1 ∷ f1 ∷ f1 ∷ f0 ∷ []

abbrev whole : List Laid
whole = laid 0 1 [] ∷ laid 1 2 [] ∷ laid 2 3 [] ∷ laid 3 0 [] ∷ []

-- what a cell comes to by an edition, and whether it is doubled
unfoldable cut : Edition → List Float → List Laid → List Laid → Outcome × Bool
unfolding outline_darts own_darts darts_along joined hops is_new new_to first seek near_darts inner_with edge_slots table stands cell_table_with insert sort_onto angles
    coord mag sign ordered between point_at sub of_bits tally doubled slot next_open begin rest onward arrive follow step walk_steps starts walk_from walk_with all
    passing times ring rings among repeats closes_up cut_outcome_with
cut v coords own near =
    let outline = outline_darts own in
    let t = cell_table_with v.once coords outline near in
    (cut_outcome_with v outline t, doubled t)

samples :
    cut ours k1 (laid 0 1 (0 ∷ 8 ∷ 1 ∷ []) ∷ laid 1 2 [] ∷ laid 2 3 (2 ∷ 9 ∷ 3 ∷ []) ∷ laid 3 0 [] ∷ []) (laid 7 4 (4 ∷ 8 ∷ 9 ∷ 7 ∷ []) ∷ [])
    ∷ cut ours k10 (laid 0 1 (0 ∷ 6 ∷ 1 ∷ []) ∷ laid 1 2 [] ∷ laid 2 3 [] ∷ laid 3 0 [] ∷ []) (laid 4 5 (4 ∷ 6 ∷ 5 ∷ []) ∷ [])
    ∷ cut ours k1 whole (laid 0 1 [] ∷ [])
    ∷ cut ours k1 (laid 0 1 [] ∷ laid 1 0 [] ∷ []) (laid 4 5 [] ∷ [])
    ∷ cut base k1 whole (laid 0 1 [] ∷ [])
    ∷ []
    ≡ (pieces ((3 ∷ 0 ∷ 8 ∷ 9 ∷ []) ∷ (9 ∷ 8 ∷ 1 ∷ 2 ∷ []) ∷ []), false)
    ∷ (pieces ((3 ∷ 0 ∷ 6 ∷ 5 ∷ 6 ∷ 1 ∷ 2 ∷ []) ∷ []), false)
    ∷ (pieces ((3 ∷ 0 ∷ 1 ∷ 2 ∷ []) ∷ []), false)
    ∷ (refusal 19, true)
    ∷ (pieces ((3 ∷ 0 ∷ 1 ∷ 0 ∷ 1 ∷ 2 ∷ []) ∷ []), true)
    ∷ []
unfolding cut
samples = refl

-- an own edge in the direction opposite to its sorted nodes; and candidates: one that the outline has already, one twice, one from a node to itself
turned : ◌≡◌ {A = List Edge × List Edge}
    (outline_darts (laid 1 0 (0 ∷ 8 ∷ 1 ∷ []) ∷ []), inner ((8, 0) ∷ (1, 8) ∷ []) (laid 0 1 (0 ∷ 8 ∷ 1 ∷ []) ∷ laid 4 8 [] ∷ laid 8 4 (8 ∷ 4 ∷ 5 ∷ []) ∷ laid 6 6 [] ∷ []))
    ((8, 0) ∷ (1, 8) ∷ [], (4, 8) ∷ (4, 5) ∷ [])
unfolding outline_darts own_darts darts_along joined hops is_new new_to tally table edge_slots near_darts inner_with
turned = refl

-- Slots 0, 2, 3 and 5 are at node 8, the others at 9. The next one of node 8: one on, past the others; past a marked one; from the last to the first; all
-- others marked, back to itself where the walk may turn back, else none. Each again by the published code's remainder.
next : List ℕ
next =
    let src : List ℕ = 8 ∷ 9 ∷ 8 ∷ 8 ∷ 9 ∷ 8 ∷ [] in
    let fresh : List Bool = false ∷ false ∷ false ∷ false ∷ false ∷ false ∷ [] in
    let walked : List Bool = true ∷ false ∷ false ∷ true ∷ false ∷ true ∷ [] in
    let third : List Bool = false ∷ false ∷ false ∷ true ∷ false ∷ false ∷ [] in
    next_open true 6 src fresh 8 3 ∷ next_open true 6 src third 8 2 ∷ next_open true 6 src fresh 8 5
    ∷ next_open true 6 src walked 8 2 ∷ next_open false 6 src walked 8 2
    ∷ published_next true 6 src fresh 8 2 ∷ published_next true 6 src third 8 1 ∷ published_next true 6 src fresh 8 3
    ∷ published_next true 6 src walked 8 1 ∷ published_next false 6 src walked 8 1
    ∷ slots_at 6 src 8

rounds : next ≡ 5 ∷ 5 ∷ 0 ∷ 2 ∷ 6 ∷ 5 ∷ 5 ∷ 0 ∷ 2 ∷ 6 ∷ 0 ∷ 2 ∷ 3 ∷ 5 ∷ []
unfolding next next_open first seek gathered
rounds = refl

-- 1,024 slots pass, 1,026 don't
limit : ◌≡◌ {A = Bool × Bool} (too_many 1024, too_many 1026) (false, true)
limit = refl

-- doubled areas in units of 2^-2148: K1's outline 8, its two pieces 4 each, the outline the other way round -8
areas :
    doubled_area k1 ((0, 8) ∷ (8, 1) ∷ (1, 2) ∷ (2, 9) ∷ (9, 3) ∷ (3, 0) ∷ [])
    ∷ doubled_area k1 (ring (3 ∷ 0 ∷ 8 ∷ 9 ∷ []))
    ∷ doubled_area k1 (ring (9 ∷ 8 ∷ 1 ∷ 2 ∷ []))
    ∷ doubled_area k1 (ring (3 ∷ 2 ∷ 1 ∷ 0 ∷ []))
    ∷ []
    ≡ pos (8 * 2 ^ 2148) ∷ pos (4 * 2 ^ 2148) ∷ pos (4 * 2 ^ 2148) ∷ neg_ℤ (pos (8 * 2 ^ 2148)) ∷ []
unfolding doubled_area ring hops coord mag point_at of_bits
areas = refl
