-- What specs/Booked.antt and Stakes.antt say, by computation. Numbers are given by their bits, distances as parts of 1, which is 2^2148 units of 2^-2148. Assumes nothing.
use mathlib.Core.Path.{◌≡◌, refl}
use mathlib.Core.Bool.{Bool, true, false, false≢true}
use mathlib.Core.List.{[], ◌∷◌, map}
use Prim.Native.Nat.{ℕ, ◌+◌, ◌*◌, ◌/◌, ◌^◌}
use lib.Dec.{T, ltb}
use lib.IntN.{pos}
use lib.Ieee.{Float, fin, binary64, add, sub, mul, div, neg, lt, le, eq, of_bits, fits, round}
use Rattle.std.specs.Prelude.{None, Some}
use Rattle.exact.specs.Exact.{mag, coord}
use Rattle.grid.specs.Grid.{Grid, steps, grid_number, on_grid, booked}
use Rattle.plane.specs.Plane.{zero_f, one_f, two_f, four_f, magnitude, larger, between, along, scale, tolerance, point_at}
use Rattle.segments.specs.Meet.{near, settled, crossing, meeting_or}
use Rattle.segments.specs.declared.Segment.{Segment}
use Rattle.segments.specs.declared.Meeting.{Meeting}
use Rattle.segments.specs.declared.Meeting.TheVariants.{Apart, Existing, New, Overlap}
use Rattle.entry.specs.Refused.{coord_ok}
use Rattle.lists.specs.Search.{seek, first}
use Rattle.lists.specs.Gather.{gathered, all, passing, joined}
use Rattle.lists.specs.Sort.{insert, sort_onto}
use Rattle.lists.specs.Regions as Regions
use Rattle.cutting.specs.Edges.{hops, ring}
use Rattle.settings.specs.declared.Settings.{Settings}
use Rattle.entry.specs.Mesh.{Mesh, mesh, prior}
use Rattle.rules.specs.Mesh.{cell_at, cells_of}
use Rattle.rules.specs.Snap.{used_nodes, sorted_indices_for, nearest_to, closest_within, weld}
use Rattle.rules.specs.Neighbours.{added, added_all, descending_to, subject_net, cutter_net}
use Rattle.rules.specs.SpatialIndex.{box_to, boxes_meet, box_holds, candidates}
use Rattle.rules.specs.Operations.{scene_for}
use Rattle.rules.specs.Meetings.{Met, met_pair, met_all, meetings_to, meetings, scene_of, meeting_on}
use Rattle.coordinates.specs.Stakes.{subject_segment, cutter_segment}
use Rattle.coordinates.specs.Booked.{Allowed, AllowedEnds, parameter, largest, off_by, allowance, is_within, PointWithin}

abbrev f64 : ℕ → Float
f64 n = of_bits binary64 n

-- 1/4, 1/2, 3/2, 3, -1, -1/2 and -4
abbrev quarter : Float
quarter = f64 0x3fd0_0000_0000_0000

abbrev half : Float
half = f64 0x3fe0_0000_0000_0000

abbrev one_and_a_half : Float
one_and_a_half = f64 0x3ff8_0000_0000_0000

abbrev three : Float
three = f64 0x4008_0000_0000_0000

abbrev minus_one : Float
minus_one = f64 0xbff0_0000_0000_0000

abbrev minus_half : Float
minus_half = f64 0xbfe0_0000_0000_0000

abbrev minus_four : Float
minus_four = f64 0xc010_0000_0000_0000

-- from (ax, ay) to (bx, by)
abbrev from_to : (ax ay bx by : Float) → Segment
from_to ax ay bx by = record { a = record { x = ax; y = ay }; b = record { x = bx; y = by } }

abbrev one : ℕ
one = 2 ^ 2148

-- ---- M × 2^-50 + 2^-1074, and half a step

-- for M = 1, without a grid and with k of 0, 3 and 10
allowances :
    map (λ g. allowance g (2 ^ 1074)) (None ∷ Some 0 ∷ Some 3 ∷ Some 10 ∷ [])
    ≡ (one / 2 ^ 50 + one / 2 ^ 1074) ∷ (one / 2 ^ 50 + one / 2 ^ 1074 + one / 2) ∷ (one / 2 ^ 50 + one / 2 ^ 1074 + one / 16) ∷ (one / 2 ^ 50 + one / 2 ^ 1074 + one / 2048) ∷ []
allowances = refl

-- each of the four coordinates as the largest in size, among them numbers below 0
largest_ones :
    map largest (from_to minus_four one_f two_f three ∷ from_to one_f four_f minus_one zero_f ∷ from_to one_f minus_half three minus_one ∷ from_to zero_f zero_f zero_f half ∷ [])
    ≡ 4 * 2 ^ 1074 ∷ 4 * 2 ^ 1074 ∷ 3 * 2 ^ 1074 ∷ 2 ^ 1074 / 2 ∷ []
unfolding mag of_bits
largest_ones = refl

-- ---- how far x is from p + t (q - p)

-- 2, 3/2 and 3 of 1, 3 and 1/2; the same of 1, 3 and 1/4; -1/2 and 1/2 of -1, 1 and 1/4; the least of all
distances :
    off_by two_f one_f three half ∷ off_by one_and_a_half one_f three half ∷ off_by three one_f three half
    ∷ off_by two_f one_f three quarter ∷ off_by one_and_a_half one_f three quarter ∷ off_by three one_f three quarter
    ∷ off_by minus_half minus_one one_f quarter ∷ off_by half minus_one one_f quarter
    ∷ off_by zero_f zero_f (f64 1) (f64 1) ∷ off_by (f64 1) zero_f (f64 1) half ∷ []
    ≡ 0 ∷ one / 2 ∷ one
    ∷ one / 2 ∷ 0 ∷ (one + one / 2)
    ∷ 0 ∷ one
    ∷ 1 ∷ one / 2 ^ 1075 ∷ []
unfolding coord mag of_bits
distances = refl

-- from (0, 0) to (4, 0), and across it from (1, -1) to (1, 1): t and not the other's parameter, which is 1/2
parameter_is : parameter (from_to zero_f zero_f four_f zero_f) (from_to one_f minus_one one_f one_f) ≡ quarter
unfolding between add sub mul div neg of_bits
parameter_is = refl

-- x itself for p + t (q - p), where p and q are 0: the border is within
abbrev near_zero : Grid → ℕ → ℕ → Bool
near_zero g m x = is_within g m (f64 x) zero_f zero_f zero_f

-- M = 0: 0, 2^-1074, twice that, and below 0; M = 1: 2^-50 and the next above; M = 0 and a step of 1: 1/2 and the next above, and below 0
borders :
    near_zero None 0 0 ∷ near_zero None 0 1 ∷ near_zero None 0 2 ∷ near_zero None 0 0x8000_0000_0000_0001 ∷ near_zero None 0 0x8000_0000_0000_0002
    ∷ near_zero None (2 ^ 1074) 0x3cd0_0000_0000_0000 ∷ near_zero None (2 ^ 1074) 0x3cd0_0000_0000_0001
    ∷ near_zero (Some 0) 0 0x3fe0_0000_0000_0000 ∷ near_zero (Some 0) 0 0x3fe0_0000_0000_0001 ∷ near_zero (Some 0) 0 0xbfe0_0000_0000_0000 ∷ near_zero (Some 1) 0 0xbfe0_0000_0000_0000 ∷ []
    ≡ true ∷ true ∷ false ∷ true ∷ false
    ∷ true ∷ false
    ∷ true ∷ false ∷ true ∷ false ∷ []
unfolding is_within coord mag of_bits
borders = refl

-- ---- meetings

-- how far the first coordinate of a new point of s and o is off
unfoldable x_off : Segment → Segment → Meeting → ℕ
x_off s o Apart = 0
x_off s o (Existing p) = 0
x_off s o (New x y) = off_by x s.a.x s.b.x (parameter s o)
x_off s o (Overlap p q) = 0

abbrev far_subject : Segment
far_subject = from_to (f64 0xbff0_00c3_933a_7cad) (f64 0xbfec_e6b3_ab96_4c96) (f64 0x3ff0_0688_9123_3af4) (f64 0x3fd4_ccbc_0254_d154)

abbrev far_cutter : Segment
far_cutter = from_to (f64 0x3ff2_93b9_ce53_1657) (f64 0x3ff4_bcca_5db0_60a7) (f64 0x3fed_074d_e7ff_8160) (f64 0xbfcf_dcf6_2006_23b8)

abbrev far_x : Float
far_x = f64 0x3ff0_05f2_8aa8_a78d

abbrev far_y : Float
far_y = f64 0x3fd4_cb4b_d3db_5cd0

far_point : meeting_or Apart far_subject far_cutter ≡ New far_x far_y
unfolding meeting_or crossing settled near scale larger magnitude between along tolerance add sub mul div neg lt le eq of_bits
far_point = refl

-- its first coordinate is off by more than 3.99 M × 2^-53, nearly half the allowance: three eighths of it would be too little
far_off : T (ltb (399 * (largest far_subject * 2 ^ 1021)) (100 * off_by far_x far_subject.a.x far_subject.b.x (parameter far_subject far_cutter)))
unfolding between mag coord add sub mul div neg of_bits
far_off = tt

far_allowed : AllowedEnds far_subject
unfolding coord_ok of_bits fits
far_allowed = record { ax = record { fit = refl; ok = refl }; ay = record { fit = refl; ok = refl }; bx = record { fit = refl; ok = refl }; by = record { fit = refl; ok = refl } }

far_within : PointWithin None far_subject far_cutter far_x far_y
unfolding is_within between mag coord add sub mul div neg of_bits
far_within = record { first = refl; second = refl }

-- each of its coordinates counts
first_counts : PointWithin None far_subject far_cutter far_y far_y → ⊥
unfolding is_within between mag coord add sub mul div neg of_bits
first_counts h = false≢true h.first

second_counts : PointWithin None far_subject far_cutter far_x far_x → ⊥
unfolding is_within between mag coord add sub mul div neg of_bits
second_counts h = false≢true h.second

-- from (0, 0) to (1, 0), crossed in the middle: on whole metres the point goes to the even one, and is off by half a step
abbrev unit_side : Segment
unit_side = from_to zero_f zero_f one_f zero_f

abbrev across : Segment
across = from_to half minus_one half one_f

halfway : map (λ g. x_off unit_side across (meeting_on g unit_side across)) (None ∷ Some 0 ∷ Some 1 ∷ []) ≡ 0 ∷ one / 2 ∷ 0 ∷ []
unfolding x_off meeting_on meeting_or crossing settled near scale larger magnitude between along tolerance booked on_grid grid_number steps round mag coord add sub mul div neg lt le eq of_bits
halfway = refl

on_whole_metres : meeting_on (Some 0) unit_side across ≡ New zero_f zero_f
unfolding meeting_on meeting_or crossing settled near scale larger magnitude between along tolerance booked on_grid grid_number steps round mag add sub mul div neg lt le eq of_bits
on_whole_metres = refl

-- which is within half a step of the line, and not without
halfway_within : PointWithin (Some 0) unit_side across zero_f zero_f
unfolding is_within between mag coord add sub mul div neg of_bits
halfway_within = record { first = refl; second = refl }

halfway_beyond : PointWithin None unit_side across zero_f zero_f → ⊥
unfolding is_within between mag coord add sub mul div neg of_bits
halfway_beyond h = false≢true h.first

-- ---- what is not allowed

-- 2^53 + 1 is no f64, and refusal 3 does not let -0 pass
not_a_double : Allowed (fin false (2 ^ 53 + 1) (pos 0)) → ⊥
unfolding fits
not_a_double h = false≢true h.fit

not_minus_zero : Allowed (f64 0x8000_0000_0000_0000) → ⊥
unfolding coord_ok of_bits
not_minus_zero h = false≢true h.ok

-- ---- the edges of a meeting

-- the square from (0, 0) to (4, 4), and as a line, of another layer, what crosses its lower side
abbrev square : Mesh
square = mesh (zero_f ∷ zero_f ∷ four_f ∷ zero_f ∷ four_f ∷ four_f ∷ zero_f ∷ four_f ∷ []) (0 ∷ 0 ∷ 0 ∷ 0 ∷ []) (0 ∷ 1 ∷ 2 ∷ 3 ∷ []) (4 ∷ []) (8 ∷ []) (0 ∷ [])

abbrev line : Mesh
line = mesh (one_f ∷ minus_one ∷ one_f ∷ one_f ∷ []) (1 ∷ 1 ∷ []) (0 ∷ 1 ∷ []) (2 ∷ []) (1 ∷ []) (0 ∷ [])

abbrev lines : Settings
lines = record { op = 5; m = 9; grid = None }

-- the new point (1, 0) is the seventh node
abbrev crossed : Met
crossed = record { subject_edge = 0; cutter_edge = 0; nodes = 6 ∷ []; point = one_f ∷ zero_f ∷ [] }

-- its meeting, and the segments of that meeting's edges
crossed_line : ((scene_for lines square line).met ≡ crossed ∷ []) × (subject_segment lines square line crossed ≡ from_to zero_f zero_f four_f zero_f)
    × (cutter_segment lines square line crossed ≡ from_to one_f minus_one one_f one_f)
unfolding meetings meetings_to met_all met_pair meeting_on candidates box_to boxes_meet box_holds scene_of subject_net cutter_net cells_of cell_at prior Regions.run Regions.front
    descending_to added added_all hops ring weld sorted_indices_for used_nodes nearest_to closest_within gathered all passing joined insert sort_onto seek first point_at booked
    meeting_or crossing settled near scale larger magnitude between along tolerance mag coord add sub mul div neg lt le eq of_bits
crossed_line = (refl, refl, refl)
