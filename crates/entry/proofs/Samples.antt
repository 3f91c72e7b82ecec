-- The borders that document 01 draws, each from both sides, by computation. Assumes nothing.
use mathlib.Core.Path.{◌≡◌, refl}
use mathlib.Core.Bool.{true, false}
use mathlib.Core.List.{List, [], ◌∷◌, map}
use Prim.Native.Nat.{ℕ}
use lib.Ieee.{Float, nan, inf, of_bits, binary64}
use Rattle.lists.specs.Search.{every}
use Rattle.lists.specs.Regions.{run}
use Rattle.std.specs.Prelude.{None, Some}
use Rattle.settings.specs.declared.Settings.{Settings}
use Rattle.entry.specs.Mesh.{Mesh, mesh, prior}
use Rattle.entry.specs.Refused.{call_ok, grid_ok, ends_ok, shape_ok, coord_ok, coords_ok, kind_ok, kinds_ok, nodes_ok, absent, cell_ok, cells_ok, work_ok, entry_of}

-- 1, 2^40, the next above, −2^40, the next below, 0, −0, the least above 0, infinity, NaN
pub coordinates : map coord_ok
    (of_bits binary64 0x3ff0_0000_0000_0000 ∷ of_bits binary64 0x4270_0000_0000_0000 ∷ of_bits binary64 0x4270_0000_0000_0001 ∷ of_bits binary64 0xc270_0000_0000_0000
    ∷ of_bits binary64 0xc270_0000_0000_0001 ∷ of_bits binary64 0 ∷ of_bits binary64 0x8000_0000_0000_0000 ∷ of_bits binary64 1 ∷ inf false ∷ inf true ∷ nan ∷ [])
    ≡ true ∷ true ∷ false ∷ true ∷ false ∷ true ∷ false ∷ true ∷ false ∷ false ∷ false ∷ []
unfolding coord_ok of_bits
coordinates = refl

pub kinds : (map (kind_ok false 5) (2 ∷ 3 ∷ 4 ∷ []) ≡ false ∷ true ∷ false ∷ []) × (map (kind_ok false 8) (3 ∷ 4 ∷ 5 ∷ []) ≡ false ∷ true ∷ false ∷ [])
    × (map (kind_ok false 11) (2 ∷ 3 ∷ 256 ∷ 257 ∷ []) ≡ false ∷ true ∷ true ∷ false ∷ []) × (map (kind_ok true 1) (1 ∷ 2 ∷ 3 ∷ []) ≡ false ∷ true ∷ false ∷ [])
    × (kind_ok false 1 2 ≡ false) × (kind_ok true 5 3 ≡ false) × (kind_ok false 6 3 ≡ false)
unfolding kind_ok
kinds = (refl, refl, refl, refl, refl, refl, refl)

abbrev zero : Float
zero = of_bits binary64 0

abbrev one : Float
one = of_bits binary64 0x3ff0_0000_0000_0000

abbrev minus : Float
minus = of_bits binary64 0x8000_0000_0000_0000

-- four corners and one more node, above one of them, with these cells
abbrev of : List ℕ → List ℕ → List ℕ → List ℕ → Mesh
of = mesh (zero ∷ zero ∷ one ∷ zero ∷ one ∷ one ∷ zero ∷ one ∷ one ∷ one ∷ []) (0 ∷ 4294967295 ∷ 0 ∷ 0 ∷ 1 ∷ [])

abbrev quad : Mesh
quad = of (0 ∷ 1 ∷ 2 ∷ 3 ∷ []) (4 ∷ []) (8 ∷ []) (7 ∷ [])

abbrev line : Mesh
line = of (0 ∷ 2 ∷ []) (2 ∷ []) (1 ∷ []) (7 ∷ [])

abbrev none : Mesh
none = mesh [] [] [] [] [] []

-- an operation and a meeting limit, and a grid
abbrev set : ℕ → ℕ → Settings
set op m = record { op = op; m = m; grid = None }

abbrev on_grid : ℕ → ℕ → ℕ → Settings
on_grid op m k = record { op = op; m = m; grid = Some k }

abbrev subject : Mesh → ℕ
subject s = entry_of (set 0 9) s none 10000

abbrev cutter : Mesh → ℕ
cutter c = entry_of (set 0 9) quad c 10000

-- what one mesh is refused for
pub meshes : map subject
    (quad
    ∷ none
    ∷ of [] [] [] []
    ∷ of (0 ∷ 1 ∷ 2 ∷ 0 ∷ 1 ∷ 2 ∷ 3 ∷ []) (3 ∷ 7 ∷ []) (5 ∷ 8 ∷ []) (7 ∷ 7 ∷ [])
    ∷ mesh (zero ∷ []) [] [] [] [] []
    ∷ mesh (minus ∷ zero ∷ []) [] [] [] [] []
    ∷ mesh (minus ∷ zero ∷ []) (0 ∷ 0 ∷ []) [] [] [] []
    ∷ mesh [] (0 ∷ []) [] [] [] []
    ∷ of (0 ∷ 1 ∷ 2 ∷ 3 ∷ []) [] [] []
    ∷ of (0 ∷ 1 ∷ 2 ∷ 3 ∷ []) (0 ∷ 4 ∷ []) (8 ∷ 8 ∷ []) (7 ∷ 7 ∷ [])
    ∷ of (0 ∷ 1 ∷ 2 ∷ 3 ∷ []) (4 ∷ 4 ∷ []) (8 ∷ 8 ∷ []) (7 ∷ 7 ∷ [])
    ∷ of (0 ∷ 1 ∷ 2 ∷ 3 ∷ []) (3 ∷ []) (5 ∷ []) (7 ∷ [])
    ∷ of (0 ∷ 1 ∷ 2 ∷ 3 ∷ []) (4 ∷ []) (8 ∷ 8 ∷ []) (7 ∷ [])
    ∷ of (0 ∷ 1 ∷ 2 ∷ 3 ∷ []) (4 ∷ []) (8 ∷ []) []
    ∷ mesh (minus ∷ zero ∷ []) (0 ∷ []) [] [] [] []
    ∷ of (0 ∷ 1 ∷ 2 ∷ 3 ∷ 0 ∷ 1 ∷ 2 ∷ []) (4 ∷ 7 ∷ []) (8 ∷ 5 ∷ []) (7 ∷ 7 ∷ [])
    ∷ line
    ∷ of (0 ∷ 1 ∷ 2 ∷ 5 ∷ []) (4 ∷ []) (8 ∷ []) (7 ∷ [])
    ∷ of (0 ∷ 1 ∷ 2 ∷ 0 ∷ []) (4 ∷ []) (8 ∷ []) (7 ∷ [])
    ∷ []) ≡ 0 ∷ 0 ∷ 0 ∷ 0 ∷ 2 ∷ 2 ∷ 2 ∷ 2 ∷ 2 ∷ 2 ∷ 2 ∷ 2 ∷ 2 ∷ 2 ∷ 3 ∷ 4 ∷ 4 ∷ 5 ∷ 6 ∷ []
unfolding every run prior call_ok grid_ok ends_ok shape_ok coord_ok coords_ok kind_ok kinds_ok nodes_ok absent cell_ok cells_ok work_ok entry_of of_bits
meshes = refl

-- the call, the working list, operation 5's lines, and the lower of two numbers from either mesh
pub calls : (entry_of (set 5 1) quad line 1000 ≡ 0) × (entry_of (set 5 65536) quad line 1048896 ≡ 0) × (entry_of (set 5 65536) quad line 1048895 ≡ 7)
    × (entry_of (set 6 9) quad quad 10000 ≡ 1) × (entry_of (set 0 0) quad quad 10000 ≡ 1) × (entry_of (set 0 65537) quad quad 10000000 ≡ 1)
    × (entry_of (set 5 9) quad quad 10000 ≡ 4) × (cutter line ≡ 4) × (entry_of (set 5 9) line line 10000 ≡ 4)
    × (entry_of (set 0 9) (of (0 ∷ 1 ∷ 2 ∷ 0 ∷ []) (4 ∷ []) (8 ∷ []) (7 ∷ [])) line 0 ≡ 4)
    × (entry_of (set 0 9) line (mesh (minus ∷ zero ∷ []) (0 ∷ []) [] [] [] []) 0 ≡ 3)
    × (entry_of (on_grid 0 9 0) quad quad 10000 ≡ 0) × (entry_of (on_grid 0 9 10) quad quad 10000 ≡ 0) × (entry_of (on_grid 0 9 11) quad quad 10000 ≡ 13)
    × (entry_of (on_grid 6 9 11) quad quad 10000 ≡ 1) × (entry_of (on_grid 0 9 4294967295) (mesh (zero ∷ []) [] [] [] [] []) quad 0 ≡ 13)
unfolding every run prior call_ok grid_ok ends_ok shape_ok coord_ok coords_ok kind_ok kinds_ok nodes_ok absent cell_ok cells_ok work_ok entry_of of_bits
calls = (refl, refl, refl, refl, refl, refl, refl, refl, refl, refl, refl, refl, refl, refl, refl, refl)
