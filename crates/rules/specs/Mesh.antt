-- Document 01, "From maps and vectors to lent lists": a mesh as read is a view over the caller's lists, five and, from W7 on, six. Assumes nothing.
use Rattle.std.specs.Prelude.{List, ℕ, length}
use Rattle.lists.specs.Gather.{each}
use Rattle.lists.specs.Regions.{run}
use Rattle.entry.specs.Mesh.{Mesh, prior, cell_size}

-- a cell's corners: the run of node numbers from the end before its own to its own (the point of a node is `point_at` of the geometry layer)
unfoldable pub cell_at : Mesh → ℕ → List ℕ
cell_at m i = run m.nodes (prior m.ends i) (cell_size m.ends i)

unfoldable pub cells_of : Mesh → List (List ℕ)
cells_of m = each (length m.ends) (cell_at m)

-- ---- the subject mesh is cut by the cutter mesh; Union and 4 cut the cutter by the subject too

pub data Side : Type 0 where
  the_subject : Side
  the_cutter : Side

abbrev pub other : Side → Side
other the_subject = the_cutter
other the_cutter = the_subject

-- that of the subject s and the cutter c
abbrev pub lent_mesh : Mesh → Mesh → Side → Mesh
lent_mesh s c the_subject = s
lent_mesh s c the_cutter = c

-- W2: "0 for subject or 1 for cutter"
abbrev pub side_number : Side → ℕ
side_number the_subject = 0
side_number the_cutter = 1
