-- What the program answers to a text. Assumes nothing.
use Rattle.std.specs.Prelude.{ℕ, ◌+◌, ◌*◌, cond, List, eqb, take, None, Some}
use Rattle.lists.specs.Regions.{zeros, fzeros}
use Rattle.settings.specs.declared.Settings.{Settings}
use Rattle.entry.specs.Mesh.{Mesh, mesh, node_count}
use Rattle.rules.specs.Overlay.{Lists, Result, lent_lists, overlay_of}
use Rattle.text.specs.Text.{piece_lines, Answer, unread, refused, overlay, answer_text}
use Rattle.text.specs.Read.{input_from}
use Rattle.text.specs.Given.{ReadMesh, Limits, Given, Parsed, at_most}
use Rattle.printing.specs.Told.{bits}

-- the most that is read of a mesh: 512 nodes, 512 cells, 2,048 entries
abbrev pub read_limits : Limits
read_limits = at_most 512 512 2048

-- a mesh that was read, as it is lent
abbrev pub lent : ReadMesh → Mesh
lent m = mesh m.points.coords m.points.layers m.cells.nodes m.cells.ends m.cells.kinds m.cells.families

-- The program's lists: 2,048 nodes, 8,192 node entries, 2,048 pieces, 16,384 numbers to work with.
unfoldable pub blank : Lists
blank = lent_lists (fzeros 4096) (zeros 2048) (zeros 8192) (zeros 2048) (zeros 2048) (zeros 2048) (zeros 2048) (zeros 2048) (zeros 16384)

-- Of a refusal its number; else all nodes, `nodes` of them lent, the pieces and the first three counts. W5: "a fourth number, not printed".
unfoldable pub result_told : ℕ → Result → Answer
result_told nodes r =
    let l = r.lists in
    cond (eqb r.code 0)
    (overlay (bits (take (2 * (nodes + r.added)) l.coords)) l.layers
    (piece_lines 0 l.nodes (take r.pieces l.ends) l.kinds l.families l.meshes l.cells) r.pieces r.points r.doubled)
    (refused r.code)

-- what is told of the overlay of two meshes, into the program's lists
unfoldable pub overlay_told : Settings → Mesh → Mesh → Answer
overlay_told settings s c = result_told (node_count s + node_count c) (overlay_of settings s c blank)

-- what was read, or that nothing was
unfoldable pub answer_given : Parsed Given → Answer
answer_given None = unread
answer_given (Some (g, t)) = overlay_told g.settings (lent g.subject) (lent g.cutter)

-- the bytes that the program writes for the bytes t
unfoldable pub answer_to : List ℕ → List ℕ
answer_to t = answer_text (answer_given (input_from read_limits read_limits t))
