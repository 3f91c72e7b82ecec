-- What the lent lists and the code's answer say. Assumes nothing.
use Rattle.std.specs.Prelude.{ℕ, ◌*◌, List, map, take, Float}
use Rattle.std.specs.Float.Ieee.{to_bits}
use Rattle.std.specs.Float.{binary64}
use Rattle.text.specs.Text.{PieceLine, piece_lines, Answer, unread, refused, overlay}
use Rattle.printing.specs.declared.Answer.{Answer as Given}
use Rattle.printing.specs.declared.Answer.TheVariants as given
use Rattle.printing.specs.declared.Listing.{Listing}

-- the bits of coordinates
unfoldable pub bits : List Float → List ℕ
bits cs = map (to_bits binary64) cs

-- the pieces that the lists hold
abbrev pub lines_of : Listing → List PieceLine
lines_of l = piece_lines 0 l.nodes.now l.ends.now l.kinds.now l.families.now l.meshes.now l.cells.now

-- of an overlay, the first `nodes` nodes and the first `pieces` pieces of the lists
unfoldable pub told : Given → Listing → Answer
told given.Unread l = unread
told (given.Refused n) l = refused n
told (given.Overlay nodes c) l = overlay (bits (take (2 * nodes) l.coords.now)) l.layers.now
    (piece_lines 0 l.nodes.now (take c.pieces l.ends.now) l.kinds.now l.families.now l.meshes.now l.cells.now) c.pieces c.points c.doubled
