-- Document 01, "The words of demand 3": they go by what is lent and by the definitions, never by what a working list holds. The theorems stand in
-- proofs/Demand3.antt. Assumes nothing.
use Rattle.std.specs.Prelude.{◌⊎◌, ◌≡◌, true, ℕ, ◌<◌, length, get_or}
use Rattle.cutting.specs.Edition.{Edition}
use Rattle.grid.specs.Grid.{Grid}
use Rattle.cutting.specs.Areas.{ClosesUp}
use Rattle.settings.specs.declared.Settings.{Settings}
use Rattle.entry.specs.Mesh.{Mesh, mesh}
use Rattle.rules.specs.Mesh.{cell_at, Side, side_number}
use Rattle.rules.specs.Meetings.{Scene, net_of}
use Rattle.rules.specs.Cell.{outline_of}
use Rattle.rules.specs.Operations.{cuts, keeps, Piece, pieces_of, piece_at, lies_inside, listing}
use Rattle.rules.specs.Overlay.{Lists, Result, overlay_of, overlay_with}

-- "An overlay is accepted where it gives no refusal"
abbrev pub Accepted : Settings → Mesh → Mesh → Lists → Type 0
Accepted o s c l = (overlay_of o s c l).code ≡ 0

-- by the edition
abbrev pub AcceptedWith : Edition → Settings → Mesh → Mesh → Lists → Type 0
AcceptedWith v o s c l = (overlay_with v o s c l).code ≡ 0

-- ---- (a) the pieces before any are dropped close up to the outline as cut

-- The pieces of cell i of mesh w use each outline dart exactly once and its reverse never, and any other edge exactly once each way or not at all; and
-- their exact doubled signed areas add up to the outline's.
abbrev pub CellCloses : Scene → Side → ℕ → Type 0
CellCloses sc w i = ClosesUp sc.coords (outline_of sc w i) (pieces_of sc w i)

-- ---- "the answer lists those of them that the operation keeps"

-- the piece stands at its cell and place among the pieces of a mesh that the operation cuts, and the operation keeps it
pub record Kept (sc : Scene) (op : ℕ) (p : Piece) : Type 0 where
  pub cut : cuts op p.mesh ≡ true
  pub cell : p.cell < length (net_of sc p.mesh).cells
  pub place : p.place < length (pieces_of sc p.mesh p.cell)
  pub same : p ≡ piece_at sc p.mesh p.cell p.place
  pub passes : keeps op p.mesh (lies_inside sc p.mesh p) ≡ true

-- piece k of the overlay's listing is p
pub record ListedAt (p : Piece) (k : ℕ) (o : Settings) (s c : Mesh) : Type 0 where
  pub below : k < length (listing o s c)
  pub is : (d : Piece) → get_or (listing o s c) k d ≡ p

abbrev pub Listed : Piece → Settings → Mesh → Mesh → Type 0
Listed p o s c = (k : ℕ) × ListedAt p k o s c

-- cell k that a result's lists hold, read as a lent mesh's cells are, has the piece's kind, family and node numbers; W2: and its parent
abbrev pub answer_mesh : Lists → Mesh
answer_mesh l = mesh l.coords l.layers l.nodes l.ends l.kinds l.families

pub record WrittenAt (r : Result) (k : ℕ) (p : Piece) : Type 0 where
  pub below : k < r.pieces
  pub kind : get_or r.lists.kinds k 0 ≡ p.kind
  pub family : get_or r.lists.families k 0 ≡ p.family
  pub mesh : get_or r.lists.meshes k 0 ≡ side_number p.mesh
  pub cell : get_or r.lists.cells k 0 ≡ p.cell
  pub nodes : cell_at (answer_mesh r.lists) k ≡ p.nodes

-- ---- (b) each piece in exactly one of two answers

-- "known by its cell and its place"
pub record SamePiece (p q : Piece) : Type 0 where
  pub mesh : p.mesh ≡ q.mesh
  pub cell : p.cell ≡ q.cell
  pub place : p.place ≡ q.place

-- The answer r of the overlay lists the piece "with the kind, family and node numbers that Imprint gives it": at one and the same k the overlay's
-- listing has the piece, and r's lists hold them.
pub record ListedIn (r : Result) (o : Settings) (s c : Mesh) (p : Piece) : Type 0 where
  pub at : ℕ
  pub listed : ListedAt p at o s c
  pub written : WrittenAt r at p

-- the overlay lists no piece of this cell and place
abbrev pub Unlisted : Piece → Settings → Mesh → Mesh → Type 0
Unlisted p o s c = (q : Piece) → Listed q o s c → SamePiece q p → ⊥

-- "one lists it .., and the other doesn't list it"
abbrev pub InExactlyOne : Piece → Mesh → Mesh → (o : Settings) → Result → (o' : Settings) → Result → Type 0
InExactlyOne p s c o r o' r' = (ListedIn r o s c p × Unlisted p o' s c) ⊎ (ListedIn r' o' s c p × Unlisted p o s c)

-- W6: "Imprint is compared with the other two on one grid": the overlay with this operation and meeting limit, on the grid g or none
abbrev pub set_on : Grid → (op m : ℕ) → Settings
set_on g op m = record { op = op; m = m; grid = g }

-- ---- (b) by the lists alone, since they hold each piece's parent (W2)

-- piece j of the answer r' has the kind, family, parent and node numbers of piece k of r
pub record SameRow (r : Result) (k : ℕ) (r' : Result) (j : ℕ) : Type 0 where
  pub below : j < r'.pieces
  pub kind : get_or r'.lists.kinds j 0 ≡ get_or r.lists.kinds k 0
  pub family : get_or r'.lists.families j 0 ≡ get_or r.lists.families k 0
  pub mesh : get_or r'.lists.meshes j 0 ≡ get_or r.lists.meshes k 0
  pub cell : get_or r'.lists.cells j 0 ≡ get_or r.lists.cells k 0
  pub nodes : cell_at (answer_mesh r'.lists) j ≡ cell_at (answer_mesh r.lists) k

-- r' holds piece k of r
abbrev pub Holds : Result → Result → ℕ → Type 0
Holds r' r k = (j : ℕ) × SameRow r k r' j

-- one of two answers holds it, and the other doesn't
abbrev pub OneHolds : Result → Result → Result → ℕ → Type 0
OneHolds r₁ r₂ r k = (Holds r₁ r k × (Holds r₂ r k → ⊥)) ⊎ (Holds r₂ r k × (Holds r₁ r k → ⊥))
