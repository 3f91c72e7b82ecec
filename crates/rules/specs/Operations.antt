-- Document 01, "Operations": which meshes are cut, which pieces are kept, and the listing of those that are. Assumes nothing.
use Rattle.std.specs.Prelude.{Bool, true, false, cond, not, ◌||◌, List, [], ◌∷◌, ◌++◌, ℕ, eqb, length, get_or}
use Rattle.lists.specs.Gather.{gathered, each, passing}
use Rattle.cutting.specs.Edition.{Edition, ours}
use Rattle.cutting.specs.Cell.{doubled}
use Rattle.cutting.specs.Outcome.{Outcome, refusal, pieces}
use Rattle.settings.specs.declared.Settings.{Settings}
use Rattle.entry.specs.Mesh.{Mesh}
use Rattle.rules.specs.Mesh.{Side, the_subject, the_cutter, other}
use Rattle.rules.specs.Meetings.{Scene, net_of, scene_of}
use Rattle.rules.specs.Cell.{table_with, outcome_with, kind_of}
use Rattle.rules.specs.Inside.{point_inside}

-- ---- 0 Imprint, 1 Union, 2 Intersection, 3 Difference, 4 SymmetricDifference, 5 lines (the rule of 0)

-- "Union and 4 cut both meshes, subject first; the others cut the subject"
abbrev pub cuts : ℕ → Side → Bool
cuts op the_subject = true
cuts op the_cutter = eqb op 1 || eqb op 4

-- Which pieces of a mesh are kept, by whether they lie inside the other mesh. Union keeps the subject's, and the cutter's that aren't inside;
-- Intersection keeps those inside; Difference and 4 keep those that aren't; 0 and 5 keep all.
abbrev pub kept_by_union : Side → Bool → Bool
kept_by_union the_subject inside = true
kept_by_union the_cutter inside = not inside

abbrev pub keeps : ℕ → Side → Bool → Bool
keeps op w inside =
    cond (eqb op 1) (kept_by_union w inside)
    (cond (eqb op 2) inside
    (cond (eqb op 3) (not inside)
    (cond (eqb op 4) (not inside)
    true)))

-- the scene of an overlay, by what is set for it: in 5 the cutter's cells are lines
abbrev pub scene_for : Settings → Mesh → Mesh → Scene
scene_for o s c = scene_of o.grid (eqb o.op 5) s c

-- ---- pieces

-- "A piece is known by its cell and its place among that cell's pieces before any are dropped"; what is written of it is all but its place
pub record Piece : Type 0 where
  pub mesh : Side
  pub cell : ℕ
  pub place : ℕ
  pub kind : ℕ
  pub family : ℕ
  pub nodes : List ℕ

abbrev pub outcome_pieces : Outcome → List (List ℕ)
outcome_pieces (refusal r) = []
outcome_pieces (pieces ps) = ps

-- inside the other mesh
unfoldable pub lies_inside : Scene → Side → Piece → Bool
lies_inside sc w p = point_inside sc.coords (net_of sc (other w)).cells p.nodes

-- by the edition
module _ (v : Edition) (sc : Scene) (w : Side) where
  -- cell i's pieces before any are dropped
  abbrev pub pieces_with : ℕ → List (List ℕ)
  pieces_with i = outcome_pieces (outcome_with v sc w i)

  -- the one at place j
  unfoldable pub piece_with : ℕ → ℕ → Piece
  piece_with i j =
      record { mesh = w; cell = i; place = j; kind = kind_of sc w i; family = get_or (net_of sc w).families i 0; nodes = get_or (pieces_with i) j [] }

  -- those of cell i that the operation keeps
  unfoldable pub kept_with : ℕ → ℕ → List Piece
  kept_with op i = passing (λ p. keeps op w (lies_inside sc w p)) (each (length (pieces_with i)) (piece_with i))

abbrev pub pieces_of : Scene → Side → ℕ → List (List ℕ)
pieces_of sc w i = pieces_with ours sc w i

abbrev pub piece_at : Scene → Side → ℕ → ℕ → Piece
piece_at sc w i j = piece_with ours sc w i j

abbrev pub kept : Scene → Side → ℕ → ℕ → List Piece
kept sc w op i = kept_with ours sc w op i

-- f for each cell of a mesh, if the operation cuts it
abbrev pub over_cells : {A : Type 0} → ℕ → Scene → Side → (ℕ → List A) → List A
over_cells op sc w f = cond (cuts op w) (gathered (length (net_of sc w).cells) f) []

-- "Pieces are listed as made", the subject's first
unfoldable pub listing_with : Edition → Settings → Mesh → Mesh → List Piece
listing_with v o s c =
    let sc = scene_for o s c in
    over_cells o.op sc the_subject (kept_with v sc the_subject o.op) ++ over_cells o.op sc the_cutter (kept_with v sc the_cutter o.op)

abbrev pub listing : Settings → Mesh → Mesh → List Piece
listing o s c = listing_with ours o s c

-- "A doubled cell's table names a neighbour twice at some node": those of the cells that the operation cuts, by their tables before W14
unfoldable pub doubled_cells : Settings → Mesh → Mesh → List ℕ
doubled_cells o s c =
    let sc = scene_for o s c in
    let twice : Side → ℕ → List ℕ = λ w i. cond (doubled (table_with sc w i false)) (i ∷ []) [] in
    over_cells o.op sc the_subject (twice the_subject) ++ over_cells o.op sc the_cutter (twice the_cutter)
