-- Demand 3 whole: the theorems, in the words of specs/Demand3.antt. Assumes nothing.
use mathlib.Core.Logic.{◌↔◌, ◌⊎◌, inl, inr}
use mathlib.Core.Path.{◌≡◌, sym, ap, ◌∙◌, subst}
use mathlib.Core.Bool.{true, false}
use Prim.Native.Nat.{ℕ, ◌<◌}
use native.Mathlib.Omega.{arith}
use lib.Dec.{eqb}
use lib.ListN.{length, get_or}
use Rattle.cutting.specs.Edition.{ours}
use Rattle.cutting.specs.Cell.{doubled}
use Rattle.grid.specs.Grid.{Grid}
use Rattle.settings.specs.declared.Settings.{Settings}
use Rattle.entry.specs.Mesh.{Mesh}
use Rattle.rules.specs.Mesh.{Side, the_subject, lent_mesh, side_number}
use Rattle.rules.specs.Cell.{table_of}
use Rattle.rules.specs.Operations.{cuts, scene_for, Piece, pieces_of, piece_at, listing}
use Rattle.rules.specs.Overlay.{Lists, Result, overlay_of, answered, answered_with}
use Rattle.rules.specs.Demand3.{
  Accepted,
  CellCloses,
  Kept,
  ListedAt,
  Listed,
  WrittenAt,
  ListedIn,
  SamePiece,
  Unlisted,
  InExactlyOne,
  SameRow,
  Holds,
  OneHolds,
  set_on,
}
use Rattle.rules.proofs.Endings.{Ending, input, state_met, success, ending, input_refused, state_refused, succeeds}
use Rattle.rules.proofs.Accepts.{accepted}
use Rattle.rules.proofs.Parts.{listed_kept, kept_listed, parts, drops_none}
use Rattle.rules.proofs.Once.{one_place}
use Rattle.rules.proofs.ReadBack.{answered_pieces, read_back}
use Rattle.rules.proofs.Rows.{row_of, row_mesh, row_cell, row_nodes, stands_at, same_piece, apart, of_intersection, of_difference}
use Rattle.rules.proofs.Closing.{cells_lent, accepted_closes, table_single}

-- (a) For all settings, meshes and lists: if the overlay is accepted, then in every cell of a mesh that the operation cuts,
-- with no condition on its table, the pieces before any are dropped close up to the outline as cut, edges and exact areas.
pub closes_up_lem : (o : Settings) (s c : Mesh) (l : Lists) → Accepted o s c l
    → (w : Side) → cuts o.op w ≡ true → (i : ℕ) → i < length (lent_mesh s c w).ends
    → CellCloses (scene_for o s c) w i
closes_up_lem o s c l h w e i k = accepted_closes o s c l h w e i k

-- No table of such a cell names a neighbour twice,
pub never_doubled : (o : Settings) (s c : Mesh) (l : Lists) → Accepted o s c l
    → (w : Side) → cuts o.op w ≡ true → (i : ℕ) → i < length (lent_mesh s c w).ends
    → doubled (table_of (scene_for o s c) w i) ≡ false
never_doubled o s c l h w e i k = table_single o s c l h w e i k

-- so "the third count is 0 ever after", of a refusal too.
pub third_count : (o : Settings) (s c : Mesh) (l : Lists) → (overlay_of o s c l).doubled ≡ 0
unfolding answered_with
third_count o s c l = go (ending ours o s c l)
  where
    go : Ending ours o s c l → (overlay_of o s c l).doubled ≡ 0
    go (input n) = ap (λ (r : Result). r.doubled) (input_refused ours o s c l n)
    go (state_met e n) = ap (λ (r : Result). r.doubled) (state_refused ours o s c l e n)
    go (success e f) = ap (λ (r : Result). r.doubled) (succeeds ours o s c l e f)

-- And the answer lists those of them that the operation keeps, and no others,
pub lists_kept : (o : Settings) (s c : Mesh) (p : Piece) → Listed p o s c ↔ Kept (scene_for o s c) o.op p
lists_kept o s c p = (listed_kept o s c p, kept_listed o s c p)

-- none of them twice;
pub listed_once : (o : Settings) (s c : Mesh) (p q : Piece) (k k' : ℕ) → ListedAt p k o s c → ListedAt q k' o s c → SamePiece p q → k ≡ k'
listed_once o s c p q k k' a b e = one_place o s c p q k k' a b e

-- an accepted overlay's answer has as many pieces as the listing, and holds piece k of the listing at k, whatever the meeting limit and the lists lent.
pub as_listed : (o : Settings) (s c : Mesh) (l : Lists) → Accepted o s c l
    → ((overlay_of o s c l).pieces ≡ length (listing o s c)) × ((k : ℕ) (p : Piece) → ListedAt p k o s c → WrittenAt (overlay_of o s c l) k p)
as_listed o s c l h = (ap (λ (r : Result). r.pieces) (accepted ours o s c l h).answer ∙ count, at)
  where
    count : (answered o s c l).pieces ≡ length (listing o s c)
    count = answered_pieces o s c l

    at : (k : ℕ) (p : Piece) → ListedAt p k o s c → WrittenAt (overlay_of o s c l) k p
    at k p q = subst (λ (x : Piece). WrittenAt (overlay_of o s c l) k x) (q.is p) (read_back o s c l h k q.below p)

listed_in : (o : Settings) (s c : Mesh) (l : Lists) → Accepted o s c l → (p : Piece) → Listed p o s c → ListedIn (overlay_of o s c l) o s c p
listed_in o s c l h p k = record { at = k.0; listed = k.1; written = (as_listed o s c l h).1 k.0 p k.1 }

-- (b) Whenever Imprint, Intersection and Difference accept the same meshes on one grid, or on none, whatever meeting limit and lists each was lent, each piece that Imprint's
-- answer lists is in exactly one of the other two answers.
pub in_exactly_one : (g : Grid) (s c : Mesh) (m₀ m₂ m₃ : ℕ) (l₀ l₂ l₃ : Lists)
    → Accepted (set_on g 0 m₀) s c l₀ → Accepted (set_on g 2 m₂) s c l₂ → Accepted (set_on g 3 m₃) s c l₃
    → (p : Piece) → ListedIn (overlay_of (set_on g 0 m₀) s c l₀) (set_on g 0 m₀) s c p
    → InExactlyOne p s c (set_on g 2 m₂) (overlay_of (set_on g 2 m₂) s c l₂) (set_on g 3 m₃) (overlay_of (set_on g 3 m₃) s c l₃)
in_exactly_one g s c m₀ m₂ m₃ l₀ l₂ l₃ h₀ h₂ h₃ p h = go (parts g m₀ m₂ m₃ s c p (h.at, h.listed))
  where
    go : (Listed p (set_on g 2 m₂) s c × Unlisted p (set_on g 3 m₃) s c) ⊎ (Listed p (set_on g 3 m₃) s c × Unlisted p (set_on g 2 m₂) s c)
        → InExactlyOne p s c (set_on g 2 m₂) (overlay_of (set_on g 2 m₂) s c l₂) (set_on g 3 m₃) (overlay_of (set_on g 3 m₃) s c l₃)
    go (inl k) = inl (listed_in (set_on g 2 m₂) s c l₂ h₂ p k.0, k.1)
    go (inr k) = inr (listed_in (set_on g 3 m₃) s c l₃ h₃ p k.0, k.1)

-- The pieces of Imprint are those of all the subject's cells, by cell and place.
pub imprint_lists_all : (g : Grid) (s c : Mesh) (m : ℕ) (l : Lists) → Accepted (set_on g 0 m) s c l
    → (i : ℕ) → i < length s.ends → (j : ℕ) → j < length (pieces_of (scene_for (set_on g 0 m) s c) the_subject i)
    → ListedIn (overlay_of (set_on g 0 m) s c l) (set_on g 0 m) s c (piece_at (scene_for (set_on g 0 m) s c) the_subject i j)
imprint_lists_all g s c m l h i b j k =
    listed_in (set_on g 0 m) s c l h (piece_at (scene_for (set_on g 0 m) s c) the_subject i j) (drops_none g m m m s c i (omega (arith, b, cells_lent g false s c the_subject)) j k)

-- ---- W2: the lists hold each piece's parent

-- The parent that the lists hold for piece k is the mesh and cell by which demand 3 knows that piece.
pub parent_held : (o : Settings) (s c : Mesh) (l : Lists) → Accepted o s c l → (k : ℕ) (p : Piece) → ListedAt p k o s c
    → (get_or (overlay_of o s c l).lists.meshes k 0 ≡ side_number p.mesh) × (get_or (overlay_of o s c l).lists.cells k 0 ≡ p.cell)
parent_held o s c l h k p e = let w = (as_listed o s c l h).1 k p e in (w.mesh, w.cell)

-- piece k of an accepted overlay's answer, from its lists
from_lists : (o : Settings) (s c : Mesh) (l : Lists) → Accepted o s c l → (k : ℕ) → k < (overlay_of o s c l).pieces → (p : Piece) × ListedAt p k o s c
from_lists o s c l h k b = stands_at o s c k (omega (arith, b, (as_listed o s c l h).0))

-- No two pieces of an answer have the same parent and node numbers: what the lists hold of a piece is no other's.
pub rows_differ : (o : Settings) (s c : Mesh) (l : Lists) → Accepted o s c l → let r = overlay_of o s c l in (k j : ℕ) → k < r.pieces → SameRow r k r j → j ≡ k
rows_differ o s c l h k j b e =
    let r = overlay_of o s c l in
    let p = from_lists o s c l h k b in
    let q = from_lists o s c l h j e.below in
    let written = (as_listed o s c l h).1 in
    let a = written k p.0 p.1 in
    let d = written j q.0 q.1 in
    let own = listed_kept o s c p.0 (k, p.1) in
    let w = p.0.mesh in
    let up = closes_up_lem o s c l h w own.cut p.0.cell (omega (arith, own.cell, cells_lent o.grid (eqb o.op 5) s c w)) in
    listed_once o s c q.0 p.0 j k q.1 p.1
    (same_piece (scene_for o s c) o.op p.0 q.0 own (listed_kept o s c q.0 (j, q.1)) up
    (row_mesh r r k j p.0 q.0 a d e) (row_cell r r k j p.0 q.0 a d e) (row_nodes r r k j p.0 q.0 a d e))

-- two answers that list a piece hold it alike
holds : (o o' : Settings) (s c : Mesh) (l l' : Lists) → Accepted o s c l → Accepted o' s c l' → (k : ℕ) (p : Piece) → ListedAt p k o s c
    → Listed p o' s c → Holds (overlay_of o' s c l') (overlay_of o s c l) k
holds o o' s c l l' h h' k p e j =
    (j.0, row_of (overlay_of o s c l) (overlay_of o' s c l') k j.0 p ((as_listed o s c l h).1 k p e) ((as_listed o' s c l' h').1 j.0 p j.1))

-- (b) by the lists alone: piece k of Imprint's answer, as its lists hold it, is held by exactly one of Intersection's and Difference's,
pub one_holds : (g : Grid) (s c : Mesh) (m₀ m₂ m₃ : ℕ) (l₀ l₂ l₃ : Lists)
    → Accepted (set_on g 0 m₀) s c l₀ → Accepted (set_on g 2 m₂) s c l₂ → Accepted (set_on g 3 m₃) s c l₃
    → (k : ℕ) → k < (overlay_of (set_on g 0 m₀) s c l₀).pieces
    → OneHolds (overlay_of (set_on g 2 m₂) s c l₂) (overlay_of (set_on g 3 m₃) s c l₃) (overlay_of (set_on g 0 m₀) s c l₀) k
one_holds g s c m₀ m₂ m₃ l₀ l₂ l₃ h₀ h₂ h₃ k b = go (parts g m₀ m₂ m₃ s c p (k, at))
  where
    r₀ : Result
    r₀ = overlay_of (set_on g 0 m₀) s c l₀

    r₂ : Result
    r₂ = overlay_of (set_on g 2 m₂) s c l₂

    r₃ : Result
    r₃ = overlay_of (set_on g 3 m₃) s c l₃

    p : Piece
    p = (from_lists (set_on g 0 m₀) s c l₀ h₀ k b).0

    at : ListedAt p k (set_on g 0 m₀) s c
    at = (from_lists (set_on g 0 m₀) s c l₀ h₀ k b).1

    written : WrittenAt r₀ k p
    written = (as_listed (set_on g 0 m₀) s c l₀ h₀).1 k p at

    not_in_3 : Listed p (set_on g 2 m₂) s c → Holds r₃ r₀ k → ⊥
    not_in_3 i (j, e) =
        let q = from_lists (set_on g 3 m₃) s c l₃ h₃ j e.below in
        let w = (as_listed (set_on g 3 m₃) s c l₃ h₃).1 j q.0 q.1 in
        apart g m₂ m₃ s c p q.0 i (j, q.1) (row_mesh r₀ r₃ k j p q.0 written w e) (row_nodes r₀ r₃ k j p q.0 written w e)

    not_in_2 : Listed p (set_on g 3 m₃) s c → Holds r₂ r₀ k → ⊥
    not_in_2 i (j, e) =
        let q = from_lists (set_on g 2 m₂) s c l₂ h₂ j e.below in
        let w = (as_listed (set_on g 2 m₂) s c l₂ h₂).1 j q.0 q.1 in
        apart g m₂ m₃ s c q.0 p (j, q.1) i (sym (row_mesh r₀ r₂ k j p q.0 written w e)) (sym (row_nodes r₀ r₂ k j p q.0 written w e))

    go : (Listed p (set_on g 2 m₂) s c × Unlisted p (set_on g 3 m₃) s c) ⊎ (Listed p (set_on g 3 m₃) s c × Unlisted p (set_on g 2 m₂) s c) → OneHolds r₂ r₃ r₀ k
    go (inl i) = inl (holds (set_on g 0 m₀) (set_on g 2 m₂) s c l₀ l₂ h₀ h₂ k p at i.0, not_in_3 i.0)
    go (inr i) = inr (holds (set_on g 0 m₀) (set_on g 3 m₃) s c l₀ l₃ h₀ h₃ k p at i.0, not_in_2 i.0)

-- and each piece of these two is held by Imprint's.
pub imprint_holds_intersection : (g : Grid) (s c : Mesh) (m₀ m₂ : ℕ) (l₀ l₂ : Lists) → Accepted (set_on g 0 m₀) s c l₀ → Accepted (set_on g 2 m₂) s c l₂
    → (k : ℕ) → k < (overlay_of (set_on g 2 m₂) s c l₂).pieces → Holds (overlay_of (set_on g 0 m₀) s c l₀) (overlay_of (set_on g 2 m₂) s c l₂) k
imprint_holds_intersection g s c m₀ m₂ l₀ l₂ h₀ h₂ k b =
    let p = from_lists (set_on g 2 m₂) s c l₂ h₂ k b in
    holds (set_on g 2 m₂) (set_on g 0 m₀) s c l₂ l₀ h₂ h₀ k p.0 p.1 (of_intersection g m₀ m₂ s c p.0 (k, p.1))

pub imprint_holds_difference : (g : Grid) (s c : Mesh) (m₀ m₃ : ℕ) (l₀ l₃ : Lists) → Accepted (set_on g 0 m₀) s c l₀ → Accepted (set_on g 3 m₃) s c l₃
    → (k : ℕ) → k < (overlay_of (set_on g 3 m₃) s c l₃).pieces → Holds (overlay_of (set_on g 0 m₀) s c l₀) (overlay_of (set_on g 3 m₃) s c l₃) k
imprint_holds_difference g s c m₀ m₃ l₀ l₃ h₀ h₃ k b =
    let p = from_lists (set_on g 3 m₃) s c l₃ h₃ k b in
    holds (set_on g 3 m₃) (set_on g 0 m₀) s c l₃ l₀ h₃ h₀ k p.0 p.1 (of_difference g m₀ m₃ s c p.0 (k, p.1))
