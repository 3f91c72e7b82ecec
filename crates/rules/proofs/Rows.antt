-- An answer's lists hold the pieces of its listing, parents too; so what Imprint, Intersection and Difference have of each other can be read from the
-- lists. Assumes nothing.
use mathlib.Core.Path.{◌≡◌, refl, sym, ap, ap₂, ◌∙◌, subst}
use mathlib.Core.Bool.{true, false, not}
use mathlib.Core.List.{List, []}
use Prim.Native.Nat.{ℕ, ◌<◌}
use native.Mathlib.Omega.{arith}
use lib.ListN.{length, get_or}
use Rattle.lists.proofs.Gather.{get_or_any}
use Rattle.settings.specs.declared.Settings.{Settings}
use Rattle.grid.specs.Grid.{Grid}
use Rattle.entry.specs.Mesh.{Mesh}
use Rattle.rules.specs.Mesh.{Side, the_subject, the_cutter, other, side_number}
use Rattle.rules.specs.Meetings.{Scene, net_of, scene_of}
use Rattle.rules.specs.Inside.{point_inside}
use Rattle.rules.specs.Operations.{cuts, Piece, pieces_of, piece_at, piece_with, lies_inside, scene_for, listing}
use Rattle.rules.specs.Overlay.{Result}
use Rattle.rules.specs.Demand3.{CellCloses, Kept, ListedAt, Listed, WrittenAt, SamePiece, SameRow, set_on}
use Rattle.rules.proofs.Parts.{listed_kept, kept_listed, not_both}
use Rattle.rules.proofs.Distinct.{one_place_in}

-- ---- rows and pieces

-- a mesh is known by its number
pub same_side : (v w : Side) → side_number v ≡ side_number w → v ≡ w
same_side the_subject the_subject e = refl
same_side the_subject the_cutter e = absurd (omega (arith, e))
same_side the_cutter the_subject e = absurd (omega (arith, e))
same_side the_cutter the_cutter e = refl

-- two answers that hold the same piece have the same row
pub row_of : (r r' : Result) (k j : ℕ) (p : Piece) → WrittenAt r k p → WrittenAt r' j p → SameRow r k r' j
row_of r r' k j p a b =
    record {
      below = b.below;
      kind = b.kind ∙ sym a.kind;
      family = b.family ∙ sym a.family;
      mesh = b.mesh ∙ sym a.mesh;
      cell = b.cell ∙ sym a.cell;
      nodes = b.nodes ∙ sym a.nodes;
    }

-- pieces with the same row have one mesh, cell and node numbers
module _ (r r' : Result) (k j : ℕ) (p q : Piece) (a : WrittenAt r k p) (b : WrittenAt r' j q) (e : SameRow r k r' j) where
  pub row_mesh : q.mesh ≡ p.mesh
  row_mesh = same_side q.mesh p.mesh (sym b.mesh ∙ e.mesh ∙ a.mesh)

  pub row_cell : q.cell ≡ p.cell
  row_cell = sym b.cell ∙ e.cell ∙ a.cell

  pub row_nodes : q.nodes ≡ p.nodes
  row_nodes = sym b.nodes ∙ e.nodes ∙ a.nodes

-- what stands at k of a listing
pub stands_at : (o : Settings) (s c : Mesh) (k : ℕ) → k < length (listing o s c) → (p : Piece) × ListedAt p k o s c
stands_at o s c k h =
    let d : Piece = piece_at (scene_for o s c) the_subject 0 0 in
    (get_or (listing o s c) k d, record { below = h; is = λ x. get_or_any (listing o s c) k x d h })

-- ---- Imprint, Intersection and Difference

-- whether a piece lies inside the other mesh goes by its node numbers
inside_by_nodes : (sc : Scene) (p q : Piece) → q.mesh ≡ p.mesh → q.nodes ≡ p.nodes → lies_inside sc q.mesh q ≡ lies_inside sc p.mesh p
unfolding lies_inside
inside_by_nodes sc p q m n = ap₂ (λ (w : Side) (ns : List ℕ). point_inside sc.coords (net_of sc (other w)).cells ns) m n

-- no piece of Intersection has the mesh and the node numbers of one of Difference
pub apart : (g : Grid) (m₂ m₃ : ℕ) (s c : Mesh) (p q : Piece) → Listed p (set_on g 2 m₂) s c → Listed q (set_on g 3 m₃) s c → q.mesh ≡ p.mesh → q.nodes ≡ p.nodes → ⊥
apart g m₂ m₃ s c p q a b m n =
    let one = scene_of g false s c in
    not_both (lies_inside one p.mesh p) (listed_kept (set_on g 2 m₂) s c p a).passes
    (ap not (sym (inside_by_nodes one p q m n)) ∙ (listed_kept (set_on g 3 m₃) s c q b).passes)

-- both list pieces of Imprint
imprint_cuts : (w : Side) → cuts 2 w ≡ true → cuts 0 w ≡ true
imprint_cuts the_subject e = refl
imprint_cuts the_cutter e = e

module _ (g : Grid) (m₀ m : ℕ) (s c : Mesh) (p : Piece) where
  as_imprint : cuts 2 p.mesh ≡ true → (op : ℕ) → Kept (scene_of g false s c) op p → Listed p (set_on g 0 m₀) s c
  as_imprint e op k =
      kept_listed (set_on g 0 m₀) s c p (record { cut = imprint_cuts p.mesh e; cell = k.cell; place = k.place; same = k.same; passes = refl })

  pub of_intersection : Listed p (set_on g 2 m) s c → Listed p (set_on g 0 m₀) s c
  of_intersection h = let k = listed_kept (set_on g 2 m) s c p h in as_imprint k.cut 2 k

  pub of_difference : Listed p (set_on g 3 m) s c → Listed p (set_on g 0 m₀) s c
  of_difference h = let k = listed_kept (set_on g 3 m) s c p h in as_imprint (go p.mesh k.cut) 3 k
    where
      go : (w : Side) → cuts 3 w ≡ true → cuts 2 w ≡ true
      go the_subject e = refl
      go the_cutter e = e

-- ---- a row is one piece's

module _ (sc : Scene) (op : ℕ) where
  -- its node numbers are those of the cell's piece at its place
  pub at_place : (p : Piece) → Kept sc op p → p.nodes ≡ get_or (pieces_of sc p.mesh p.cell) p.place []
  unfolding piece_with
  at_place p k = ap (λ (x : Piece). x.nodes) k.same

  -- pieces of one parent with the same node numbers are the same
  pub same_piece : (p q : Piece) → Kept sc op p → Kept sc op q → CellCloses sc p.mesh p.cell → q.mesh ≡ p.mesh → q.cell ≡ p.cell → q.nodes ≡ p.nodes
      → SamePiece q p
  same_piece p q a b up m c n =
      record {
        mesh = m;
        cell = c;
        place =
            one_place_in sc p.mesh p.cell up q.place p.place
            (subst (λ (k : ℕ). q.place < k) (λ t. length (pieces_of sc (m t) (c t))) b.place) a.place
            (sym (λ t. get_or (pieces_of sc (m t) (c t)) q.place []) ∙ sym (at_place q b) ∙ n ∙ at_place p a);
      }
