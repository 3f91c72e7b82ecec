-- Edges held at the front of a list, on their chains: one more, those of a cell, those of all cells. Assumes nothing.
use mathlib.Core.Path.{◌≡◌, refl, sym, ap, ap₂, ◌∙◌}
use mathlib.Core.Bool.{Bool, true, false, ◌&&◌}
use mathlib.Core.List.{List, [], ◌∷◌, ◌++◌, append_assoc}
use Prim.Native.Nat.{ℕ, ◌+◌, ◌*◌, ◌-◌, ◌≤◌, ◌<◌}
use native.Mathlib.Omega.{arith}
use lib.Dec.{eqb}
use lib.ListN.{length, get_or, set, take, drop, length-append, get_or-replicate}
use lib.Seq.{length-take-le, get_or-set_other}
use Rattle.std.proofs.lemmas.List.{drop_all, take-set-le, length-set}
use Rattle.lists.specs.Search.{has}
use Rattle.lists.specs.Regions.{front, zeros}
use Rattle.lists.specs.Runs.{runs}
use Rattle.lists.proofs.Regions.{front_take, front_store, front_front, take_front_of}
use Rattle.corners.specs.Corners.{next_corner}
use Rattle.cutting.specs.Edges.{Edge, edge_at, key, same_key, ring}
use Rattle.cutting.specs.Lent.{pairs, flat_edges}
use Rattle.cutting.proofs.Pairs.{pairs_length, ends_length, pairs_ends}
use Rattle.entry.specs.Mesh.{mesh, Rising}
use Rattle.rules.specs.Mesh.{cells_of}
use Rattle.rules.specs.Neighbours.{added, added_all, compute_descending}
use Rattle.rules.proofs.Rings.{side, ring_from, length_ring}
use Rattle.keys.specs.Chains.{chain_of, edge_chain}
use Rattle.keys.specs.declared.SortedKey.{SortedKey}
use Rattle.neighbours.specs.declared.EdgeLists.{EdgeLists}
use Rattle.neighbours.specs.Chains.{Chained}
use Rattle.neighbours.specs.Held.{edges_in, Room, SameLists, Holds, cells_added}
use Rattle.neighbours.proofs.Edges.{length_added, length_added_all, ends_snoc, ends_pairs, corner_count, corner_count_more, fewer_corners, all_added}
use Rattle.neighbours.proofs.Chains.{chained_none, chained_more}

-- ---- the edges that a list holds

pub same_none : (l : EdgeLists) → SameLists l l
same_none l = record { edges = record { name = refl; long = refl }; heads = record { name = refl; long = refl }; nexts = record { name = refl; long = refl } }

same_both : {l m n : EdgeLists} → SameLists n m → SameLists m l → SameLists n l
same_both s t =
    record {
      edges = record { name = s.edges.name ∙ t.edges.name; long = s.edges.long ∙ t.edges.long };
      heads = record { name = s.heads.name ∙ t.heads.name; long = s.heads.long ∙ t.heads.long };
      nexts = record { name = s.nexts.name ∙ t.nexts.name; long = s.nexts.long ∙ t.nexts.long };
    }

-- with room for some there is room for fewer
pub room_less : (k n : ℕ) (l : EdgeLists) → n ≤ k → Room k l → Room n l
room_less k n l h r = record { edges = omega (arith, r.edges); nexts = omega (arith, r.nexts); few = omega (arith, r.few) }

module _ (l : EdgeLists) where
  abbrev xs : List ℕ
  xs = take (2 * l.count) l.edges.now

  held : length xs ≡ 2 * l.count
  held = length-take-le (2 * l.count) l.edges.now l.fits

  pub count : length (edges_in l) ≡ l.count
  count = omega (arith, pairs_length xs, held)

  -- l holds its own edges
  pub as_it_stands : Holds (edges_in l) l l
  as_it_stands =
      record {
        count = sym count;
        edges = sym (ap (front l.edges.now) (ends_pairs xs l.count held) ∙ front_take l.edges.now (2 * l.count) l.fits);
        same = same_none l;
      }

-- ---- one more edge

-- a key is the key of itself
pub own_key : (sk : SortedKey) → (sk.first, sk.second) ≡ key (sk.first, sk.second)
own_key sk = ap₂ (λ (x y : ℕ). (x, y)) (omega (arith, sk.sorted)) (omega (arith, sk.sorted))

pub linked_yet : (l : EdgeLists) (v : ℕ) → l.count ≤ length (set l.nexts.now l.count v)
linked_yet l v = omega (arith, length-set l.nexts.now l.count v, l.linked)

-- edges are searched for the key of the edge a, b
module _ (l : EdgeLists) (a b : ℕ) (sk : SortedKey) (is : (sk.first, sk.second) ≡ key (a, b)) (r : Bool)
    (found : r ≡ has (λ i. same_key (edge_at (edges_in l) i) (sk.first, sk.second)) (length (edges_in l))) where
  abbrev es : List Edge
  es = edges_in l

  abbrev k : ℕ
  k = l.count

  sought : has (λ i. same_key (edge_at es i) (a, b)) (length es) ≡ r
  sought =
      let with : Edge → Bool = λ f. has (λ i. eqb (key (edge_at es i)).0 f.0 && eqb (key (edge_at es i)).1 f.1) (length es) in
      sym (found ∙ ap with (sym (own_key sk) ∙ is))

  pub hit : r ≡ true → Holds (added (edges_in l) (a, b)) l l
  unfolding added
  hit t = rw (sought ∙ t) (as_it_stands l)

  -- it is written behind the others
  module _ (room : Room 1 l) (miss : r ≡ false) (edges : List ℕ) (e : edges ≡ set (set l.edges.now (2 * l.count) a) (2 * l.count + 1) b) where
    abbrev ys : List ℕ
    ys = take (2 * l.count) l.edges.now

    whole : edges ≡ front l.edges.now (flat_edges (es ++ (a, b) ∷ []))
    whole =
        let ly : length ys ≡ 2 * k = held l in
        let flat : flat_edges (es ++ (a, b) ∷ []) ≡ ys ++ (a ∷ b ∷ []) = ends_snoc es (a, b) ∙ ap (λ (xs : List ℕ). xs ++ (a ∷ b ∷ [])) (ends_pairs ys k ly) in
        let l₁ : length (ys ++ (a ∷ [])) ≡ 2 * k + 1 = simp (length-append, ly) in
        let one : set l.edges.now (2 * k) a ≡ front l.edges.now (ys ++ (a ∷ [])) =
        front_store l.edges.now l.edges.now ys (2 * k) a 0 ly (omega (arith, room.edges)) (sym (front_take l.edges.now (2 * k) l.fits)) in
        let two : set (set l.edges.now (2 * k) a) (2 * k + 1) b ≡ front l.edges.now ((ys ++ (a ∷ [])) ++ (b ∷ [])) =
        front_store l.edges.now (set l.edges.now (2 * k) a) (ys ++ (a ∷ [])) (2 * k + 1) b 0 l₁ (omega (arith, room.edges)) one in
        e ∙ two ∙ ap (front l.edges.now) (append_assoc ys (a ∷ []) (b ∷ []) ∙ sym flat)

    longer : length (es ++ (a, b) ∷ []) ≡ k + 1
    longer = length-append es ((a, b) ∷ []) ∙ ap (λ (n : ℕ). n + 1) (count l)

    -- the edges then, and their chains
    now_held : pairs (take (2 * (l.count + 1)) edges) ≡ es ++ (a, b) ∷ []
    now_held =
        ap (λ (xs : List ℕ). pairs (take (2 * (k + 1)) xs)) whole
        ∙ ap pairs (take_front_of l.edges.now (flat_edges (es ++ (a, b) ∷ [])) (2 * (k + 1)) (omega (arith, ends_length (es ++ (a, b) ∷ []), longer))) ∙ pairs_ends (es ++ (a, b) ∷ [])

    pub chained_now : (d : ℕ) → d ≡ chain_of (length l.heads.now) sk.first
        → Chained (pairs (take (2 * (l.count + 1)) edges)) (set l.heads.now d (l.count + 1)) (set l.nexts.now l.count (get_or l.heads.now d 0))
    chained_now d at =
        let n : length es ≡ k = count l in
        let more : Chained (es ++ (a, b) ∷ []) (set l.heads.now (edge_chain (length l.heads.now) (a, b)) (length es + 1))
        (set l.nexts.now (length es) (get_or l.heads.now (edge_chain (length l.heads.now) (a, b)) 0)) =
        chained_more es l.heads.now l.nexts.now (a, b) l.some (omega (arith, room.nexts, n)) l.chained in
        rw (now_held, at ∙ ap (λ (x : Edge). chain_of (length l.heads.now) x.0) is) (rw n at more)

    -- before they are counted, those there are stay on theirs
    pub chained_yet : (v : ℕ) → Chained (pairs (take (2 * l.count) edges)) l.heads.now (set l.nexts.now l.count v)
    chained_yet v =
        let same : take (2 * k) edges ≡ take (2 * k) l.edges.now =
        ap (take (2 * k)) e ∙ take-set-le (2 * k) (set l.edges.now (2 * k) a) (2 * k + 1) b (omega arith) ∙ take-set-le (2 * k) l.edges.now (2 * k) a (omega arith) in
        let n : length es ≡ k = count l in
        rw same
        record { head = l.chained.head; next = λ i h. get_or-set_other l.nexts.now k i v 0 (λ z. omega (arith, z, h, n)) ∙ l.chained.next i h }

    pub missed : (m : EdgeLists) → SameLists m l → m.count ≡ l.count + 1 → m.edges.now ≡ edges → Holds (added (edges_in l) (a, b)) l m
    unfolding added
    missed m same more at = rw (sought ∙ miss) (record { count = more ∙ sym longer; edges = at ∙ whole; same = same })

-- ---- more edges, one call after the other

-- l has come to hold its edges, with room for n more
pub record Adding (n : ℕ) (l₀ l : EdgeLists) : Type 0 where
  pub room : Room n l
  pub holds : Holds (edges_in l) l₀ l

pub adding_none : (n : ℕ) (l : EdgeLists) → Room n l → Adding n l l
adding_none n l r = record { room = r; holds = as_it_stands l }

-- a call adds at most m edges: those behind it have their room
pub adding_more : (k m n : ℕ) (l₀ l l' : EdgeLists) (es : List Edge) → m + n ≤ k → Adding k l₀ l → (length (edges_in l) ≤ length es) × (length es ≤ length (edges_in l) + m)
    → Holds es l l' → (edges_in l' ≡ es) × Adding n l₀ l'
adding_more k m n l₀ l l' es h g grown t =
    let r : Room k l = g.room in
    let n₀ : length (edges_in l) ≡ l.count = count l in
    let lf : length (flat_edges es) ≡ 2 * length es = ends_length es in
    let most : length es ≤ l.count + m = omega (arith, grown, n₀) in
    let held : edges_in l' ≡ es = rw (t.edges, t.count) (ap pairs (take_front_of l.edges.now (flat_edges es) (2 * length es) lf) ∙ pairs_ends es) in
    let s : SameLists l' l = t.same in (
      held,
      record {
        room =
            record {
              edges = omega (arith, t.count, most, r.edges, s.edges.long);
              nexts = omega (arith, t.count, most, r.nexts, s.nexts.long);
              few = omega (arith, t.count, most, r.few);
            };
        holds =
            rw held
            record {
              count = t.count;
              edges = t.edges ∙ ap (λ (xs : List ℕ). front xs (flat_edges es)) g.holds.edges
                  ∙ front_front l₀.edges.now (flat_edges (edges_in l)) (flat_edges es) (omega (arith, grown, lf, ends_length (edges_in l)));
              same = same_both s g.holds.same;
            };
      },
    )

-- ---- the edges of a cell

-- those from corner i on are still to be added
pub record InCell (cell : List ℕ) (l₀ l : EdgeLists) (i : ℕ) : Type 0 where
  pub adding : Adding (length cell - i) l₀ l
  pub rest : added_all (edges_in l) (drop i (ring cell)) ≡ added_all (edges_in l₀) (ring cell)

module _ (cell : List ℕ) (l₀ : EdgeLists) where
  pub cell_start : Room (length cell) l₀ → InCell cell l₀ l₀ 0
  cell_start r = record { adding = adding_none (length cell - 0) l₀ (room_less (length cell) (length cell - 0) l₀ (omega arith) r); rest = refl }

  module _ (l : EdgeLists) (i : ℕ) (inv : InCell cell l₀ l i) where
    pub cell_turn : i < length cell → (b : ℕ) → b ≡ next_corner cell i → (l' : EdgeLists) → Holds (added (edges_in l) (get_or cell i 0, b)) l l'
        → InCell cell l₀ l' (i + 1)
    unfolding added_all
    cell_turn h b next l' t =
        let is : Holds (added (edges_in l) (side cell i)) l l' = rw next at t in
        let m = adding_more (length cell - i) 1 (length cell - (i + 1)) l₀ l l' (added (edges_in l) (side cell i)) (omega (arith, h)) inv.adding
        (length_added (edges_in l) (side cell i)) is in
        record {
          adding = m.1;
          rest = ap (λ (es : List Edge). added_all es (drop (i + 1) (ring cell))) m.0 ∙ sym (ap (added_all (edges_in l)) (ring_from cell i h)) ∙ inv.rest;
        }

    pub cell_end_lem : length cell ≤ i → Holds (added_all (edges_in l₀) (ring cell)) l₀ l
    unfolding added_all
    cell_end_lem h = rw (sym inv.rest, drop_all i (ring cell) (omega (arith, h, length_ring cell))) inv.adding.holds

-- ---- the edges of all cells

-- those of the cells `left` are still to be added
pub record InCells (all left : List (List ℕ)) (l₀ l : EdgeLists) : Type 0 where
  pub adding : Adding (corner_count left) l₀ l
  pub rest : cells_added (edges_in l) left ≡ cells_added (edges_in l₀) all

pub cells_start : (nodes ends : List ℕ) (l : EdgeLists) → Room (length nodes) l → Rising ends (length nodes) → (left : List (List ℕ)) → left ≡ runs nodes ends
    → InCells (runs nodes ends) left l l
cells_start nodes ends l r up left is =
    rw is
    record {
      adding = adding_none (corner_count (runs nodes ends)) l (room_less (length nodes) (corner_count (runs nodes ends)) l (fewer_corners nodes ends up) r);
      rest = refl;
    }

module _ (all : List (List ℕ)) (l₀ l : EdgeLists) (cell : List ℕ) (left : List (List ℕ)) where
  pub next_room : (now : List (List ℕ)) → now ≡ cell ∷ left → InCells all now l₀ l → Room (length cell) l
  next_room now is inv =
      let k : corner_count now ≡ length cell + corner_count left = ap corner_count is ∙ corner_count_more cell left in
      room_less (corner_count now) (length cell) l (omega (arith, k)) inv.adding.room

  pub cells_turn : (now : List (List ℕ)) → now ≡ cell ∷ left → InCells all now l₀ l → (l' : EdgeLists) → Holds (added_all (edges_in l) (ring cell)) l l' → InCells all left l₀ l'
  unfolding cells_added
  cells_turn now is inv l' t =
      let k : corner_count now ≡ length cell + corner_count left = ap corner_count is ∙ corner_count_more cell left in
      let g = length_added_all (ring cell) (edges_in l) in
      let m = adding_more (corner_count now) (length cell) (corner_count left) l₀ l l' (added_all (edges_in l) (ring cell)) (omega (arith, k)) inv.adding
      (omega (arith, g.0), omega (arith, g.1, length_ring cell)) t in
      record { adding = m.1; rest = ap (λ (es : List Edge). cells_added es left) m.0 ∙ sym (ap (cells_added (edges_in l)) is) ∙ inv.rest }

-- none is: to no edges those of the mesh are added
pub cells_end : (nodes ends : List ℕ) (now : List (List ℕ)) (l₀ l : EdgeLists) → now ≡ [] → l₀.count ≡ 0 → InCells (runs nodes ends) now l₀ l
    → Holds (compute_descending (cells_of (mesh [] [] nodes ends [] []))) l₀ l
unfolding cells_added pairs
cells_end nodes ends now l₀ l done none inv =
    let are : cells_added (edges_in l₀) (runs nodes ends) ≡ compute_descending (cells_of (mesh [] [] nodes ends [] [])) = rw none (all_added nodes ends) in
    let held : Holds (cells_added (edges_in l₀) (runs nodes ends)) l₀ l = rw (sym inv.rest, done) inv.adding.holds in
    rw are at held

-- ---- from none

-- cleared lists hold no edge
pub chained_clear : (edges heads nexts : List ℕ) → heads ≡ zeros (length heads) → Chained (pairs (take (2 * 0) edges)) heads nexts
unfolding pairs
chained_clear edges heads nexts clear =
    chained_none heads nexts (λ c b. ap (λ (u : List ℕ). get_or u c 0) clear ∙ get_or-replicate (length heads) c 0 0 (omega arith))
