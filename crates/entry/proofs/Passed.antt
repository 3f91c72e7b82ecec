-- An overlay that the entry lets pass has what `specs/Passed.antt` says. Assumes nothing.
use mathlib.Core.Path.{◌≡◌, refl, sym, ap, ◌∙◌, subst}
use mathlib.Core.Logic.{◌⊎◌, inl, inr}
use mathlib.Core.Bool.{Bool, true, false, ◌&&◌, ◌||◌, not, cond, true≢false, and-false}
use Prim.Native.Nat.{ℕ, suc, ◌+◌, ◌*◌, ◌%◌, ◌^◌, ◌≤◌, ◌<◌}
use native.Mathlib.Nat.{suc-ne-zero}
use native.Mathlib.Omega.{arith}
use lib.Dec.{T, eqb, leb, ltb}
use lib.Ieee.{Float, nan, inf, fin, up, down}
use lib.Ieee.Scale.{finite}
use lib.ListN.{length, get_or, take}
use borrow.Author.Tests.{eqb-true, leb-true, ltb-true, eq-eqb, le-leb, lt-leb}
use mathlib.Core.List.{List}
use Rattle.std.specs.List.{list_all}
use Rattle.std.proofs.lemmas.List.{length-take-le, get_or-take}
use Rattle.std.proofs.lemmas.List.Folds.{list_all_at, list_any_at}
use Rattle.lists.specs.Regions.{run}
use Rattle.lists.proofs.Regions.{length_run, get_or_run}
use Rattle.lists.proofs.Search.{and_true, every_at}
use Rattle.std.specs.Prelude.{Option, None, Some}
use Rattle.settings.specs.declared.Settings.{Settings}
use Rattle.entry.specs.Mesh.{Mesh, node_count, prior, cell_size}
use Rattle.entry.specs.Refused.{call_ok, grid_ok, ends_ok, shape_ok, coord_ok, coords_ok, kind_ok, kinds_ok, nodes_ok, absent, cell_ok, cells_ok, work_ok, entry_of}
use Rattle.entry.specs.ByMesh.{mesh_refusal}
use Rattle.entry.specs.Passed.{Placed, Sound, Passed}
use Rattle.entry.proofs.Ends.{end_at, end_last}

-- a test that does not refuse has passed, and so has what is asked after it
asked : (t : Bool) (k x : ℕ) → cond (not t) (suc k) x ≡ 0 → (t ≡ true) × (x ≡ 0)
asked true k x h = (refl, h)
asked false k x h = absurd (suc-ne-zero k h)

-- each item of a list passes a test that all pass
passes_at : {A : Type 0} (p : A → Bool) (xs : List A) (i : ℕ) (d : A) → list_all p xs ≡ true → i < length xs → p (get_or xs i d) ≡ true
passes_at p xs i d h l = go (p (get_or xs i d)) refl
  where
    go : (t : Bool) → p (get_or xs i d) ≡ t → t ≡ true
    go true e = refl
    go false e = absurd (true≢false (sym h ∙ list_all_at p xs i d l e))

-- ---- 2

pub shape_parts : (m : Mesh) → shape_ok m ≡ true
    → (length m.coords % 2 ≡ 0) × (ends_ok m.ends (length m.nodes) ≡ true) × (length m.kinds ≡ length m.ends) × (length m.families ≡ length m.ends)
    × (length m.layers ≡ node_count m) × (node_count m ≤ 16384) × (length m.ends ≤ 16384) × (length m.nodes ≤ 65536)
unfolding shape_ok
shape_parts m h =
    let p = parts (eqb (length m.coords % 2) 0) (ends_ok m.ends (length m.nodes)) (eqb (length m.kinds) (length m.ends))
    (eqb (length m.families) (length m.ends)) (eqb (length m.layers) (node_count m))
    (leb (node_count m) 16384) (leb (length m.ends) 16384) (leb (length m.nodes) 65536) h in (
      eqb-true (length m.coords % 2) 0 p.0,
      p.1,
      eqb-true (length m.kinds) (length m.ends) p.2,
      eqb-true (length m.families) (length m.ends) p.3,
      eqb-true (length m.layers) (node_count m) p.4,
      leb-true (node_count m) 16384 p.5,
      leb-true (length m.ends) 16384 p.6,
      leb-true (length m.nodes) 65536 p.7,
    )
  where
    parts : (a b c d e f g h : Bool) → a && b && c && d && e && f && g && h ≡ true
        → (a ≡ true) × (b ≡ true) × (c ≡ true) × (d ≡ true) × (e ≡ true) × (f ≡ true) × (g ≡ true) × (h ≡ true)
    parts a b c d e f g h all =
        let o = and_true (a && b && c && d && e && f && g) h all in
        let p = and_true (a && b && c && d && e && f) g o.0 in
        let q = and_true (a && b && c && d && e) f p.0 in
        let r = and_true (a && b && c && d) e q.0 in
        let s = and_true (a && b && c) d r.0 in
        let t = and_true (a && b) c s.0 in
        let u = and_true a b t.0 in
        (u.0, u.1, t.1, s.1, r.1, q.1, p.1, o.1)

-- ---- 3

pub placed_finite : (x : Float) → Placed x → T (finite x)
placed_finite x p = subst (λ (y : Float). T (finite y)) (sym p.finite) tt

pub placed_of : (x : Float) → coord_ok x ≡ true → Placed x
unfolding coord_ok
placed_of nan h = absurd (true≢false (sym h))
placed_of (inf s) h = absurd (true≢false (sym h))
placed_of (fin s m e) h =
    let p = and_true (leb (m * up e) (2 ^ 40 * down e)) (not (s && eqb m 0)) h in
    record { sign = s; size = m; power = e; finite = refl; bounded = leb-true (m * up e) (2 ^ 40 * down e) p.0; unsigned = λ z. plus s (eq-eqb m 0 z) p.1 }
  where
    plus : (t : Bool) → eqb m 0 ≡ true → not (t && eqb m 0) ≡ true → t ≡ false
    plus false z q = refl
    plus true z q = absurd (true≢false (sym q ∙ ap not z))

-- ---- 4

abbrev Cell : ℕ → ℕ → Type 0
Cell k n = ((k ≡ 5) × (n ≡ 3)) ⊎ (((k ≡ 8) × (n ≡ 4)) ⊎ ((k ≡ 11) × (3 ≤ n) × (n ≤ 256)))

or_true : (a b : Bool) → a || b ≡ true → (a ≡ true) ⊎ (b ≡ true)
or_true true b h = inl refl
or_true false b h = inr h

cell_kind_lem : (k n : ℕ) → kind_ok false k n ≡ true → Cell k n
unfolding kind_ok
cell_kind_lem k n h = first (or_true ((eqb k 5 && eqb n 3) || (eqb k 8 && eqb n 4)) (eqb k 11 && leb 3 n && leb n 256) h)
  where
    second : ((eqb k 5 && eqb n 3) ≡ true) ⊎ ((eqb k 8 && eqb n 4) ≡ true) → Cell k n
    second (inl e) = let p = and_true (eqb k 5) (eqb n 3) e in inl (eqb-true k 5 p.0, eqb-true n 3 p.1)
    second (inr e) = let p = and_true (eqb k 8) (eqb n 4) e in inr (inl (eqb-true k 8 p.0, eqb-true n 4 p.1))

    first : (((eqb k 5 && eqb n 3) || (eqb k 8 && eqb n 4)) ≡ true) ⊎ ((eqb k 11 && leb 3 n && leb n 256) ≡ true) → Cell k n
    first (inl e) = second (or_true (eqb k 5 && eqb n 3) (eqb k 8 && eqb n 4) e)
    first (inr e) =
        let p = and_true (eqb k 11 && leb 3 n) (leb n 256) e in
        let q = and_true (eqb k 11) (leb 3 n) p.0 in
        inr (inr (eqb-true k 11 q.0, leb-true 3 n q.1, leb-true n 256 p.1))

line_kind_lem : (k n : ℕ) → kind_ok true k n ≡ true → (k ≡ 1) × (n ≡ 2)
unfolding kind_ok
line_kind_lem k n h = let p = and_true (eqb k 1) (eqb n 2) h in (eqb-true k 1 p.0, eqb-true n 2 p.1)

least : (k n : ℕ) → Cell k n → 3 ≤ n
least k n (inl e) = omega (arith, e.1)
least k n (inr (inl e)) = omega (arith, e.1)
least k n (inr (inr e)) = e.1

most : (lines : Bool) (k n : ℕ) → kind_ok lines k n ≡ true → n ≤ 256
most true k n h = omega (arith, (line_kind_lem k n h).1)
most false k n h = go (cell_kind_lem k n h)
  where
    go : Cell k n → n ≤ 256
    go (inl e) = omega (arith, e.1)
    go (inr (inl e)) = omega (arith, e.1)
    go (inr (inr e)) = e.2

-- ---- a mesh

module _ (lines : Bool) (m : Mesh) (shape : shape_ok m ≡ true) (coords : coords_ok m.coords ≡ true) (kinds : kinds_ok lines m.kinds m.ends ≡ true)
    (nodes : nodes_ok m.nodes (node_count m) ≡ true) (cells : cells_ok m.nodes m.ends ≡ true) where
  kind_at : (i : ℕ) → i < length m.ends → (prior m.kinds i ≤ get_or m.kinds i 0) × (kind_ok lines (get_or m.kinds i 0) (cell_size m.ends i) ≡ true)
  unfolding kinds_ok
  kind_at i h =
      let a = every_at (λ j. leb (prior m.kinds j) (get_or m.kinds j 0) && kind_ok lines (get_or m.kinds j 0) (cell_size m.ends j)) i (length m.ends) kinds h in
      let p = and_true (leb (prior m.kinds i) (get_or m.kinds i 0)) (kind_ok lines (get_or m.kinds i 0) (cell_size m.ends i)) a in
      (leb-true (prior m.kinds i) (get_or m.kinds i 0) p.0, p.1)

  coord_at : (i : ℕ) → i < length m.coords → coord_ok (get_or m.coords i nan) ≡ true
  unfolding coords_ok
  coord_at i h = passes_at coord_ok m.coords i nan coords h

  number_at : (i : ℕ) → i < length m.nodes → get_or m.nodes i 0 < node_count m
  unfolding nodes_ok
  number_at i h = ltb-true (get_or m.nodes i 0) (node_count m) (passes_at (λ x. ltb x (node_count m)) m.nodes i 0 nodes h)

  once_at : (i j k : ℕ) → i < length m.ends → j < k → k < cell_size m.ends i → get_or m.nodes (prior m.ends i + j) 0 ≡ get_or m.nodes (prior m.ends i + k) 0 → ⊥
  unfolding cells_ok cell_ok absent
  once_at i j k h l b e =
      let start : ℕ = prior m.ends i in
      let n : ℕ = cell_size m.ends i in
      let cell : List ℕ = run m.nodes start n in
      let long : length cell ≡ n = length_run m.nodes start n (omega (arith, end_at m.ends (length m.nodes) (shape_parts m shape).1 i h)) in
      let good = every_at (λ q. cell_ok (run m.nodes (prior m.ends q) (cell_size m.ends q))) i (length m.ends) cells h in
      let none = every_at (λ q. absent (take q cell) (get_or cell q 0)) k (length cell) good (omega arith) in
      let same : get_or cell j 0 ≡ get_or cell k 0 = get_or_run m.nodes start n j 0 (omega arith) ∙ e ∙ sym (get_or_run m.nodes start n k 0 b) in
      let met = list_any_at (λ y. eqb y (get_or cell k 0)) (take k cell) j 0 (rw (length-take-le k cell (omega arith)) l)
      (eq-eqb _ _ (get_or-take k cell j 0 l ∙ same)) in
      true≢false (sym none ∙ ap not met)

  pub sound : Sound lines m
  sound =
      let p = shape_parts m shape in
      record {
        even = omega (arith, p.0);
        rises = λ i h. (end_at m.ends (length m.nodes) p.1 i h).0;
        within = λ i h. (end_at m.ends (length m.nodes) p.1 i h).1;
        last = end_last m.ends (length m.nodes) p.1;
        kinds_long = p.2;
        families_long = p.3;
        layers_long = p.4;
        most_nodes = p.5;
        most_cells = p.6;
        most_entries = p.7;
        placed = λ i h. placed_of (get_or m.coords i nan) (coord_at i h);
        kinds_rise = λ i h. (kind_at i h).0;
        line_kind = λ i h e. line_kind_lem (get_or m.kinds i 0) (cell_size m.ends i)
            (ap (λ (t : Bool). kind_ok t (get_or m.kinds i 0) (cell_size m.ends i)) (sym e) ∙ (kind_at i h).1);
        cell_kind = λ i h e. cell_kind_lem (get_or m.kinds i 0) (cell_size m.ends i)
            (ap (λ (t : Bool). kind_ok t (get_or m.kinds i 0) (cell_size m.ends i)) (sym e) ∙ (kind_at i h).1);
        cell_least = λ i h e. least (get_or m.kinds i 0) (cell_size m.ends i)
            (cell_kind_lem (get_or m.kinds i 0) (cell_size m.ends i) (ap (λ (t : Bool). kind_ok t (get_or m.kinds i 0) (cell_size m.ends i)) (sym e) ∙ (kind_at i h).1));
        cell_most = λ i h. most lines (get_or m.kinds i 0) (cell_size m.ends i) (kind_at i h).1;
        number = number_at;
        once = once_at;
      }

pub mesh_sound : (lines : Bool) (m : Mesh) → mesh_refusal lines m ≡ 0 → Sound lines m
unfolding mesh_refusal
mesh_sound lines m h =
    let a = asked (shape_ok m) 1 _ h in
    let b = asked (coords_ok m.coords) 2 _ a.1 in
    let d = asked (kinds_ok lines m.kinds m.ends) 3 _ b.1 in
    let e = asked (nodes_ok m.nodes (node_count m)) 4 _ d.1 in
    let f = asked (cells_ok m.nodes m.ends) 5 0 e.1 in
    sound lines m a.0 b.0 d.0 e.0 f.0

-- ---- a cell of a mesh that passed

module _ (lines : Bool) (m : Mesh) (ok : Sound lines m) (i : ℕ) (h : i < length m.ends) where
  pub cell_end_lem : prior m.ends i + cell_size m.ends i ≡ get_or m.ends i 0
  cell_end_lem = omega (arith, ok.rises i h)

  pub cell_within : prior m.ends i + cell_size m.ends i ≤ length m.nodes
  cell_within = omega (arith, cell_end_lem, ok.within i h)

  pub cell_some : 0 < cell_size m.ends i
  cell_some = omega (arith, ok.rises i h)

  -- its corners are nodes of the mesh
  pub corner_below : (j : ℕ) → j < cell_size m.ends i → get_or m.nodes (prior m.ends i + j) 0 < node_count m
  corner_below j l = ok.number (prior m.ends i + j) (omega (arith, cell_within, l))

-- both numbers of a node stand in the list
pub node_within : (lines : Bool) (m : Mesh) → Sound lines m → (n : ℕ) → n < node_count m → 2 * n + 1 < length m.coords
node_within lines m ok n h = omega (arith, ok.even, h)

-- ---- the whole

pub call_parts : (op m : ℕ) → call_ok op m ≡ true → (op ≤ 5) × (1 ≤ m) × (m ≤ 65536)
unfolding call_ok
call_parts op m h =
    let p = and_true (leb op 5 && leb 1 m) (leb m 65536) h in
    let q = and_true (leb op 5) (leb 1 m) p.0 in
    (leb-true op 5 q.0, leb-true 1 m q.1, leb-true m 65536 p.1)

pub call_within : (op m : ℕ) → op ≤ 5 → 1 ≤ m → m ≤ 65536 → call_ok op m ≡ true
unfolding call_ok
call_within op m a b d = rw (le-leb op 5 a, le-leb 1 m b, le-leb m 65536 d)

pub call_unnamed : (op m : ℕ) → 5 < op → call_ok op m ≡ false
unfolding call_ok
call_unnamed op m h = rw (lt-leb op 5 h)

pub call_below : (op m : ℕ) → m < 1 → call_ok op m ≡ false
unfolding call_ok
call_below op m h = rw (lt-leb 1 m h, and-false)

pub call_beyond : (op m : ℕ) → 65536 < m → call_ok op m ≡ false
unfolding call_ok
call_beyond op m h = rw (lt-leb m 65536 h, and-false)

pub grid_beyond : (k : ℕ) → 10 < k → grid_ok (Some k) ≡ false
unfolding grid_ok
grid_beyond k h = lt-leb k 10 h

pub grid_within : (k : ℕ) → k ≤ 10 → grid_ok (Some k) ≡ true
unfolding grid_ok
grid_within k h = le-leb k 10 h

pub no_grid : grid_ok None ≡ true
unfolding grid_ok
no_grid = refl

grid_most : (g : Option ℕ) → grid_ok g ≡ true → (k : ℕ) → g ≡ Some k → k ≤ 10
unfolding grid_ok
grid_most g h k e = leb-true k 10 (ap grid_ok (sym e) ∙ h)

pub passed : (o : Settings) (s c : Mesh) (w : ℕ) → entry_of o s c w ≡ 0 → Passed o s c w
unfolding entry_of work_ok
passed o s c w h =
    let one = asked (call_ok o.op o.m) 0 _ h in
    let thirteen = asked (grid_ok o.grid) 12 _ one.1 in
    let two = asked (shape_ok s && shape_ok c) 1 _ thirteen.1 in
    let three = asked (coords_ok s.coords && coords_ok c.coords) 2 _ two.1 in
    let four = asked (kinds_ok false s.kinds s.ends && kinds_ok (eqb o.op 5) c.kinds c.ends) 3 _ three.1 in
    let five = asked (nodes_ok s.nodes (node_count s) && nodes_ok c.nodes (node_count c)) 4 _ four.1 in
    let six = asked (cells_ok s.nodes s.ends && cells_ok c.nodes c.ends) 5 _ five.1 in
    let seven = asked (work_ok o.m s c w) 6 0 six.1 in
    let call = call_parts o.op o.m one.0 in
    let shapes = and_true (shape_ok s) (shape_ok c) two.0 in
    let places = and_true (coords_ok s.coords) (coords_ok c.coords) three.0 in
    let kinds = and_true (kinds_ok false s.kinds s.ends) (kinds_ok (eqb o.op 5) c.kinds c.ends) four.0 in
    let numbers = and_true (nodes_ok s.nodes (node_count s)) (nodes_ok c.nodes (node_count c)) five.0 in
    let cells = and_true (cells_ok s.nodes s.ends) (cells_ok c.nodes c.ends) six.0 in
    record {
      operation = call.0;
      least = call.1;
      most = call.2;
      grid = grid_most o.grid thirteen.0;
      subject = sound false s shapes.0 places.0 kinds.0 numbers.0 cells.0;
      cutter = sound (eqb o.op 5) c shapes.1 places.1 kinds.1 numbers.1 cells.1;
      room = leb-true _ w seven.0;
    }
