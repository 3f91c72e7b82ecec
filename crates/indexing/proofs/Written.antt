-- Indexes one behind the other, behind the regions that they are of. Assumes nothing.
use mathlib.Core.Path.{◌≡◌, refl, sym, ap, ap₂, ◌∙◌, subst}
use mathlib.Core.List.{List, [], ◌++◌, append-nil, append_assoc}
use Prim.Native.Nat.{ℕ, ◌+◌, ◌-◌, ◌≤◌}
use native.Mathlib.Nat.{add_assoc}
use native.Mathlib.Omega.{arith}
use lib.ListN.{length, take, drop, length-append}
use lib.Ieee.{Float}
use Rattle.lists.specs.Regions.{run, front, put}
use Rattle.lists.proofs.Regions.{length_put, run_before, run_put, put_append}
use Rattle.entry.specs.Mesh.{Rising}
use Rattle.regions.specs.declared.Run.{Run}
use Rattle.regions.specs.declared.MeshRuns.{MeshRuns}
use Rattle.regions.specs.declared.Regions.{Regions}
use Rattle.regions.specs.declared.MeshIndex.{MeshIndex}
use Rattle.regions.specs.Runs.{Within, run_in}
use Rattle.regions.proofs.Parts.{run_of_front, run_kept}
use Rattle.strips.specs.Things.{thing_count}
use Rattle.strips.specs.Index.{index_size, index_of, Indexed}
use Rattle.strips.proofs.IndexAt.{length_index}
use Rattle.indexing.specs.Indexes.{edge_index, cell_index, mesh_index, mesh_index_at, indexes, indexes_at, MeshIndexed, mesh_size, RunAsks, MeshAsks, Asks}

-- what `index_run` leaves
abbrev pub Built : List Float → List ℕ → Run → List ℕ → ℕ → Run → List ℕ → Type 0
Built coords w r ends at x w' =
    (x ≡ record { from = at; end = at + length (index_of coords (run_in w r) ends) }) × (w' ≡ put w at (index_of coords (run_in w r) ends))

module _ (coords : List Float) (w : List ℕ) (r : Run) (ends : List ℕ) (at : ℕ) (ok : RunAsks w r ends at) where
  -- the part before is lent
  pub run_lent : (nodes before : List ℕ) → before ≡ take at w → nodes ≡ run_in before r → nodes ≡ run_in w r
  run_lent nodes before b e = e ∙ run_of_front w before at r b (omega (arith, ok.room)) ok.lies

  pub run_written : (nodes before behind ix : List ℕ) → nodes ≡ run_in w r → (size : ℕ) → size ≡ index_size (thing_count nodes ends) → before ≡ take at w → behind ≡ drop at w
      → ix ≡ front behind (index_of coords nodes ends) → Built coords w r ends at (record { from = at; end = at + size }) (before ++ ix)
  unfolding put
  run_written nodes before behind ix same size n b e f = (
    ap (λ (k : ℕ). record { from = at; end = at + k }) (n ∙ sym (length_index coords nodes ends) ∙ ap (λ (l : List ℕ). length (index_of coords l ends)) same),
    ap₂ (λ (u v : List ℕ). u ++ v) b (f ∙ ap₂ (λ (u v : List ℕ). front u (index_of coords v ends)) e same),
  )

-- ---- `index_mesh`

module _ (coords : List Float) {w : List ℕ} {m : MeshRuns} {ends : List ℕ} {at : ℕ} (ok : MeshAsks w m ends at) where
  abbrev ix : List ℕ
  ix = edge_index coords w m ends

  edges_size : length ix ≡ index_size (thing_count (run_in w m.edges) [])
  edges_size = length_index coords (run_in w m.edges) []

  cells_size : length (cell_index coords w m ends) ≡ index_size (thing_count (run_in w m.entries) ends)
  cells_size = length_index coords (run_in w m.entries) ends

  at_low : at ≤ length w
  at_low = omega (arith, ok.room)

  pub edges_asked : RunAsks w m.edges [] at
  edges_asked = record { lies = ok.edges; rising = λ i h. absurd (omega (arith, h)); few = ok.few_edges; room = omega (arith, ok.room) }

  module _ {x : Run} {w₁ : List ℕ} (one : Built coords w m.edges [] at x w₁) where
    middle_is : x.end ≡ at + length ix
    middle_is = ap (λ (r : Run). r.end) one.0

    kept : run_in w₁ m.entries ≡ run_in w m.entries
    kept = ap (λ (v : List ℕ). run_in v m.entries) one.1 ∙ run_kept w ix at at_low m.entries ok.entries

    long : length w₁ ≡ length w
    long = ap length one.1 ∙ length_put w at at_low ix (omega (arith, ok.room, edges_size))

    pub cells_asked : RunAsks w₁ m.entries ends x.end
    cells_asked =
        record {
          lies = record { rises = ok.entries.rises; fits = omega (arith, ok.entries.fits, middle_is) };
          rising = subst (λ (l : List ℕ). Rising ends (length l)) (sym kept) ok.rising;
          few = subst (λ (l : List ℕ). thing_count l ends ≤ 65536) (sym kept) ok.few_cells;
          room = subst (λ (l : List ℕ). x.end + index_size (thing_count l ends) ≤ length w₁) (sym kept) (omega (arith, middle_is, edges_size, ok.room, long));
        }

    pub mesh_end_lem : (y : Run) (w₂ : List ℕ) → Built coords w₁ m.entries ends x.end y w₂
        → (record { edges = x; cells = y } ≡ mesh_index_at coords w m ends at) × (w₂ ≡ put w at (mesh_index coords w m ends))
    mesh_end_lem y w₂ two =
        let here : y ≡ record { from = at + length ix; end = at + length ix + length (cell_index coords w m ends) } =
        two.0 ∙ ap₂ (λ (a : ℕ) (l : List ℕ). record { from = a; end = a + length (index_of coords l ends) }) middle_is kept in (
          (λ i. record { edges = one.0 i; cells = here i }),
          two.1 ∙ (λ i. put (one.1 i) (middle_is i) (index_of coords (kept i) ends)) ∙ put_append w at at_low ix (cell_index coords w m ends) (omega (arith, ok.room, edges_size)),
        )

-- ---- `index_meshes`

module _ (coords : List Float) (w : List ℕ) (g : Regions) (se ce : List ℕ) (ok : Asks w g se ce) where
  abbrev at₀ : ℕ
  at₀ = g.links.end

  abbrev ixs : List ℕ
  ixs = mesh_index coords w g.subject se

  subject_long : length ixs ≡ mesh_size w g.subject se
  subject_long =
      length-append (edge_index coords w g.subject se) (cell_index coords w g.subject se)
      ∙ ap₂ (λ (a b : ℕ). a + b) (edges_size coords ok.subject) (cells_size coords ok.subject)

  low : at₀ ≤ length w
  low = omega (arith, ok.room)

  module _ {x : MeshIndex} {w₁ : List ℕ} (one : (x ≡ mesh_index_at coords w g.subject se at₀) × (w₁ ≡ put w at₀ (mesh_index coords w g.subject se))) where
    end₁ : x.cells.end ≡ at₀ + length ixs
    end₁ =
        ap (λ (y : MeshIndex). y.cells.end) one.0
        ∙ add_assoc at₀ (length (edge_index coords w g.subject se)) (length (cell_index coords w g.subject se))
        ∙ ap (λ (k : ℕ). at₀ + k) (sym (length-append (edge_index coords w g.subject se) (cell_index coords w g.subject se)))

    edges_kept : run_in w₁ g.cutter.edges ≡ run_in w g.cutter.edges
    edges_kept = ap (λ (v : List ℕ). run_in v g.cutter.edges) one.1 ∙ run_kept w ixs at₀ low g.cutter.edges ok.cutter.edges

    entries_kept : run_in w₁ g.cutter.entries ≡ run_in w g.cutter.entries
    entries_kept = ap (λ (v : List ℕ). run_in v g.cutter.entries) one.1 ∙ run_kept w ixs at₀ low g.cutter.entries ok.cutter.entries

    long₁ : length w₁ ≡ length w
    long₁ = ap length one.1 ∙ length_put w at₀ low ixs (omega (arith, ok.room, subject_long))

    pub cutter_asked : MeshAsks w₁ g.cutter ce x.cells.end
    cutter_asked =
        record {
          edges = record { rises = ok.cutter.edges.rises; fits = omega (arith, ok.cutter.edges.fits, end₁) };
          entries = record { rises = ok.cutter.entries.rises; fits = omega (arith, ok.cutter.entries.fits, end₁) };
          rising = subst (λ (l : List ℕ). Rising ce (length l)) (sym entries_kept) ok.cutter.rising;
          few_edges = subst (λ (l : List ℕ). thing_count l [] ≤ 65536) (sym edges_kept) ok.cutter.few_edges;
          few_cells = subst (λ (l : List ℕ). thing_count l ce ≤ 65536) (sym entries_kept) ok.cutter.few_cells;
          room = subst (λ (l : List ℕ). x.cells.end + (index_size (thing_count (run_in w₁ g.cutter.edges) []) + index_size (thing_count l ce)) ≤ length w₁) (sym entries_kept)
              (subst (λ (l : List ℕ). x.cells.end + (index_size (thing_count l []) + index_size (thing_count (run_in w g.cutter.entries) ce)) ≤ length w₁) (sym edges_kept)
              (omega (arith, end₁, subject_long, ok.room, long₁)));
        }

    pub meshes_end : (y : MeshIndex) (w₂ : List ℕ)
        → (y ≡ mesh_index_at coords w₁ g.cutter ce x.cells.end) × (w₂ ≡ put w₁ x.cells.end (mesh_index coords w₁ g.cutter ce))
        → (record { subject = x; cutter = y } ≡ indexes_at coords w g se ce) × (w₂ ≡ put w at₀ (indexes coords w g se ce))
    unfolding indexes_at
    meshes_end y w₂ two =
        let here : y ≡ mesh_index_at coords w g.cutter ce (mesh_index_at coords w g.subject se at₀).cells.end =
        two.0 ∙ (λ i. let e : List ℕ = index_of coords (edges_kept i) [] in
        let middle : ℕ = (one.0 i).cells.end + length e in
        record { edges = record { from = (one.0 i).cells.end; end = middle }; cells = record { from = middle; end = middle + length (index_of coords (entries_kept i) ce) } }) in (
          (λ i. record { subject = one.0 i; cutter = here i }),
          two.1 ∙ (λ i. put (one.1 i) (end₁ i) (index_of coords (edges_kept i) [] ++ index_of coords (entries_kept i) ce))
              ∙ put_append w at₀ low ixs (mesh_index coords w g.cutter ce) (omega (arith, ok.room, subject_long)),
        )

  -- ---- what stands then

  abbrev pub after : List ℕ
  after = put w g.links.end (indexes coords w g se ce)

  cutter_long : length (mesh_index coords w g.cutter ce) ≡ mesh_size w g.cutter ce
  cutter_long =
      length-append (edge_index coords w g.cutter ce) (cell_index coords w g.cutter ce)
      ∙ ap₂ (λ (a b : ℕ). a + b) (edges_size coords ok.cutter) (cells_size coords ok.cutter)

  pub length_after : length after ≡ length w
  length_after =
      length_put w at₀ low (indexes coords w g se ce)
      (omega (arith, ok.room, subject_long, cutter_long, length-append ixs (mesh_index coords w g.cutter ce)))

  -- what stands before the end of the links is as it was
  pub kept_after : (r : Run) → Within r g.links.end → run_in after r ≡ run_in w r
  kept_after r i = run_kept w (indexes coords w g se ce) at₀ low r i

  -- a part of what is written
  part_after : (before part behind : List ℕ) → indexes coords w g se ce ≡ before ++ (part ++ behind) → (a : ℕ) → a ≡ at₀ + length before
      → run_in after (record { from = a; end = a + length part }) ≡ part
  unfolding run_in
  part_after before part behind e a ea =
      let n : a + length part - a ≡ length part = omega arith in
      ap₂ (λ (v : List ℕ) (k : ℕ). run (put w at₀ v) a k) e n
      ∙ ap (λ (v : List ℕ). run v a (length part)) (sym (put_append w at₀ low before (part ++ behind) fit₁))
      ∙ ap (λ (k : ℕ). run (put (put w at₀ before) k (part ++ behind)) a (length part)) (sym ea)
      ∙ ap (λ (v : List ℕ). run v a (length part)) (sym (put_append (put w at₀ before) a low₁ part behind fit₂))
      ∙ run_before (put (put w at₀ before) a part) (a + length part) (omega (arith, fit₂, same₂)) behind a (length part) (omega arith)
      ∙ run_put (put w at₀ before) a low₁ part (length part) refl
    where
      all : at₀ + length (indexes coords w g se ce) ≤ length w
      all = omega (arith, ok.room, subject_long, cutter_long, length-append ixs (mesh_index coords w g.cutter ce))

      fit₁ : at₀ + length before ≤ length w
      fit₁ = omega (arith, all, ap length e, length-append before (part ++ behind))

      same : length (put w at₀ before) ≡ length w
      same = length_put w at₀ low before fit₁

      low₁ : a ≤ length (put w at₀ before)
      low₁ = omega (arith, ea, fit₁, same)

      fit₂ : a + length part ≤ length (put w at₀ before)
      fit₂ = omega (arith, ea, all, ap length e, length-append before (part ++ behind), length-append part behind, same)

      same₂ : length (put (put w at₀ before) a part) ≡ length (put w at₀ before)
      same₂ = length_put (put w at₀ before) a low₁ part fit₂

  abbrev e₁ : List ℕ
  e₁ = edge_index coords w g.subject se

  abbrev c₁ : List ℕ
  c₁ = cell_index coords w g.subject se

  abbrev e₂ : List ℕ
  e₂ = edge_index coords w g.cutter ce

  abbrev c₂ : List ℕ
  c₂ = cell_index coords w g.cutter ce

  -- the index of what stands before
  index_is : (r x : Run) (ends : List ℕ) → Within r g.links.end → Rising ends (length (run_in w r)) → thing_count (run_in w r) ends ≤ 65536
      → run_in after x ≡ index_of coords (run_in w r) ends → Indexed coords (run_in after r) ends (run_in after x)
  index_is r x ends i up few e =
      subst (λ (l : List ℕ). Indexed coords l ends (run_in after x)) (sym (kept_after r i)) (record { rising = up; few = few; is = e })

  within_after : (a n : ℕ) → a + n ≤ at₀ + length (indexes coords w g se ce) → Within (record { from = a; end = a + n }) (length after)
  within_after a n h =
      record {
        rises = omega arith;
        fits = omega (arith, h, length_after, ok.room, subject_long, cutter_long, length-append ixs (mesh_index coords w g.cutter ce));
      }

  pub subject_indexed : MeshIndexed coords after g.subject se (indexes_at coords w g se ce).subject
  unfolding indexes_at
  subject_indexed =
      let m = ok.subject in
      record {
        edges_within = within_after at₀ (length e₁) (omega (arith, length-append ixs (e₂ ++ c₂), length-append e₁ c₁));
        edges = index_is g.subject.edges _ [] m.edges (λ i h. absurd (omega (arith, h))) m.few_edges
            (part_after [] e₁ (c₁ ++ (e₂ ++ c₂)) (append_assoc e₁ c₁ (e₂ ++ c₂)) at₀ (omega arith));
        cells_within = within_after (at₀ + length e₁) (length c₁) (omega (arith, length-append ixs (e₂ ++ c₂), length-append e₁ c₁));
        cells = index_is g.subject.entries _ se m.entries m.rising m.few_cells
            (part_after e₁ c₁ (e₂ ++ c₂) (append_assoc e₁ c₁ (e₂ ++ c₂)) (at₀ + length e₁) refl);
      }

  pub cutter_indexed : MeshIndexed coords after g.cutter ce (indexes_at coords w g se ce).cutter
  unfolding indexes_at
  cutter_indexed =
      let m = ok.cutter in
      let a : ℕ = at₀ + length e₁ + length c₁ in
      let long = length-append e₁ c₁ in
      record {
        edges_within = within_after a (length e₂) (omega (arith, length-append ixs (e₂ ++ c₂), long, length-append e₂ c₂));
        edges = index_is g.cutter.edges _ [] m.edges (λ i h. absurd (omega (arith, h))) m.few_edges
            (part_after (e₁ ++ c₁) e₂ c₂ refl a (omega (arith, long)));
        cells_within = within_after (a + length e₂) (length c₂) (omega (arith, length-append ixs (e₂ ++ c₂), long, length-append e₂ c₂));
        cells = index_is g.cutter.entries _ ce m.entries m.rising m.few_cells
            (part_after ((e₁ ++ c₁) ++ e₂) c₂ [] (sym (append_assoc (e₁ ++ c₁) e₂ c₂) ∙ ap (λ (l : List ℕ). ((e₁ ++ c₁) ++ e₂) ++ l) (sym (append-nil c₂))) (a + length e₂)
            (omega (arith, long, length-append (e₁ ++ c₁) e₂)));
      }
