-- What is left to print, at each turn of the loops. Assumes nothing.
use mathlib.Core.Path.{◌≡◌, refl, ap, ◌∙◌}
use mathlib.Core.List.{List, [], ◌∷◌, ◌++◌, append_assoc}
use Prim.Native.Nat.{ℕ, ◌+◌, ◌-◌, ◌≤◌, ◌<◌}
use native.Mathlib.Nat.{not-suc-le-zero, le_of_suc-le-suc}
use native.Mathlib.Numerals.{add-one}
use native.Mathlib.Omega.{arith}
use lib.Seq.{drop-cons}
use mathlib.Core.Logic.{◌⊎◌, inl, inr}
use lib.ListN.{length, get_or, take, drop, drop_of_length-le}
use lib.Ieee.{Float, nan, to_bits, binary64}
use Rattle.std.specs.Prelude.{Option, Some, None}
use denote.Ref.{Bor}
use Rattle.std.specs.Iterator.{YieldsFirstRef}
use Rattle.std.specs.declared.slice.Iter.{Iter}
use Rattle.std.specs.declared.slice.ChunksExact.{ChunksExact}
use Rattle.std.specs.declared.iter.Zip.{Zip}
use Rattle.std.specs.Slice.Iter.{iter_rest, chunks_exact_rest, chunks_exact_size, chunks_exact_steps}
use Rattle.std.specs.Iterator.Adapters.{zip_first, zip_second}
use Rattle.std.proofs.iter.Yields.{fronts}
use Rattle.std.proofs.lemmas.Iterator.{zips}
use Rattle.std.proofs.lemmas.Slice.Zip.{either_empty_from_Zip}
use Rattle.lists.specs.Regions.{run}
use Rattle.lists.specs.Runs.{runs_from, runs_left}
use Rattle.lists.specs.declared.runs.Runs.{Runs}
use Rattle.text.specs.Text.{bytes, space, close, decimal, listing_word, PieceLine, piece_lines}
use Rattle.text.specs.Text.{node_text, nodes_text, numbers_text, cell_text, piece_text, pieces_text, count_text, refused_text, listing_text}
use Rattle.printing.specs.Page.{Page, page_with}
use Rattle.printing.specs.Told.{bits}
use Rattle.printing.proofs.Pages.{written_append, written_nil}

-- ---- the nodes by their coordinates and layers

-- cs begins with the pair x
node_next : (cs x rest : List Float) (l : ℕ) (ls : List ℕ) → cs ≡ x ++ rest → length x ≡ 2
    → nodes_text (bits cs) (l ∷ ls) ≡ node_text (to_bits binary64 (get_or x 0 nan)) (to_bits binary64 (get_or x 1 nan)) l ++ nodes_text (bits rest) ls
unfolding nodes_text bits
node_next cs [] rest l ls e h = absurd (omega arith)
node_next cs (a ∷ []) rest l ls e h = absurd (omega arith)
node_next cs (a ∷ b ∷ []) rest l ls e h = rw e refl
node_next cs (a ∷ b ∷ c ∷ x) rest l ls e h = absurd (omega arith)

no_pair : (cs : List Float) (ls : List ℕ) → length cs < 2 → nodes_text (bits cs) ls ≡ []
unfolding nodes_text bits
no_pair [] ls h = refl
no_pair (x ∷ []) ls h = refl
no_pair (x ∷ y ∷ cs) ls h = absurd (not-suc-le-zero (le_of_suc-le-suc (le_of_suc-le-suc h)))

no_layer : (bs ls : List ℕ) → length ls ≡ 0 → nodes_text bs ls ≡ []
unfolding nodes_text
no_layer [] ls h = refl
no_layer (x ∷ []) ls h = refl
no_layer (x ∷ y ∷ bs) [] h = refl
no_layer (x ∷ y ∷ bs) (l ∷ ls) h = absurd (omega arith)

-- pairs of coordinates beside layers
abbrev pub Places : Type 0
Places = Zip (ChunksExact Float) (Iter ℕ)

abbrev places_steps : Places → Option (Bor (List Float) × Bor ℕ) → Places → Type 0
places_steps = zips chunks_exact_steps fronts

-- the lines of the nodes that are left
abbrev pub nodes_left : Places → List ℕ
nodes_left s = nodes_text (bits (chunks_exact_rest (zip_first s))) (iter_rest (zip_second s))

module _ (s t : Places) (two : chunks_exact_size (zip_first s) ≡ 2) where
  pub nodes_next : (node : Bor (List Float)) (layer : Bor ℕ) → places_steps s (Some (node, layer)) t
      → nodes_left s ≡ node_text (to_bits binary64 (get_or node.now 0 nan)) (to_bits binary64 (get_or node.now 1 nan)) layer.now ++ nodes_left t
  nodes_next node layer ((_, (item, long), _), more) =
      ap (nodes_text (bits (chunks_exact_rest (zip_first s)))) more ∙ node_next _ node.now _ layer.now _ item (long ∙ two)

  pub nodes_end : places_steps s None t → nodes_left s ≡ []
  nodes_end (inl (u, (_, (short, _), _))) = no_pair _ _ (rw two at short)
  nodes_end (inr (u, z)) = no_layer _ _ z.0

pub ruleset nodes_steps = (written_append, written_nil, nodes_next, nodes_end)

-- a piece's line: a word, numbers, the corners
pub piece_parts : (p : PieceLine) → piece_text p ≡ bytes "(cell" ++ (numbers_text (p.kind ∷ p.family ∷ p.mesh ∷ p.cell ∷ []) ++ (numbers_text p.nodes ++ close))
unfolding piece_text cell_text numbers_text
piece_parts p = simp append_assoc

pub refused_parts : (n : ℕ) → refused_text n ≡ bytes "(refused" ++ (numbers_text (n ∷ []) ++ close)
unfolding refused_text numbers_text
refused_parts n = simp append_assoc

pub listing_parts : (bs ls : List ℕ) (ps : List PieceLine) (pieces points doubled : ℕ) → listing_text bs ls ps pieces points doubled
    ≡ listing_word ++ (nodes_text bs ls ++ (pieces_text ps ++ ((bytes "(count" ++ (numbers_text (pieces ∷ points ∷ doubled ∷ []) ++ close)) ++ close)))
unfolding listing_text count_text numbers_text
listing_parts bs ls ps pieces points doubled = simp append_assoc

module _ (ns : List ℕ) (k : ℕ) where
  pub numbers_end : length ns ≤ k → numbers_text (drop k ns) ≡ []
  unfolding numbers_text
  numbers_end h = rw (drop_of_length-le ns h)

  pub numbers_turn : k < length ns → numbers_text (drop k ns) ≡ (space ++ decimal (get_or ns k 0)) ++ numbers_text (drop (k + 1) ns)
  unfolding numbers_text
  numbers_turn h = rw (drop-cons ns k 0 h, add-one)

  pub numbers_put : (g : Page) → k < length ns → page_with g (numbers_text (drop k ns)) ≡ page_with (page_with g (space ++ decimal (get_or ns k 0))) (numbers_text (drop (k + 1) ns))
  numbers_put g h = ap (page_with g) (numbers_turn h) ∙ written_append g (space ++ decimal (get_or ns k 0)) (numbers_text (drop (k + 1) ns))

pub ruleset numbers_steps = (written_append, written_nil, numbers_end, numbers_put)

-- ---- the pieces by their runs

-- as many as there are of each
unfoldable pub lines_by : (rs : List (List ℕ)) (ks fs ms is : List ℕ) → List PieceLine
lines_by [] ks fs ms is = []
lines_by (r ∷ rs) [] fs ms is = []
lines_by (r ∷ rs) (k ∷ ks) [] ms is = []
lines_by (r ∷ rs) (k ∷ ks) (f ∷ fs) [] is = []
lines_by (r ∷ rs) (k ∷ ks) (f ∷ fs) (m ∷ ms) [] = []
lines_by (r ∷ rs) (k ∷ ks) (f ∷ fs) (m ∷ ms) (i ∷ is) = record { kind = k; family = f; mesh = m; cell = i; nodes = r } ∷ lines_by rs ks fs ms is

pub lines_from : (from : ℕ) (ns es ks fs ms is : List ℕ) → lines_by (runs_from from ns es) ks fs ms is ≡ piece_lines from ns es ks fs ms is
unfolding piece_lines lines_by runs_from run
lines_from from ns [] ks fs ms is = refl
lines_from from ns (e ∷ es) [] fs ms is = refl
lines_from from ns (e ∷ es) (k ∷ ks) [] ms is = refl
lines_from from ns (e ∷ es) (k ∷ ks) (f ∷ fs) [] is = refl
lines_from from ns (e ∷ es) (k ∷ ks) (f ∷ fs) (m ∷ ms) [] = refl
lines_from from ns (e ∷ es) (k ∷ ks) (f ∷ fs) (m ∷ ms) (i ∷ is) =
    ap (λ l. record { kind = k; family = f; mesh = m; cell = i; nodes = take (e - from) (drop from ns) } ∷ l) (lines_from e ns es ks fs ms is)

none_left : (rs : List (List ℕ)) (ks fs ms is : List ℕ) → (rs ≡ []) ⊎ (((ks ≡ []) ⊎ (fs ≡ [])) ⊎ ((ms ≡ []) ⊎ (is ≡ []))) → lines_by rs ks fs ms is ≡ []
unfolding lines_by
none_left [] ks fs ms is h = refl
none_left (r ∷ rs) [] fs ms is h = refl
none_left (r ∷ rs) (k ∷ ks) [] ms is h = refl
none_left (r ∷ rs) (k ∷ ks) (f ∷ fs) [] is h = refl
none_left (r ∷ rs) (k ∷ ks) (f ∷ fs) (m ∷ ms) [] h = refl
none_left (r ∷ rs) (k ∷ ks) (f ∷ fs) (m ∷ ms) (i ∷ is) h = absurd (never h)
  where
    no : {A : Type 0} (x : A) (l : List A) → x ∷ l ≡ [] → ⊥
    no x l e = cc

    never : (r ∷ rs ≡ []) ⊎ (((k ∷ ks ≡ []) ⊎ (f ∷ fs ≡ [])) ⊎ ((m ∷ ms ≡ []) ⊎ (i ∷ is ≡ []))) → ⊥
    never (inl p) = no _ _ p
    never (inr (inl (inl p))) = no _ _ p
    never (inr (inl (inr p))) = no _ _ p
    never (inr (inr (inl p))) = no _ _ p
    never (inr (inr (inr p))) = no _ _ p

-- runs beside (kinds, families) and (meshes, cells)
abbrev pub Columns : Type 0
Columns = Zip Runs (Zip (Zip (Iter ℕ) (Iter ℕ)) (Zip (Iter ℕ) (Iter ℕ)))

abbrev steps : Columns → Option (Bor (List ℕ) × ((Bor ℕ × Bor ℕ) × (Bor ℕ × Bor ℕ))) → Columns → Type 0
steps = zips (YieldsFirstRef runs_left) (zips (zips fronts fronts) (zips fronts fronts))

-- the pieces that are left
abbrev pub lines_left : Columns → List PieceLine
lines_left s =
    let marks = zip_first (zip_second s) in
    let parents = zip_second (zip_second s) in
    lines_by (runs_left (zip_first s)) (iter_rest (zip_first marks)) (iter_rest (zip_second marks)) (iter_rest (zip_first parents)) (iter_rest (zip_second parents))

module _ (s t : Columns) where
  pub pieces_next : (r : Bor (List ℕ)) (k f m i : Bor ℕ) → steps s (Some (r, ((k, f), (m, i)))) t
      → pieces_text (lines_left s) ≡ piece_text (record { kind = k.now; family = f.now; mesh = m.now; cell = i.now; nodes = r.now }) ++ pieces_text (lines_left t)
  unfolding lines_by pieces_text
  pieces_next r k f m i (a, ((b, c), (d, g))) = rw (a, b, c, d, g) refl

  pub pieces_end : steps s None t → pieces_text (lines_left s) ≡ []
  unfolding pieces_text
  pieces_end h = rw (none_left _ _ _ _ _ (by h)) refl
    where
      by : steps s None t → (runs_left (zip_first s) ≡ []) ⊎ (((iter_rest (zip_first (zip_first (zip_second s))) ≡ []) ⊎ (iter_rest (zip_second (zip_first (zip_second s))) ≡ []))
          ⊎ ((iter_rest (zip_first (zip_second (zip_second s))) ≡ []) ⊎ (iter_rest (zip_second (zip_second (zip_second s))) ≡ [])))
      by (inl (u, z)) = inl z.0
      by (inr (u, inl (v, z))) = inr (inl (either_empty_from_Zip _ v None refl z))
      by (inr (u, inr (v, z))) = inr (inr (either_empty_from_Zip _ v None refl z))

pub ruleset pieces_steps = (written_append, written_nil, lines_from, pieces_next, pieces_end)
