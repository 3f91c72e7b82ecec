-- Reading undoes printing: a mesh and an input. Printing has no two inputs of one text. Assumes nothing.
use mathlib.Core.Path.{◌≡◌, refl, sym, ap, ◌∙◌}
use mathlib.Core.List.{List, [], ◌++◌, append_assoc}
use Prim.Native.Nat.{ℕ, ◌≤◌}
use lib.ListN.{length}
use lib.Seq.{take-length}
use Rattle.std.specs.Prelude.{Option, None, Some, IfSome}
use Rattle.std.proofs.lemmas.Option.{some_pair_parts}
use Rattle.settings.specs.declared.Settings.{Settings}
use Rattle.text.specs.Text.{
  space,
  close,
  newline,
  node_word,
  cell_word,
  mesh_word,
  overlay_word,
  decimal,
  nodes_text,
  cell_text,
  cells_text,
  Bits,
  body_text,
  mesh_text,
  grid_text,
  first_text,
  input_text,
}
use Rattle.text.specs.Read.{and_then, after_word, if_word, word_from, cells_from, mesh_from, grid_from, first_from, input_from, add_node, no_nodes, empty}
use Rattle.text.specs.Given.{Parsed, Limits, Given}
use Rattle.text.proofs.Inverse.{word_self}
use Rattle.text.specs.Inputs.{Rises, no_cells, cell, Fine, read, Within, Fits, Input, text_of, given, Readable}
use Rattle.text.proofs.Lines.{nodes_given, nodes_read, cells_read, so_far, Stop, before_stop, stop_space, stop_newline}
use Rattle.text.proofs.Whole.{mesh_read, input_read}

no_cell_close : (t : List ℕ) → word_from cell_word (close ++ t) ≡ None
unfolding word_from
no_cell_close t = refl

no_node : {ns es ks fs : List ℕ} {n m : ℕ} (t : List ℕ) → Rises ns n es ks fs m → word_from node_word (cells_text n ns es ks fs ++ (close ++ t)) ≡ None
unfolding cells_text cell_text word_from
no_node t no_cells = refl
no_node t (cell h g hk hf c d) = refl

pub mesh_apart : (m : Bits) (t : List ℕ) → mesh_text m ++ t ≡ mesh_word ++ (nodes_text m.coords m.layers ++ (cells_text 0 m.nodes m.ends m.kinds m.families ++ (close ++ t)))
unfolding mesh_text body_text
mesh_apart m t = simp append_assoc

whole_cells : (c e : ℕ) (ns es ks fs t : List ℕ) → Rises ns 0 es ks fs (length ns) → length es ≤ c → length ns ≤ e
    → cells_from e c empty (cells_text 0 ns es ks fs ++ (close ++ t)) ≡ Some (record { nodes = ns; ends = es; kinds = ks; families = fs }, close ++ t)
unfolding so_far
whole_cells c e ns es ks fs t r l h =
    cells_read e ns c [] [] [] (close ++ t) r l h (no_cell_close t)
    ∙ ap (λ (l : List ℕ). Some (record { nodes = l; ends = es; kinds = ks; families = fs }, close ++ t)) (take-length ns)

-- a mesh within its limits is read back
pub mesh_back : (l : Limits) (m : Bits) (t : List ℕ) → Fine m → Within l m → mesh_from l (mesh_text m ++ t) ≡ Some (read m, t)
unfolding read add_node
mesh_back l m t f w =
    ap (mesh_from l) (mesh_apart m t)
    ∙ mesh_read l _ _ _ _ t (nodes_given m.coords m.layers) (record { nodes = m.nodes; ends = m.ends; kinds = m.kinds; families = m.families })
    (word_self mesh_word (nodes_text m.coords m.layers ++ (cells_text 0 m.nodes m.ends m.kinds m.families ++ (close ++ t))))
    (nodes_read l.nodes no_nodes (cells_text 0 m.nodes m.ends m.kinds m.families ++ (close ++ t)) f.points w.nodes (no_node t f.rises))
    (whole_cells l.cells l.entries m.nodes m.ends m.kinds m.families t f.rises w.cells w.entries)
    (word_self close t)

stop_grid : (g : Option ℕ) (t : List ℕ) → Stop (grid_text g ++ (newline ++ t))
unfolding grid_text
stop_grid None t = stop_newline t
stop_grid (Some k) t = stop_space (decimal k ++ (newline ++ t))

no_grid : (t : List ℕ) → word_from space (newline ++ t) ≡ None
unfolding word_from
no_grid t = refl

grid_back : (g : Option ℕ) (t : List ℕ) → IfSome g (λ k. k ≤ 4294967295) → grid_from (grid_text g ++ (newline ++ t)) ≡ Some (g, newline ++ t)
unfolding grid_text grid_from if_word and_then
grid_back None t h = rw (no_grid t)
grid_back (Some k) t h = rw (word_self space (decimal k ++ (newline ++ t)), before_stop k (newline ++ t) h (stop_newline t))

pub first_apart : (s : Settings) (t : List ℕ)
    → first_text s ++ t ≡ overlay_word ++ (decimal s.op ++ (space ++ (decimal s.m ++ (grid_text s.grid ++ (newline ++ t)))))
unfolding first_text
first_apart s t = simp append_assoc

first_line : (s : Settings) (t : List ℕ) → Fits s
    → first_from (overlay_word ++ (decimal s.op ++ (space ++ (decimal s.m ++ (grid_text s.grid ++ (newline ++ t)))))) ≡ Some (s, t)
unfolding first_from and_then after_word
first_line s t f =
    let grid = grid_text s.grid ++ (newline ++ t) in
    rw (
      word_self overlay_word (decimal s.op ++ (space ++ (decimal s.m ++ grid))),
      before_stop s.op (space ++ (decimal s.m ++ grid)) f.op (stop_space (decimal s.m ++ grid)),
      word_self space (decimal s.m ++ grid),
      before_stop s.m grid f.m (stop_grid s.grid t),
      grid_back s.grid t f.grid,
      word_self newline t,
    )

pub first_back : (s : Settings) (t : List ℕ) → Fits s → first_from (first_text s ++ t) ≡ Some (s, t)
first_back s t f = ap first_from (first_apart s t) ∙ first_line s t f

-- an input is read back from its text
pub input_back : (l k : Limits) (i : Input) → Readable l k i → input_from l k (text_of i) ≡ Some (given i, [])
unfolding input_text
input_back l k i r =
    let s = mesh_text i.subject in
    let c = mesh_text i.cutter in
    input_read l k (first_text i.settings ++ (s ++ (c ++ close))) r.bytes i.settings (s ++ (c ++ close)) (first_back i.settings (s ++ (c ++ close)) r.settings)
    (read i.subject) (c ++ close) (mesh_back l i.subject (c ++ close) r.subject r.within) (read i.cutter) close
    (mesh_back k i.cutter close r.cutter r.within') [] (word_self close []) refl

-- two inputs of one text are the same input
pub one_text : (l k : Limits) (i j : Input) → Readable l k i → Readable l k j → text_of i ≡ text_of j → given i ≡ given j
one_text l k i j r q e =
    let same : ◌≡◌ {A = Parsed Given} (Some (given i, [])) (Some (given j, [])) = sym (input_back l k i r) ∙ ap (input_from l k) e ∙ input_back l k j q in
    (some_pair_parts _ _ _ _ same).0
