-- Reading undoes printing: lines, meshes, inputs. Assumes nothing.
use mathlib.Core.Path.{◌≡◌, refl, sym, ap, ◌∙◌}
use mathlib.Core.List.{List, [], ◌∷◌, ◌++◌, append_assoc, append-nil, map}
use Prim.Native.Nat.{ℕ, zero, suc, ◌+◌, ◌-◌, ◌*◌, ◌≤◌, ◌<◌}
use native.Mathlib.Nat.{not-suc-le-zero, le_of_suc-le-suc, le_trans, add-sub_of_le}
use native.Mathlib.Omega.{arith}
use borrow.Author.Tests.{le-leb}
use lib.ListN.{length, take, drop, length-drop}
use lib.Seq.{length-take-le, take-add}
use Rattle.std.specs.Prelude.{None, Some}
use Rattle.text.specs.Text.{space, close, newline, node_word, cell_word, decimal, hex, node_text, nodes_text, numbers_text, cell_text, cells_text}
use Rattle.text.specs.Read.{if_word, and_then, after_word, word_from, digit_val, decimal_from, repeated, node_from}
use Rattle.text.specs.Read.{add_node, node_step, nodes_from, no_nodes, entry_step, entries_from, head_from, cell_from, add_cell, cell_step, cells_from}
use Rattle.text.specs.Given.{Parsed, coordinate, Nodes, Cells}
use Rattle.text.specs.Inputs.{Points, no_points, point, Small, no_numbers, small, Rises, no_cells, cell}
use Rattle.text.proofs.Repeats.{repeated_stop}
use Rattle.text.proofs.Inverse.{word_self, decimal_read, hex_read}

-- ---- one more of many
one : {A : Type 0} (w : List ℕ) (f : A → List ℕ → Parsed A) (k : ℕ) (a a₁ : A) (u t : List ℕ) → f a u ≡ Some (a₁, t) → repeated w f (suc k) a (w ++ u) ≡ repeated w f k a₁ t
unfolding repeated if_word and_then
one w f k a a₁ u t e = rw (word_self w u, e)

-- ---- a number and what follows
-- a text that does not go on with a digit
pub record Stop (t : List ℕ) : Type 0 where
  pub b : ℕ
  pub rest : List ℕ
  pub is : t ≡ b ∷ rest
  pub stops : 10 ≤ digit_val b

pub stop_space : (t : List ℕ) → Stop (space ++ t)
unfolding digit_val
stop_space t = record { b = 32; rest = t; is = refl; stops = omega arith }

pub stop_close : (t : List ℕ) → Stop (close ++ t)
unfolding digit_val
stop_close t = record { b = 41; rest = 10 ∷ t; is = refl; stops = omega arith }

pub stop_newline : (t : List ℕ) → Stop (newline ++ t)
unfolding digit_val
stop_newline t = record { b = 10; rest = t; is = refl; stops = omega arith }

pub before_stop : (n : ℕ) (t : List ℕ) → n ≤ 4294967295 → Stop t → decimal_from (decimal n ++ t) ≡ Some (n, t)
before_stop n t h s = rw s.is (decimal_read n s.b s.rest h s.stops)

-- ---- node lines
abbrev pub one_node : (x y l : ℕ) → Nodes
one_node x y l = record { coords = coordinate x ∷ coordinate y ∷ []; layers = l ∷ [] }

-- what is read of coordinates' bits and layers
abbrev pub nodes_given : (bs ls : List ℕ) → Nodes
nodes_given bs ls = record { coords = map coordinate bs; layers = ls }

pub add_none : (ns : Nodes) → ns ≡ add_node ns no_nodes
unfolding add_node
add_none ns = rw (append-nil ns.coords, append-nil ns.layers) refl

pub add_assoc : (ns n m : Nodes) → add_node (add_node ns n) m ≡ add_node ns (add_node n m)
unfolding add_node
add_assoc ns n m = rw (append_assoc ns.coords n.coords m.coords, append_assoc ns.layers n.layers m.layers) refl

pub add_more : (x y l : ℕ) (bs ls : List ℕ) → add_node (one_node x y l) (nodes_given bs ls) ≡ nodes_given (x ∷ y ∷ bs) (l ∷ ls)
unfolding add_node
add_more x y l bs ls = refl

pub node_read : (x y l : ℕ) (t : List ℕ) → x < 18446744073709551616 → y < 18446744073709551616 → l ≤ 4294967295
    → node_from (hex x ++ (space ++ (hex y ++ (space ++ (decimal l ++ (close ++ t)))))) ≡ Some (one_node x y l, t)
unfolding node_from and_then after_word
node_read x y l t h g f =
    let layer = decimal l ++ (close ++ t) in
    rw (
      hex_read x (space ++ (hex y ++ (space ++ layer))) h,
      word_self space (hex y ++ (space ++ layer)),
      hex_read y (space ++ layer) g,
      word_self space layer,
      before_stop l (close ++ t) f (stop_close t),
      word_self close t,
    )

node_step_lem : (x y l : ℕ) (ns : Nodes) (t : List ℕ) → x < 18446744073709551616 → y < 18446744073709551616 → l ≤ 4294967295
    → node_step ns (hex x ++ (space ++ (hex y ++ (space ++ (decimal l ++ (close ++ t)))))) ≡ Some (add_node ns (one_node x y l), t)
unfolding node_step and_then
node_step_lem x y l ns t h g f = rw (node_read x y l t h g f)

pub node_apart : (x y l : ℕ) (bs ls t : List ℕ) → nodes_text (x ∷ y ∷ bs) (l ∷ ls) ++ t
    ≡ node_word ++ (hex x ++ (space ++ (hex y ++ (space ++ (decimal l ++ (close ++ (nodes_text bs ls ++ t)))))))
unfolding nodes_text node_text
node_apart x y l bs ls t = simp append_assoc

none_left : (k : ℕ) (ns : Nodes) (t : List ℕ) → word_from node_word t ≡ None → repeated node_word node_step k ns (nodes_text [] [] ++ t) ≡ Some (add_node ns no_nodes, t)
unfolding nodes_text
none_left k ns t s = repeated_stop node_word node_step ns t k s ∙ ap (λ (n : Nodes). Some (n, t)) (add_none ns)

pub nodes_read : {bs ls : List ℕ} (k : ℕ) (ns : Nodes) (t : List ℕ) → Points bs ls → length bs ≤ 2 * k → word_from node_word t ≡ None
    → nodes_from k ns (nodes_text bs ls ++ t) ≡ Some (add_node ns (nodes_given bs ls), t)
unfolding nodes_from
nodes_read k ns t no_points h s = none_left k ns t s
nodes_read zero ns t (point hx hy hl c) h s = absurd (not-suc-le-zero h)
nodes_read (suc k) ns t (point {x} {y} {l} {bs} {ls} hx hy hl c) h s =
    let rest = nodes_text bs ls ++ t in
    ap (repeated node_word node_step (suc k) ns) (node_apart x y l bs ls t)
    ∙ one node_word node_step k ns (add_node ns (one_node x y l)) (hex x ++ (space ++ (hex y ++ (space ++ (decimal l ++ (close ++ rest)))))) rest
    (node_step_lem x y l ns rest hx hy hl)
    ∙ nodes_read k (add_node ns (one_node x y l)) t c (omega arith) s
    ∙ ap (λ (n : Nodes). Some (n, t)) (add_assoc ns (one_node x y l) (nodes_given bs ls) ∙ ap (add_node ns) (add_more x y l bs ls))

-- ---- a cell's numbers
pub stop_numbers : (ns t : List ℕ) → Stop (numbers_text ns ++ (close ++ t))
unfolding numbers_text
stop_numbers [] t = stop_close t
stop_numbers (n ∷ ns) t = stop_space (decimal n ++ numbers_text ns ++ (close ++ t))

number_apart : (n : ℕ) (ns t : List ℕ) → numbers_text (n ∷ ns) ++ t ≡ space ++ (decimal n ++ (numbers_text ns ++ t))
unfolding numbers_text
number_apart n ns t = simp append_assoc

entry_step_lem : (n : ℕ) (ns t : List ℕ) → n ≤ 4294967295 → Stop t → entry_step ns (decimal n ++ t) ≡ Some (ns ++ (n ∷ []), t)
unfolding entry_step and_then
entry_step_lem n ns t h s = rw (before_stop n t h s)

no_space : (t : List ℕ) → word_from space (close ++ t) ≡ None
unfolding word_from
no_space t = refl

no_more : (k : ℕ) (ns t : List ℕ) → repeated space entry_step k ns (numbers_text [] ++ (close ++ t)) ≡ Some (ns ++ [], close ++ t)
unfolding numbers_text
no_more k ns t = repeated_stop space entry_step ns (close ++ t) k (no_space t) ∙ ap (λ (l : List ℕ). Some (l, close ++ t)) (sym (append-nil ns))

pub entries_read : {ms : List ℕ} (k : ℕ) (ns t : List ℕ) → Small ms → length ms ≤ k → entries_from k ns (numbers_text ms ++ (close ++ t)) ≡ Some (ns ++ ms, close ++ t)
unfolding entries_from
entries_read k ns t no_numbers l = no_more k ns t
entries_read zero ns t (small h c) l = absurd (not-suc-le-zero l)
entries_read (suc k) ns t (small {n} {ns = ms} h c) l =
    ap (repeated space entry_step (suc k) ns) (number_apart n ms (close ++ t))
    ∙ one space entry_step k ns (ns ++ (n ∷ [])) (decimal n ++ (numbers_text ms ++ (close ++ t))) (numbers_text ms ++ (close ++ t))
    (entry_step_lem n ns (numbers_text ms ++ (close ++ t)) h (stop_numbers ms t))
    ∙ entries_read k (ns ++ (n ∷ [])) t c (le_of_suc-le-suc l)
    ∙ ap (λ (l : List ℕ). Some (l, close ++ t)) (append_assoc ns (n ∷ []) ms)

-- ---- cell lines
pub head_read : (k f : ℕ) (t : List ℕ) → k ≤ 255 → f ≤ 4294967295 → Stop t → head_from (decimal k ++ (space ++ (decimal f ++ t))) ≡ Some (record { kind = k; family = f }, t)
unfolding head_from and_then after_word
head_read k f t h g s =
    rw (before_stop k (space ++ (decimal f ++ t)) (omega arith) (stop_space (decimal f ++ t)), le-leb k 255 h, word_self space (decimal f ++ t), before_stop f t g s)

pub cell_read : (room k f : ℕ) (ns ms t : List ℕ) → k ≤ 255 → f ≤ 4294967295 → Small ms → length ns + length ms ≤ room
    → cell_from room ns (decimal k ++ (space ++ (decimal f ++ (numbers_text ms ++ (close ++ t))))) ≡ Some (record { heading = record { kind = k; family = f }; nodes = ns ++ ms }, t)
unfolding cell_from and_then after_word
cell_read room k f ns ms t h g c l =
    rw (head_read k f (numbers_text ms ++ (close ++ t)) h g (stop_numbers ms t), entries_read (room - length ns) ns t c (omega arith), word_self close t)

pub cell_apart : (n e k f : ℕ) (ns es ks fs t : List ℕ) → cells_text n ns (e ∷ es) (k ∷ ks) (f ∷ fs) ++ t
    ≡ cell_word ++ (decimal k ++ (space ++ (decimal f ++ (numbers_text (take (e - n) (drop n ns)) ++ (close ++ (cells_text e ns es ks fs ++ t))))))
unfolding cells_text cell_text
cell_apart n e k f ns es ks fs t = simp append_assoc

-- the entries up to an end, and a cell's own
upto : (ns : List ℕ) (n e : ℕ) → n ≤ e → take n ns ++ take (e - n) (drop n ns) ≡ take e ns
upto ns n e h = sym (take-add n (e - n) ns) ∙ ap (λ (k : ℕ). take k ns) (add-sub_of_le h)

unfoldable pub so_far : List ℕ → ℕ → List ℕ → List ℕ → List ℕ → Cells
so_far ns n es ks fs = record { nodes = take n ns; ends = es; kinds = ks; families = fs }

cell_step_lem : (room n e k f : ℕ) (ns xs ys zs t : List ℕ) → n ≤ e → e ≤ length ns → e ≤ room → k ≤ 255 → f ≤ 4294967295 → Small (take (e - n) (drop n ns))
    → cell_step room (so_far ns n xs ys zs) (decimal k ++ (space ++ (decimal f ++ (numbers_text (take (e - n) (drop n ns)) ++ (close ++ t)))))
    ≡ Some (so_far ns e (xs ++ (e ∷ [])) (ys ++ (k ∷ [])) (zs ++ (f ∷ [])), t)
unfolding cell_step and_then add_cell so_far
cell_step_lem room n e k f ns xs ys zs t h g r hk hf c =
    let l : length (take n ns) ≡ n = length-take-le n ns (le_trans h g) in
    let m : length (take (e - n) (drop n ns)) ≡ e - n = length-take-le (e - n) (drop n ns) (simp length-drop (omega arith)) in
    let z : length (take e ns) ≡ e = length-take-le e ns g in
    rw (cell_read room k f (take n ns) (take (e - n) (drop n ns)) t hk hf c (omega arith), upto ns n e h, z)

no_word : (k room n : ℕ) (ns xs ys zs t : List ℕ) → word_from cell_word t ≡ None
    → repeated cell_word (cell_step room) k (so_far ns n xs ys zs) (cells_text n ns [] [] [] ++ t) ≡ Some (so_far ns n (xs ++ []) (ys ++ []) (zs ++ []), t)
unfolding cells_text so_far
no_word k room n ns xs ys zs t s = rw (append-nil xs, append-nil ys, append-nil zs) (repeated_stop cell_word (cell_step room) (so_far ns n xs ys zs) t k s)

pub cells_read : (room : ℕ) (ns : List ℕ) {n m : ℕ} {es ks fs : List ℕ} (k : ℕ) (xs ys zs t : List ℕ) → Rises ns n es ks fs m → length es ≤ k → length ns ≤ room → word_from cell_word t ≡ None
    → cells_from room k (so_far ns n xs ys zs) (cells_text n ns es ks fs ++ t) ≡ Some (so_far ns m (xs ++ es) (ys ++ ks) (zs ++ fs), t)
unfolding cells_from
cells_read room ns {n} k xs ys zs t no_cells l r s = no_word k room n ns xs ys zs t s
cells_read room ns zero xs ys zs t (cell h g hk hf c d) l r s = absurd (not-suc-le-zero l)
cells_read room ns {n} {m} (suc j) xs ys zs t (cell {e = e} {k = k} {f = f} {es = es} {ks = ks} {fs = fs} h g hk hf c d) l r s =
    ap (repeated cell_word (cell_step room) (suc j) (so_far ns n xs ys zs)) (cell_apart n e k f ns es ks fs t)
    ∙ one cell_word (cell_step room) j (so_far ns n xs ys zs) (so_far ns e (xs ++ (e ∷ [])) (ys ++ (k ∷ [])) (zs ++ (f ∷ [])))
    (decimal k ++ (space ++ (decimal f ++ (numbers_text (take (e - n) (drop n ns)) ++ (close ++ (cells_text e ns es ks fs ++ t)))))) (cells_text e ns es ks fs ++ t)
    (cell_step_lem room n e k f ns xs ys zs (cells_text e ns es ks fs ++ t) h g (le_trans g r) hk hf c)
    ∙ cells_read room ns j (xs ++ (e ∷ [])) (ys ++ (k ∷ [])) (zs ++ (f ∷ [])) t d (le_of_suc-le-suc l) r s
    ∙ ap (λ (u : List ℕ). Some (so_far ns m u (ys ++ (k ∷ []) ++ ks) (zs ++ (f ∷ []) ++ fs), t)) (append_assoc xs (e ∷ []) es)
    ∙ ap (λ (u : List ℕ). Some (so_far ns m (xs ++ (e ∷ es)) u (zs ++ (f ∷ []) ++ fs), t)) (append_assoc ys (k ∷ []) ks)
    ∙ ap (λ (u : List ℕ). Some (so_far ns m (xs ++ (e ∷ es)) (ys ++ (k ∷ ks)) u, t)) (append_assoc zs (f ∷ []) fs)
