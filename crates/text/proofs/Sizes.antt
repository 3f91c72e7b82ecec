-- How long an answer's text can be. Assumes nothing.
use mathlib.Core.Path.{◌≡◌, refl, ◌∙◌}
use mathlib.Core.Bool.{Bool, true, false, cond}
use mathlib.Core.List.{List, [], ◌∷◌, ◌++◌}
use Prim.Native.Nat.{ℕ, zero, suc, ◌+◌, ◌-◌, ◌*◌, ◌/◌, ◌%◌, ◌≤◌}
use native.Mathlib.Omega.{arith}
use native.Mathlib.Nat.{min-le_left, le_trans}
use lib.Dec.{ltb}
use lib.ListN.{length, take, drop, length-append, length-take}
use Rattle.text.specs.Text.{decimal_to, decimal, glyph, hex_to, hex, node_text, nodes_text, numbers_text, cell_text, PieceLine}
use Rattle.text.specs.Text.{piece_text, pieces_text, piece_lines, count_text, listing_text, refused_text, refused, overlay, answer_text}

decimal_to_size : (k n : ℕ) → length (decimal_to k n) ≤ k
unfolding decimal_to
decimal_to_size zero n = omega arith
decimal_to_size (suc k) n = go (decimal_to_size k (n / 10)) (ltb n 10)
  where
    go : length (decimal_to k (n / 10)) ≤ k → (b : Bool) → length (cond b ((48 + n) ∷ []) (decimal_to k (n / 10) ++ ((48 + n % 10) ∷ []))) ≤ suc k
    go h true = omega arith
    go h false = omega (arith, length-append (decimal_to k (n / 10)) ((48 + n % 10) ∷ []))

decimal_size : (n : ℕ) → length (decimal n) ≤ 10
unfolding decimal
decimal_size n = decimal_to_size 10 n

hex_to_size : (k n : ℕ) → length (hex_to k n) ≡ k
unfolding hex_to
hex_to_size zero n = refl
hex_to_size (suc k) n = length-append (hex_to k (n / 16)) (glyph (n % 16) ∷ []) ∙ rw (hex_to_size k (n / 16)) (omega arith)

hex_size : (n : ℕ) → length (hex n) ≡ 16
unfolding hex
hex_size n = hex_to_size 16 n

node_size : (x y l : ℕ) → length (node_text x y l) ≤ 52
unfolding node_text
node_size x y l = simp (length-append, hex_size) (omega (arith, decimal_size l))

nodes_size : (bs ls : List ℕ) → 2 * length (nodes_text bs ls) ≤ 52 * length bs
unfolding nodes_text
nodes_size [] ls = omega arith
nodes_size (x ∷ []) ls = omega arith
nodes_size (x ∷ y ∷ bs) [] = omega arith
nodes_size (x ∷ y ∷ bs) (l ∷ ls) = omega (arith, length-append (node_text x y l) (nodes_text bs ls), node_size x y l, nodes_size bs ls)

numbers_size : (ns : List ℕ) → length (numbers_text ns) ≤ 11 * length ns
unfolding numbers_text
numbers_size [] = omega arith
numbers_size (n ∷ ns) = omega (arith, length-append (decimal n) (numbers_text ns), decimal_size n, numbers_size ns)

cell_size_lem : (k f : ℕ) (ns : List ℕ) → length (cell_text k f ns) ≤ 29 + 11 * length ns
unfolding cell_text
cell_size_lem k f ns = simp length-append (omega (arith, decimal_size k, decimal_size f, numbers_size ns))

-- ends that rise from n on, none above m
pub data Rising (m : ℕ) : ℕ → List ℕ → Type 0 where
  no_end : {n : ℕ} → n ≤ m → Rising m n []
  end : {n e : ℕ} {es : List ℕ} → n ≤ e → Rising m e es → Rising m n (e ∷ es)

below : {m n : ℕ} {es : List ℕ} → Rising m n es → n ≤ m
below (no_end h) = h
below (end h r) = le_trans h (below r)

piece_size : (p : PieceLine) → length (piece_text p) ≤ 51 + 11 * length p.nodes
unfolding piece_text
piece_size p = omega (arith, cell_size_lem p.kind p.family (p.mesh ∷ p.cell ∷ p.nodes))

pieces_size : {m n : ℕ} {es : List ℕ} (ns ks fs ms is : List ℕ) → Rising m n es
    → length (pieces_text (piece_lines n ns es ks fs ms is)) + 11 * n ≤ 51 * length es + 11 * m
unfolding pieces_text piece_lines
pieces_size ns ks fs ms is (no_end h) = omega arith
pieces_size ns [] fs ms is (end h r) = let g = below r in omega arith
pieces_size ns (k ∷ ks) [] ms is (end h r) = let g = below r in omega arith
pieces_size ns (k ∷ ks) (f ∷ fs) [] is (end h r) = let g = below r in omega arith
pieces_size ns (k ∷ ks) (f ∷ fs) (m ∷ ms) [] (end h r) = let g = below r in omega arith
pieces_size ns (k ∷ ks) (f ∷ fs) (m ∷ ms) (i ∷ is) (end {n = n} {e = e} {es = es} h r) =
    let own = take (e - n) (drop n ns) in
    let p : PieceLine = record { kind = k; family = f; mesh = m; cell = i; nodes = own } in
    let l : length own ≤ e - n = rw (length-take (e - n) (drop n ns)) (min-le_left (e - n) (length (drop n ns))) in
    omega (arith, length-append (piece_text p) (pieces_text (piece_lines e ns es ks fs ms is)), piece_size p, pieces_size ns ks fs ms is r)

count_size : (a b c : ℕ) → length (count_text a b c) ≤ 41
unfolding count_text
count_size a b c = simp length-append (omega (arith, decimal_size a, decimal_size b, decimal_size c))

-- an answer of at most 2,048 nodes, 2,048 pieces and 8,192 entries has at most 301,108 bytes
pub overlay_size : (bs ls ns es ks fs ms is : List ℕ) (a b c : ℕ) → length bs ≤ 4096 → length es ≤ 2048 → Rising 8192 0 es
    → length (answer_text (overlay bs ls (piece_lines 0 ns es ks fs ms is) a b c)) ≤ 301108
unfolding answer_text listing_text
overlay_size bs ls ns es ks fs ms is a b c h g r = simp length-append (omega (arith, nodes_size bs ls, pieces_size ns ks fs ms is r, count_size a b c))

pub refused_size : (n : ℕ) → length (answer_text (refused n)) ≤ 21
unfolding answer_text refused_text
refused_size n = simp length-append (omega (arith, decimal_size n))
