-- Only printed text is read: node lines and cell lines. Assumes nothing.
use mathlib.Core.Path.{◌≡◌, refl, sym, ap, ◌∙◌}
use mathlib.Core.List.{List, [], ◌∷◌, ◌++◌, append_assoc, append-nil}
use Prim.Native.Nat.{ℕ, suc, ◌+◌, ◌-◌, ◌*◌, ◌≤◌, ◌<◌}
use native.Mathlib.Omega.{arith}
use borrow.Author.Tests.{leb-true}
use lib.Dec.{leb}
use lib.ListN.{length, take, drop, length-append}
use lib.Seq.{take_at, drop_at}
use Rattle.std.specs.Prelude.{Some}
use Rattle.text.specs.Text.{space, close, node_word, cell_word, decimal, hex, nodes_text, numbers_text, cells_text}
use Rattle.text.specs.Read.{word_from, decimal_from, hex_from, repeated, node_from, add_node, node_step}
use Rattle.text.specs.Read.{entry_step, entries_from, Heading, head_from, Cell, cell_from, add_cell, cell_step}
use Rattle.text.specs.Given.{Nodes, Cells}
use Rattle.text.specs.Inputs.{Points, no_points, point, Small, no_numbers, small, Rises, no_cells, cell}
use Rattle.text.proofs.Lines.{one_node, nodes_given, add_none, add_assoc, add_more, node_apart, cell_apart}
use Rattle.text.proofs.Only.{then_got, after_got, cond_got, moved, same_value, same_rest, word_only, decimal_only, hex_only, Turns, no_more, turn, repeated_only}

-- ---- node lines
record Node (n : Nodes) (t u : List ℕ) : Type 0 where
  x : ℕ
  y : ℕ
  layer : ℕ
  fits : x < 18446744073709551616
  fits' : y < 18446744073709551616
  fits'' : layer ≤ 4294967295
  node : n ≡ one_node x y layer
  is : t ≡ hex x ++ (space ++ (hex y ++ (space ++ (decimal layer ++ (close ++ u)))))

node_only : {n : Nodes} {u : List ℕ} (t : List ℕ) → node_from t ≡ Some (n, u) → Node n t u
unfolding node_from
node_only t e =
    let a = then_got (hex_from 16 0 t) _ e in
    let b = after_got (word_from space a.rest) _ a.second in
    let c = then_got (hex_from 16 0 b.rest) _ b.second in
    let d = after_got (word_from space c.rest) _ c.second in
    let f = then_got (decimal_from d.rest) _ d.second in
    let g = after_got (word_from close f.rest) _ f.second in
    let x = hex_only t a.first in
    let y = hex_only b.rest c.first in
    let l = decimal_only d.rest f.first in
    moved (λ n u. Node n t u) g.second
    (record {
      x = a.value;
      y = c.value;
      layer = f.value;
      fits = x.fits;
      fits' = y.fits;
      fits'' = l.fits;
      node = refl;
      is = x.is ∙ ap (λ (l : List ℕ). hex a.value ++ l) (word_only space a.rest b.word ∙ ap (λ (l : List ℕ). space ++ l)
          (y.is ∙ ap (λ (l : List ℕ). hex c.value ++ l) (word_only space c.rest d.word ∙ ap (λ (l : List ℕ). space ++ l)
          (l.is ∙ ap (λ (l : List ℕ). decimal f.value ++ l) (word_only close f.rest g.word)))));
    })

pub record NodeLines (n : ℕ) (ns ms : Nodes) (t u : List ℕ) : Type 0 where
  pub bits : List ℕ
  pub layers : List ℕ
  pub fits : Points bits layers
  pub count : length bits ≡ 2 * n
  pub nodes : ms ≡ add_node ns (nodes_given bits layers)
  pub is : t ≡ nodes_text bits layers ++ u

pub nodes_turns : {n : ℕ} {ns ms : Nodes} {t u : List ℕ} → Turns node_word node_step n ns ms t u → NodeLines n ns ms t u
unfolding node_step nodes_text
nodes_turns {ns = ns} no_more = record { bits = []; layers = []; fits = no_points; count = refl; nodes = add_none ns; is = refl }
nodes_turns {ns = ns} (turn {a₁ = ms} {t₁ = t₁} {t₂ = t₂} {u = u} w e r) =
    let s = nodes_turns r in
    let a = then_got (node_from t₁) _ e in
    let p = node_only t₁ a.first in
    let one = one_node p.x p.y p.layer in
    let more = nodes_given s.bits s.layers in
    let d : ms ≡ add_node ns one = sym (same_value a.second) ∙ ap (add_node ns) p.node in
    let v : a.rest ≡ t₂ = same_rest a.second in
    record {
      bits = p.x ∷ p.y ∷ s.bits;
      layers = p.layer ∷ s.layers;
      fits = point p.fits p.fits' p.fits'' s.fits;
      count = omega (arith, s.count);
      nodes = s.nodes ∙ ap (λ (n : Nodes). add_node n more) d ∙ add_assoc ns one more ∙ ap (add_node ns) (add_more p.x p.y p.layer s.bits s.layers);
      is =
          w
          ∙ ap (λ (l : List ℕ). node_word ++ l) (p.is ∙ ap (λ (l : List ℕ). hex p.x ++ (space ++ (hex p.y ++ (space ++ (decimal p.layer ++ (close ++ l)))))) (v ∙ s.is))
          ∙ sym (node_apart p.x p.y p.layer s.bits s.layers u);
    }

-- ---- a cell's numbers
record Entries (n : ℕ) (ns ms t u : List ℕ) : Type 0 where
  own : List ℕ
  fits : Small own
  count : length own ≡ n
  nodes : ms ≡ ns ++ own
  is : t ≡ numbers_text own ++ u

entries_turns : {n : ℕ} {ns ms t u : List ℕ} → Turns space entry_step n ns ms t u → Entries n ns ms t u
unfolding entry_step numbers_text
entries_turns {ns = ns} no_more = record { own = []; fits = no_numbers; count = refl; nodes = sym (append-nil ns); is = refl }
entries_turns {ns = ns} (turn {a₁ = ms} {t₁ = t₁} {t₂ = t₂} w e r) =
    let s = entries_turns r in
    let a = then_got (decimal_from t₁) _ e in
    let p = decimal_only t₁ a.first in
    let d : ns ++ (a.value ∷ []) ≡ ms = same_value a.second in
    let v : a.rest ≡ t₂ = same_rest a.second in
    record {
      own = a.value ∷ s.own;
      fits = small p.fits s.fits;
      count = ap suc s.count;
      nodes = s.nodes ∙ ap (λ (l : List ℕ). l ++ s.own) (sym d) ∙ append_assoc ns (a.value ∷ []) s.own;
      is = w ∙ ap (λ (l : List ℕ). space ++ l) (p.is ∙ ap (λ (l : List ℕ). decimal a.value ++ l) (v ∙ s.is)) ∙ simp append_assoc;
    }

-- ---- cell lines
record Head (h : Heading) (t u : List ℕ) : Type 0 where
  kind : h.kind ≤ 255
  family : h.family ≤ 4294967295
  is : t ≡ decimal h.kind ++ (space ++ (decimal h.family ++ u))

head_only : {h : Heading} {u : List ℕ} (t : List ℕ) → head_from t ≡ Some (h, u) → Head h t u
unfolding head_from
head_only t e =
    let a = then_got (decimal_from t) _ e in
    let k = cond_got (leb a.value 255) _ a.second in
    let b = after_got (word_from space a.rest) _ k.1 in
    let c = then_got (decimal_from b.rest) _ b.second in
    let p = decimal_only t a.first in
    let q = decimal_only b.rest c.first in
    moved (λ h u. Head h t u) c.second
    (record {
      kind = leb-true a.value 255 k.0;
      family = q.fits;
      is = p.is ∙ ap (λ (l : List ℕ). decimal a.value ++ l) (word_only space a.rest b.word ∙ ap (λ (l : List ℕ). space ++ l) q.is);
    })

record Line (room : ℕ) (ns : List ℕ) (x : Cell) (t u : List ℕ) : Type 0 where
  kind : x.heading.kind ≤ 255
  family : x.heading.family ≤ 4294967295
  own : List ℕ
  fits : Small own
  most : length own ≤ room - length ns
  nodes : x.nodes ≡ ns ++ own
  is : t ≡ decimal x.heading.kind ++ (space ++ (decimal x.heading.family ++ (numbers_text own ++ (close ++ u))))

cell_only : {x : Cell} {u : List ℕ} (room : ℕ) (ns t : List ℕ) → cell_from room ns t ≡ Some (x, u) → Line room ns x t u
unfolding cell_from entries_from
cell_only room ns t e =
    let a = then_got (head_from t) _ e in
    let b = then_got (repeated space entry_step (room - length ns) ns a.rest) _ a.second in
    let c = after_got (word_from close b.rest) _ b.second in
    let h = head_only t a.first in
    let m = repeated_only space entry_step (room - length ns) ns a.rest b.first in
    let s = entries_turns m.turns in
    moved (λ x u. Line room ns x t u) c.second
    (record {
      kind = h.kind;
      family = h.family;
      own = s.own;
      fits = s.fits;
      most = omega (arith, s.count, m.most);
      nodes = s.nodes;
      is = h.is ∙ ap (λ (l : List ℕ). decimal a.value.kind ++ (space ++ (decimal a.value.family ++ l)))
          (s.is ∙ ap (λ (l : List ℕ). numbers_text s.own ++ l) (word_only close b.rest c.word));
    })

pub record CellLines (room n : ℕ) (cs ds : Cells) (t u : List ℕ) : Type 0 where
  pub more : List ℕ
  pub es : List ℕ
  pub ks : List ℕ
  pub fs : List ℕ
  pub count : length es ≡ n
  pub nodes : ds.nodes ≡ cs.nodes ++ more
  pub most : length ds.nodes ≤ room
  pub ends : ds.ends ≡ cs.ends ++ es
  pub kinds : ds.kinds ≡ cs.kinds ++ ks
  pub families : ds.families ≡ cs.families ++ fs
  pub rises : Rises ds.nodes (length cs.nodes) es ks fs (length ds.nodes)
  pub is : t ≡ cells_text (length cs.nodes) ds.nodes es ks fs ++ u

-- a cell's own numbers, in the list of all
own_part : (ns own more all : List ℕ) (n e : ℕ) → all ≡ (ns ++ own) ++ more → n ≡ length ns → e ≡ length (ns ++ own) → take (e - n) (drop n all) ≡ own
own_part ns own more all n e q p r =
    let l : length (ns ++ own) ≡ length ns + length own = length-append ns own in
    let z : e - n ≡ length own = omega arith in
    rw (q, append_assoc ns own more, drop_at ns (own ++ more) n (sym p), z) (take_at own more (length own) refl)

module _ (room : ℕ) (cs : Cells) (x : Cell) {t₁ t₂ : List ℕ} (h : length cs.nodes ≤ room) (p : Line room cs.nodes x t₁ t₂) where
  room_left : length x.nodes ≤ room
  room_left = rw p.nodes (omega (arith, length-append cs.nodes p.own, p.most))

  one_line : {n : ℕ} {ds : Cells} {t u : List ℕ} → t ≡ cell_word ++ t₁ → CellLines room n (add_cell cs x) ds t₂ u → CellLines room (suc n) cs ds t u
  unfolding add_cell
  one_line {ds = ds} {u = u} w s =
      let all : ds.nodes ≡ (cs.nodes ++ p.own) ++ s.more = s.nodes ∙ ap (λ (l : List ℕ). l ++ s.more) p.nodes in
      let own : take (length x.nodes - length cs.nodes) (drop (length cs.nodes) ds.nodes) ≡ p.own
      = own_part cs.nodes p.own s.more ds.nodes (length cs.nodes) (length x.nodes) all refl (ap length p.nodes) in
      let front : length cs.nodes ≤ length x.nodes = omega (arith, ap length p.nodes, length-append cs.nodes p.own) in
      let back : length x.nodes ≤ length ds.nodes = omega (arith, ap length s.nodes, length-append x.nodes s.more) in
      record {
        more = p.own ++ s.more;
        es = length x.nodes ∷ s.es;
        ks = x.heading.kind ∷ s.ks;
        fs = x.heading.family ∷ s.fs;
        count = ap suc s.count;
        nodes = all ∙ append_assoc cs.nodes p.own s.more;
        most = s.most;
        ends = s.ends ∙ append_assoc cs.ends (length x.nodes ∷ []) s.es;
        kinds = s.kinds ∙ append_assoc cs.kinds (x.heading.kind ∷ []) s.ks;
        families = s.families ∙ append_assoc cs.families (x.heading.family ∷ []) s.fs;
        rises = cell front back p.kind p.family (rw own p.fits) s.rises;
        is =
            w
            ∙ ap (λ (l : List ℕ). cell_word ++ l) (p.is ∙ ap (λ (l : List ℕ). decimal x.heading.kind ++
            (space ++ (decimal x.heading.family ++ (numbers_text p.own ++ (close ++ l))))) s.is)
            ∙ ap (λ (l : List ℕ). cell_word ++ (decimal x.heading.kind ++
            (space ++ (decimal x.heading.family ++ (numbers_text l ++ (close ++ (cells_text (length x.nodes) ds.nodes s.es s.ks s.fs ++ u))))))) (sym own)
            ∙ sym (cell_apart (length cs.nodes) (length x.nodes) x.heading.kind x.heading.family ds.nodes s.es s.ks s.fs u);
      }

within : {room : ℕ} (cs : Cells) (x : Cell) → length x.nodes ≤ room → length (add_cell cs x).nodes ≤ room
unfolding add_cell
within cs x h = h

pub cells_turns : (room : ℕ) {n : ℕ} {cs ds : Cells} {t u : List ℕ} → length cs.nodes ≤ room → Turns cell_word (cell_step room) n cs ds t u → CellLines room n cs ds t u
unfolding cell_step cells_text
cells_turns room {cs = cs} h no_more =
    record {
      more = [];
      es = [];
      ks = [];
      fs = [];
      count = refl;
      nodes = sym (append-nil cs.nodes);
      most = h;
      ends = sym (append-nil cs.ends);
      kinds = sym (append-nil cs.kinds);
      families = sym (append-nil cs.families);
      rises = no_cells;
      is = refl;
    }
cells_turns room {cs = cs} h (turn {n = n} {b = ds} {t₁ = t₁} {u = u} w e r) =
    let a = then_got (cell_from room cs.nodes t₁) _ e in
    let p = cell_only room cs.nodes t₁ a.first in
    let s = cells_turns room (moved (λ b v. length b.nodes ≤ room) a.second (within cs a.value (room_left room cs a.value h p))) r in
    one_line room cs a.value h p w (moved (λ b v. CellLines room n b ds v u) (sym a.second) s)
