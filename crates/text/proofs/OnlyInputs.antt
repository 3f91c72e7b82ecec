-- Only printed text is read: whatever is read is an input whose text this is. Assumes nothing.
use mathlib.Core.Path.{◌≡◌, refl, sym, ap, ◌∙◌}
use mathlib.Core.List.{List, [], ◌∷◌, ◌++◌, append_assoc}
use Prim.Native.Nat.{ℕ, ◌≤◌}
use native.Mathlib.Omega.{arith}
use borrow.Author.Tests.{leb-true, eqb-true}
use lib.Dec.{leb, eqb}
use lib.ListN.{length}
use Rattle.std.specs.Prelude.{Option, None, Some, IfSome}
use Rattle.settings.specs.declared.Settings.{Settings}
use Rattle.text.specs.Text.{space, newline, close, overlay_word, mesh_word, node_word, cell_word, decimal, nodes_text, cells_text, Bits, mesh_text, grid_text, first_text, input_text}
use Rattle.text.specs.Read.{Rest, if_word, and_then, word_from, decimal_from, repeated, add_node, node_step, nodes_from, no_nodes, cell_step, cells_from, empty}
use Rattle.text.specs.Read.{mesh_from, grid_from, first_from, input_from}
use Rattle.text.specs.Given.{Parsed, Nodes, Cells, Limits, ReadMesh, Given}
use Rattle.text.specs.Inputs.{Fine, read, Within, Fits, Input, text_of, given, Readable}
use Rattle.text.proofs.Lines.{nodes_given}
use Rattle.text.proofs.Inputs.{mesh_apart, first_apart, input_back}
use Rattle.text.proofs.Only.{then_got, after_got, cond_got, moved, none_got, same_value, same_rest, word_only, decimal_only, repeated_only}
use Rattle.text.proofs.OnlyLines.{nodes_turns, cells_turns}

record MeshOf (l : Limits) (m : ReadMesh) (t u : List ℕ) : Type 0 where
  bits : Bits
  fine : Fine bits
  within : Within l bits
  mesh : read bits ≡ m
  is : t ≡ mesh_text bits ++ u

same_mesh : (m : Bits) (ns : Nodes) (cl : Cells) → ns ≡ nodes_given m.coords m.layers → cl.nodes ≡ m.nodes → cl.ends ≡ m.ends → cl.kinds ≡ m.kinds
    → cl.families ≡ m.families → read m ≡ record { points = ns; cells = cl }
unfolding read
same_mesh m ns cl p q r s t = rw (← p, ← q, ← r, ← s, ← t)

mesh_only : {m : ReadMesh} {u : List ℕ} (l : Limits) (t : List ℕ) → mesh_from l t ≡ Some (m, u) → MeshOf l m t u
unfolding mesh_from nodes_from cells_from add_node
mesh_only l t e =
    let a = after_got (word_from mesh_word t) _ e in
    let b = then_got (repeated node_word node_step l.nodes no_nodes a.rest) _ a.second in
    let c = then_got (repeated cell_word (cell_step l.entries) l.cells empty b.rest) _ b.second in
    let d = after_got (word_from close c.rest) _ c.second in
    let n = repeated_only node_word node_step l.nodes no_nodes a.rest b.first in
    let k = repeated_only cell_word (cell_step l.entries) l.cells empty b.rest c.first in
    let p = nodes_turns n.turns in
    let q = cells_turns l.entries (omega arith) k.turns in
    let m : Bits = record { coords = p.bits; layers = p.layers; nodes = c.value.nodes; ends = q.es; kinds = q.ks; families = q.fs } in
    record {
      bits = m;
      fine = record { points = p.fits; rises = q.rises };
      within = record { nodes = omega (arith, p.count, n.most); cells = omega (arith, q.count, k.most); entries = q.most };
      mesh = same_mesh m b.value c.value p.nodes refl q.ends q.kinds q.families ∙ same_value d.second;
      is =
          word_only mesh_word t a.word
          ∙ ap (λ (l : List ℕ). mesh_word ++ l) (p.is ∙ ap (λ (l : List ℕ). nodes_text p.bits p.layers ++ l)
          (q.is ∙ ap (λ (l : List ℕ). cells_text 0 c.value.nodes q.es q.ks q.fs ++ l)
          (word_only close c.rest d.word ∙ ap (λ (l : List ℕ). close ++ l) (same_rest d.second))))
          ∙ sym (mesh_apart m _);
    }

record GridOf (g : Option ℕ) (t u : List ℕ) : Type 0 where
  fits : IfSome g (λ k. k ≤ 4294967295)
  is : t ≡ grid_text g ++ u

grid_only : {g : Option ℕ} {u : List ℕ} (t : List ℕ) → grid_from t ≡ Some (g, u) → GridOf g t u
unfolding grid_from grid_text if_word
grid_only {g} {u} t e = go (word_from space t) refl e
  where
    go : (r : Rest) → word_from space t ≡ r → if_word r (λ t₁. and_then (decimal_from t₁) (λ k t₂. Some (Some k, t₂))) (Some (None, t)) ≡ Some (g, u) → GridOf g t u
    go None w e = moved (λ g u. GridOf g t u) e (record { fits = tt; is = refl })
    go (Some t₁) w e =
        let a = then_got (decimal_from t₁) _ e in
        let p = decimal_only t₁ a.first in
        moved (λ g u. GridOf g t u) a.second
        (record { fits = p.fits; is = word_only space t w ∙ ap (λ (l : List ℕ). space ++ l) p.is ∙ sym (append_assoc space (decimal a.value) a.rest) })

record FirstOf (s : Settings) (t u : List ℕ) : Type 0 where
  fits : Fits s
  is : t ≡ first_text s ++ u

first_only : {s : Settings} {u : List ℕ} (t : List ℕ) → first_from t ≡ Some (s, u) → FirstOf s t u
unfolding first_from
first_only t e =
    let a = after_got (word_from overlay_word t) _ e in
    let b = then_got (decimal_from a.rest) _ a.second in
    let c = after_got (word_from space b.rest) _ b.second in
    let d = then_got (decimal_from c.rest) _ c.second in
    let g = then_got (grid_from d.rest) _ d.second in
    let f = after_got (word_from newline g.rest) _ g.second in
    let p = decimal_only a.rest b.first in
    let q = decimal_only c.rest d.first in
    let r = grid_only d.rest g.first in
    moved (λ s u. FirstOf s t u) f.second
    (record {
      fits = record { op = p.fits; m = q.fits; grid = r.fits };
      is =
          word_only overlay_word t a.word
          ∙ ap (λ (l : List ℕ). overlay_word ++ l) (p.is ∙ ap (λ (l : List ℕ). decimal b.value ++ l)
          (word_only space b.rest c.word ∙ ap (λ (l : List ℕ). space ++ l)
          (q.is ∙ ap (λ (l : List ℕ). decimal d.value ++ l)
          (r.is ∙ ap (λ (l : List ℕ). grid_text g.value ++ l) (word_only newline g.rest f.word)))))
          ∙ sym (first_apart (record { op = b.value; m = d.value; grid = g.value }) f.rest);
    })

-- whatever is read is an input whose text this is
pub record InputOf (l k : Limits) (g : Given) (t : List ℕ) : Type 0 where
  pub input : Input
  pub readable : Readable l k input
  pub read_as : given input ≡ g
  pub is : t ≡ text_of input

empty_rest : (l : List ℕ) → length l ≡ 0 → l ≡ []
empty_rest [] e = refl
empty_rest (x ∷ l) e = absurd (omega (arith, e))

same_given : (f : Settings) {s s' c c' : ReadMesh} → s ≡ s' → c ≡ c' → ◌≡◌ {A = Given} (record { settings = f; subject = s; cutter = c }) (record { settings = f; subject = s'; cutter = c' })
same_given f p q = rw (p, q)

pub input_only : {g : Given} {u : List ℕ} (l k : Limits) (t : List ℕ) → input_from l k t ≡ Some (g, u) → InputOf l k g t
unfolding input_from input_text
input_only l k t e =
    let z = cond_got (leb (length t) 65536) _ e in
    let a = then_got (first_from t) _ z.1 in
    let b = then_got (mesh_from l a.rest) _ a.second in
    let c = then_got (mesh_from k b.rest) _ b.second in
    let d = after_got (word_from close c.rest) _ c.second in
    let n = cond_got (eqb (length d.rest) 0) _ d.second in
    let f = first_only t a.first in
    let s = mesh_only l a.rest b.first in
    let x = mesh_only k b.rest c.first in
    let i : Input = record { settings = a.value; subject = s.bits; cutter = x.bits } in
    let q : t ≡ text_of i
    = f.is ∙ ap (λ (l : List ℕ). first_text a.value ++ l)
    (s.is ∙ ap (λ (l : List ℕ). mesh_text s.bits ++ l) (x.is ∙ ap (λ (l : List ℕ). mesh_text x.bits ++ l)
    (word_only close c.rest d.word ∙ ap (λ (l : List ℕ). close ++ l) (empty_rest d.rest (eqb-true (length d.rest) 0 n.0))))) in
    record {
      input = i;
      readable =
          record {
            settings = f.fits;
            subject = s.fine;
            cutter = x.fine;
            within = s.within;
            within' = x.within;
            bytes = rw (sym q) (leb-true (length t) 65536 z.0);
          };
      read_as = same_given a.value s.mesh x.mesh ∙ same_value n.1;
      is = q;
    }

-- a text is unread exactly where it is the text of no input
module _ (l k : Limits) (t : List ℕ) where
  pub unread_none : input_from l k t ≡ None → (i : Input) → Readable l k i → text_of i ≡ t → ⊥
  unread_none e i r q = none_got (sym e ∙ ap (input_from l k) (sym q) ∙ input_back l k i r)

  pub none_unread : ((i : Input) → Readable l k i → text_of i ≡ t → ⊥) → input_from l k t ≡ None
  none_unread h = go (input_from l k t) refl
    where
      go : (p : Parsed Given) → input_from l k t ≡ p → p ≡ None
      go None e = refl
      go (Some (g, u)) e = let r = input_only l k t e in absurd (h r.input r.readable (sym r.is))
