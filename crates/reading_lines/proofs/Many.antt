-- One turn of the loops over lines and numbers. Assumes nothing.
use Rattle.std.proofs.Common.{◌≡◌, refl, ℕ, zero, suc, ◌+◌, ◌-◌, ◌*◌, ◌≤◌, ◌<◌, List, [], ◌∷◌, ◌++◌, append_assoc, append-nil, ap, sym, ◌∙◌, Some, None, option_map}
use native.Mathlib.Numerals.{add-one, unary_clauses}
use native.Mathlib.Omega.{arith}
use lib.ListN.{length, set, take, drop, length-set, length-append}
use lib.Seq.{take-suc-set, length-take-le, take-append-add}
use Rattle.std.proofs.lemmas.List.{take-append-le}
use lib.Ieee.{Float}
use Rattle.text.specs.Text.{node_word, cell_word, space, close}
use Rattle.text.specs.Read.{Rest, Heading, Cell, repeated, if_word, and_then, after_word, word_from, head_from, node_from, add_node, node_step, nodes_from}
use Rattle.text.specs.Read.{decimal_from, entry_step, entries_from, cell_from, add_cell, cell_step, cells_from}
use Rattle.text.specs.Given.{Parsed, Cells}
use Rattle.reading_lines.specs.Lines.{nodes_of}
use Rattle.text.proofs.Repeats.{repeated_stop, repeated_end, repeated_bad, repeated_step}

module _ {A : Type 0} where
  pub one_more : (l : List A) (n : ℕ) (x : A) → n < length l → take (n + 1) (set l n x) ≡ take n l ++ (x ∷ [])
  one_more l n x h = rw (add-one, take-suc-set l n x h)

  pub two_more : (l : List A) (n : ℕ) (x y : A) → n + 1 < length l → take (n + 2) (set (set l n x) (n + 1) y) ≡ take n l ++ (x ∷ y ∷ [])
  two_more l n x y h =
      let e : n + 2 ≡ n + 1 + 1 = omega arith in
      rw (e, one_more (set l n x) (n + 1) y (rw length-set h), one_more l n x (omega arith), append_assoc)

-- ---- node lines
module _ (room k : ℕ) (cs : List Float) (ls t : List ℕ) where
  pub nodes_end : room ≤ k → nodes_from (room - k) (nodes_of k cs ls) t ≡ Some (nodes_of k cs ls, t)
  unfolding nodes_from
  nodes_end h = repeated_end node_word node_step (nodes_of k cs ls) t room k h

  pub nodes_stop : word_from node_word t ≡ None → nodes_from (room - k) (nodes_of k cs ls) t ≡ Some (nodes_of k cs ls, t)
  unfolding nodes_from
  nodes_stop e = repeated_stop node_word node_step (nodes_of k cs ls) t (room - k) e

  module _ (h : k < room) (t₁ : List ℕ) (e : word_from node_word t ≡ Some t₁) where
    pub nodes_bad : node_from t₁ ≡ None → nodes_from (room - k) (nodes_of k cs ls) t ≡ None
    unfolding nodes_from node_step and_then
    nodes_bad g = repeated_bad node_word node_step (nodes_of k cs ls) t room k h t₁ e (rw g)

    pub nodes_turn : (x y : Float) (l : ℕ) (t₂ : List ℕ) → 2 * room ≤ length cs → room ≤ length ls
        → node_from t₁ ≡ Some (record { coords = x ∷ y ∷ []; layers = l ∷ [] }, t₂)
        → nodes_from (room - k) (nodes_of k cs ls) t ≡ nodes_from (room - (k + 1)) (nodes_of (k + 1) (set (set cs (2 * k) x) (2 * k + 1) y) (set ls k l)) t₂
    unfolding nodes_from node_step and_then add_node
    nodes_turn x y l t₂ m n g =
        let e₂ : 2 * (k + 1) ≡ 2 * k + 2 = omega arith in
        rw (e₂, two_more cs (2 * k) x y (omega arith), one_more ls k l (omega arith))
        (repeated_step node_word node_step (nodes_of k cs ls) t room k h t₁ e
        (record { coords = take (2 * k) cs ++ (x ∷ y ∷ []); layers = take k ls ++ (l ∷ []) }) t₂ (rw g))

pub ruleset nodes_steps = (nodes_end, nodes_stop, nodes_bad, nodes_turn)

-- ---- a cell's numbers
module _ (room k : ℕ) (ns t : List ℕ) where
  pub entries_end : room ≤ k → entries_from (room - k) (take k ns) t ≡ Some (take k ns, t)
  unfolding entries_from
  entries_end h = repeated_end space entry_step (take k ns) t room k h

  pub entries_stop : word_from space t ≡ None → entries_from (room - k) (take k ns) t ≡ Some (take k ns, t)
  unfolding entries_from
  entries_stop e = repeated_stop space entry_step (take k ns) t (room - k) e

  module _ (h : k < room) (t₁ : List ℕ) (e : word_from space t ≡ Some t₁) where
    pub entries_bad : decimal_from t₁ ≡ None → entries_from (room - k) (take k ns) t ≡ None
    unfolding entries_from entry_step and_then
    entries_bad g = repeated_bad space entry_step (take k ns) t room k h t₁ e (rw g)

    pub entries_turn : (v : ℕ) (t₂ : List ℕ) → room ≤ length ns → decimal_from t₁ ≡ Some (v, t₂)
        → entries_from (room - k) (take k ns) t ≡ entries_from (room - (k + 1)) (take (k + 1) (set ns k v)) t₂
    unfolding entries_from entry_step and_then
    entries_turn v t₂ l g =
        rw (one_more ns k v (omega arith)) (repeated_step space entry_step (take k ns) t room k h t₁ e (take k ns ++ (v ∷ [])) t₂ (rw g))

pub ruleset entries_steps = (entries_end, entries_stop, entries_bad, entries_turn)

-- what is read behind the entries ns, in a list of its own
abbrev pub behind : {A : Type 0} → (A → A) → Parsed A → Parsed A
behind f r = option_map (λ p. (f p.0, p.1)) r

pub entries_behind : (k : ℕ) (ns ms t : List ℕ) → entries_from k (ns ++ ms) t ≡ behind (λ (l : List ℕ). ns ++ l) (entries_from k ms t)
unfolding entries_from repeated entry_step and_then if_word
entries_behind zero ns ms t = refl
entries_behind (suc k) ns ms t = go (λ ms t. entries_behind k ns ms t) (word_from space t)
  where
    go : ((ms t : List ℕ) → repeated space entry_step k (ns ++ ms) t ≡ behind (λ (l : List ℕ). ns ++ l) (repeated space entry_step k ms t))
        → (r : Rest) → if_word r (λ t₁. and_then (entry_step (ns ++ ms) t₁) (λ a t₂. repeated space entry_step k a t₂)) (Some (ns ++ ms, t))
        ≡ behind (λ (l : List ℕ). ns ++ l) (if_word r (λ t₁. and_then (entry_step ms t₁) (λ a t₂. repeated space entry_step k a t₂)) (Some (ms, t)))
    go ih None = refl
    go ih (Some t₁) = after (decimal_from t₁)
      where
        after : (p : Parsed ℕ) → and_then (and_then p (λ n t₂. Some ((ns ++ ms) ++ (n ∷ []), t₂))) (λ a t₂. repeated space entry_step k a t₂)
            ≡ behind (λ (l : List ℕ). ns ++ l) (and_then (and_then p (λ n t₂. Some (ms ++ (n ∷ []), t₂))) (λ a t₂. repeated space entry_step k a t₂))
        after None = refl
        after (Some (n, t₂)) = rw (append_assoc ns ms (n ∷ [])) (ih (ms ++ (n ∷ [])) t₂)

abbrev pub more_corners : List ℕ → Cell → Cell
more_corners ns x = record { heading = x.heading; nodes = ns ++ x.nodes }

abbrev closing : Heading → List ℕ → List ℕ → Parsed Cell
closing h ms t = after_word (word_from close t) (λ t₁. Some (record { heading = h; nodes = ms }, t₁))

closed : (ns : List ℕ) (h : Heading) (r : Parsed (List ℕ)) → and_then (behind (λ (l : List ℕ). ns ++ l) r) (closing h) ≡ behind (more_corners ns) (and_then r (closing h))
unfolding and_then after_word
closed ns h None = refl
closed ns h (Some (ms, t)) = go (word_from close t)
  where
    go : (r : Rest) → after_word r (λ t₁. Some (record { heading = h; nodes = ns ++ ms }, t₁)) ≡ behind (more_corners ns) (after_word r (λ t₁. Some (record { heading = h; nodes = ms }, t₁)))
    go None = refl
    go (Some t₁) = refl

pub cell_behind : (room : ℕ) (ns t : List ℕ) → cell_from room ns t ≡ behind (more_corners ns) (cell_from (room - length ns) [] t)
unfolding cell_from and_then
cell_behind room ns t = simp unary_clauses (go (head_from t))
  where
    go : (r : Parsed Heading) → and_then r (λ h t₁. and_then (entries_from (room - length ns) ns t₁) (closing h))
        ≡ behind (more_corners ns) (and_then r (λ h t₁. and_then (entries_from (room - length ns) [] t₁) (closing h)))
    go None = refl
    go (Some (h, t₁)) =
        let e : entries_from (room - length ns) ns t₁ ≡ behind (λ (l : List ℕ). ns ++ l) (entries_from (room - length ns) [] t₁)
        = ap (λ l. entries_from (room - length ns) l t₁) (sym (append-nil ns)) ∙ entries_behind (room - length ns) ns [] t₁ in
        rw e (closed ns h (entries_from (room - length ns) [] t₁))

-- ---- cell lines
abbrev pub first : List ℕ → List ℕ → List ℕ → List ℕ → ℕ → ℕ → Cells
first ns es ks fs k n = record { nodes = take n ns; ends = take k es; kinds = take k ks; families = take k fs }

-- a list whose part from n on is ws
pub joined : (ns ws : List ℕ) (n m : ℕ) → n ≤ length ns → m ≤ length ws → take (n + m) (take n ns ++ (ws ++ drop (length ns - n) (drop n ns))) ≡ take n ns ++ take m ws
joined ns ws n m h l =
    let e : length (take n ns) ≡ n = length-take-le n ns h in
    let rest = ws ++ drop (length ns - n) (drop n ns) in
    ap (λ k. take (k + m) (take n ns ++ rest)) (sym e) ∙ take-append-add (take n ns) rest m ∙ ap (λ l. take n ns ++ l) (take-append-le m ws _ l)

module _ (room k n : ℕ) (ns es ks fs t : List ℕ) where
  pub cells_end : (most : ℕ) → room ≤ k → cells_from most (room - k) (first ns es ks fs k n) t ≡ Some (first ns es ks fs k n, t)
  unfolding cells_from
  cells_end most h = repeated_end cell_word (cell_step most) (first ns es ks fs k n) t room k h

  pub cells_stop : (most : ℕ) → word_from cell_word t ≡ None → cells_from most (room - k) (first ns es ks fs k n) t ≡ Some (first ns es ks fs k n, t)
  unfolding cells_from
  cells_stop most e = repeated_stop cell_word (cell_step most) (first ns es ks fs k n) t (room - k) e

  module _ (most : ℕ) (l : length ns ≡ most) (f : n ≤ most) (h : k < room) (t₁ : List ℕ) (e : word_from cell_word t ≡ Some t₁) where
    here : (r : Parsed Cell) → cell_from (most - n) [] t₁ ≡ r → cell_from most (take n ns) t₁ ≡ behind (more_corners (take n ns)) r
    here r g =
        let m : length (take n ns) ≡ n = length-take-le n ns (omega arith) in
        cell_behind most (take n ns) t₁ ∙ ap (λ k. behind (more_corners (take n ns)) (cell_from (most - k) [] t₁)) m ∙ ap (behind (more_corners (take n ns))) g

    pub cells_bad : cell_from (most - n) [] t₁ ≡ None → cells_from most (room - k) (first ns es ks fs k n) t ≡ None
    unfolding cells_from cell_step and_then
    cells_bad g = repeated_bad cell_word (cell_step most) (first ns es ks fs k n) t room k h t₁ e (rw (here None g))

    pub cells_turn : (kind family m : ℕ) (ws t₂ ns' : List ℕ) → room ≤ length es → room ≤ length ks → room ≤ length fs → m ≤ length ws
        → ns' ≡ take n ns ++ (ws ++ drop (length ns - n) (drop n ns))
        → cell_from (most - n) [] t₁ ≡ Some (record { heading = record { kind = kind; family = family }; nodes = take m ws }, t₂)
        → cells_from most (room - k) (first ns es ks fs k n) t ≡ cells_from most (room - (k + 1)) (first ns' (set es k (n + m)) (set ks k kind) (set fs k family) (k + 1) (n + m)) t₂
    unfolding cells_from cell_step and_then add_cell
    cells_turn kind family m ws t₂ ns' le lk lf lm p g =
        let ms = take n ns ++ take m ws in
        let j : take (n + m) ns' ≡ ms = rw p (joined ns ws n m (omega arith) lm) in
        let long : length ms ≡ n + m = omega (arith, length-append (take n ns) (take m ws), length-take-le n ns (omega arith), length-take-le m ws lm) in
        rw (j, one_more es k (n + m) (omega arith), one_more ks k kind (omega arith), one_more fs k family (omega arith))
        (repeated_step cell_word (cell_step most) (first ns es ks fs k n) t room k h t₁ e
        (record { nodes = ms; ends = take k es ++ ((n + m) ∷ []); kinds = take k ks ++ (kind ∷ []); families = take k fs ++ (family ∷ []) })
        t₂ (rw (here _ g, long)))

pub ruleset cells_steps = (cells_end, cells_stop, cells_bad)
