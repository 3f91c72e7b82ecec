-- A table and an outline with an edge more: an own edge, or one near the cell. Assumes nothing.
use mathlib.Core.Path.{◌≡◌, refl, sym, ap, ap₂, ◌∙◌}
use mathlib.Core.Bool.{Bool, true, false, cond, not, ◌&&◌, and-false}
use mathlib.Core.List.{List, [], ◌∷◌, ◌++◌, map, append-nil, append_assoc}
use Prim.Native.Nat.{ℕ, ◌+◌, ◌*◌, ◌-◌, ◌≤◌, ◌<◌}
use native.Mathlib.Omega.{arith}
use lib.Dec.{eqb}
use lib.ListN.{length, get_or, take, drop, length-append, length-map}
use lib.Ieee.{Float}
use borrow.Author.Tests.{eq-eqb, ne_eqb, lt-ltb, le-ltb, ltb-true, ltb-false}
use Rattle.std.proofs.Common.{Result, Ok, Err, is_err}
use Rattle.lists.specs.Gather.{tally, joined}
use Rattle.lists.specs.Sort.{sort_onto}
use Rattle.lists.proofs.Sort.{sort_onto_append, length_sort_onto}
use Rattle.dart_table.specs.declared.Full.{Full}
use Rattle.cutting.specs.declared.Slot.{Slot}
use Rattle.cutting.specs.Edges.{Edge, key, reversed_if, hops}
use Rattle.cutting.specs.Cell.{windows, darts_along, own_darts, near_darts, edge_slots, reverse_mark, names, is_new, stands_before}
use Rattle.cutting.specs.Outcome.{too_many}
use Rattle.cutting.specs.Lent.{flat_edges}
use Rattle.dart_table.specs.Table.{Darts, darts, Table, full, table_in, with_darts, with_edge, with_edges, outline_with}
use Rattle.cutting.proofs.CellLaws.{slots_append, slots_length}
use Rattle.cutting.proofs.Pairs.{windows_length, ends_length, ends_append}

-- ---- along a list of nodes

pub some_of : (ns : List ℕ) → eqb (length ns) 0 ≡ false → 0 < length ns
some_of [] h = cc
some_of (x ∷ ns) h = omega arith

-- w is the next window of two
pub window_first : (ns w : List ℕ) {size : ℕ} → size ≡ 2 → size ≤ length ns → w ≡ take size ns → windows ns ≡ (get_or w 0 0, get_or w 1 0) ∷ windows (drop 1 ns)
unfolding hops
window_first [] w two h e = absurd (omega arith)
window_first (x ∷ []) w two h e = absurd (omega arith)
window_first (x ∷ y ∷ ns) w two h e = ap (λ (v : List ℕ). (get_or v 0 0, get_or v 1 0) ∷ hops y ns) (sym (e ∙ ap (λ (n : ℕ). take n (x ∷ y ∷ ns)) two))

-- there is none left
pub window_last : (ns : List ℕ) {size : ℕ} → size ≡ 2 → length ns < size → windows ns ≡ []
unfolding hops
window_last [] two h = refl
window_last (x ∷ []) two h = refl
window_last (x ∷ y ∷ ns) two h = absurd (omega arith)

pub windows_count : (ns : List ℕ) → 0 < length ns → length (windows ns) ≡ length ns - 1
windows_count [] h = absurd (omega arith)
windows_count (x ∷ ns) h = omega (arith, windows_length x ns)

pub darts_length : (second : ℕ) (ns : List ℕ) → 0 < length ns → length (darts_along second ns) ≡ length ns - 1
unfolding darts_along
darts_length second ns h = omega (arith, length-map (windows ns) (reversed_if (eqb second (get_or ns 0 0))), windows_count ns h)

-- ---- an own edge's darts, as they are added one after the other

-- `rest` are the nodes from the last that was reached on
pub record Laying (coords : List Float) (inv : Bool) (nodes : List ℕ) (d₀ : Darts) (rest : List ℕ) (d : Darts) : Type 0 where
  pub done : List Edge
  pub left : done ++ map (reversed_if inv) (windows rest) ≡ map (reversed_if inv) (windows nodes)
  pub outlined : d.outline ≡ d₀.outline ++ flat_edges done
  pub inserted : d.slots ≡ sort_onto (stands_before coords) d₀.slots (edge_slots reverse_mark done)

module _ (coords : List Float) (inv : Bool) (nodes : List ℕ) (d₀ : Darts) where
  pub lay_start : Laying coords inv nodes d₀ nodes d₀
  unfolding sort_onto edge_slots flat_edges joined
  lay_start = record { done = []; left = refl; outlined = sym (append-nil d₀.outline); inserted = refl }

  module _ (rest : List ℕ) (d : Darts) (v : Laying coords inv nodes d₀ rest d) where
    count : length d.slots ≡ length d₀.slots + 2 * length v.done
    count = omega (arith, ap length v.inserted, length_sort_onto (stands_before coords) d₀.slots (edge_slots reverse_mark v.done), slots_length reverse_mark v.done)

    entries : length d.outline ≡ length d₀.outline + 2 * length v.done
    entries = omega (arith, ap length v.outlined, length-append d₀.outline (flat_edges v.done), ends_length v.done)

    whole : length v.done + length (windows rest) ≡ length (windows nodes)
    whole = omega (
      arith,
      ap length v.left,
      length-append v.done (map (reversed_if inv) (windows rest)),
      length-map (windows rest) (reversed_if inv),
      length-map (windows nodes) (reversed_if inv),
    )

    module _ (w : List ℕ) {size : ℕ} (two : size ≡ 2) (h : size ≤ length rest) (ew : w ≡ take size rest) where
      -- there is room for one more
      pub lay_room : length d₀.slots + 2 * length nodes ≤ 1026 → length d.slots + 2 ≤ 1024
      lay_room few = omega (arith, few, count, whole, most nodes, ap length (window_first rest w two h ew))
        where
          most : (ns : List ℕ) → length (windows ns) ≤ length ns - 1
          most [] = omega arith
          most (x ∷ ns) = omega (arith, windows_length x ns)

      module _ (e : Edge) (ee : e ≡ reversed_if inv (get_or w 0 0, get_or w 1 0)) (d' : Darts)
          (added : d' ≡ darts (sort_onto (stands_before coords) d.slots (edge_slots reverse_mark (e ∷ []))) d.outline) where
        -- and in the outline
        pub lay_fits : length d₀.outline ≤ length d₀.slots → length d₀.slots + 2 * length nodes ≤ 1026 → (length d'.outline + 2 ≤ length d'.slots) × (length d'.slots ≤ 1024)
        lay_fits short few =
            let slots : length d'.slots ≡ length d.slots + 2 = omega (
              arith,
              ap (λ (x : Darts). length x.slots) added,
              length_sort_onto (stands_before coords) d.slots (edge_slots reverse_mark (e ∷ [])),
              slots_length reverse_mark (e ∷ []),
            ) in
            (omega (arith, slots, ap (λ (x : Darts). length x.outline) added, count, entries), omega (arith, slots, lay_room few))

        pub lay_turn : (d'' : Darts) → d'' ≡ darts d'.slots (d'.outline ++ e.0 ∷ e.1 ∷ []) → Laying coords inv nodes d₀ (drop 1 rest) d''
        unfolding flat_edges joined
        lay_turn d'' outlined = record {
          done = v.done ++ e ∷ [];
          left = append_assoc v.done (e ∷ []) (map (reversed_if inv) (windows (drop 1 rest)))
              ∙ ap (λ (x : Edge). v.done ++ x ∷ map (reversed_if inv) (windows (drop 1 rest))) ee
              ∙ ap (λ (es : List Edge). v.done ++ map (reversed_if inv) es) (sym (window_first rest w two h ew)) ∙ v.left;
          outlined = ap (λ (x : Darts). x.outline) outlined ∙ ap (λ (x : Darts). x.outline ++ e.0 ∷ e.1 ∷ []) added ∙ ap (λ (l : List ℕ). l ++ e.0 ∷ e.1 ∷ []) v.outlined
              ∙ append_assoc d₀.outline (flat_edges v.done) (e.0 ∷ e.1 ∷ [])
              ∙ ap (λ (l : List ℕ). d₀.outline ++ l) (sym (ends_append v.done (e ∷ [])));
          inserted = ap (λ (x : Darts). x.slots) outlined ∙ ap (λ (x : Darts). x.slots) added
              ∙ ap (λ (u : List Slot). sort_onto (stands_before coords) u (edge_slots reverse_mark (e ∷ []))) v.inserted
              ∙ sym (sort_onto_append (stands_before coords) d₀.slots (edge_slots reverse_mark v.done) (edge_slots reverse_mark (e ∷ [])))
              ∙ ap (sort_onto (stands_before coords) d₀.slots) (sym (slots_append reverse_mark v.done (e ∷ [])));
        }

    pub lay_end : {size : ℕ} → size ≡ 2 → length rest < size → d ≡ darts (sort_onto (stands_before coords) d₀.slots (edge_slots reverse_mark (map (reversed_if inv) (windows nodes))))
        (d₀.outline ++ flat_edges (map (reversed_if inv) (windows nodes)))
    lay_end two h =
        let all : v.done ≡ map (reversed_if inv) (windows nodes) = sym (append-nil v.done) ∙ ap (λ (es : List Edge). v.done ++ map (reversed_if inv) es)
        (sym (window_last rest two h)) ∙ v.left in
        ap₂ darts (v.inserted ∙ ap (λ (es : List Edge). sort_onto (stands_before coords) d₀.slots (edge_slots reverse_mark es)) all)
        (v.outlined ∙ ap (λ (es : List Edge). d₀.outline ++ flat_edges es) all)

-- ---- with more darts

module _ (coords : List Float) (back : Bool) (es : List Edge) (t : List Slot) where
  abbrev all : List Slot
  all = sort_onto (stands_before coords) t (edge_slots back es)

  -- n slots are too many
  pub darts_full : (n : ℕ) → n ≡ length t + 2 * length es → 1024 < n → table_in (full n) t ≡ with_darts coords back es t
  unfolding with_darts
  darts_full n e h = ap (λ (k : ℕ). table_in (full k) t) e
      ∙ sym (ap (λ (b : Bool). cond b (table_in (full (length t + 2 * length es)) t) (table_in (Ok tt) all)) (lt-ltb 1024 (length t + 2 * length es) (omega (arith, h, e))))

  pub darts_fit : (u : List Slot) → length t + 2 * length es ≤ 1024 → u ≡ all → table_in (Ok tt) u ≡ with_darts coords back es t
  unfolding with_darts
  darts_fit u h e = ap (table_in (Ok tt)) e
      ∙ sym (ap (λ (b : Bool). cond b (table_in (full (length t + 2 * length es)) t) (table_in (Ok tt) all)) (le-ltb 1024 (length t + 2 * length es) h))

  -- and what the answer tells of them
  pub darts_tell : (is_err (with_darts coords back es t).answer ≡ false → (length t + 2 * length es ≤ 1024) × ((with_darts coords back es t).slots ≡ all))
      × (is_err (with_darts coords back es t).answer ≡ true → 1024 < length t + 2 * length es)
  unfolding with_darts
  darts_tell = go (too_many (length t + 2 * length es)) refl
    where
      go : (b : Bool) → too_many (length t + 2 * length es) ≡ b → let u : Table = cond b (table_in (full (length t + 2 * length es)) t) (table_in (Ok tt) all) in
          (is_err u.answer ≡ false → (length t + 2 * length es ≤ 1024) × (u.slots ≡ all)) × (is_err u.answer ≡ true → 1024 < length t + 2 * length es)
      go true e = ((λ h. cc), (λ h. ltb-true 1024 (length t + 2 * length es) e))
      go false e = ((λ h. (ltb-false 1024 (length t + 2 * length es) e, refl)), (λ h. cc))

module _ (es : List Edge) (n : ℕ) (w : List ℕ) where
  pub outline_full : 1024 < n + 2 * length es → w ≡ outline_with es n w
  unfolding outline_with
  outline_full h = sym (ap (λ (b : Bool). cond b w (w ++ flat_edges es)) (lt-ltb 1024 (n + 2 * length es) h))

  pub outline_fit : n + 2 * length es ≤ 1024 → w ++ flat_edges es ≡ outline_with es n w
  unfolding outline_with
  outline_fit h = sym (ap (λ (b : Bool). cond b w (w ++ flat_edges es)) (le-ltb 1024 (n + 2 * length es) h))

module _ (a b : ℕ) where
  pub own_whole : (nodes : List ℕ) → length nodes ≡ 0 → darts_along b (a ∷ b ∷ []) ≡ own_darts (record { edge = (a, b); nodes = nodes })
  unfolding own_darts
  own_whole [] h = refl
  own_whole (m ∷ ns) h = absurd (omega arith)

  pub own_along : (nodes : List ℕ) → 0 < length nodes → darts_along b nodes ≡ own_darts (record { edge = (a, b); nodes = nodes })
  unfolding own_darts
  own_along [] h = absurd (omega arith)
  own_along (m ∷ ns) h = refl

  pub near_whole : (nodes : List ℕ) → length nodes ≡ 0 → key (a, b) ∷ [] ≡ near_darts (record { edge = (a, b); nodes = nodes })
  unfolding near_darts
  near_whole [] h = refl
  near_whole (m ∷ ns) h = absurd (omega arith)

  pub near_along : (nodes : List ℕ) → 0 < length nodes → windows nodes ≡ near_darts (record { edge = (a, b); nodes = nodes })
  unfolding near_darts
  near_along [] h = absurd (omega arith)
  near_along (m ∷ ns) h = refl

-- ---- an edge near the cell

module _ (coords : List Float) (a b : ℕ) (t : List Slot) where
  abbrev one : Table
  one = with_darts coords false ((a, b) ∷ []) t

  edge_by : (x : Bool) → is_new t (a, b) ≡ x → cond x one (table_in (Ok tt) t) ≡ with_edge coords (a, b) t
  unfolding with_edge
  edge_by x e = sym (ap (λ (y : Bool). cond y one (table_in (Ok tt) t)) e)

  pub edge_loop : a ≡ b → table_in (Ok tt) t ≡ with_edge coords (a, b) t
  unfolding is_new
  edge_loop e = edge_by false (ap (λ (x : Bool). not x && eqb (tally (names a b) t) 0) (eq-eqb a b e))

  pub edge_known : 0 < tally (names a b) t → table_in (Ok tt) t ≡ with_edge coords (a, b) t
  unfolding is_new
  edge_known h = edge_by false (ap (λ (x : Bool). not (eqb a b) && x) (ne_eqb (tally (names a b) t) 0 (λ z. omega (arith, h, z))) ∙ and-false (not (eqb a b)))

  pub edge_new : (a ≡ b → ⊥) → tally (names a b) t ≡ 0 → one ≡ with_edge coords (a, b) t
  unfolding is_new
  edge_new apart none = edge_by true (ap₂ (λ (x y : Bool). not x && y) (ne_eqb a b apart) (eq-eqb (tally (names a b) t) 0 none))

-- ---- edges one after the other

module _ (coords : List Float) where
  one_alone : (r : Result (Unit {0}) Full) (s : List Slot) → cond (is_err r) (table_in r s) (table_in (Ok tt) s) ≡ table_in r s
  one_alone (Ok x) s = refl
  one_alone (Err e) s = refl

  pub edge_alone : (e : Edge) (t : List Slot) → with_edge coords e t ≡ with_edges coords (e ∷ []) t
  unfolding with_edges
  edge_alone e t = let u = with_edge coords e t in sym (one_alone u.answer u.slots)

  -- the windows of `rest`, one by one: what all of them make
  module _ (rest : List ℕ) {size : ℕ} (two : size ≡ 2) (t : List Slot) {all : Table} (inv : with_edges coords (windows rest) t ≡ all) where
    pub windows_out : length rest < size → table_in (Ok tt) t ≡ all
    unfolding with_edges
    windows_out h = sym (ap (λ (es : List Edge). with_edges coords es t) (window_last rest two h)) ∙ inv

    module _ (w : List ℕ) (h : size ≤ length rest) (ew : w ≡ take size rest) where
      abbrev after_one : Table → Table
      after_one v = cond (is_err v.answer) v (with_edges coords (windows (drop 1 rest)) v.slots)

      one_first : after_one (with_edge coords (get_or w 0 0, get_or w 1 0) t) ≡ all
      unfolding with_edges
      one_first = sym (ap (λ (es : List Edge). with_edges coords es t) (window_first rest w two h ew)) ∙ inv

      pub window_next : {u : List Slot} {x : Unit {0}} → table_in (Ok x) u ≡ with_edge coords (get_or w 0 0, get_or w 1 0) t → {rest' : List ℕ} → rest' ≡ drop 1 rest
          → with_edges coords (windows rest') u ≡ all
      window_next {u} got e = ap (λ (r : List ℕ). with_edges coords (windows r) u) e ∙ ap after_one got ∙ one_first

      pub window_stop : {u : List Slot} {r : Full} → table_in (Err r) u ≡ with_edge coords (get_or w 0 0, get_or w 1 0) t → table_in (Err r) u ≡ all
      window_stop got = ap after_one got ∙ one_first
