-- What a cell's table holds, and its walk: unless it is doubled, the pieces close up to the outline. Assumes nothing.
use mathlib.Core.Path.{◌≡◌, refl, sym, ap, ap₂}
use mathlib.Core.Bool.{Bool, true, false, not, ◌&&◌, ◌||◌, and-false, and-true, true≢false}
use mathlib.Core.List.{List, [], ◌∷◌}
use Prim.Native.Nat.{ℕ, ◌+◌, ◌*◌, ◌≤◌, ◌<◌}
use native.Mathlib.Omega.{arith}
use lib.Dec.{eqb, ltb}
use lib.ListN.{length, length-map}
use borrow.Author.Tests.{ltb-true, ltb-false}
use Rattle.lists.specs.Search.{bit, many}
use Rattle.lists.specs.Gather.{tally}
use Rattle.cutting.specs.Edges.{Edge, rings, hit, times}
use Rattle.cutting.specs.Cell.{edge_slots, reverse_mark, table, names, doubled}
use Rattle.cutting.specs.declared.Slot.{Slot}
use Rattle.cutting.specs.Walk.{closed, slot, leads, starts, walk_from, srcs, dsts, marks_of, walk_with}
use Rattle.cutting.specs.Areas.{Closes}
use Rattle.lists.proofs.Gather.{tally_append}
use Rattle.lists.proofs.Search.{many_some, first_some, both_true, or_false}
use Rattle.cutting.proofs.EdgeLaws.{both, hit_back, hit_self}
use Rattle.cutting.proofs.Kept.{free, named, on, close, slot_hit}

abbrev opens : ℕ → ℕ → Slot → Bool
opens a b s = names a b s && not s.marked

named_tally : (a b : ℕ) (t : List Slot) → named (length t) (srcs t) (dsts t) a b ≡ tally (names a b) t
unfolding named many tally
named_tally a b [] = refl
named_tally a b (s ∷ t) = ap (λ (k : ℕ). bit (names a b s) + k) (named_tally a b t)

free_tally : (a b : ℕ) (t : List Slot) → free (length t) (srcs t) (dsts t) a b (marks_of t) ≡ tally (opens a b) t
unfolding free many tally
free_tally a b [] = refl
free_tally a b (s ∷ t) = ap (λ (k : ℕ). bit (opens a b s) + k) (free_tally a b t)

-- whether or not the second slot is marked
pub names_edges : (back : Bool) (a b : ℕ) (es : List Edge) → tally (names a b) (edge_slots back es) ≡ times a b es + times b a es
unfolding tally edge_slots times
names_edges back a b [] = omega arith
names_edges back a b (e ∷ es) = omega (arith, names_edges back a b es, hit_back a b e.1 e.0)

opens_outline : (a b : ℕ) (es : List Edge) → tally (opens a b) (edge_slots reverse_mark es) ≡ times a b es
unfolding tally edge_slots times
opens_outline a b [] = refl
opens_outline a b (e ∷ es) = omega (arith, opens_outline a b es, ap bit (and-true (eqb e.0 a && eqb e.1 b)), ap bit (and-false (eqb e.1 a && eqb e.0 b)))

opens_inner : (a b : ℕ) (es : List Edge) → tally (opens a b) (edge_slots false es) ≡ times a b es + times b a es
unfolding tally edge_slots times
opens_inner a b [] = omega arith
opens_inner a b (e ∷ es) = omega (
  arith,
  opens_inner a b es,
  hit_back a b e.1 e.0,
  ap bit (and-true (eqb e.0 a && eqb e.1 b)),
  ap bit (and-true (eqb e.1 a && eqb e.0 b)),
)

pub single : (t : List Slot) → doubled t ≡ false → (a b : ℕ) → tally (names a b) t ≤ 1
unfolding doubled tally
single [] e a b = omega arith
single (s ∷ t) e a b = pick (names a b s) refl (single t (or_false (ltb 0 (tally (names s.src s.dst) t)) (doubled t) e).1 a b)
  where
    pick : (x : Bool) → names a b s ≡ x → tally (names a b) t ≤ 1 → bit x + tally (names a b) t ≤ 1
    pick true q tail =
        let at = both s.src a s.dst b q in
        omega (
          arith,
          ltb-false 0 (tally (names s.src s.dst) t) (or_false (ltb 0 (tally (names s.src s.dst) t)) (doubled t) e).0,
          ap₂ (λ x y. tally (names x y) t) at.0 at.1,
        )
    pick false q tail = omega arith

-- a doubled table names some neighbour twice
pub twice : (t : List Slot) → doubled t ≡ true → (a : ℕ) × (b : ℕ) × (1 < tally (names a b) t)
unfolding doubled tally
twice [] h = absurd (true≢false (sym h))
twice (s ∷ t) h = go (ltb 0 (tally (names s.src s.dst) t)) refl (λ e. twice t e) h
  where
    go : (x : Bool) → ltb 0 (tally (names s.src s.dst) t) ≡ x → (doubled t ≡ true → (a : ℕ) × (b : ℕ) × (1 < tally (names a b) t)) → x || doubled t ≡ true
        → (a : ℕ) × (b : ℕ) × (1 < tally (names a b) (s ∷ t))
    go true e ih k = (s.src, s.dst, omega (arith, ltb-true 0 (tally (names s.src s.dst) t) e, ap bit (both_true s.src s.src s.dst s.dst refl refl)))
    go false e ih k = let r = ih k in (r.0, r.1, omega (arith, r.2))

-- one that names none twice isn't
pub not_twice : (t : List Slot) → ((a b : ℕ) → tally (names a b) t ≤ 1) → doubled t ≡ false
not_twice t h = go (doubled t) refl
  where
    go : (x : Bool) → doubled t ≡ x → x ≡ false
    go true e = let r = twice t e in absurd (omega (arith, r.2, h r.0 r.1))
    go false e = refl

module _ (n : ℕ) (src dst : List ℕ) where
  pub slot_found : (a b : ℕ) → 0 < named n src dst a b → slot n src dst a b < n
  unfolding slot named
  slot_found a b h =
      let at = many_some (leads src dst a b) n h in
      omega (arith, first_some (leads src dst a b) 0 n at.0 (omega arith) at.1 at.2, at.1)

  starts_on : (es : List Edge) (heap : List ℕ) → ((a b : ℕ) → 0 < times a b es → slot n src dst a b < n) → (a b : ℕ)
      → on n src dst a b (starts n src dst es heap) ≡ times a b es + on n src dst a b heap
  unfolding starts times on
  starts_on [] heap h a b = omega arith
  starts_on (e ∷ es) heap h a b =
      let at = slot_hit n src dst e.0 e.1 (h e.0 e.1 (omega (arith, hit_self e.0 e.1))) in
      omega (arith, starts_on es (slot n src dst e.0 e.1 ∷ heap) (λ a b l. h a b (omega arith)) a b, ap₂ (λ x y. hit a b x y) at.0 at.1)

module _ (outline inner : List Edge) (t : List Slot) (sorted : (p : Slot → Bool) → tally p t ≡ tally p (table outline inner)) where
  pub named_table : (a b : ℕ) → named (length t) (srcs t) (dsts t) a b ≡ times a b outline + times b a outline + (times a b inner + times b a inner)
  unfolding table
  named_table a b = omega (
    arith,
    named_tally a b t,
    sorted (names a b),
    tally_append (names a b) (edge_slots reverse_mark outline) (edge_slots false inner),
    names_edges reverse_mark a b outline,
    names_edges false a b inner,
  )

  free_table : (a b : ℕ) → free (length t) (srcs t) (dsts t) a b (marks_of t) ≡ times a b outline + (times a b inner + times b a inner)
  unfolding table
  free_table a b = omega (
    arith,
    free_tally a b t,
    sorted (opens a b),
    tally_append (opens a b) (edge_slots reverse_mark outline) (edge_slots false inner),
    opens_outline a b outline,
    opens_inner a b inner,
  )

  pub found : (a b : ℕ) → 0 < times a b outline → slot (length t) (srcs t) (dsts t) a b < length t
  found a b h = slot_found (length t) (srcs t) (dsts t) a b (omega (arith, named_table a b))

  module _ (turning : Bool) (clean : doubled t ≡ false) (ps : List (List ℕ)) (ends : walk_with turning outline t ≡ closed ps) where
    pub even : (a b : ℕ) → (times a b (rings ps) ≤ 1) × (times a b (rings ps) + times b a outline ≡ times b a (rings ps) + times a b outline)
    unfolding walk_with walk_from on
    even =
        close (length t) (srcs t) (dsts t) turning (marks_of t) (starts (length t) (srcs t) (dsts t) outline []) outline
        (omega (arith, length-map t (λ s. s.marked))) (λ a b. omega (arith, named_tally a b t, single t clean a b))
        (λ a b. omega (arith, named_table a b, free_table a b)) (λ a b. omega (arith, named_table a b, named_table b a))
        (λ a b. omega (arith, starts_on (length t) (srcs t) (dsts t) outline [] found a b)) (2 * length t + length (starts (length t) (srcs t) (dsts t) outline []) + 1) ps ends

    -- each edge of the outline exactly once, its reverse never, and any other edge exactly once each way or not at all
    pub closes : (a b : ℕ) → Closes outline ps a b
    closes a b = record {
      outer = λ h. omega (arith, even a b, even b a, named_table a b, named_tally a b t, single t clean a b);
      other = λ h h'. omega (arith, even a b);
    }
