-- A table's slots as the lists of the definition: what is found among them, and what marking one changes. Assumes nothing.
use mathlib.Core.Path.{◌≡◌, refl, sym, ap, ap₂, ◌∙◌}
use mathlib.Core.Bool.{Bool, true, false, cond, not, ◌&&◌}
use mathlib.Core.List.{List, ◌∷◌}
use Prim.Native.Nat.{ℕ, ◌+◌, ◌-◌, ◌≤◌, ◌<◌}
use native.Mathlib.Omega.{arith}
use lib.Dec.{eqb, ltb}
use lib.ListN.{length, get_or, set, take, drop, length-set, length-take, length-drop}
use lib.Seq.{map-set_same}
use borrow.Author.Tests.{ltb-false, ltb-true}
use Rattle.std.proofs.Common.{Option, Some, None, unwrap_or, IfSome}
use Rattle.std.proofs.lemmas.List.{get_or-map, get_or-take, get_or-drop, map-set, take_all}
use Rattle.std.proofs.lemmas.List.Sums.{position_or_len_is}
use Rattle.std.specs.List.{position, position_or_len}
use Rattle.lists.specs.Search.{first}
use Rattle.lists.proofs.Search.{first_le, first_from_lem, first_none, first_hit}
use Rattle.cutting.specs.declared.Slot.{Slot}
use Rattle.cutting.specs.Cell.{names}
use Rattle.cutting.specs.Walk.{leads, open_at, opens_from, next_open, slot, srcs, dsts, marks_of}
use Rattle.cutting.proofs.Rounds.{next_open_late, next_open_early, next_open_back, next_open_none}
use Rattle.dart_walk.specs.Answer.{Marked, Followed, reverse_in}

abbrev none : Slot
none = record { src = 0; dst = 0; marked = false }

abbrev part : List Slot → ℕ → ℕ → List Slot
part t k n = take (n - k) (drop k t)

-- ---- the first of some slots, by the definition's lists and by the library's word

module _ (t : List Slot) (p : ℕ → Bool) (q : Slot → Bool) (same : (i : ℕ) → i < length t → p i ≡ q (get_or t i none)) (k n : ℕ) (low : k ≤ n) (high : n ≤ length t) where
  part_test : (j : ℕ) → j < n - k → q (get_or (part t k n) j none) ≡ p (k + j)
  part_test j h = ap q (get_or-take (n - k) (drop k t) j none h ∙ get_or-drop k t j none) ∙ sym (same (k + j) (omega arith))

  first_in : k + position_or_len q (part t k n) ≡ first p k n
  first_in =
      let m = first p k n in
      let below : m ≤ n = first_le p k n low in
      let above : k ≤ m = first_from_lem p k n in
      let long : length (part t k n) ≡ n - k = omega (arith, length-take (n - k) (drop k t), length-drop k t) in
      let here : k + (m - k) ≡ m = omega arith in
      let at : position_or_len q (part t k n) ≡ m - k = position_or_len_is q (part t k n) (m - k) none (omega arith)
      (λ j h. part_test j (omega arith) ∙ first_none p k n (k + j) (omega arith) (omega arith) (omega arith))
      (λ h. part_test (m - k) (omega arith) ∙ ap p here ∙ first_hit p k n (omega arith)) in
      omega arith

module _ {A : Type 0} (q : A → Bool) (xs : List A) where
  at_some : (k : ℕ) → position q xs ≡ Some k → (position_or_len q xs ≡ k) × (k < length xs)
  at_some k e = go (ltb (position_or_len q xs) (length xs)) refl e
    where
      go : (x : Bool) → ltb (position_or_len q xs) (length xs) ≡ x → cond x (Some (position_or_len q xs)) None ≡ Some k → (position_or_len q xs ≡ k) × (k < length xs)
      go true f e = let is : position_or_len q xs ≡ k = cc in (is, omega (arith, ltb-true (position_or_len q xs) (length xs) f))
      go false f e = cc

  at_none : position q xs ≡ None → length xs ≤ position_or_len q xs
  at_none e = go (ltb (position_or_len q xs) (length xs)) refl e
    where
      go : (x : Bool) → ltb (position_or_len q xs) (length xs) ≡ x → cond x (Some (position_or_len q xs)) None ≡ None → length xs ≤ position_or_len q xs
      go true f e = cc
      go false f e = ltb-false (position_or_len q xs) (length xs) f

-- ---- the slot that leads from a to b

module _ (a b : ℕ) (t : List Slot) where
  slot_is : slot (length t) (srcs t) (dsts t) a b ≡ position_or_len (names a b) t
  unfolding slot
  slot_is = sym (first_in t (leads (srcs t) (dsts t) a b) (names a b) tests 0 (length t) (omega arith) (omega arith))
      ∙ ap (λ (xs : List Slot). 0 + position_or_len (names a b) xs) (take_all (length t - 0) t (omega arith)) ∙ omega arith
    where
      tests : (i : ℕ) → i < length t → leads (srcs t) (dsts t) a b i ≡ names a b (get_or t i none)
      tests i h = ap₂ (λ x y. eqb x a && eqb y b) (get_or-map (λ s. s.src) t i none 0 h) (get_or-map (λ s. s.dst) t i none 0 h)

  pub slot_found : (r : Option ℕ) → r ≡ position (names a b) t
      → IfSome r (λ i. i < length t) × (unwrap_or r (length t) ≡ slot (length t) (srcs t) (dsts t) a b)
  unfolding slot
  slot_found None e = (tt, omega (arith, at_none (names a b) t (sym e), slot_is, first_le (leads (srcs t) (dsts t) a b) 0 (length t) (omega arith)))
  slot_found (Some k) e = let at = at_some (names a b) t k (sym e) in (at.1, sym at.0 ∙ sym slot_is)

-- ---- the next unmarked slot of the node a after its slot r

module _ (t : List Slot) (a r : ℕ) (h : r < length t) where
  tests : (i : ℕ) → i < length t → open_at (srcs t) (marks_of t) a i ≡ opens_from a (get_or t i none)
  tests i h = ap₂ (λ (x : ℕ) (m : Bool). eqb x a && not m) (get_or-map (λ s. s.src) t i none 0 h) (get_or-map (λ s. s.marked) t i none false h)

  after : r + 1 + position_or_len (opens_from a) (part t (r + 1) (length t)) ≡ first (open_at (srcs t) (marks_of t) a) (r + 1) (length t)
  after = first_in t _ (opens_from a) tests (r + 1) (length t) (omega arith) (omega arith)

  before : first (open_at (srcs t) (marks_of t) a) 0 r ≡ position_or_len (opens_from a) (take r t)
  before =
      let all : r - 0 ≡ r = omega arith in
      sym (first_in t _ (opens_from a) tests 0 r (omega arith) (omega arith)) ∙ ap (λ (m : ℕ). 0 + position_or_len (opens_from a) (take m t)) all ∙ omega arith

  long : length (part t (r + 1) (length t)) ≡ length t - (r + 1)
  long = omega (arith, length-take (length t - (r + 1)) (drop (r + 1) t), length-drop (r + 1) t)

  module _ (late : Option ℕ) (late-is : late ≡ position (opens_from a) (take (length t - (r + 1)) (drop (r + 1) t))) where
    pub late_next : (k : ℕ) → late ≡ Some k → r + 1 + k ≡ next_open true (length t) (srcs t) (marks_of t) a r
    late_next k e =
        let at = at_some (opens_from a) (part t (r + 1) (length t)) k (sym late-is ∙ e) in
        next_open_late true (length t) (srcs t) (marks_of t) a r (r + 1 + k) (omega (arith, at.0, after)) (omega (arith, at.1, long))

    module _ (none-late : late ≡ None) (early : Option ℕ) (early-is : early ≡ position (opens_from a) (take r t)) where
      out : length t ≤ first (open_at (srcs t) (marks_of t) a) (r + 1) (length t)
      out = omega (arith, at_none (opens_from a) (part t (r + 1) (length t)) (sym late-is ∙ none-late), long, after)

      pub early_next : (k : ℕ) → early ≡ Some k → k ≡ next_open true (length t) (srcs t) (marks_of t) a r
      early_next k e =
          let at = at_some (opens_from a) (take r t) k (sym early-is ∙ e) in
          next_open_early true (length t) (srcs t) (marks_of t) a r _ refl out k (sym at.0 ∙ sym before) (omega (arith, at.1, length-take r t))

      module _ (none-early : early ≡ None) (d : Slot) where
        out' : r ≤ first (open_at (srcs t) (marks_of t) a) 0 r
        out' = omega (arith, at_none (opens_from a) (take r t) (sym early-is ∙ none-early), length-take r t, before)

        pub back_next : (get_or t r d).marked ≡ false → r ≡ next_open true (length t) (srcs t) (marks_of t) a r
        back_next e = next_open_back true (length t) (srcs t) (marks_of t) a r _ refl out _ refl out' refl (get_or-map (λ s. s.marked) t r d false h ∙ e)

        pub none_next : (get_or t r d).marked ≡ true → length t ≡ next_open true (length t) (srcs t) (marks_of t) a r
        none_next e = next_open_none true (length t) (srcs t) (marks_of t) a r _ refl out _ refl out' (get_or-map (λ s. s.marked) t r d false h ∙ e)

-- ---- slot i is marked, and its reverse looked for

module _ (t : List Slot) (i : ℕ) (d : Slot) where
  abbrev marked : List Slot
  marked = set t i (record { src = (get_or t i d).src; dst = (get_or t i d).dst; marked = true })

  same_length : length marked ≡ length t
  same_length = length-set t i _

  marked_there : Marked t i marked
  marked_there = record {
    from = map-set_same (λ (s : Slot). s.src) t i _ d refl;
    to = map-set_same (λ (s : Slot). s.dst) t i _ d refl;
    marks = map-set (λ (s : Slot). s.marked) t i _;
  }

  module _ (here : i < length t) where
    node_there : (get_or t i d).dst ≡ get_or (dsts t) i 0
    node_there = sym (get_or-map (λ s. s.dst) t i d 0 here)

    from_there : (get_or t i d).src ≡ get_or (srcs t) i 0
    from_there = sym (get_or-map (λ s. s.src) t i d 0 here)

    reverse_there : slot (length marked) (srcs marked) (dsts marked) (get_or t i d).dst (get_or t i d).src ≡ reverse_in t i
    reverse_there = λ u. slot (same_length u) (marked_there.from u) (marked_there.to u)
        (node_there u) (from_there u)

    pub none_there : length marked ≡ slot (length marked) (srcs marked) (dsts marked) (get_or t i d).dst (get_or t i d).src → length t ≤ reverse_in t i
    none_there e = omega (arith, e ∙ reverse_there, same_length)

    pub followed : (heap heap' : List ℕ) (q : ℕ) → q < length marked → q ≡ slot (length marked) (srcs marked) (dsts marked) (get_or t i d).dst (get_or t i d).src
        → heap' ≡ q ∷ heap → Followed t heap i marked heap' (get_or t i d).dst q
    followed heap heap' q below found pushed = record {
      marked = marked_there;
      node = node_there;
      reverse = found ∙ reverse_there;
      within = omega (arith, below, same_length);
      pushed = pushed;
    }
