-- The index read, and what a search over its chains finds. Assumes nothing.
use mathlib.Core.Path.{◌≡◌, refl, ap, ap₂, ◌∙◌}
use mathlib.Core.Bool.{Bool, true, false, cond}
use mathlib.Core.List.Memᴰ
use mathlib.Core.List.{List, [], ◌∷◌, Memᴰ}
use mathlib.Core.Logic.{◌⊎◌, inl, inr}
use Prim.Native.Nat.{ℕ, zero, suc, ◌+◌, ◌-◌, ◌≤◌, ◌<◌}
use native.Mathlib.Nat.{max-le}
use native.Mathlib.Omega.{arith}
use lib.ListN.{length, get_or, take, drop, length-drop}
use lib.Seq.{take_all, take_at, drop_at, drop-drop}
use lib.Ieee.{Float}
use Rattle.lists.specs.Gather.{each}
use Rattle.lists.proofs.Gather.{gathered_at, length_each, get_or_each}
use Rattle.rules.specs.declared.Bounds.{Bounds}
use Rattle.strips.specs.declared.squares.Axis.TheVariants.{X, Y}
use Rattle.strips.specs.declared.squares.Span.{Span}
use Rattle.strips.specs.Things.{thing_count, thing_box, thing_meets}
use Rattle.strips.specs.Squares.{span_of, halved, is_wide, narrowed, square_chain}
use Rattle.strips.specs.Index.{strip_count, chain_count, index_size, bounds_of, span_by, chain_by, on_chain, head_at, next_at, links_of, above, chain_at, level_count, index_of}
use Rattle.strips.specs.Meeting.{things_meeting}
use Rattle.strips.specs.Gathering.{with_things, is_wanted, on_chains, in_row, in_level, in_levels, Chains}
use Rattle.strips.proofs.Sizes.{side_range}
use Rattle.strips.proofs.IndexAt.{length_bounds, length_index, index_side, index_levels, index_x, index_y, index_links}
use Rattle.strips.proofs.Reached.{touch_start, reach_small, on_levels, above_each}
use Rattle.strips.proofs.Complete.{all_found}

-- ---- few levels

narrowed_level : (f : ℕ) (s : Span) → (narrowed f s).level ≤ s.level + f
unfolding narrowed
narrowed_level zero s = omega arith
narrowed_level (suc f) s = go (is_wide s) (narrowed_level f (halved s))
  where
    go : (t : Bool) → (narrowed f (halved s)).level ≤ (halved s).level + f → (let u : Span = elim t [ true ↦ narrowed f (halved s) | false ↦ s ] in u.level ≤ s.level + suc f)
    go true ih = omega (arith, ih)
    go false ih = omega arith

above_low : (g : ℕ → ℕ) (b k m : ℕ) → ((j : ℕ) → g j ≤ b) → above g k m ≤ b + 1
unfolding above
above_low g b k zero h = omega arith
above_low g b k (suc m) h = max-le {a = g k + 1} {b = above g (suc k) m} {k = b + 1} (omega (arith, h k)) (above_low g b (suc k) m h)

-- ---- things on chains are below n

module _ (f : ℕ → ℕ) (n h j : ℕ) where
  on_chain_low : (c : ℕ) → Memᴰ j (on_chains f n c) → j < n
  on_chain_low c m =
      let r = gathered_at n (λ i. cond (on_chain f c i) (i ∷ []) []) j m in
      one r.0 r.1 (on_chain f c r.0) r.2
    where
      is : (i : ℕ) → i < n → (j ≡ i) ⊎ Memᴰ j [] → j < n
      is i l (inl e) = omega (arith, e, l)
      is i l (inr z) = absurd (Memᴰ.not-nil z)

      one : (i : ℕ) → i < n → (t : Bool) → Memᴰ j (cond t (i ∷ []) []) → j < n
      one i l true z = is i l (Memᴰ.cases_cons z)
      one i l false z = absurd (Memᴰ.not-nil z)

  level_low : (s : Span) → Memᴰ j (in_level f n h s) → j < n
  unfolding in_level in_row
  level_low s m =
      let row = gathered_at (s.y1 + 1 - (s.y0 - 1)) (λ i. in_row f n h s (s.y0 - 1 + i)) j m in
      let square = gathered_at (s.x1 + 1 - (s.x0 - 1)) (λ i. on_chains f n (square_chain h s (s.x0 - 1 + i) (s.y0 - 1 + row.0))) j row.2 in
      on_chain_low (square_chain h s (s.x0 - 1 + square.0) (s.y0 - 1 + row.0)) square.2

  levels_low : (m : ℕ) (s : Span) → Memᴰ j (in_levels f n h s m) → j < n
  unfolding in_levels
  levels_low zero s z = absurd (Memᴰ.not-nil z)
  levels_low (suc m) s z = go (Memᴰ.append_cases (in_level f n h s) z) (levels_low m (halved s))
    where
      go : Memᴰ j (in_level f n h s) ⊎ Memᴰ j (in_levels f n h (halved s) m) → (Memᴰ j (in_levels f n h (halved s) m) → j < n) → j < n
      go (inl a) ih = level_low s a
      go (inr b) ih = ih b

-- ---- the search

module _ (coords : List Float) (nodes ends : List ℕ) where
  abbrev n : ℕ
  n = thing_count nodes ends

  abbrev xs : List ℕ
  xs = bounds_of coords nodes ends X

  abbrev ys : List ℕ
  ys = bounds_of coords nodes ends Y

  some_x : 0 < length xs
  some_x = omega (arith, length_bounds coords nodes ends X, (side_range n).0)

  some_y : 0 < length ys
  some_y = omega (arith, length_bounds coords nodes ends Y, (side_range n).0)

  level_zero : (e : Bounds) → (span_of coords xs ys e).level ≡ 0
  unfolding span_of
  level_zero e = refl

  pub levels_few : level_count coords nodes ends ≤ 513
  levels_few = above_low (λ j. (span_by coords xs ys nodes ends j).level) 512 0 n
      (λ j. omega (arith, narrowed_level 512 (span_of coords xs ys (thing_box coords nodes ends j)), level_zero (thing_box coords nodes ends j)))

  -- each thing that meets b is on a chain that is gone over
  reached : (b : Bounds) (j : ℕ) → j < n → thing_meets coords nodes ends b j ≡ true
      → Memᴰ j (in_levels (chain_at coords nodes ends) n (chain_count n) (span_of coords xs ys b) (level_count coords nodes ends))
  unfolding chain_by
  reached b j l meets =
      let e : Bounds = thing_box coords nodes ends j in
      let small = reach_small coords xs ys some_x some_y e in
      on_levels (chain_at coords nodes ends) n (chain_count n) j l 512 (level_count coords nodes ends) (span_of coords xs ys e) (span_of coords xs ys b)
      (omega (arith, small.0, small.1, length_bounds coords nodes ends X, length_bounds coords nodes ends Y, (side_range n).1)) (touch_start coords xs ys some_x some_y e b meets)
      (omega (arith, level_zero e, above_each (λ i. (span_by coords xs ys nodes ends i).level) 0 n j (omega arith) (omega (arith, l)))) refl

  pub search_found : (most : ℕ) (b : Bounds) (from h levels : ℕ) (s : Span) → h ≡ chain_count (thing_count nodes ends)
      → s ≡ span_of coords (bounds_of coords nodes ends X) (bounds_of coords nodes ends Y) b
      → levels ≡ level_count coords nodes ends
      → with_things most (is_wanted coords nodes ends b from) [] (in_levels (chain_at coords nodes ends) (thing_count nodes ends) h s levels) ≡ take most
      (things_meeting coords nodes ends b from)
  search_found most b from h levels s h-is s_is levels-is = rw (h-is, s_is, levels-is)
      (all_found most (thing_meets coords nodes ends b) from n
      (in_levels (chain_at coords nodes ends) n (chain_count n) (span_of coords xs ys b) (level_count coords nodes ends))
      (λ j m. levels_low (chain_at coords nodes ends) n (chain_count n) j (level_count coords nodes ends) (span_of coords xs ys b) m) (λ j l e. reached b j l e))

  -- ---- the index read

  module _ (ix : List ℕ) (is : ix ≡ index_of coords nodes ends) where
    pub index_long : length ix ≡ index_size (thing_count nodes ends)
    index_long = ap length is ∙ length_index coords nodes ends

    pub side_read : get_or ix 0 0 ≡ strip_count (thing_count nodes ends)
    side_read = ap (λ (l : List ℕ). get_or l 0 0) is ∙ index_side coords nodes ends

    pub levels_read : get_or ix 1 0 ≡ level_count coords nodes ends
    levels_read = ap (λ (l : List ℕ). get_or l 1 0) is ∙ index_levels coords nodes ends

    whole : take (length ix - 2) (drop 2 ix) ≡ drop 2 ix
    whole = take_all (length ix - 2) (drop 2 ix) (omega (arith, length-drop 2 ix))

    -- its parts, split off one by one: the nodes at which strips begin, by x and by y, and the chains
    pub xs_read : (l : List ℕ) → l ≡ take (get_or ix 0 0) (take (length ix - 2) (drop 2 ix)) → l ≡ bounds_of coords nodes ends X
    xs_read l e = e ∙ ap₂ take side_read whole ∙ ap (λ (u : List ℕ). take (strip_count n) (drop 2 u)) is ∙ index_x coords nodes ends

    module _ (rest : List ℕ) (rest-is : rest ≡ drop (get_or ix 0 0) (take (length ix - 2) (drop 2 ix))) where
      behind : rest ≡ drop (2 + strip_count n) (index_of coords nodes ends)
      behind = rest-is ∙ ap₂ drop side_read whole ∙ drop-drop (strip_count n) 2 ix ∙ ap (drop (2 + strip_count n)) is

      pub ys_read : (l : List ℕ) → l ≡ take (get_or ix 0 0) rest → l ≡ bounds_of coords nodes ends Y
      ys_read l e = e ∙ ap₂ take side_read behind ∙ index_y coords nodes ends

      pub links_read : (l : List ℕ) → l ≡ drop (get_or ix 0 0) rest
          → l ≡ links_of (chain_at coords nodes ends) (thing_count nodes ends) (chain_count (thing_count nodes ends))
      links_read l e = e ∙ ap₂ drop side_read behind ∙ drop-drop (strip_count n) (2 + strip_count n) (index_of coords nodes ends) ∙ index_links coords nodes ends

  abbrev links : List ℕ
  links = links_of (chain_at coords nodes ends) n (chain_count n)

  heads_are : take (chain_count n) links ≡ each (chain_count n) (head_at (chain_at coords nodes ends) n)
  unfolding links_of
  heads_are = take_at _ _ (chain_count n) (length_each (chain_count n) (head_at (chain_at coords nodes ends) n))

  nexts_are : drop (chain_count n) links ≡ each n (next_at (chain_at coords nodes ends) n)
  unfolding links_of
  nexts_are = drop_at _ _ (chain_count n) (length_each (chain_count n) (head_at (chain_at coords nodes ends) n))

  pub chains_read : (heads nexts l : List ℕ) → l ≡ links_of (chain_at coords nodes ends) (thing_count nodes ends) (chain_count (thing_count nodes ends))
      → heads ≡ take (chain_count (thing_count nodes ends)) l → nexts ≡ drop (chain_count (thing_count nodes ends)) l → Chains coords nodes ends heads nexts
  chains_read heads nexts l l-is a b =
      let x : heads ≡ each (chain_count n) (head_at (chain_at coords nodes ends) n) = a ∙ ap (take (chain_count n)) l-is ∙ heads_are in
      let y : nexts ≡ each n (next_at (chain_at coords nodes ends) n) = b ∙ ap (drop (chain_count n)) l-is ∙ nexts_are in
      let wide : length heads ≡ chain_count n = ap length x ∙ length_each (chain_count n) (head_at (chain_at coords nodes ends) n) in
      record {
        some = omega (arith, wide);
        long = ap length y ∙ length_each n (next_at (chain_at coords nodes ends) n);
        head = λ c h. ap (λ (u : List ℕ). get_or u c 0) x ∙ get_or_each (chain_count n) (head_at (chain_at coords nodes ends) n) c 0 (omega (arith, wide));
        next = λ j h. ap (λ (u : List ℕ). get_or u j 0) y ∙ get_or_each n (next_at (chain_at coords nodes ends) n) j 0 h;
      }
