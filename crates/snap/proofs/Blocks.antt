-- The sort in blocks, in the marks' own list: the marked ones of the first i nodes are xs, of which the first k stand in order at the front of s, and the others
-- in order in the block. Assumes nothing.
use mathlib.Core.Path.{◌≡◌, refl, sym, ap, ap₂, ◌∙◌, subst}
use mathlib.Core.Bool.{Bool, true, false, not, cond}
use mathlib.Core.List.{List, [], ◌∷◌, ◌++◌, append-nil}
use Prim.Native.Nat.{ℕ, ◌+◌, ◌/◌, ◌≤◌, ◌<◌}
use native.Mathlib.Omega.{arith}
use lib.Dec.{eqb}
use lib.ListN.{length, get_or, take, drop, length-append, take-append-drop, drop_of_length-le}
use lib.Seq.{length-take-le, take_all, take-append-le, drop-append-le}
use lib.Ieee.{Float}
use borrow.Author.Tests.{ne_eqb, eqb-false}
use Rattle.lists.specs.Gather.{gathered, places}
use Rattle.lists.specs.Sort.{insert, sort_onto, sorted}
use Rattle.lists.specs.Regions.{front, put_in, insert_at}
use Rattle.lists.proofs.Gather.{places_more, places_le}
use Rattle.lists.proofs.Regions.{length_front, take_front_of, front_front, front_behind}
use Rattle.lists.proofs.Insert.{insert_at_last}
use Rattle.lists.proofs.Sort.{length_insert, insert_is, length_sorted, sorted_snoc}
use Rattle.lists.proofs.Rising.{All, all_take, all_drop}
use Rattle.lists.proofs.Merging.{sorted_both}
use Rattle.snap.specs.Steps.{AllPlaced, NodePlaced, InOrder, place_of, marked, before, indices_in_order, with_node, merged, merged_full, not_merged}
use Rattle.snap.proofs.Orders.{before_asym, before_through, marked_placed, sorted_in_order, order_end}

-- ---- one node put in

module _ (coords : List Float) (marks block : List ℕ) (i : ℕ) where
  pub put_in_lem : (r n : ℕ) (w t : List ℕ) → (get_or marks i 0 ≡ 0 → ⊥) → r ≡ place_of coords block i → r ≤ length block → n ≡ length block
      → w ≡ block ++ i ∷ [] → t ≡ insert_at w n r i → t ≡ with_node coords marks block i
  unfolding with_node place_of
  put_in_lem r n w t ne re rl size we te =
      let on : marked marks i ≡ true = ap not (ne_eqb (get_or marks i 0) 0 ne) in
      let put : t ≡ put_in r i block = te ∙ ap₂ (λ (l : List ℕ) (m : ℕ). insert_at l m r i) we size ∙ insert_at_last block r i i rl in
      rw on (put ∙ ap (λ (j : ℕ). put_in j i block) re ∙ sym (insert_is (before coords) i block 0))

  more_by_one : length (with_node coords marks block i) ≤ length block + 1
  unfolding with_node
  more_by_one = go (marked marks i)
    where
      go : (t : Bool) → length (cond t (insert (before coords) i block) block) ≤ length block + 1
      go true = omega (arith, length_insert (before coords) i block)
      go false = omega arith

-- ---- the sort

pub record Blocks (coords : List Float) (marks s block xs : List ℕ) (k : ℕ) : Type 0 where
  pub size : length s ≡ length marks
  pub few : length xs ≤ length marks
  pub count : k + length block ≡ length xs
  pub front_is : s ≡ front marks (sorted (before coords) (take k xs))
  pub block_is : block ≡ sorted (before coords) (drop k xs)

module _ (coords : List Float) (marks : List ℕ) where
  pub blocks_start : (block : List ℕ) → block ≡ [] → Blocks coords marks marks block (places (marked marks) 0) 0
  unfolding front sort_onto gathered
  blocks_start block none = record { size = refl; few = omega arith; count = omega (arith, ap length none); front_is = refl; block_is = none }

  module _ (s block xs : List ℕ) (k : ℕ) (h : Blocks coords marks s block xs k) where
    length_first : length (sorted (before coords) (take k xs)) ≡ k
    length_first = length_sorted (before coords) (take k xs) ∙ length-take-le k xs (omega (arith, h.count))

    first_is : take k s ≡ sorted (before coords) (take k xs)
    first_is = ap (take k) h.front_is ∙ take_front_of marks (sorted (before coords) (take k xs)) k length_first

    module _ (good : All (NodePlaced coords) xs) where
      blocks_first : InOrder coords (take k s)
      blocks_first = subst (InOrder coords) (sym first_is) (sorted_in_order coords (take k xs) (all_take (NodePlaced coords) k xs good))

      blocks_last : InOrder coords block
      blocks_last = subst (InOrder coords) (sym h.block_is) (sorted_in_order coords (drop k xs) (all_drop (NodePlaced coords) k xs good))

      -- all in order at the front
      blocks_merged : (t : List ℕ) → t ≡ merged coords s k block → t ≡ front marks (sorted (before coords) xs)
      unfolding merged
      blocks_merged t e =
          let both : sort_onto (before coords) (take k s) block ≡ sorted (before coords) xs =
          ap₂ (sort_onto (before coords)) first_is h.block_is
          ∙ sorted_both (before coords) (NodePlaced coords) (before_asym coords) (before_through coords) (take k xs) (drop k xs) (all_take (NodePlaced coords) k xs good)
          (all_drop (NodePlaced coords) k xs good)
          ∙ ap (sorted (before coords)) (take-append-drop k xs) in
          e ∙ ap₂ (front {A = ℕ}) h.front_is both
          ∙ front_front marks (sorted (before coords) (take k xs)) (sorted (before coords) xs) (omega (arith, length_first, length_sorted (before coords) xs, h.count))

    blocks_put : (v : ℕ) → length xs < length marks → Blocks coords marks s (insert (before coords) v block) (xs ++ v ∷ []) k
    blocks_put v m =
        let in_xs : k ≤ length xs = omega (arith, h.count) in
        record {
          size = h.size;
          few = omega (arith, length-append xs (v ∷ []));
          count = omega (arith, h.count, length-append xs (v ∷ []), length_insert (before coords) v block);
          front_is = h.front_is ∙ ap (λ (l : List ℕ). front marks (sorted (before coords) l)) (sym (take-append-le k xs (v ∷ []) in_xs));
          block_is = ap (insert (before coords) v) h.block_is ∙ sym (sorted_snoc (before coords) (drop k xs) v)
              ∙ ap (sorted (before coords)) (sym (drop-append-le k xs (v ∷ []) in_xs));
        }

    -- all of them at the front, none in the block
    blocks_whole : (t left : List ℕ) (r : ℕ) → t ≡ front marks (sorted (before coords) xs) → left ≡ [] → r ≡ length xs → Blocks coords marks t left xs r
    unfolding sort_onto
    blocks_whole t left r e none all =
        let len = length_sorted (before coords) xs in
        record {
          size = ap length e ∙ length_front marks (sorted (before coords) xs) (omega (arith, len, h.few));
          few = h.few;
          count = omega (arith, all, ap length none);
          front_is = e ∙ ap (λ (l : List ℕ). front marks (sorted (before coords) l)) (sym (take_all r xs (omega (arith, all))));
          block_is = none ∙ ap (sorted (before coords)) (sym (drop_of_length-le xs {i = r} (omega (arith, all))));
        }

    -- a full block put in
    blocks_turn : All (NodePlaced coords) xs → length block ≤ 128 → (t left : List ℕ) (r : ℕ) → r + length left ≡ k + length block → left ≡ not_merged block
        → t ≡ merged_full coords s k block → Blocks coords marks t left xs r × (length left < 128)
    unfolding not_merged merged_full
    blocks_turn good most t left r re le te = go (eqb (length block) 128) refl
      where
        go : (f : Bool) → eqb (length block) 128 ≡ f → Blocks coords marks t left xs r × (length left < 128)
        go false e =
            let kept : left ≡ block = rw e at le in
            let same : t ≡ s = rw e at te in
            let kr : k ≡ r = omega (arith, re, ap length kept) in (
              subst (λ (n : ℕ). Blocks coords marks t left xs n) kr
                  (subst (λ (l : List ℕ). Blocks coords marks t l xs k) (sym kept) (subst (λ (u : List ℕ). Blocks coords marks u block xs k) (sym same) h)),
              omega (arith, most, ap length kept, eqb-false (length block) 128 e),
            )
        go true e =
            let none : left ≡ [] = rw e at le in
            let done : t ≡ merged coords s k block = rw e at te in
            (blocks_whole t left r (blocks_merged good t done) none (omega (arith, re, ap length none, h.count)), omega (arith, ap length none))

  -- the next node
  blocks_next : (s block : List ℕ) (k i : ℕ) → Blocks coords marks s block (places (marked marks) i) k → i < length marks
      → (t : List ℕ) → t ≡ with_node coords s block i → Blocks coords marks s t (places (marked marks) (i + 1)) k
  unfolding with_node
  blocks_next s block k i h m t te = subst (λ (ys : List ℕ). Blocks coords marks s t ys k) (sym (places_more i (marked marks))) (go (marked marks i) refl)
    where
      xs : List ℕ
      xs = places (marked marks) i

      seen : marked s i ≡ marked marks i
      seen =
          ap (λ (n : ℕ). not (eqb n 0)) (ap (λ (u : List ℕ). get_or u i 0) h.front_is
          ∙ front_behind marks (sorted (before coords) (take k xs)) i 0 (omega (arith, length_first s block xs k h, h.count, places_le (marked marks) i)))

      go : (u : Bool) → marked marks i ≡ u → Blocks coords marks s t (xs ++ cond u (i ∷ []) []) k
      go false e =
          let off : marked s i ≡ false = seen ∙ e in
          let same : t ≡ block = rw off at te in
          subst (λ (ys : List ℕ). Blocks coords marks s t ys k) (sym (append-nil xs)) (subst (λ (u : List ℕ). Blocks coords marks s u xs k) (sym same) h)
      go true e =
          let on : marked s i ≡ true = seen ∙ e in
          let put : t ≡ insert (before coords) i block = rw on at te in
          subst (λ (u : List ℕ). Blocks coords marks s u (xs ++ i ∷ []) k) (sym put) (blocks_put s block xs k h i (omega (arith, places_le (marked marks) i)))

  -- the marked ones of the first i nodes stand in order, the first k at the front of s, the others in the block
  pub record InBlocks (s block : List ℕ) (k i : ℕ) : Type 0 where
    pub within : i ≤ length marks
    pub free : length block < 128
    pub blocks : Blocks coords marks s block (places (marked marks) i) k

  module _ (placed : AllPlaced coords) (few : length marks ≤ length coords / 2) (s block : List ℕ) (k i : ℕ) (v : InBlocks s block k i) where
    good : All (NodePlaced coords) (places (marked marks) i)
    good = marked_placed coords marks i placed (omega (arith, v.within))

    in_order : InOrder coords (take k s) × InOrder coords block
    in_order =
        let xs : List ℕ = places (marked marks) i in
        (blocks_first s block xs k v.blocks good, blocks_last s block xs k v.blocks good)

    -- what `put_in_order` asks
    pub put_asks : length marks ≤ 16384 → i < length marks → (length block < 128) × (i < length s) × (length s ≤ 16384) × InOrder coords block
    put_asks most here = (v.free, omega (arith, here, v.blocks.size), omega (arith, most, v.blocks.size), in_order.1)

    -- what `merge` asks for the rest, and leaves
    pub rest_in_order : (rest : List ℕ) → rest ≡ block → InOrder coords rest
    rest_in_order rest e = subst (InOrder coords) (sym e) in_order.1

    pub rest_asks : (rest : List ℕ) → rest ≡ block → (k + length rest ≤ length s) × InOrder coords (take k s)
    rest_asks rest e = let h = v.blocks in (omega (arith, h.count, h.few, h.size, ap length e), in_order.0)

    pub blocks_end : length marks ≤ i → (rest : List ℕ) → rest ≡ block → (t : List ℕ) → t ≡ merged coords s k rest → (n : ℕ) → n ≡ length block
        → (k + n ≡ length (indices_in_order coords marks)) × (t ≡ front marks (indices_in_order coords marks))
    blocks_end ge rest same t e n all =
        order_end coords marks t (k + n) i v.within ge (ap (λ (m : ℕ). k + m) all ∙ v.blocks.count ∙ sym (length_sorted (before coords) (places (marked marks) i)))
        (blocks_merged s block (places (marked marks) i) k v.blocks good t (e ∙ ap (merged coords s k) same))

    -- the next node put in
    module _ (here : i < length marks) (next : List ℕ) (ne : next ≡ with_node coords s block i) where
      after : Blocks coords marks s next (places (marked marks) (i + 1)) k
      after = blocks_next s block k i v.blocks here next ne

      all_good : All (NodePlaced coords) (places (marked marks) (i + 1))
      all_good = marked_placed coords marks (i + 1) placed (omega (arith, here))

      -- what `merge_full` asks
      pub next_ready : (k + length next ≤ length s) × InOrder coords (take k s) × InOrder coords next
      next_ready =
          let xs : List ℕ = places (marked marks) (i + 1) in
          (omega (arith, after.count, after.few, after.size), blocks_first s next xs k after all_good, blocks_last s next xs k after all_good)

      pub next_full : (t left : List ℕ) (r : ℕ) → r + length left ≡ k + length next → left ≡ not_merged next → t ≡ merged_full coords s k next
          → InBlocks t left r (i + 1)
      next_full t left r re le te =
          let most : length next ≤ 128 = omega (arith, v.free, ap length ne, more_by_one coords s block i) in
          let turned = blocks_turn s next (places (marked marks) (i + 1)) k after all_good most t left r re le te in
          record { within = omega (arith, here); free = turned.1; blocks = turned.0 }
