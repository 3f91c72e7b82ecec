-- The turns of `move_up` and of `merge`, which puts nodes in order in among others. Assumes nothing.
use mathlib.Core.Path.{◌≡◌, refl, sym, ap, ap₂, ◌∙◌, subst}
use mathlib.Core.Bool.{Bool, true, false, true≢false}
use mathlib.Core.List.{List, [], ◌∷◌, ◌++◌, append_assoc, append-nil}
use Prim.Native.Nat.{ℕ, suc, ◌+◌, ◌-◌, ◌≤◌, ◌<◌}
use native.Mathlib.Nat.{le_antisymm}
use native.Mathlib.Numerals.{add-one}
use native.Mathlib.Decide.{dec_lt}
use native.Mathlib.Omega.{arith}
use lib.ListN.{length, get_or, set, take, drop, length-take, length-set, take-append-drop, drop_of_length-le}
use lib.Seq.{length-take-le, take-length, take-suc, drop-cons, drop_at, set_split, take-set-le, get_or-take, take-take, drop-drop}
use lib.Ieee.{Float}
use Rattle.lists.specs.Sort.{sort_onto}
use Rattle.lists.specs.Regions.{run, front, put}
use Rattle.lists.proofs.Search.{first_hit, first_none}
use Rattle.lists.proofs.Sort.{length_sort_onto}
use Rattle.lists.proofs.Regions.{length_run, put_none, length_put, put_before, take_put, drop_put, drop_take}
use Rattle.lists.proofs.Rising.{all_of}
use Rattle.lists.proofs.Merging.{Ahead, onto_last}
use Rattle.snap.specs.Steps.{NodePlaced, InOrder, before, place_of, merged}
use Rattle.snap.proofs.Orders.{before_through}

module _ {A : Type 0} where
  -- a region that grows at its front
  put_cons : (w : List A) (b : ℕ) (x : A) (ys : List A) → b + 1 + length ys ≤ length w → set (put w (b + 1) ys) b x ≡ put w b (x ∷ ys)
  unfolding put front
  put_cons w b x ys h =
      let l : List A = put w (b + 1) ys in
      let left : take b l ≡ take b w = sym (take-take b (b + 1) l (omega arith)) ∙ ap (take b) (take_put w (b + 1) (omega arith) ys) ∙ take-take b (b + 1) w (omega arith) in
      let tail : drop (length ys) (drop (b + 1) w) ≡ drop (suc (length ys)) (drop b w) =
      drop-drop (length ys) (b + 1) w ∙ ap (λ (n : ℕ). drop n w) (let e : b + 1 + length ys ≡ b + suc (length ys) = omega arith in e) ∙ sym (drop-drop (suc (length ys)) b w) in
      let right : drop (suc b) l ≡ ys ++ drop (suc (length ys)) (drop b w) =
      ap (λ (n : ℕ). drop n l) (sym (add-one b)) ∙ drop_put w (b + 1) (omega arith) ys ∙ ap (λ (m : List A). ys ++ m) tail in
      set_split l b x (omega (arith, length_put w (b + 1) (omega arith) ys h)) ∙ ap₂ (λ (m n : List A). m ++ x ∷ n) left right

  module _ (s₀ : List A) (end by : ℕ) (fits : end + by ≤ length s₀) where
    pub move_start : s₀ ≡ put s₀ (end + by) (run s₀ end (end - end))
    unfolding run
    move_start = sym (ap (λ (n : ℕ). put s₀ (end + by) (take n (drop end s₀))) (let e : end - end ≡ 0 = omega arith in e) ∙ put_none s₀ (end + by))

    move_one : (s : List A) (i : ℕ) (d : A) → i < end → s ≡ put s₀ (i + 1 + by) (run s₀ (i + 1) (end - (i + 1)))
        → set s (i + by) (get_or s i d) ≡ put s₀ (i + by) (run s₀ i (end - i))
    unfolding run
    move_one s i d h e =
        let rest : List A = run s₀ (i + 1) (end - (i + 1)) in
        let read : get_or s i d ≡ get_or s₀ i d = ap (λ (l : List A). get_or l i d) e ∙ put_before s₀ (i + 1 + by) (omega arith) rest i d (omega arith) in
        let size : end - i ≡ suc (end - (i + 1)) = omega arith in
        let all : get_or s₀ i d ∷ rest ≡ run s₀ i (end - i) =
        sym (ap₂ (λ (n : ℕ) (l : List A). take n l) size (drop-cons s₀ i d (omega arith)) ∙ ap (λ (n : ℕ). get_or s₀ i d ∷ take (end - (i + 1)) (drop n s₀)) (sym (add-one i))) in
        let len : length rest ≡ end - (i + 1) = length_run s₀ (i + 1) (end - (i + 1)) (omega arith) in
        ap₂ (λ (l : List A) (x : A). set l (i + by) x) (e ∙ ap (λ (b : ℕ). put s₀ b rest) (let q : i + 1 + by ≡ i + by + 1 = omega arith in q)) read
        ∙ put_cons s₀ (i + by) (get_or s₀ i d) rest (omega (arith, len)) ∙ ap (put s₀ (i + by)) all

    pub move_turn : (s : List A) (i : ℕ) (d : A) → 0 < i → i ≤ end → s ≡ put s₀ (i + by) (run s₀ i (end - i))
        → set s (i - 1 + by) (get_or s (i - 1) d) ≡ put s₀ (i - 1 + by) (run s₀ (i - 1) (end - (i - 1)))
    move_turn s i d h k e =
        move_one s (i - 1) d (omega arith) (e ∙ ap (λ (n : ℕ). put s₀ (n + by) (run s₀ n (end - n))) (let q : i ≡ i - 1 + 1 = omega arith in q))

    pub move_end : (s : List A) (from i : ℕ) → from ≤ i → i ≤ from → s ≡ put s₀ (i + by) (run s₀ i (end - i)) → s ≡ put s₀ (from + by) (run s₀ from (end - from))
    move_end s from i h k e = e ∙ ap (λ (n : ℕ). put s₀ (n + by) (run s₀ n (end - n))) (le_antisymm {n = i} {m = from} k h)

-- ---- `merge`

in_order_take : (coords : List Float) (xs : List ℕ) (n : ℕ) → InOrder coords xs → InOrder coords (take n xs)
in_order_take coords xs n o =
    record {
      placed = λ i h. rw (get_or-take n xs i 0 (omega (arith, h, length-take n xs))) (o.placed i (omega (arith, h, length-take n xs)));
      rises = λ i j h l. rw (get_or-take n xs i 0 (omega (arith, h, l, length-take n xs)), get_or-take n xs j 0 (omega (arith, l, length-take n xs)))
          (o.rises i j h (omega (arith, l, length-take n xs)));
    }

-- v before d and not before u
before_under : (coords : List Float) (v u d : ℕ) → NodePlaced coords u → before coords v d ≡ true → before coords v u ≡ false → before coords u d ≡ true
before_under coords v u d g h k = go (before coords u d) refl
  where
    go : (t : Bool) → before coords u d ≡ t → before coords u d ≡ true
    go true e = e
    go false e = absurd (true≢false (sym h ∙ before_through coords v u d g k e))

ahead_from : (coords : List Float) (x : ℕ) (xs : List ℕ) (p : ℕ) → (p < length xs → before coords x (get_or xs p 0) ≡ true) → Ahead (before coords) x (drop p xs)
ahead_from coords x xs p h = go (dec_lt p (length xs))
  where
    go : Dec (p < length xs) → Ahead (before coords) x (drop p xs)
    go (yes l) = subst (Ahead (before coords) x) (sym (drop-cons xs p 0 l)) (h l)
    go (no l) = subst (Ahead (before coords) x) (sym (drop_of_length-le xs {i = p} (omega arith))) tt

-- the last of the nodes in order goes to its place p among xs, the others before it
last_placed : (coords : List Float) (xs order : List ℕ) (m p : ℕ) → InOrder coords order → m < length order → p ≡ place_of coords xs (get_or order m 0) → p ≤ length xs
    → sort_onto (before coords) xs (take (suc m) order) ≡ sort_onto (before coords) (take p xs) (take m order) ++ get_or order m 0 ∷ drop p xs
unfolding place_of
last_placed coords xs order m p o l e h =
    ap₂ (sort_onto (before coords)) (sym (take-append-drop p xs)) (take-suc order m 0 l)
    ∙ onto_last (before coords) (take p xs) (drop p xs) (take m order) v
    (all_of (λ (y : ℕ). Ahead (before coords) y (drop p xs)) (take m order) 0
    (λ i b. ahead_from coords _ xs p (λ q. before_under coords v _ (get_or xs p 0) (good i b) (hit q) (later i b))))
    (ahead_from coords v xs p hit) (all_of (λ (y : ℕ). before coords v y ≡ false) (take p xs) 0 earlier) (all_of (λ (y : ℕ). before coords v y ≡ false) (take m order) 0 later)
  where
    v : ℕ
    v = get_or order m 0

    test : ℕ → Bool
    test i = before coords v (get_or xs i 0)

    hit : p < length xs → before coords v (get_or xs p 0) ≡ true
    hit q = ap test e ∙ first_hit test 0 (length xs) (omega (arith, e))

    earlier : (i : ℕ) → i < length (take p xs) → before coords v (get_or (take p xs) i 0) ≡ false
    earlier i b =
        ap (before coords v) (get_or-take p xs i 0 (omega (arith, b, length-take p xs))) ∙ first_none test 0 (length xs) i (omega arith) (omega (arith, b, length-take p xs))
        (omega (arith, e, b, length-take p xs))

    within : (i : ℕ) → i < length (take m order) → i < m
    within i b = omega (arith, b, length-take m order)

    later : (i : ℕ) → i < length (take m order) → before coords v (get_or (take m order) i 0) ≡ false
    later i b = ap (before coords v) (get_or-take m order i 0 (within i b)) ∙ o.rises i m (within i b) l

    good : (i : ℕ) → i < length (take m order) → NodePlaced coords (get_or (take m order) i 0)
    good i b = rw (get_or-take m order i 0 (within i b)) (o.placed i (omega (arith, within i b)))

-- the first `end` of s₀ and the first j of the nodes in order are left, the others stand behind
pub record Half (coords : List Float) (s₀ : List ℕ) (k : ℕ) (order : List ℕ) (s : List ℕ) (end j : ℕ) : Type 0 where
  pub under : end ≤ k
  pub left : j ≤ length order
  pub size : length s ≡ length s₀
  pub same : take end s ≡ take end s₀
  pub behind : List ℕ
  pub stand : drop (end + j) s ≡ behind ++ drop (k + length order) s₀
  pub whole : sort_onto (before coords) (take k s₀) order ≡ sort_onto (before coords) (take end s₀) (take j order) ++ behind

module _ (coords : List Float) (s₀ : List ℕ) (k : ℕ) (order : List ℕ) (fits : k + length order ≤ length s₀) where
  pub merge_start : Half coords s₀ k order s₀ k (length order)
  merge_start =
      record {
        under = omega arith;
        left = omega arith;
        size = refl;
        same = refl;
        behind = [];
        stand = refl;
        whole = ap (sort_onto (before coords) (take k s₀)) (sym (take-length order)) ∙ sym (append-nil _);
      }

  module _ (s : List ℕ) (end j : ℕ) (h : Half coords s₀ k order s end j) where
    pub merge_ready : InOrder coords (take k s₀) → InOrder coords (take end s)
    merge_ready o = subst (InOrder coords) (take-take end k s₀ h.under ∙ sym h.same) (in_order_take coords (take k s₀) end o)

    pub merge_end : j ≤ 0 → s ≡ merged coords s₀ k order
    unfolding merged front sort_onto
    merge_end z =
        let none : j ≡ 0 = omega arith in
        let rest : drop end s ≡ h.behind ++ drop (k + length order) s₀ = ap (λ (n : ℕ). drop n s) (let e : end ≡ end + j = omega arith in e) ∙ h.stand in
        let all : sort_onto (before coords) (take k s₀) order ≡ take end s₀ ++ h.behind =
        h.whole ∙ ap (λ (n : ℕ). sort_onto (before coords) (take end s₀) (take n order) ++ h.behind) none in
        let len : length (sort_onto (before coords) (take k s₀) order) ≡ k + length order =
        length_sort_onto (before coords) (take k s₀) order ∙ ap (λ (n : ℕ). n + length order) (length-take-le k s₀ (omega arith)) in
        sym (take-append-drop end s) ∙ ap₂ (λ (l m : List ℕ). l ++ m) h.same rest ∙ sym (append_assoc (take end s₀) h.behind (drop (k + length order) s₀))
        ∙ ap₂ (λ (l : List ℕ) (n : ℕ). l ++ drop n s₀) (sym all) (sym len)

    module _ (p : ℕ) (s₁ : List ℕ) (some : 0 < j) (o : InOrder coords order) (pe : p ≡ place_of coords (take end s) (get_or order (j - 1) 0)) (pl : p ≤ length (take end s))
        (se : s₁ ≡ put s (p + j) (run s p (end - p))) where
      p_le : p ≤ end
      p_le = omega (arith, pl, length-take end s)

      abbrev moved : List ℕ
      moved = run s p (end - p)

      moved_is : moved ≡ drop p (take end s₀)
      unfolding run
      moved_is = sym (drop_take s p end p_le (omega (arith, h.under, h.size))) ∙ ap (drop p) h.same

      length_moved : length moved ≡ end - p
      length_moved = length_run s p (end - p) (omega (arith, p_le, h.under, h.size))

      room : p + j + length moved ≤ length s
      room = omega (arith, length_moved, p_le, h.under, h.left, h.size)

      length_s₁ : length s₁ ≡ length s
      length_s₁ = ap length se ∙ length_put s (p + j) (omega (arith, room)) moved room

      -- what `merge` stores next to
      pub merge_room : p + (j - 1) < length s₁
      merge_room = omega (arith, length_s₁, room)

      first_same : take p (set s₁ (p + (j - 1)) (get_or order (j - 1) 0)) ≡ take p s₀
      first_same =
          take-set-le p s₁ (p + (j - 1)) (get_or order (j - 1) 0) (omega arith)
          ∙ sym (take-take p (p + j) s₁ (omega arith)) ∙ ap (λ (l : List ℕ). take p (take (p + j) l)) se ∙ ap (take p) (take_put s (p + j) (omega (arith, room)) moved)
          ∙ take-take p (p + j) s (omega arith) ∙ sym (take-take p end s p_le) ∙ ap (take p) h.same ∙ take-take p end s₀ p_le

      behind_moved : drop (p + j) s₁ ≡ drop p (take end s₀) ++ (h.behind ++ drop (k + length order) s₀)
      unfolding front
      behind_moved =
          ap (drop (p + j)) se ∙ drop_put s (p + j) (omega (arith, room)) moved
          ∙ ap₂ (λ (l m : List ℕ). l ++ m) moved_is
          (drop-drop (length moved) (p + j) s ∙ ap (λ (n : ℕ). drop n s) (let e : p + j + length moved ≡ end + j = omega (arith, length_moved, p_le) in e) ∙ h.stand)

      behind_stored : drop (p + (j - 1)) (set s₁ (p + (j - 1)) (get_or order (j - 1) 0))
          ≡ (get_or order (j - 1) 0 ∷ (drop p (take end s₀) ++ h.behind)) ++ drop (k + length order) s₀
      behind_stored =
          let v : ℕ = get_or order (j - 1) 0 in
          let b : ℕ = p + (j - 1) in
          ap₂ (λ (n : ℕ) (l : List ℕ). drop n l) (let e : p + (j - 1) ≡ b = omega arith in e) (set_split s₁ b v merge_room)
          ∙ drop_at (take b s₁) (v ∷ drop (suc b) s₁) b (length-take-le b s₁ (omega (arith, merge_room)))
          ∙ ap (λ (n : ℕ). v ∷ drop n s₁) (let e : suc b ≡ p + j = omega arith in e)
          ∙ ap (λ (l : List ℕ). v ∷ l) (behind_moved ∙ sym (append_assoc (drop p (take end s₀)) h.behind (drop (k + length order) s₀)))

      whole_placed : sort_onto (before coords) (take k s₀) order
          ≡ sort_onto (before coords) (take p s₀) (take (j - 1) order) ++ (get_or order (j - 1) 0 ∷ (drop p (take end s₀) ++ h.behind))
      whole_placed =
          let v : ℕ = get_or order (j - 1) 0 in
          let xs : List ℕ = take end s₀ in
          let at : p ≡ place_of coords xs v = pe ∙ ap (λ (l : List ℕ). place_of coords l v) h.same in
          let in_xs : p ≤ length xs = omega (arith, p_le, h.under, length-take-le end s₀ (omega (arith, h.under))) in
          h.whole
          ∙ ap (λ (l : List ℕ). l ++ h.behind)
          (ap (λ (n : ℕ). sort_onto (before coords) xs (take n order)) (let e : j ≡ suc (j - 1) = omega arith in e)
          ∙ last_placed coords xs order (j - 1) p o (omega (arith, h.left)) at in_xs
          ∙ ap (λ (l : List ℕ). sort_onto (before coords) l (take (j - 1) order) ++ v ∷ drop p xs) (take-take p end s₀ p_le))
          ∙ append_assoc (sort_onto (before coords) (take p s₀) (take (j - 1) order)) (v ∷ drop p xs) h.behind

      pub merge_turn : Half coords s₀ k order (set s₁ (p + (j - 1)) (get_or order (j - 1) 0)) p (j - 1)
      merge_turn =
          record {
            under = omega (arith, p_le, h.under);
            left = omega (arith, h.left);
            size = length-set s₁ (p + (j - 1)) (get_or order (j - 1) 0) ∙ length_s₁ ∙ h.size;
            same = first_same;
            behind = get_or order (j - 1) 0 ∷ (drop p (take end s₀) ++ h.behind);
            stand = behind_stored;
            whole = whole_placed;
          }
