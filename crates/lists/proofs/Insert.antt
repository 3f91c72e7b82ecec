-- A list with an element put in, at any element type: the turns of a loop that moves the elements from k on up, from behind. Assumes nothing.
use mathlib.Core.Path.{◌≡◌, refl, sym, ap, ap₂, ◌∙◌}
use mathlib.Core.Logic.{◌⊎◌, inl, inr}
use mathlib.Core.Bool.{true, ◌&&◌}
use mathlib.Core.List.{List, [], ◌∷◌, ◌++◌, append-nil, append_assoc}
use Prim.Native.Nat.{ℕ, zero, suc, ◌+◌, ◌-◌, ◌≤◌, ◌<◌}
use native.Mathlib.Numerals.{add-one}
use native.Mathlib.Omega.{arith}
use lib.Dec.{leb, ltb}
use lib.ListN.{length, get_or, set, take, drop, length-append, length-drop, drop_of_length-le, get_or-append}
use lib.Seq.{slice, slice_empty, slice-cons, split_at, set_at, take-suc, get_or-take, length-take-le, take_at, take-take}
use borrow.Author.Tests.{le-leb, lt-leb, lt-ltb, le-ltb}
use Rattle.lists.specs.Sort.{moved}
use Rattle.lists.specs.Regions.{front, put_in, insert_at}
use Rattle.lists.proofs.Regions.{front_in}

module _ {A : Type 0} where
  pub moved_below : (f : ℕ → A) (s : A) (k i : ℕ) → i < k → moved f s k i ≡ f i
  unfolding moved
  moved_below f s zero zero h = absurd (omega arith)
  moved_below f s zero (suc i) h = absurd (omega arith)
  moved_below f s (suc k) zero h = refl
  moved_below f s (suc k) (suc i) h = moved_below (λ j. f (suc j)) s k i (omega arith)

  pub moved_same : (f : ℕ → A) (s : A) (k : ℕ) → moved f s k k ≡ s
  unfolding moved
  moved_same f s zero = refl
  moved_same f s (suc k) = moved_same (λ j. f (suc j)) s k

  pub moved_above : (f : ℕ → A) (s : A) (k i : ℕ) → k ≤ i → moved f s k (suc i) ≡ f i
  unfolding moved
  moved_above f s zero i h = refl
  moved_above f s (suc k) zero h = absurd (omega arith)
  moved_above f s (suc k) (suc i) h = moved_above (λ j. f (suc j)) s k i (omega arith)

  -- only the elements below n count, where k and i are no larger
  pub moved_ext : (f g : ℕ → A) (s : A) (k i n : ℕ) → k ≤ n → i ≤ n → ((j : ℕ) → j < n → f j ≡ g j) → moved f s k i ≡ moved g s k i
  unfolding moved
  moved_ext f g s zero zero n h l same = refl
  moved_ext f g s zero (suc i) n h l same = same i (omega (arith, l))
  moved_ext f g s (suc k) zero n h l same = same zero (omega (arith, h))
  moved_ext f g s (suc k) (suc i) n h l same =
      moved_ext (λ j. f (suc j)) (λ j. g (suc j)) s k i (n - 1) (omega (arith, h)) (omega (arith, l)) (λ j b. same (suc j) (omega (arith, b)))

  pub length_put_in : (k : ℕ) (x : A) (xs : List A) → k ≤ length xs → length (put_in k x xs) ≡ length xs + 1
  unfolding put_in
  length_put_in k x xs h = simp (length-append, length-drop) (omega (arith, length-take-le k xs h))

  pub get_or_put_in : (k : ℕ) (x : A) (xs : List A) (i : ℕ) (d : A) → k ≤ length xs → get_or (put_in k x xs) i d ≡ moved (λ j. get_or xs j d) x k i
  unfolding put_in moved
  get_or_put_in zero x xs zero d h = refl
  get_or_put_in zero x xs (suc i) d h = refl
  get_or_put_in (suc k) x [] i d h = absurd (omega arith)
  get_or_put_in (suc k) x (y ∷ ys) zero d h = refl
  get_or_put_in (suc k) x (y ∷ ys) (suc i) d h = get_or_put_in k x ys i d (omega arith)

  -- ---- insertAt

  module _ (w : List A) (n k : ℕ) (x : A) where
    pub insert_at_fits : k ≤ n → n < length w → insert_at w n k x ≡ front w (put_in k x (take n w))
    unfolding insert_at
    insert_at_fits h l = rw (le-leb k n h, lt-ltb n (length w) l)

    -- k beyond n, or no place for one more
    pub insert_at_beyond : n < k → insert_at w n k x ≡ w
    unfolding insert_at
    insert_at_beyond h = rw (lt-leb k n h)

    pub insert_at_full : k ≤ n → length w ≤ n → insert_at w n k x ≡ w
    unfolding insert_at
    insert_at_full h l = rw (le-leb k n h, le-ltb n (length w) l)

    -- either
    pub insert_at_not : (n < k) ⊎ ((k ≤ n) × (length w ≤ n)) → insert_at w n k x ≡ w
    insert_at_not (inl h) = insert_at_beyond h
    insert_at_not (inr h) = insert_at_full h.0 h.1

    pub get_or_insert_at : k ≤ n → n < length w → (i : ℕ) (d : A) → i ≤ n → get_or (insert_at w n k x) i d ≡ moved (λ j. get_or w j d) x k i
    get_or_insert_at h l i d b =
        let tk : length (take n w) ≡ n = length-take-le n w (omega arith) in
        let len : length (put_in k x (take n w)) ≡ n + 1 = omega (arith, length_put_in k x (take n w) (omega arith)) in
        ap (λ (v : List A). get_or v i d) (insert_at_fits h l) ∙ front_in w (put_in k x (take n w)) i d (omega arith) ∙ get_or_put_in k x (take n w) i d (omega arith)
        ∙ moved_ext (λ j. get_or (take n w) j d) (λ j. get_or w j d) x k i n h b (λ j m. get_or-take n w j d m)

  -- into all the elements but the last, which goes
  pub insert_at_last : (xs : List A) (k : ℕ) (x y : A) → k ≤ length xs → insert_at (xs ++ y ∷ []) (length xs) k x ≡ put_in k x xs
  unfolding front
  insert_at_last xs k x y h =
      let w : List A = xs ++ y ∷ [] in
      let long : length w ≡ length xs + 1 = length-append xs (y ∷ []) in
      let more : length (put_in k x xs) ≡ length xs + 1 = length_put_in k x xs h in
      insert_at_fits w (length xs) k x h (omega (arith, long)) ∙ ap (λ (v : List A). front w (put_in k x v)) (take_at xs (y ∷ []) (length xs) refl)
      ∙ ap (λ (v : List A). put_in k x xs ++ v) (drop_of_length-le w (omega (arith, long, more))) ∙ append-nil (put_in k x xs)

  -- ---- the turns

  -- w with its place n given up, and v in place i
  unfoldable pub shifted : List A → ℕ → ℕ → A → List A
  shifted w n i v = take i w ++ v ∷ (slice i n w ++ drop (n + 1) w)

  module _ (d : A) (w : List A) (n : ℕ) (h : n < length w) where
    pub shift_start : w ≡ shifted w n n (get_or w n d)
    unfolding shifted
    shift_start = split_at w n d h ∙ rw (slice_empty n w, add-one)

    shift_set : (i : ℕ) (v u : A) → i ≤ n → set (shifted w n i v) i u ≡ shifted w n i u
    unfolding shifted
    shift_set i v u l = set_at (take i w) v (slice i n w ++ drop (n + 1) w) u i (length-take-le i w (omega arith))

    shift_at : (i : ℕ) (v : A) (j : ℕ) → i ≤ n → j < i → get_or (shifted w n i v) j d ≡ get_or w j d
    unfolding shifted
    shift_at i v j l m =
        let len = length-take-le i w (omega arith) in
        get_or-append (take i w) (v ∷ (slice i n w ++ drop (n + 1) w)) d j (omega arith) ∙ get_or-take i w j d m

    shift_down : (i : ℕ) → 0 < i → i ≤ n → shifted w n i (get_or w (i - 1) d) ≡ shifted w n (i - 1) (get_or w (i - 1) d)
    unfolding shifted
    shift_down i l m =
        let up : i ≡ suc (i - 1) = omega arith in
        let cut : take i w ≡ take (i - 1) w ++ get_or w (i - 1) d ∷ [] = ap (λ (j : ℕ). take j w) up ∙ take-suc w (i - 1) d (omega arith) in
        let rest : slice (i - 1) n w ≡ get_or w (i - 1) d ∷ slice i n w = slice-cons (i - 1) n w d (omega arith) (omega arith) ∙ ap
        (λ (j : ℕ). get_or w (i - 1) d ∷ slice j n w) (sym up) in
        rw (cut, rest) (append_assoc (take (i - 1) w) (get_or w (i - 1) d ∷ []) _)

    pub shift_turn : (ys : List A) (i : ℕ) (v : A) → ys ≡ shifted w n i v → 0 < i → i ≤ n → set ys i (get_or ys (i - 1) d) ≡ shifted w n (i - 1) (get_or w (i - 1) d)
    shift_turn ys i v e l m =
        ap (λ (zs : List A). set zs i (get_or zs (i - 1) d)) e ∙ shift_set i v (get_or (shifted w n i v) (i - 1) d) m
        ∙ ap (shifted w n i) (shift_at i v (i - 1) m (omega arith)) ∙ shift_down i l m

    shift_is : (k : ℕ) (x : A) → k ≤ n → shifted w n k x ≡ front w (put_in k x (take n w))
    unfolding shifted front put_in
    shift_is k x l =
        let tk : length (take n w) ≡ n = length-take-le n w (omega arith) in
        let t : take k (take n w) ≡ take k w = take-take k n w l in
        let m : length (put_in k x (take n w)) ≡ n + 1 = omega (arith, length_put_in k x (take n w) (omega arith)) in
        sym (append_assoc (take k w) (x ∷ drop k (take n w)) (drop (n + 1) w)) ∙ ap₂ (λ (p : List A) (j : ℕ). p ++ x ∷ drop k (take n w) ++ drop j w) (sym t) (sym m)

    pub shift_end : (ys : List A) (i k : ℕ) (v x : A) → ys ≡ shifted w n i v → i ≡ k → k ≤ n → (true ≡ (leb k n && ltb n (length w))) × (set ys i x ≡ insert_at w n k x)
    shift_end ys i k v x e f m = (
      rw (le-leb k n m, lt-ltb n (length w) h),
      ap₂ (λ (zs : List A) (j : ℕ). set zs j x) (e ∙ ap (λ (j : ℕ). shifted w n j v) f) f ∙ shift_set k v x m ∙ shift_is k x m ∙ sym (insert_at_fits w n k x m h),
    )
