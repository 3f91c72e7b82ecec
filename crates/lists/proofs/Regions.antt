-- The laws of `run`, `front` and `put`: what a loop that fills a region of a list asks for. Assumes nothing.
use mathlib.Core.Path.{◌≡◌, refl, sym, ap, ap₂, ◌∙◌}
use mathlib.Core.List.{List, [], ◌∷◌, ◌++◌, append_assoc}
use Prim.Native.Nat.{ℕ, suc, ◌+◌, ◌-◌, ◌≤◌, ◌<◌}
use native.Mathlib.Nat.{le_of_eq, le_of_lt, le_trans, add-sub_of_le, zero-add, suc-add}
use native.Mathlib.Numerals.{add-one}
use native.Mathlib.Decide.{dec_le}
use native.Mathlib.Omega.{arith}
use lib.ListN.{length, get_or, set, take, drop, length-append, length-drop, take-append-drop, get_or-append}
use lib.Seq.{
  length-take-le,
  take-append_seam,
  drop-append-add,
  drop-drop,
  drop-cons,
  set_at,
  append_snoc,
  get_or-take,
  get_or-drop,
  get_or-append-add,
  take_all,
  take_at,
  drop_at,
  take-take,
  take-add,
  take-append-le,
  drop-append-le,
  take-suc,
}
use borrow.Author.Tests.{le-leb, lt-leb}
use Rattle.lists.specs.Regions.{run, front, put, copied}

module _ {A : Type 0} where
  -- a store into the second of two lists
  pub set_behind : (xs ys : List A) (i : ℕ) (v : A) → set (xs ++ ys) (length xs + i) v ≡ xs ++ set ys i v
  set_behind [] ys i v = rw zero-add
  set_behind (x ∷ xs) ys i v = rw suc-add (ap (λ (t : List A). x ∷ t) (set_behind xs ys i v))

  pub length_front : (w xs : List A) → length xs ≤ length w → length (front w xs) ≡ length w
  unfolding front
  length_front w xs h = simp (length-append, length-drop) (add-sub_of_le h)

  pub take_front : (w xs : List A) → take (length xs) (front w xs) ≡ xs
  unfolding front
  take_front w xs = take-append_seam xs (drop (length xs) w)

  pub take_front_of : (w xs : List A) (n : ℕ) → length xs ≡ n → take n (front w xs) ≡ xs
  take_front_of w xs n l = rw (← l) (take_front w xs)

  -- an element of the front, and one behind it
  pub front_in : (w xs : List A) (i : ℕ) (d : A) → i < length xs → get_or (front w xs) i d ≡ get_or xs i d
  unfolding front
  front_in w xs i d h = get_or-append xs (drop (length xs) w) d i h

  pub front_behind : (w xs : List A) (i : ℕ) (d : A) → length xs ≤ i → get_or (front w xs) i d ≡ get_or w i d
  unfolding front
  front_behind w xs i d h =
      let e : length xs + (i - length xs) ≡ i = add-sub_of_le h in
      ap (λ (k : ℕ). get_or (xs ++ drop (length xs) w) k d) (sym e) ∙ get_or-append-add xs (drop (length xs) w) (i - length xs) d
      ∙ get_or-drop (length xs) w (i - length xs) d ∙ ap (λ (k : ℕ). get_or w k d) e

  -- nothing changed
  pub front_take : (w : List A) (n : ℕ) → n ≤ length w → front w (take n w) ≡ w
  unfolding front
  front_take w n h = rw (length-take-le n w h, take-append-drop)

  -- a store right after the front
  pub front_snoc : (w xs : List A) (v d : A) → length xs < length w → set (front w xs) (length xs) v ≡ front w (xs ++ (v ∷ []))
  unfolding front
  front_snoc w xs v d h =
      rw (drop-cons w (length xs) d h, set_at xs (get_or w (length xs) d) (drop (suc (length xs)) w) v (length xs) refl, length-append, add-one, append_snoc)

  -- the same where the front's length is known by an equation: w' is w with the front xs
  pub front_store : (w w' xs : List A) (n : ℕ) (v d : A) → length xs ≡ n → n < length w → w' ≡ front w xs → set w' n v ≡ front w (xs ++ (v ∷ []))
  front_store w w' xs n v d l h e = rw (e, ← l) (front_snoc w xs v d (rw l h))

  -- a longer front hides a shorter one
  pub front_front : (w xs ys : List A) → length xs ≤ length ys → front (front w xs) ys ≡ front w ys
  unfolding front
  front_front w xs ys h =
      let e : length xs + (length ys - length xs) ≡ length ys = add-sub_of_le h in
      rw (← e, drop-append-add xs (drop (length xs) w) (length ys - length xs), drop-drop)

  -- a drop of a take is a take of a drop
  pub drop_take : (w : List A) (c b : ℕ) → c ≤ b → b ≤ length w → drop c (take b w) ≡ take (b - c) (drop c w)
  drop_take w c b h hb =
      let g : c + (b - c) ≡ b = add-sub_of_le h in
      let e : take b w ≡ take c w ++ take (b - c) (drop c w) = ap (λ (m : ℕ). take m w) (sym g) ∙ take-add c (b - c) w in
      ap (drop c) e ∙ drop_at (take c w) (take (b - c) (drop c w)) c (length-take-le c w (le_trans h hb))

  pub length_run : (w : List A) (b n : ℕ) → b + n ≤ length w → length (run w b n) ≡ n
  unfolding run
  length_run w b n h = length-take-le n (drop b w) (simp length-drop (omega arith))

  pub get_or_run : (w : List A) (b n i : ℕ) (d : A) → i < n → get_or (run w b n) i d ≡ get_or w (b + i) d
  unfolding run
  get_or_run w b n i d h = get_or-take n (drop b w) i d h ∙ get_or-drop b w i d

  -- a run of a run
  pub run_run : (w : List A) (b t c n : ℕ) → b + t ≤ length w → c + n ≤ t → run (run w b t) c n ≡ run w (b + c) n
  unfolding run
  run_run w b t c n h k =
      rw (drop_take (drop b w) c t (omega arith) (simp length-drop (omega arith)), take-take n (t - c) (drop c (drop b w)) (omega arith), drop-drop)

  -- nothing written yet
  pub put_none : (w : List A) (b : ℕ) → put w b [] ≡ w
  unfolding put front
  put_none w b = take-append-drop b w

  module _ (w : List A) (b : ℕ) (hb : b ≤ length w) where
    pub length_put : (xs : List A) → b + length xs ≤ length w → length (put w b xs) ≡ length w
    unfolding put front
    length_put xs h = simp (length-append, length-take-le b w hb, length-drop) (omega arith)

    -- what stands before the region
    pub put_before : (xs : List A) (i : ℕ) (d : A) → i < b → get_or (put w b xs) i d ≡ get_or w i d
    unfolding put
    put_before xs i d h =
        get_or-append (take b w) (front (drop b w) xs) d i (rw length-take-le h) ∙ get_or-take b w i d h

    pub take_put : (xs : List A) → take b (put w b xs) ≡ take b w
    unfolding put
    take_put xs = take_at (take b w) (front (drop b w) xs) b (length-take-le b w hb)

    pub drop_put : (xs : List A) → drop b (put w b xs) ≡ front (drop b w) xs
    unfolding put
    drop_put xs = drop_at (take b w) (front (drop b w) xs) b (length-take-le b w hb)

    -- nothing changed
    pub put_run : (n : ℕ) → b + n ≤ length w → put w b (run w b n) ≡ w
    unfolding put run
    put_run n h = rw (front_take (drop b w) n (simp length-drop (omega arith)), take-append-drop)

    cut : (xs : List A) (c : ℕ) → c ≤ b → drop c (put w b xs) ≡ drop c (take b w) ++ front (drop b w) xs
    unfolding put
    cut xs c h = drop-append-le c (take b w) (front (drop b w) xs) (rw length-take-le h)

    split : (v ys : List A) → put v b ys ≡ take b v ++ front (drop b v) ys
    unfolding put
    split v ys = refl

    -- the region itself
    pub run_put : (xs : List A) (n : ℕ) → length xs ≡ n → run (put w b xs) b n ≡ xs
    unfolding run
    run_put xs n l = rw (drop_put xs, ← l) (take_front (drop b w) xs)

    -- a run before the region
    pub run_before : (xs : List A) (c n : ℕ) → c + n ≤ b → run (put w b xs) c n ≡ run w c n
    unfolding run
    run_before xs c n h =
        let l : length (take b w) ≡ b = length-take-le b w hb in
        let e : drop c (put w b xs) ≡ drop c (take b w) ++ front (drop b w) xs = cut xs c (omega arith) in
        let m : length (drop c (take b w)) ≡ b - c = simp (length-drop, l) in
        rw (e, take-append-le n (drop c (take b w)) (front (drop b w) xs) (omega arith), drop_take w c b (omega arith) hb, take-take n (b - c) (drop c w) (omega arith))

    -- a second store in the region that is no shorter hides the first
    pub put_put : (xs ys : List A) → length xs ≤ length ys → put (put w b xs) b ys ≡ put w b ys
    put_put xs ys h = split (put w b xs) ys ∙ rw (take_put xs, drop_put xs, front_front (drop b w) xs ys h) (sym (split w ys))

    -- right behind the region
    pub put_store : (xs : List A) (v d : A) → b + length xs < length w → set (put w b xs) (b + length xs) v ≡ put w b (xs ++ (v ∷ []))
    unfolding put
    put_store xs v d h =
        let l : length (take b w) ≡ b = length-take-le b w hb in
        let n : length xs < length (drop b w) = rw length-drop (omega arith) in
        ap (λ (k : ℕ). set (take b w ++ front (drop b w) xs) (k + length xs) v) (sym l) ∙ set_behind (take b w) (front (drop b w) xs) (length xs) v
        ∙ ap (λ (t : List A). take b w ++ t) (front_snoc (drop b w) xs v d n)

    -- an element of the region, and one behind it
    pub put_in_lem : (xs : List A) (i : ℕ) (d : A) → i < length xs → get_or (put w b xs) (b + i) d ≡ get_or xs i d
    unfolding put front
    put_in_lem xs i d h =
        let l : length (take b w) ≡ b = length-take-le b w hb in
        ap (λ (k : ℕ). get_or (take b w ++ (xs ++ drop (length xs) (drop b w))) (k + i) d) (sym l)
        ∙ get_or-append-add (take b w) (xs ++ drop (length xs) (drop b w)) i d ∙ get_or-append xs (drop (length xs) (drop b w)) d i h

    pub drop_behind : (xs : List A) → drop (b + length xs) (put w b xs) ≡ drop (b + length xs) w
    unfolding front
    drop_behind xs =
        sym (drop-drop (length xs) b (put w b xs)) ∙ ap (drop (length xs)) (drop_put xs) ∙ drop_at xs (drop (length xs) (drop b w)) (length xs) refl ∙ drop-drop (length xs) b w

    pub put_behind : (xs : List A) (i : ℕ) (d : A) → b + length xs ≤ i → get_or (put w b xs) i d ≡ get_or w i d
    put_behind xs i d h =
        let e : b + length xs + (i - (b + length xs)) ≡ i = add-sub_of_le h in
        ap (λ (k : ℕ). get_or (put w b xs) k d) (sym e) ∙ sym (get_or-drop (b + length xs) (put w b xs) (i - (b + length xs)) d)
        ∙ ap (λ (l : List A). get_or l (i - (b + length xs)) d) (drop_behind xs) ∙ get_or-drop (b + length xs) w (i - (b + length xs)) d ∙ ap (λ (k : ℕ). get_or w k d) e

    -- a run behind the region
    pub run_behind : (xs : List A) (c n : ℕ) → b + length xs ≤ c → run (put w b xs) c n ≡ run w c n
    unfolding run
    run_behind xs c n h =
        let e : b + length xs + (c - (b + length xs)) ≡ c = add-sub_of_le h in
        let one : drop c (put w b xs) ≡ drop c w =
        ap (λ (k : ℕ). drop k (put w b xs)) (sym e) ∙ sym (drop-drop (c - (b + length xs)) (b + length xs) (put w b xs)) ∙ ap (drop (c - (b + length xs))) (drop_behind xs)
        ∙ drop-drop (c - (b + length xs)) (b + length xs) w ∙ ap (λ (k : ℕ). drop k w) e in
        ap (take n) one

    -- two regions, one right behind the other
    pub put_append : (xs ys : List A) → b + length xs ≤ length w → put (put w b xs) (b + length xs) ys ≡ put w b (xs ++ ys)
    unfolding put front
    put_append xs ys h =
        let l : length (take b w) ≡ b = length-take-le b w hb in
        let m : length (take b w ++ xs) ≡ b + length xs = simp (length-append, l) in
        let whole : put w b xs ≡ take b w ++ xs ++ drop (length xs) (drop b w) = sym (append_assoc (take b w) xs (drop (length xs) (drop b w))) in
        let low : take (b + length xs) (put w b xs) ≡ take b w ++ xs = ap (take (b + length xs)) whole ∙ take_at (take b w ++ xs) (drop (length xs) (drop b w)) (b + length xs) m in
        let high : drop (b + length xs) (put w b xs) ≡ drop (length xs) (drop b w) = ap (drop (b + length xs)) whole ∙ drop_at (take b w ++ xs)
        (drop (length xs) (drop b w)) (b + length xs) m in
        rw (low, high) (append_assoc (take b w) xs _ ∙ ap (λ (t : List A). take b w ++ t)
        (sym (append_assoc xs ys _) ∙ ap (λ (t : List A). xs ++ ys ++ t)
        (drop-drop (length ys) (length xs) (drop b w) ∙ ap (λ (k : ℕ). drop k (drop b w)) (sym (length-append xs ys)))))

  pub front_put : (w xs : List A) → put w 0 xs ≡ front w xs
  unfolding put
  front_put w xs = refl

  -- a part of n elements from b on, lent and come back as ys
  pub part_back : (w ys : List A) (b n : ℕ) → length ys ≡ n → take b w ++ (ys ++ drop n (drop b w)) ≡ put w b ys
  unfolding put front
  part_back w ys b n l = ap (λ (k : ℕ). take b w ++ (ys ++ drop k (drop b w))) (sym l)

  -- ---- a part of w from b on, lent and come back: w is w₀ with xs from b on, the part comes back with a front that is no shorter

  abbrev pub back : List A → ℕ → List A → List A
  back w b ys = take b w ++ (ys ++ drop (length w - b) (drop b w))

  module _ (w₀ : List A) (b : ℕ) (xs w : List A) (e : w ≡ put w₀ b xs) (fits : b + length xs ≤ length w₀) where
    hb : b ≤ length w₀
    hb = omega arith

    part_is : take (length w - b) (drop b w) ≡ front (drop b w₀) xs
    part_is = take_all (length w - b) (drop b w) (le_of_eq (length-drop b w)) ∙ ap (drop b) e ∙ drop_put w₀ b hb xs

    pub lent : take (length xs) (take (length w - b) (drop b w)) ≡ xs
    lent = ap (take (length xs)) part_is ∙ take_front (drop b w₀) xs

  -- ---- a copy, whole or element by element

  module _ (w : List A) (b : ℕ) (xs : List A) where
    pub copied_fits : b + length xs ≤ length w → copied w b xs ≡ put w b xs
    unfolding copied
    copied_fits h = rw (le-leb (b + length xs) (length w) h)

    pub copied_not : length w < b + length xs → copied w b xs ≡ w
    unfolding copied
    copied_not h = rw (lt-leb (b + length xs) (length w) h)

    pub length_copied : length (copied w b xs) ≡ length w
    length_copied = go (dec_le (b + length xs) (length w))
      where
        go : Dec (b + length xs ≤ length w) → length (copied w b xs) ≡ length w
        go (yes h) = ap length (copied_fits h) ∙ length_put w b (omega arith) xs h
        go (no h) = ap length (copied_not (omega arith))

    module _ (fits : b + length xs ≤ length w) where
      pub copy_start : w ≡ put w b (take 0 xs)
      copy_start = sym (put_none w b)

      pub copy_turn : (v : List A) (i : ℕ) (d : A) → i < length xs → v ≡ put w b (take i xs) → set v (b + i) (get_or xs i d) ≡ put w b (take (i + 1) xs)
      copy_turn v i d h e =
          let n : length (take i xs) ≡ i = length-take-le i xs (le_of_lt h) in
          let one : take (i + 1) xs ≡ take i xs ++ (get_or xs i d ∷ []) = ap (λ (k : ℕ). take k xs) (add-one i) ∙ take-suc xs i d h in
          ap₂ (λ (u : List A) (k : ℕ). set u (b + k) (get_or xs i d)) e (sym n) ∙ put_store w b (omega arith) (take i xs) (get_or xs i d) d (omega arith)
          ∙ ap (put w b) (sym one)

      pub copy_end : (v : List A) (i : ℕ) → length xs ≤ i → v ≡ put w b (take i xs) → v ≡ copied w b xs
      copy_end v i m e = e ∙ ap (put w b) (take_all i xs m) ∙ sym (copied_fits fits)
