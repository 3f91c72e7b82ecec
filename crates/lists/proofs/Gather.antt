-- The laws of lists put together, of what passes, and of adjacent equals dropped. Assumes nothing.
use mathlib.Core.Logic.{◌⊎◌, inl, inr}
use mathlib.Core.Path.{◌≡◌, refl, sym, ap, ap₂, ◌∙◌}
use mathlib.Core.Bool.{Bool, true, false, ◌&&◌, cond, true≢false}
use mathlib.Core.List.Memᴰ
use mathlib.Core.List.{
  List,
  [],
  ◌∷◌,
  ◌++◌,
  append-nil,
  append_assoc,
  Memᴰ,
}
use Prim.Native.Nat.{ℕ, zero, suc, ◌+◌, ◌-◌, ◌≤◌, ◌<◌}
use native.Mathlib.Nat.{not-suc-le-zero}
use native.Mathlib.Numerals.{add-one}
use native.Mathlib.Omega.{arith}
use native.Mathlib.Decide.{dec_le, dec_lt}
use lib.ListN.{length, get_or, length-append, get_or-append}
use lib.Seq.{get_or_at}
use Rattle.lists.specs.Search.{bit, many}
use Rattle.lists.specs.Gather.{gathered, each, all, passing, tally, slim_after, slim, joined, places}
use Rattle.lists.proofs.Search.{bit_le, many_more, many_bound}

module _ {A : Type 0} where
  -- ---- gathered lists

  pub gathered_more : (i : ℕ) (f : ℕ → List A) → gathered (i + 1) f ≡ gathered i f ++ f i
  unfolding gathered
  gathered_more i f = rw add-one

  pub gathered_ext : (n : ℕ) (f g : ℕ → List A) → ((i : ℕ) → i < n → f i ≡ g i) → gathered n f ≡ gathered n g
  unfolding gathered
  gathered_ext zero f g h = refl
  gathered_ext (suc n) f g h = ap₂ (λ (xs ys : List A). xs ++ ys) (gathered_ext n f g (λ i l. h i (omega (arith, l)))) (h n (omega arith))

  -- the first one by itself
  pub gathered_head : (n : ℕ) (f : ℕ → List A) → gathered (suc n) f ≡ f zero ++ gathered n (λ i. f (suc i))
  unfolding gathered
  gathered_head zero f = sym (append-nil (f zero))
  gathered_head (suc n) f = ap (λ (l : List A). l ++ f (suc n)) (gathered_head n f) ∙ append_assoc (f zero) (gathered n (λ i. f (suc i))) (f (suc n))

  pub each_more : (i : ℕ) (f : ℕ → A) → each (i + 1) f ≡ each i f ++ f i ∷ []
  each_more i f = gathered_more i (λ k. f k ∷ [])

  pub each_head : (n : ℕ) (f : ℕ → A) → each (suc n) f ≡ f zero ∷ each n (λ i. f (suc i))
  each_head n f = gathered_head n (λ k. f k ∷ [])

  pub each_ext : (n : ℕ) (f g : ℕ → A) → ((i : ℕ) → i < n → f i ≡ g i) → each n f ≡ each n g
  each_ext n f g h = gathered_ext n (λ i. f i ∷ []) (λ i. g i ∷ []) (λ i l. ap (λ (x : A). x ∷ []) (h i l))

  pub length_each : (n : ℕ) (f : ℕ → A) → length (each n f) ≡ n
  unfolding gathered
  length_each zero f = refl
  length_each (suc n) f = omega (arith, length-append (each n f) (f n ∷ []), length_each n f)

  pub get_or_each : (n : ℕ) (f : ℕ → A) (i : ℕ) (d : A) → i < n → get_or (each n f) i d ≡ f i
  get_or_each zero f i d h = absurd (not-suc-le-zero h)
  get_or_each (suc n) f zero d h = ap (λ (l : List A). get_or l zero d) (each_head n f)
  get_or_each (suc n) f (suc i) d h = ap (λ (l : List A). get_or l (suc i) d) (each_head n f) ∙ get_or_each n (λ k. f (suc k)) i d (omega arith)

  -- a list is its elements
  pub each_get_or : (xs : List A) (d : A) → each (length xs) (λ i. get_or xs i d) ≡ xs
  unfolding gathered
  each_get_or [] d = refl
  each_get_or (x ∷ xs) d = each_head (length xs) (λ i. get_or (x ∷ xs) i d) ∙ ap (λ (l : List A). x ∷ l) (each_get_or xs d)

  -- ---- what passes

  pub all_append : (p : A → Bool) (xs ys : List A) → all p xs ≡ true → all p (xs ++ ys) ≡ all p ys
  unfolding all
  all_append p [] ys h = refl
  all_append p (x ∷ xs) ys h = go (p x) (λ e. all_append p xs ys e) h
    where
      go : (t : Bool) → (all p xs ≡ true → all p (xs ++ ys) ≡ all p ys) → elim t [ true ↦ all p xs | false ↦ false ] ≡ true
          → elim t [ true ↦ all p (xs ++ ys) | false ↦ false ] ≡ all p ys
      go true ih e = ih e
      go false ih e = absurd (true≢false (sym e))

  -- one element more
  -- the first passes, and so do the others
  pub all_both : (p : A → Bool) (x : A) (xs : List A) → all p (x ∷ xs) ≡ true → (p x ≡ true) × (all p xs ≡ true)
  unfolding all
  all_both p x xs h = go (p x) h
    where
      go : (t : Bool) → (let r : Bool = elim t [ true ↦ all p xs | false ↦ false ] in r ≡ true) → (t ≡ true) × (all p xs ≡ true)
      go true e = (refl, e)
      go false e = absurd (true≢false (sym e))

  pub all_snoc : (p : A → Bool) (xs : List A) (x : A) → all p (xs ++ x ∷ []) ≡ all p xs && p x
  unfolding all
  all_snoc p [] x = go (p x)
    where
      go : (t : Bool) → elim t [ true ↦ true | false ↦ false ] ≡ t
      go true = refl
      go false = refl
  all_snoc p (y ∷ ys) x = go (p y) (all_snoc p ys x)
    where
      go : (t : Bool) → all p (ys ++ x ∷ []) ≡ all p ys && p x → elim t [ true ↦ all p (ys ++ x ∷ []) | false ↦ false ] ≡ elim t [ true ↦ all p ys | false ↦ false ] && p x
      go true ih = ih
      go false ih = refl

  pub all_at : (p : A → Bool) (xs : List A) (i : ℕ) (d : A) → all p xs ≡ true → i < length xs → p (get_or xs i d) ≡ true
  unfolding all
  all_at p [] i d h l = absurd (not-suc-le-zero l)
  all_at p (x ∷ xs) i d h l = go (p x) refl i l (λ k m. all_at p xs k d m) h
    where
      go : (t : Bool) → p x ≡ t → (i : ℕ) → i < length (x ∷ xs) → ((k : ℕ) → all p xs ≡ true → k < length xs → p (get_or xs k d) ≡ true)
          → elim t [ true ↦ all p xs | false ↦ false ] ≡ true → p (get_or (x ∷ xs) i d) ≡ true
      go false e i l ih h = absurd (true≢false (sym h))
      go true e zero l ih h = e
      go true e (suc i) l ih h = ih i h (omega arith)

  pub passing_append : (p : A → Bool) (xs ys : List A) → passing p (xs ++ ys) ≡ passing p xs ++ passing p ys
  unfolding passing
  passing_append p [] ys = refl
  passing_append p (x ∷ xs) ys = go (p x) (passing_append p xs ys)
    where
      go : (t : Bool) → passing p (xs ++ ys) ≡ passing p xs ++ passing p ys
          → (let l : List A = elim t [ true ↦ x ∷ passing p (xs ++ ys) | false ↦ passing p (xs ++ ys) ] in l ≡ elim t
          [ true ↦ x ∷ passing p xs | false ↦ passing p xs ] ++ passing p ys)
      go true ih = ap (λ (l : List A). x ∷ l) ih
      go false ih = ih

  -- one element more
  pub passing_snoc : (p : A → Bool) (xs : List A) (x : A) → passing p (xs ++ x ∷ []) ≡ passing p xs ++ cond (p x) (x ∷ []) []
  unfolding passing
  passing_snoc p xs x = passing_append p xs (x ∷ []) ∙ ap (λ (l : List A). passing p xs ++ l) (go (p x))
    where
      go : (t : Bool) → (let l : List A = elim t [ true ↦ x ∷ passing p [] | false ↦ passing p [] ] in l ≡ cond t (x ∷ []) [])
      go true = refl
      go false = refl

  pub tally_append : (p : A → Bool) (xs ys : List A) → tally p (xs ++ ys) ≡ tally p xs + tally p ys
  unfolding tally
  tally_append p [] ys = omega arith
  tally_append p (x ∷ xs) ys = omega (arith, tally_append p xs ys)

  pub tally_snoc : (p : A → Bool) (xs : List A) (x : A) → tally p (xs ++ x ∷ []) ≡ tally p xs + bit (p x)
  unfolding tally
  tally_snoc p xs x = omega (arith, tally_append p xs (x ∷ []))

  pub tally_le : (p : A → Bool) (xs : List A) → tally p xs ≤ length xs
  unfolding tally
  tally_le p [] = omega arith
  tally_le p (x ∷ xs) = omega (arith, tally_le p xs, bit_le (p x))

  pub tally_each : (p : A → Bool) (n : ℕ) (f : ℕ → A) → tally p (each n f) ≡ many (λ i. p (f i)) n
  unfolding gathered tally many
  tally_each p zero f = refl
  tally_each p (suc n) f = ap (tally p) (each_head n f) ∙ ap (λ (k : ℕ). bit (p (f zero)) + k) (tally_each p n (λ i. f (suc i)))

  pub length_passing : (p : A → Bool) (xs : List A) → length (passing p xs) ≡ tally p xs
  unfolding passing tally
  length_passing p [] = refl
  length_passing p (x ∷ xs) = go (p x) (length_passing p xs)
    where
      go : (t : Bool) → length (passing p xs) ≡ tally p xs → (let l : List A = elim t [ true ↦ x ∷ passing p xs | false ↦ passing p xs ] in length l ≡ bit t + tally p xs)
      go true ih = omega (arith, ih)
      go false ih = omega (arith, ih)

  -- ---- adjacent equals dropped

  module _ (same : A → A → Bool) where
    -- the last of x and the elements
    last_of : A → List A → A
    last_of x [] = x
    last_of x (y ∷ ys) = last_of y ys

    last_of_is : (x : A) (ys : List A) (d : A) → last_of x ys ≡ get_or (x ∷ ys) (length ys) d
    unfolding last_of
    last_of_is x [] d = refl
    last_of_is x (y ∷ ys) d = last_of_is y ys d

    after_snoc : (x : A) (ys : List A) (z : A) → slim_after same x (ys ++ z ∷ []) ≡ slim_after same x ys ++ cond (same (last_of x (slim_after same x ys)) z) [] (z ∷ [])
    unfolding slim_after last_of
    after_snoc x [] z = go (same x z)
      where
        go : (t : Bool) → (let l : List A = elim t [ true ↦ slim_after same x [] | false ↦ z ∷ slim_after same z [] ] in l ≡ cond t [] (z ∷ []))
        go true = refl
        go false = refl
    after_snoc x (y ∷ ys) z = go (same x y) (after_snoc x ys z) (after_snoc y ys z)
      where
        go : (t : Bool) → slim_after same x (ys ++ z ∷ []) ≡ slim_after same x ys ++ cond (same (last_of x (slim_after same x ys)) z) [] (z ∷ [])
            → slim_after same y (ys ++ z ∷ []) ≡ slim_after same y ys ++ cond (same (last_of y (slim_after same y ys)) z) [] (z ∷ [])
            → (let l : List A = elim t [ true ↦ slim_after same x (ys ++ z ∷ []) | false ↦ y ∷ slim_after same y (ys ++ z ∷ []) ] in
            let k : List A = elim t [ true ↦ slim_after same x ys | false ↦ y ∷ slim_after same y ys ] in l ≡ k ++ cond (same (last_of x k) z) [] (z ∷ []))
        go true a b = a
        go false a b = ap (λ (l : List A). y ∷ l) b

    pub slim_snoc : (xs : List A) (z d : A) → 0 < length xs
        → slim same (xs ++ z ∷ []) ≡ slim same xs ++ cond (same (get_or (slim same xs) (length (slim same xs) - 1) d) z) [] (z ∷ [])
    unfolding slim
    slim_snoc [] z d h = absurd (not-suc-le-zero h)
    slim_snoc (x ∷ xs) z d h =
        let ys : List A = slim_after same x xs in
        let k : length (x ∷ ys) - 1 ≡ length ys = omega arith in
        let l : last_of x ys ≡ get_or (x ∷ ys) (length (x ∷ ys) - 1) d = last_of_is x ys d ∙ ap (λ (n : ℕ). get_or (x ∷ ys) n d) (sym k) in
        ap (λ (t : List A). x ∷ t) (after_snoc x xs z ∙ ap (λ (v : A). ys ++ cond (same v z) [] (z ∷ [])) l)

    after_length : (x : A) (ys : List A) → length (slim_after same x ys) ≤ length ys
    unfolding slim_after
    after_length x [] = omega arith
    after_length x (y ∷ ys) = go (same x y) (after_length x ys) (after_length y ys)
      where
        go : (t : Bool) → length (slim_after same x ys) ≤ length ys → length (slim_after same y ys) ≤ length ys
            → (let l : List A = elim t [ true ↦ slim_after same x ys | false ↦ y ∷ slim_after same y ys ] in length l ≤ length (y ∷ ys))
        go true a b = omega arith
        go false a b = omega arith

    pub length_slim : (xs : List A) → length (slim same xs) ≤ length xs
    unfolding slim
    length_slim [] = omega arith
    length_slim (x ∷ xs) = omega (arith, after_length x xs)

    pub slim_some : (xs : List A) → 0 < length xs → 0 < length (slim same xs)
    unfolding slim
    slim_some [] h = h
    slim_some (x ∷ xs) h = omega arith

    module _ (equal : (x y : A) → same x y ≡ true → x ≡ y) where
      after_last : (x : A) (ys : List A) → last_of x (slim_after same x ys) ≡ last_of x ys
      unfolding slim_after last_of
      after_last x [] = refl
      after_last x (y ∷ ys) = go (same x y) refl (after_last x ys) (after_last y ys)
        where
          go : (t : Bool) → same x y ≡ t → last_of x (slim_after same x ys) ≡ last_of x ys → last_of y (slim_after same y ys) ≡ last_of y ys
              → (let l : List A = elim t [ true ↦ slim_after same x ys | false ↦ y ∷ slim_after same y ys ] in last_of x l ≡ last_of y ys)
          go true e a b = a ∙ ap (λ (v : A). last_of v ys) (equal x y e)
          go false e a b = b

  -- ---- what stands in gathered and passing lists

  pub gathered_at : (n : ℕ) (f : ℕ → List A) (x : A) → Memᴰ x (gathered n f) → (i : ℕ) × (i < n) × Memᴰ x (f i)
  unfolding gathered
  gathered_at zero f x h = absurd (Memᴰ.not-nil h)
  gathered_at (suc n) f x h = go (λ k. gathered_at n f x k) (Memᴰ.append_cases (gathered n f) h)
    where
      go : (Memᴰ x (gathered n f) → (i : ℕ) × (i < n) × Memᴰ x (f i)) → Memᴰ x (gathered n f) ⊎ Memᴰ x (f n) → (i : ℕ) × (i < suc n) × Memᴰ x (f i)
      go ih (inl k) = let r = ih k in (r.0, omega (arith, r.1), r.2)
      go ih (inr k) = (n, omega arith, k)

  pub in_gathered : (n : ℕ) (f : ℕ → List A) (x : A) (i : ℕ) → i < n → Memᴰ x (f i) → Memᴰ x (gathered n f)
  unfolding gathered
  in_gathered zero f x i h k = absurd (omega (arith, h))
  in_gathered (suc n) f x i h k = go (dec_le (suc i) n) (λ l. in_gathered n f x i l k)
    where
      go : Dec (suc i ≤ n) → (i < n → Memᴰ x (gathered n f)) → Memᴰ x (gathered n f ++ f n)
      go (yes l) ih = Memᴰ.append_left (f n) (ih l)
      go (no l) ih =
          let same : i ≡ n = omega (arith, h, l) in
          Memᴰ.append_right (gathered n f) (transport_mem same k)
        where
          transport_mem : i ≡ n → Memᴰ x (f i) → Memᴰ x (f n)
          transport_mem e m = rw (sym e) m

  pub each_at : (n : ℕ) (f : ℕ → A) (x : A) → Memᴰ x (each n f) → (i : ℕ) × (i < n) × (x ≡ f i)
  each_at n f x h =
      let r = gathered_at n (λ i. f i ∷ []) x h in
      (r.0, r.1, go (Memᴰ.cases_cons r.2))
    where
      go : {y : A} → (x ≡ y) ⊎ Memᴰ x [] → x ≡ y
      go (inl e) = e
      go (inr k) = absurd (Memᴰ.not-nil k)

  pub in_each : (n : ℕ) (f : ℕ → A) (i : ℕ) → i < n → Memᴰ (f i) (each n f)
  in_each n f i h = in_gathered n (λ j. f j ∷ []) (f i) i h (Memᴰ.head refl)

  pub passing_at : (p : A → Bool) (xs : List A) (x : A) → Memᴰ x (passing p xs) → Memᴰ x xs × (p x ≡ true)
  unfolding passing
  passing_at p [] x h = absurd (Memᴰ.not-nil h)
  passing_at p (y ∷ ys) x h = go (p y) refl (λ k. passing_at p ys x k) h
    where
      found : p y ≡ true → (Memᴰ x (passing p ys) → Memᴰ x ys × (p x ≡ true)) → (x ≡ y) ⊎ Memᴰ x (passing p ys) → Memᴰ x (y ∷ ys) × (p x ≡ true)
      found e ih (inl q) = (Memᴰ.head q, ap p q ∙ e)
      found e ih (inr k) = let r = ih k in (Memᴰ.tail r.0, r.1)

      go : (t : Bool) → p y ≡ t → (Memᴰ x (passing p ys) → Memᴰ x ys × (p x ≡ true))
          → Memᴰ x (elim t [ true ↦ y ∷ passing p ys | false ↦ passing p ys ]) → Memᴰ x (y ∷ ys) × (p x ≡ true)
      go true e ih k = found e ih (Memᴰ.cases_cons k)
      go false e ih k = let r = ih k in (Memᴰ.tail r.0, r.1)

  pub in_passing : (p : A → Bool) (xs : List A) (x : A) → Memᴰ x xs → p x ≡ true → Memᴰ x (passing p xs)
  unfolding passing
  in_passing p [] x h e = absurd (Memᴰ.not-nil h)
  in_passing p (y ∷ ys) x h e = go (p y) refl (λ k. in_passing p ys x k e) (Memᴰ.cases_cons h)
    where
      go : (t : Bool) → p y ≡ t → (Memᴰ x ys → Memᴰ x (passing p ys)) → (x ≡ y) ⊎ Memᴰ x ys → Memᴰ x (elim t [ true ↦ y ∷ passing p ys | false ↦ passing p ys ])
      go true q ih (inl same) = Memᴰ.head same
      go true q ih (inr k) = Memᴰ.tail (ih k)
      go false q ih (inl same) = absurd (true≢false (sym e ∙ ap p same ∙ q))
      go false q ih (inr k) = ih k

  -- what stands at a place is one of the elements, and each element stands at some place
  pub in_list : (l : List A) (k : ℕ) → k < length l → (d : A) → Memᴰ (get_or l k d) l
  in_list [] k h d = absurd (not-suc-le-zero h)
  in_list (x ∷ xs) zero h d = Memᴰ.head refl
  in_list (x ∷ xs) (suc k) h d = Memᴰ.tail (in_list xs k (omega (arith, h)) d)

  -- within a list the default doesn't matter
  pub get_or_any : (l : List A) (i : ℕ) (a b : A) → i < length l → get_or l i a ≡ get_or l i b
  get_or_any [] i a b h = absurd (not-suc-le-zero h)
  get_or_any (x ∷ xs) zero a b h = refl
  get_or_any (x ∷ xs) (suc i) a b h = get_or_any xs i a b (omega (arith, h))

  pub mem_at : (l : List A) (x : A) → Memᴰ x l → (k : ℕ) × (k < length l) × ((d : A) → get_or l k d ≡ x)
  mem_at [] x h = absurd (Memᴰ.not-nil h)
  mem_at (y ∷ ys) x h = go (λ k. mem_at ys x k) (Memᴰ.cases_cons h)
    where
      go : (Memᴰ x ys → (k : ℕ) × (k < length ys) × ((d : A) → get_or ys k d ≡ x)) → (x ≡ y) ⊎ Memᴰ x ys
          → (k : ℕ) × (k < length (y ∷ ys)) × ((d : A) → get_or (y ∷ ys) k d ≡ x)
      go ih (inl e) = (zero, omega arith, λ d. sym e)
      go ih (inr m) = let r = ih m in (suc r.0, omega (arith, r.1), r.2)

-- ---- lists joined

module _ {A B : Type 0} where
  pub joined_append : (f : A → List B) (xs ys : List A) → joined f (xs ++ ys) ≡ joined f xs ++ joined f ys
  unfolding joined
  joined_append f [] ys = refl
  joined_append f (x ∷ xs) ys = ap (λ (l : List B). f x ++ l) (joined_append f xs ys) ∙ sym (append_assoc (f x) (joined f xs) (joined f ys))

  -- one element more
  pub joined_snoc : (f : A → List B) (xs : List A) (x : A) → joined f (xs ++ x ∷ []) ≡ joined f xs ++ f x
  unfolding joined
  joined_snoc f xs x = joined_append f xs (x ∷ []) ∙ ap (λ (l : List B). joined f xs ++ l) (append-nil (f x))

  pub joined_is : (f : A → List B) (xs : List A) (d : A) → joined f xs ≡ gathered (length xs) (λ i. f (get_or xs i d))
  unfolding joined gathered
  joined_is f [] d = refl
  joined_is f (x ∷ xs) d = ap (λ (l : List B). f x ++ l) (joined_is f xs d) ∙ sym (gathered_head (length xs) (λ i. f (get_or (x ∷ xs) i d)))

-- ---- places

pub places_more : (i : ℕ) (p : ℕ → Bool) → places p (i + 1) ≡ places p i ++ cond (p i) (i ∷ []) []
places_more i p = gathered_more i (λ k. cond (p k) (k ∷ []) [])

pub places_ext : (p q : ℕ → Bool) (n : ℕ) → ((i : ℕ) → i < n → p i ≡ q i) → places p n ≡ places q n
places_ext p q n h = gathered_ext n (λ k. cond (p k) (k ∷ []) []) (λ k. cond (q k) (k ∷ []) []) (λ i l. ap (λ (t : Bool). cond t (i ∷ []) []) (h i l))

length_cond : (t : Bool) (i : ℕ) → length (cond t (i ∷ []) []) ≡ bit t
length_cond true i = refl
length_cond false i = refl

pub length_places : (p : ℕ → Bool) (n : ℕ) → length (places p n) ≡ many p n
unfolding gathered many
length_places p zero = refl
length_places p (suc n) =
    let q : many p (n + 1) ≡ many p n + bit (p n) = many_more p n in
    let r : many p (suc n) ≡ many p (n + 1) = ap (many p) (sym (add-one n)) in
    omega (arith, length-append (places p n) (cond (p n) (n ∷ []) []), length_cond (p n) n, length_places p n)

pub many_ext : (p q : ℕ → Bool) (n : ℕ) → ((i : ℕ) → i < n → p i ≡ q i) → many p n ≡ many q n
many_ext p q n h = sym (length_places p n) ∙ ap length (places_ext p q n h) ∙ length_places q n

pub places_le : (p : ℕ → Bool) (n : ℕ) → length (places p n) ≤ n
places_le p n = omega (arith, length_places p n, many_bound p n)

-- each of them is below n and passes
pub places_at : (p : ℕ → Bool) (n k : ℕ) → k < length (places p n) → (get_or (places p n) k 0 < n) × (p (get_or (places p n) k 0) ≡ true)
unfolding gathered
places_at p zero k h = absurd (not-suc-le-zero h)
places_at p (suc n) k h = go (p n) refl (λ l. places_at p n k l) h
  where
    here : p n ≡ true → (k < length (places p n) → (get_or (places p n) k 0 < n) × (p (get_or (places p n) k 0) ≡ true)) → k < length (places p n ++ n ∷ [])
        → Dec (k < length (places p n))
        → (get_or (places p n ++ n ∷ []) k 0 < suc n) × (p (get_or (places p n ++ n ∷ []) k 0) ≡ true)
    here e ih l (yes m) =
        let r = ih m in
        let q : get_or (places p n ++ n ∷ []) k 0 ≡ get_or (places p n) k 0 = get_or-append (places p n) (n ∷ []) 0 k m in
        (omega (arith, r.0, q), ap p q ∙ r.1)
    here e ih l (no m) =
        let q : get_or (places p n ++ n ∷ []) k 0 ≡ n = get_or_at (places p n) n [] 0 k (omega (arith, length-append (places p n) (n ∷ []), l, m)) in
        (omega (arith, q), ap p q ∙ e)

    go : (t : Bool) → p n ≡ t → (k < length (places p n) → (get_or (places p n) k 0 < n) × (p (get_or (places p n) k 0) ≡ true)) → k < length (places p n ++ cond t (n ∷ []) [])
        → (get_or (places p n ++ cond t (n ∷ []) []) k 0 < suc n) × (p (get_or (places p n ++ cond t (n ∷ []) []) k 0) ≡ true)
    go true e ih l = here e ih l (dec_lt k (length (places p n)))
    go false e ih l =
        let q : places p n ++ [] ≡ places p n = append-nil (places p n) in
        let r = ih (omega (arith, l, ap length q)) in
        let s : get_or (places p n ++ []) k 0 ≡ get_or (places p n) k 0 = ap (λ (m : List ℕ). get_or m k 0) q in
        (omega (arith, r.0, s), ap p s ∙ r.1)

-- each that passes is one of them
pub places_has : (p : ℕ → Bool) (n i : ℕ) → i < n → p i ≡ true → (k : ℕ) × (k < length (places p n)) × (get_or (places p n) k 0 ≡ i)
unfolding gathered
places_has p zero i h e = absurd (not-suc-le-zero h)
places_has p (suc n) i h e = go (dec_lt i n) (λ l. places_has p n i l e)
  where
    ps : List ℕ
    ps = places p n

    more : List ℕ
    more = cond (p n) (n ∷ []) []

    go : Dec (i < n) → (i < n → (k : ℕ) × (k < length ps) × (get_or ps k 0 ≡ i)) → (k : ℕ) × (k < length (ps ++ more)) × (get_or (ps ++ more) k 0 ≡ i)
    go (yes l) before =
        let found = before l in
        (found.0, omega (arith, found.1, length-append ps more), get_or-append ps more 0 found.0 found.1 ∙ found.2)
    go (no l) before =
        let at : i ≡ n = omega (arith, h, l) in
        let one : more ≡ n ∷ [] = ap (λ (t : Bool). cond t (n ∷ []) []) (ap p (sym at) ∙ e) in
        (length ps, omega (arith, length-append ps more, ap length one), ap (λ (l : List ℕ). get_or (ps ++ l) (length ps) 0) one ∙ get_or_at ps n [] 0 (length ps) refl ∙ sym at)

-- and they rise
pub places_rise : (p : ℕ → Bool) (n j k : ℕ) → j < k → k < length (places p n) → get_or (places p n) j 0 < get_or (places p n) k 0
unfolding gathered
places_rise p zero j k l h = absurd (not-suc-le-zero h)
places_rise p (suc n) j k l h = go (p n) (λ m. places_rise p n j k l m) h
  where
    here : (k < length (places p n) → get_or (places p n) j 0 < get_or (places p n) k 0) → k < length (places p n ++ n ∷ []) → Dec (k < length (places p n))
        → get_or (places p n ++ n ∷ []) j 0 < get_or (places p n ++ n ∷ []) k 0
    here ih h (yes m) =
        omega (arith, ih m, get_or-append (places p n) (n ∷ []) 0 k m, get_or-append (places p n) (n ∷ []) 0 j (omega (arith, l, m)))
    here ih h (no m) =
        let b : j < length (places p n) = omega (arith, l, h, length-append (places p n) (n ∷ [])) in
        let q : get_or (places p n ++ n ∷ []) k 0 ≡ n = get_or_at (places p n) n [] 0 k (omega (arith, length-append (places p n) (n ∷ []), h, m)) in
        omega (arith, q, get_or-append (places p n) (n ∷ []) 0 j b, (places_at p n j b).0)

    go : (t : Bool) → (k < length (places p n) → get_or (places p n) j 0 < get_or (places p n) k 0) → k < length (places p n ++ cond t (n ∷ []) [])
        → get_or (places p n ++ cond t (n ∷ []) []) j 0 < get_or (places p n ++ cond t (n ∷ []) []) k 0
    go true ih h = here ih h (dec_lt k (length (places p n)))
    go false ih h =
        let q : places p n ++ [] ≡ places p n = append-nil (places p n) in
        omega (arith, ih (omega (arith, h, ap length q)), ap (λ (m : List ℕ). get_or m j 0) q, ap (λ (m : List ℕ). get_or m k 0) q)
