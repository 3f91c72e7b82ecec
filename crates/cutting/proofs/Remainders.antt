-- The step to the next slot goes by one and starts again at the end; the published code's goes by a remainder, in the vector of the node's slots.
-- Both find the same slot. Assumes nothing.
use mathlib.Core.Path.{◌≡◌, refl, sym, ap, ◌∙◌}
use mathlib.Core.Bool.{Bool, true, false, ◌&&◌, true≢false, not}
use mathlib.Core.List.{List}
use Prim.Native.Nat.{ℕ, ◌+◌, ◌-◌, ◌%◌, ◌≤◌, ◌<◌}
use native.Mathlib.Nat.{mod-eq_of_lt, mod-lt, add-mod_right}
use native.Mathlib.Decide.{dec_lt}
use native.Mathlib.Omega.{arith}
use lib.Dec.{eqb, ltb}
use lib.ListN.{length, get_or}
use borrow.Author.Tests.{ltb-true, ltb-false, lt-ltb, le-ltb}
use Rattle.lists.specs.Search.{first, bit}
use Rattle.lists.specs.Gather.{places}
use Rattle.lists.proofs.Search.{first_hit, first_none, first_from_lem, first_turn, and_true}
use Rattle.lists.proofs.Gather.{places_at, places_has, places_rise}
use Rattle.cutting.specs.Walk.{or_else, open_at, next_open}

-- ---- round by one, and by a remainder

-- the first of the places (r + 1) % n, (r + 2) % n, .. that passes, of those before the end-th; n where none does
abbrev by_remainder : (ℕ → Bool) → ℕ → ℕ → ℕ → ℕ
by_remainder p n r end =
    let k = first (λ i. p ((r + i) % n)) 1 end in
    or_else (ltb k end) ((r + k) % n) n

module _ (p : ℕ → Bool) (n r : ℕ) (h : r < n) where
  abbrev after : ℕ → Bool
  after i = p ((r + i) % n)

  abbrev late : ℕ
  late = first p (r + 1) n

  abbrev early : ℕ
  early = first p 0 r

  found : (end k : ℕ) → 1 ≤ k → k < end → after k ≡ true → ((i : ℕ) → 1 ≤ i → i < k → after i ≡ false) → (r + k) % n ≡ by_remainder p n r end
  found end k some below passes none =
      let at : k ≡ first after 1 end = first_turn after 1 k end some (omega (arith, below)) none (λ _. passes) in
      ap (λ (t : Bool). or_else t ((r + k) % n) n) (sym (lt-ltb k end below)) ∙ ap (λ (i : ℕ). or_else (ltb i end) ((r + i) % n) n) at

  missed : (end : ℕ) → 1 ≤ end → ((i : ℕ) → 1 ≤ i → i < end → after i ≡ false) → n ≡ by_remainder p n r end
  missed end some none =
      let at : end ≡ first after 1 end = first_turn after 1 end end some (omega arith) none (λ l. absurd (omega (arith, l))) in
      ap (λ (t : Bool). or_else t ((r + end) % n) n) (sym (le-ltb end end (omega arith))) ∙ ap (λ (i : ℕ). or_else (ltb i end) ((r + i) % n) n) at

  -- from the first place on
  again : (i j : ℕ) → i ≡ n - r + j → j < n → (r + i) % n ≡ j
  again i j e l =
      let over : r + i ≡ j + n = omega (arith, e, h) in
      ap (λ (k : ℕ). k % n) over ∙ add-mod_right j n ∙ mod-eq_of_lt l

  -- the n-th is r itself
  whole : (r + n) % n ≡ r
  whole = add-mod_right r n ∙ mod-eq_of_lt h

  not_late : (i : ℕ) → 1 ≤ i → r + i < n → r + i < late → after i ≡ false
  not_late i some inside l = ap p (mod-eq_of_lt inside) ∙ first_none p (r + 1) n (r + i) (omega (arith, some)) inside l

  not_early : n ≤ late → (i : ℕ) → 1 ≤ i → i < n → r + i < n + early → after i ≡ false
  not_early past i some below l = go (dec_lt (r + i) n)
    where
      go : Dec (r + i < n) → after i ≡ false
      go (yes inside) = not_late i some inside (omega (arith, inside, past))
      go (no over) =
          let j : ℕ = r + i - n in
          ap p (again i j (omega (arith, over, h)) (omega (arith, below, h))) ∙ first_none p 0 r j (omega arith) (omega (arith, below, over)) (omega (arith, l, over))

  round_remainder : (turning : Bool) → or_else (ltb late n) late (or_else (ltb early r) early (or_else (turning && p r) r n)) ≡ by_remainder p n r (n + bit turning)
  round_remainder turning = go_late (ltb late n) refl
    where
      end : ℕ
      end = n + bit turning

      back : n ≤ late → r ≤ early → (t u : Bool) → p r ≡ u → or_else (t && u) r n ≡ by_remainder p n r (n + bit t)
      back past through false u eu = missed (n + 0) (omega (arith, h)) (λ i some l. not_early past i some (omega (arith, l)) (omega (arith, l, through)))
      back past through true true eu =
          sym whole ∙ found (n + 1) n (omega (arith, h)) (omega arith) (ap p whole ∙ eu) (λ i some l. not_early past i some l (omega (arith, l, through)))
      back past through true false eu = missed (n + 1) (omega arith) (λ i some l. one i some l (dec_lt i n))
        where
          one : (i : ℕ) → 1 ≤ i → i < n + 1 → Dec (i < n) → after i ≡ false
          one i some l (yes below) = not_early past i some below (omega (arith, below, through))
          one i some l (no over) =
              let at : i ≡ n = omega (arith, l, over) in
              ap after at ∙ ap p whole ∙ eu

      go_early : n ≤ late → (t : Bool) → ltb early r ≡ t → or_else t early (or_else (turning && p r) r n) ≡ by_remainder p n r end
      go_early past true e =
          let l : early < r = ltb-true early r e in
          let at : (r + (n - r + early)) % n ≡ early = again (n - r + early) early refl (omega (arith, l, h)) in
          sym at ∙ found end (n - r + early) (omega (arith, h)) (omega (arith, l, h)) (ap p at ∙ first_hit p 0 r l)
          (λ i some b. not_early past i some (omega (arith, b, l, h)) (omega (arith, b, h)))
      go_early past false e = back past (ltb-false early r e) turning (p r) refl

      go_late : (t : Bool) → ltb late n ≡ t → or_else t late (or_else (ltb early r) early (or_else (turning && p r) r n)) ≡ by_remainder p n r end
      go_late true e =
          let l : late < n = ltb-true late n e in
          let from : r + 1 ≤ late = first_from_lem p (r + 1) n in
          let sum : r + (late - r) ≡ late = omega (arith, from) in
          let at : (r + (late - r)) % n ≡ late = ap (λ (k : ℕ). k % n) sum ∙ mod-eq_of_lt l in
          sym at ∙ found end (late - r) (omega (arith, from)) (omega (arith, l, from, h)) (ap p at ∙ first_hit p (r + 1) n l)
          (λ i some b. not_late i some (omega (arith, b, l, from)) (omega (arith, b, from)))
      go_late false e = go_early (ltb-false late n e) (ltb early r) refl

-- ---- the vector of a node's slots

-- the slots of the node a in their order, the published code's vector of a
abbrev pub slots_at : ℕ → List ℕ → ℕ → List ℕ
slots_at n src a = places (λ i. eqb (get_or src i 0) a) n

-- The slot that the published walk finds after the one at place q of that vector: the first unmarked one of the places `(last_opposed_dart_pos + i) % n`,
-- i in 1..n, with the vector's length for n; where the walk may turn back, also i = n. n, here the table's length, where there is none.
abbrev pub published_next : Bool → ℕ → List ℕ → List Bool → ℕ → ℕ → ℕ
published_next turning n src marks a q =
    let v = slots_at n src a in
    let end = length v + bit turning in
    let k = first (λ i. not (get_or marks (get_or v ((q + i) % length v) 0) false)) 1 end in
    or_else (ltb k end) (get_or v ((q + k) % length v) 0) n

module _ (n : ℕ) (src : List ℕ) (marks : List Bool) (a : ℕ) where
  abbrev vector : List ℕ
  vector = slots_at n src a

  abbrev size : ℕ
  size = length vector

  abbrev nth : ℕ → ℕ
  nth j = get_or vector j 0

  abbrev is_open : ℕ → Bool
  is_open i = open_at src marks a i

  -- the slot at place j of the vector is unmarked
  abbrev free : ℕ → Bool
  free j = not (get_or marks (nth j) false)

  open_at_lem : (j : ℕ) → j < size → is_open (nth j) ≡ free j
  open_at_lem j h = ap (λ (t : Bool). t && free j) (places_at (λ i. eqb (get_or src i 0) a) n j h).1

  inside : (j : ℕ) → j < size → nth j < n
  inside j h = (places_at (λ i. eqb (get_or src i 0) a) n j h).0

  rises : (j k : ℕ) → j < k → k < size → nth j < nth k
  rises = places_rise (λ i. eqb (get_or src i 0) a) n

  -- places in the order of slots
  before : (j k : ℕ) → j < size → nth j < nth k → j < k
  before j k h l = go (dec_lt j k)
    where
      go : Dec (j < k) → j < k
      go (yes m) = m
      go (no m) = absurd (omega (arith, l, later (dec_lt k j)))
        where
          later : Dec (k < j) → nth k ≤ nth j
          later (yes b) = omega (arith, rises k j b h)
          later (no b) =
              let same : k ≡ j = omega (arith, m, b) in
              omega (arith, ap nth same)

  -- The places from k to e are those of the slots from x to y: the first open slot is the first free place's.
  module _ (x y k e : ℕ) (x≤y : x ≤ y) (y≤n : y ≤ n) (e≤ : e ≤ size) (k≤e : k ≤ e) (in_range : (j : ℕ) → k ≤ j → j < e → (x ≤ nth j) × (nth j < y))
      (of_range : (j : ℕ) → j < size → x ≤ nth j → nth j < y → (k ≤ j) × (j < e)) where
    abbrev place : ℕ
    place = first free k e

    none_before : (v : ℕ) → v ≤ y → ((j : ℕ) → j < size → k ≤ j → j < e → nth j < v → j < place) → (i : ℕ) → x ≤ i → i < v → is_open i ≡ false
    none_before v v≤y earlier i from l = go (is_open i) refl
      where
        go : (t : Bool) → is_open i ≡ t → t ≡ false
        go false e' = refl
        go true e' =
            let at = places_has (λ s. eqb (get_or src s 0) a) n i (omega (arith, l, v≤y, y≤n)) (and_true (eqb (get_or src i 0) a) (not (get_or marks i false)) e').0 in
            let j : ℕ = at.0 in
            let b = of_range j at.1 (omega (arith, from, at.2)) (omega (arith, l, v≤y, at.2)) in
            let shut : free j ≡ false = first_none free k e j b.0 b.1 (earlier j at.1 b.0 b.1 (omega (arith, l, at.2))) in
            absurd (true≢false (sym e' ∙ ap is_open (sym at.2) ∙ open_at_lem j at.1 ∙ shut))

    first_place : first is_open x y ≡ or_else (ltb place e) (nth place) y
    first_place = go (ltb place e) refl
      where
        go : (t : Bool) → ltb place e ≡ t → first is_open x y ≡ or_else t (nth place) y
        go true e' =
            let l : place < e = ltb-true place e e' in
            let b = in_range place (first_from_lem free k e) l in
            let passes : is_open (nth place) ≡ true = open_at_lem place (omega (arith, l, e≤)) ∙ first_hit free k e l in
            sym (first_turn is_open x (nth place) y b.0 (omega (arith, b.1))
            (none_before (nth place) (omega (arith, b.1)) (λ j h _ _ m. before j place h m)) (λ _. passes))
        go false e' =
            sym (first_turn is_open x y y x≤y (omega arith)
            (none_before y (omega arith) (λ j _ _ m _. omega (arith, m, ltb-false place e e'))) (λ l. absurd (omega (arith, l))))

  module _ (turning : Bool) (q : ℕ) (h : q < size) where
    abbrev end : ℕ
    end = size + bit turning

    abbrev steps : ℕ
    steps = first (λ i. free ((q + i) % size)) 1 end

    -- the slot at a place of the vector
    abbrev slot_of : ℕ → ℕ
    slot_of j = or_else (ltb j size) (nth j) n

    published : slot_of (by_remainder free size q end) ≡ published_next turning n src marks a q
    published = go (ltb steps end)
      where
        go : (t : Bool) → slot_of (or_else t ((q + steps) % size) size) ≡ or_else t (nth ((q + steps) % size)) n
        go true = ap (λ (u : Bool). or_else u (nth ((q + steps) % size)) n) (lt-ltb ((q + steps) % size) size (mod-lt (q + steps) (omega (arith, h))))
        go false = ap (λ (u : Bool). or_else u (nth size) n) (le-ltb size size (omega arith))

    later : first is_open (nth q + 1) n ≡ or_else (ltb (first free (q + 1) size) size) (nth (first free (q + 1) size)) n
    later = first_place (nth q + 1) n (q + 1) size (omega (arith, inside q h)) (omega arith) (omega arith) (omega (arith, h))
        (λ j from l. (omega (arith, rises q j (omega (arith, from)) l), inside j l))
        (λ j l from _. (omega (arith, before q j h (omega (arith, from))), l))

    sooner : first is_open 0 (nth q) ≡ or_else (ltb (first free 0 q) q) (nth (first free 0 q)) (nth q)
    sooner = first_place 0 (nth q) 0 q (omega arith) (omega (arith, inside q h)) (omega (arith, h)) (omega arith)
        (λ j _ l. (omega arith, rises j q l h))
        (λ j l _ m. (omega arith, before j q l m))

    by_places : next_open turning n src marks a (nth q)
        ≡ slot_of (or_else (ltb (first free (q + 1) size) size) (first free (q + 1) size) (or_else (ltb (first free 0 q) q) (first free 0 q) (or_else (turning && free q) q size)))
    unfolding next_open
    by_places =
        ap (λ (l : ℕ). or_else (ltb l n) l (or_else (ltb (first is_open 0 (nth q)) (nth q)) (first is_open 0 (nth q)) (or_else (turning && free q) (nth q) n))) later
        ∙ ap (λ (s : ℕ). or_else (ltb late' n) late' (or_else (ltb s (nth q)) s (or_else (turning && free q) (nth q) n))) sooner ∙ go_late (ltb l size) refl
      where
        l : ℕ
        l = first free (q + 1) size

        s : ℕ
        s = first free 0 q

        late' : ℕ
        late' = or_else (ltb l size) (nth l) n

        rest : ℕ
        rest = or_else (turning && free q) q size

        go_turn : (t : Bool) → or_else t (nth q) n ≡ slot_of (or_else t q size)
        go_turn true = ap (λ (u : Bool). or_else u (nth q) n) (sym (lt-ltb q size h))
        go_turn false = ap (λ (u : Bool). or_else u (nth size) n) (sym (le-ltb size size (omega arith)))

        go_early : (t : Bool) → ltb s q ≡ t → or_else (ltb (or_else t (nth s) (nth q)) (nth q)) (or_else t (nth s) (nth q)) (or_else (turning && free q) (nth q) n)
            ≡ slot_of (or_else t s rest)
        go_early true e =
            let b : s < q = ltb-true s q e in
            ap (λ (u : Bool). or_else u (nth s) (or_else (turning && free q) (nth q) n)) (lt-ltb (nth s) (nth q) (rises s q b h))
            ∙ ap (λ (u : Bool). or_else u (nth s) n) (sym (lt-ltb s size (omega (arith, b, h))))
        go_early false e =
            ap (λ (u : Bool). or_else u (nth q) (or_else (turning && free q) (nth q) n)) (le-ltb (nth q) (nth q) (omega arith)) ∙ go_turn (turning && free q)

        go_late : (t : Bool) → ltb l size ≡ t → or_else (ltb (or_else t (nth l) n) n) (or_else t (nth l) n)
            (or_else (ltb (or_else (ltb s q) (nth s) (nth q)) (nth q)) (or_else (ltb s q) (nth s) (nth q)) (or_else (turning && free q) (nth q) n))
            ≡ slot_of (or_else t l (or_else (ltb s q) s rest))
        go_late true e =
            let b : l < size = ltb-true l size e in
            ap (λ (u : Bool). or_else u (nth l)
            (or_else (ltb (or_else (ltb s q) (nth s) (nth q)) (nth q)) (or_else (ltb s q) (nth s) (nth q)) (or_else (turning && free q) (nth q) n)))
            (lt-ltb (nth l) n (inside l b)) ∙ ap (λ (u : Bool). or_else u (nth l) n) (sym (lt-ltb l size b))
        go_late false e =
            ap (λ (u : Bool). or_else u n
            (or_else (ltb (or_else (ltb s q) (nth s) (nth q)) (nth q)) (or_else (ltb s q) (nth s) (nth q)) (or_else (turning && free q) (nth q) n)))
            (le-ltb n n (omega arith)) ∙ go_early (ltb s q) refl

-- the next slot after one of its node's is the one that the published walk finds
pub next_remainder : (turning : Bool) (n : ℕ) (src : List ℕ) (marks : List Bool) (a q : ℕ) → q < length (slots_at n src a)
    → next_open turning n src marks a (get_or (slots_at n src a) q 0) ≡ published_next turning n src marks a q
next_remainder turning n src marks a q h =
    by_places n src marks a turning q h ∙ ap (slot_of n src marks a turning q h)
    (round_remainder (free n src marks a) (length (slots_at n src a)) q h turning) ∙ published n src marks a turning q h
