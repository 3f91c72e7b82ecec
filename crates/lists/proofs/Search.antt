-- The laws of searches, of tests of every index, and of counts. Assumes nothing.
use mathlib.Core.Path.{◌≡◌, refl, sym, ap, ap₂, ◌∙◌, fun_ext}
use mathlib.Core.Bool.{Bool, true, false, ◌&&◌, ◌||◌, and-false, true≢false}
use Prim.Native.Nat.{ℕ, zero, suc, ◌+◌, ◌-◌, ◌≤◌, ◌<◌}
use native.Mathlib.Nat.{not-suc-le-zero, le_antisymm}
use native.Mathlib.Numerals.{add-one}
use native.Mathlib.Decide.{dec_le, dec_lt}
use native.Mathlib.Omega.{arith}
use lib.Dec.{ltb, eqb}
use borrow.Author.Tests.{lt-ltb, le-ltb, ltb-true, ltb-false, eq-eqb, ne_eqb}
use Rattle.lists.specs.Search.{seek, first, has, every, bit, many}

pub bit_le : (t : Bool) → bit t ≤ 1
bit_le true = omega arith
bit_le false = omega arith

-- ---- how many pass

-- two tests that agree but at i, which q fails
pub many_change : (p q : ℕ → Bool) (i n : ℕ) → i < n → ((k : ℕ) → (k ≡ i → ⊥) → p k ≡ q k) → q i ≡ false → many p n ≡ bit (p i) + many q n
unfolding many
many_change p q i zero h same off = omega arith
many_change p q zero (suc n) h same off =
    let tail : many (λ k. p (suc k)) n ≡ many (λ k. q (suc k)) n = ap (λ (f : ℕ → Bool). many f n) (fun_ext (λ k. same (suc k) (λ e. omega arith))) in
    omega (arith, ap bit off)
many_change p q (suc i) (suc n) h same off =
    let tail = many_change (λ k. p (suc k)) (λ k. q (suc k)) i n (omega arith) (λ k ne. same (suc k) (λ e. ne (omega arith))) off in
    omega (arith, ap bit (same zero (λ e. omega arith)))

pub many_le : (p q : ℕ → Bool) (n : ℕ) → ((k : ℕ) → bit (q k) ≤ bit (p k)) → many q n ≤ many p n
unfolding many
many_le p q zero le = omega arith
many_le p q (suc n) le =
    let tail = many_le (λ k. p (suc k)) (λ k. q (suc k)) n (λ k. le (suc k)) in
    omega (arith, le zero)

-- a test below another, at i strictly
pub many_less : (p q : ℕ → Bool) (i n : ℕ) → i < n → ((k : ℕ) → bit (q k) ≤ bit (p k)) → q i ≡ false → p i ≡ true → many q n < many p n
unfolding many
many_less p q i zero h le qf pt = omega arith
many_less p q zero (suc n) h le qf pt =
    let tail = many_le (λ k. p (suc k)) (λ k. q (suc k)) n (λ k. le (suc k)) in
    omega (arith, ap bit qf, ap bit pt)
many_less p q (suc i) (suc n) h le qf pt =
    let tail = many_less (λ k. p (suc k)) (λ k. q (suc k)) i n (omega arith) (λ k. le (suc k)) qf pt in
    omega (arith, le zero)

pub many_some : (p : ℕ → Bool) (n : ℕ) → 0 < many p n → (i : ℕ) × (i < n) × (p i ≡ true)
unfolding many
many_some p zero h = absurd (omega arith)
many_some p (suc n) h = go (p zero) refl (λ l. many_some (λ i. p (suc i)) n l)
  where
    go : (t : Bool) → p zero ≡ t → (0 < many (λ i. p (suc i)) n → (i : ℕ) × (i < n) × (p (suc i) ≡ true)) → (i : ℕ) × (i < suc n) × (p i ≡ true)
    go true q ih = (zero, omega arith, q)
    go false q ih = let r = ih (omega (arith, ap bit q)) in (suc r.0, omega arith, r.2)

pub many_has : (p : ℕ → Bool) (n i : ℕ) → i < n → p i ≡ true → 0 < many p n
unfolding many
many_has p zero i h e = absurd (omega arith)
many_has p (suc n) zero h e = omega (arith, ap bit e)
many_has p (suc n) (suc i) h e = omega (arith, many_has (λ k. p (suc k)) n i (omega arith) e)

pub many_bound : (p : ℕ → Bool) (n : ℕ) → many p n ≤ n
unfolding many
many_bound p zero = omega arith
many_bound p (suc n) = omega (arith, many_bound (λ k. p (suc k)) n, bit_le (p zero))

-- one index more
many_suc : (p : ℕ → Bool) (n : ℕ) → many p (suc n) ≡ many p n + bit (p n)
unfolding many
many_suc p zero = omega arith
many_suc p (suc n) = omega (arith, many_suc (λ i. p (suc i)) n)

pub many_more : (p : ℕ → Bool) (n : ℕ) → many p (n + 1) ≡ many p n + bit (p n)
many_more p n = ap (many p) (add-one n) ∙ many_suc p n

-- those of the first a + n are those of the first a and of the n behind
pub many_append : (p : ℕ → Bool) (a n : ℕ) → many p (a + n) ≡ many p a + many (λ k. p (a + k)) n
unfolding many
many_append p a zero = ap (many p) (let e : a + 0 ≡ a = omega arith in e) ∙ (let e : many p a ≡ many p a + 0 = omega arith in e)
many_append p a (suc n) =
    let at : a + suc n ≡ suc (a + n) = omega arith in
    omega (arith, ap (many p) at, many_suc p (a + n), many_suc (λ k. p (a + k)) n, many_append p a n)

pub many_none : (p : ℕ → Bool) (n : ℕ) → ((i : ℕ) → i < n → p i ≡ false) → many p n ≡ 0
unfolding many
many_none p zero h = refl
many_none p (suc n) h = omega (arith, many_suc p n, ap bit (h n (omega arith)), many_none p n (λ i l. h i (omega (arith, l))))

pub many_all : (p : ℕ → Bool) (n : ℕ) → ((i : ℕ) → i < n → p i ≡ true) → many p n ≡ n
unfolding many
many_all p zero h = refl
many_all p (suc n) h = omega (arith, many_suc p n, ap bit (h n (omega arith)), many_all p n (λ i l. h i (omega (arith, l))))

-- ---- the first that passes

-- what the search finds lies in its range, and passes unless it is the range's end
pub seek_range : (p : ℕ → Bool) (k m : ℕ) → (k ≤ seek p k m) × (seek p k m ≤ k + m)
unfolding seek
seek_range p k zero = omega arith
seek_range p k (suc m) = go (p k) (seek_range p (suc k) m)
  where
    go : (t : Bool) → (suc k ≤ seek p (suc k) m) × (seek p (suc k) m ≤ suc k + m) → let r : ℕ = elim t [ true ↦ k | false ↦ seek p (suc k) m ] in (k ≤ r) × (r ≤ k + suc m)
    go true h = omega arith
    go false h = omega arith

pub seek_hit : (p : ℕ → Bool) (k m : ℕ) → seek p k m < k + m → p (seek p k m) ≡ true
unfolding seek
seek_hit p k zero h = absurd (omega arith)
seek_hit p k (suc m) h = go (p k) refl (λ l. seek_hit p (suc k) m l) h
  where
    go : (t : Bool) → p k ≡ t → (seek p (suc k) m < suc k + m → p (seek p (suc k) m) ≡ true)
        → let r : ℕ = elim t [ true ↦ k | false ↦ seek p (suc k) m ] in r < k + suc m → p r ≡ true
    go true e ih l = e
    go false e ih l = ih (omega arith)

pub seek_some : (p : ℕ → Bool) (k m i : ℕ) → k ≤ i → i < k + m → p i ≡ true → seek p k m ≤ i
unfolding seek
seek_some p k zero i h l e = omega arith
seek_some p k (suc m) i h l e = go (p k) refl (dec_le (suc k) i) (λ g. seek_some p (suc k) m i g (omega arith) e)
  where
    go : (t : Bool) → p k ≡ t → Dec (suc k ≤ i) → (suc k ≤ i → seek p (suc k) m ≤ i) → let r : ℕ = elim t [ true ↦ k | false ↦ seek p (suc k) m ] in r ≤ i
    go true q d ih = h
    go false q (yes g) ih = ih g
    go false q (no g) ih =
        let same : k ≡ i = omega arith in
        absurd (true≢false (sym e ∙ ap p (sym same) ∙ q))

-- the search one index further on
seek_shift : (p : ℕ → Bool) (k m : ℕ) → seek p (suc k) m ≡ suc (seek (λ i. p (suc i)) k m)
unfolding seek
seek_shift p k zero = refl
seek_shift p k (suc m) = go (p (suc k)) (seek_shift p (suc k) m)
  where
    go : (t : Bool) → seek p (suc (suc k)) m ≡ suc (seek (λ i. p (suc i)) (suc k) m)
        → let r : ℕ = elim t [ true ↦ suc k | false ↦ seek p (suc (suc k)) m ] in r ≡ suc (elim t [ true ↦ k | false ↦ seek (λ i. p (suc i)) (suc k) m ])
    go true ih = refl
    go false ih = ih

pub first_hit : (p : ℕ → Bool) (k n : ℕ) → first p k n < n → p (first p k n) ≡ true
unfolding first
first_hit p k n h = seek_hit p k (n - k) (omega (arith, seek_range p k (n - k)))

pub first_some : (p : ℕ → Bool) (k n i : ℕ) → k ≤ i → i < n → p i ≡ true → first p k n ≤ i
unfolding first
first_some p k n i h l e = seek_some p k (n - k) i h (omega arith) e

-- those before it fail
pub first_none : (p : ℕ → Bool) (k n i : ℕ) → k ≤ i → i < n → i < first p k n → p i ≡ false
first_none p k n i h l b = go (p i) refl
  where
    go : (t : Bool) → p i ≡ t → p i ≡ false
    go false e = e
    go true e = absurd (omega (arith, first_some p k n i h l e))

-- the search goes on past an index that fails, ends at one that passes, and at the range's end
pub first_on : (p : ℕ → Bool) (i n : ℕ) → i < n → p i ≡ false → first p (i + 1) n ≡ first p i n
unfolding first seek
first_on p i n h e =
    let left : n - i ≡ suc (n - (i + 1)) = omega arith in
    rw (left, e, seek) (rw add-one)

pub first_here : (p : ℕ → Bool) (i n : ℕ) → i < n → p i ≡ true → first p i n ≡ i
unfolding first seek
first_here p i n h e =
    let left : n - i ≡ suc (n - (i + 1)) = omega arith in
    rw (left, e, seek)

pub first_end_lem : (p : ℕ → Bool) (i n : ℕ) → n ≤ i → first p i n ≡ i
unfolding first seek
first_end_lem p i n h =
    let left : n - i ≡ 0 = omega arith in
    rw left

pub first_shift : (p : ℕ → Bool) (n : ℕ) → p zero ≡ false → first p 0 (suc n) ≡ suc (first (λ i. p (suc i)) 0 n)
unfolding first seek
first_shift p n e =
    let left : suc n - 0 ≡ suc n = omega arith in
    let same : n - 0 ≡ n = omega arith in
    rw (left, same, e, seek) (seek_shift p 0 n)

pub first_le : (p : ℕ → Bool) (k n : ℕ) → k ≤ n → first p k n ≤ n
unfolding first
first_le p k n h = omega (arith, seek_range p k (n - k))

pub first_from_lem : (p : ℕ → Bool) (k n : ℕ) → k ≤ first p k n
unfolding first
first_from_lem p k n = (seek_range p k (n - k)).0

-- it is where the test turns
pub first_turn : (p : ℕ → Bool) (k m n : ℕ) → k ≤ m → m ≤ n → ((i : ℕ) → k ≤ i → i < m → p i ≡ false) → (m < n → p m ≡ true) → m ≡ first p k n
first_turn p k m n from h below turns = le_antisymm {n = m} {m = first p k n} (not_below (dec_lt (first p k n) m)) (up (dec_lt m n))
  where
    not_below : Dec (first p k n < m) → m ≤ first p k n
    not_below (yes l) = absurd (true≢false (sym (first_hit p k n (omega arith)) ∙ below (first p k n) (first_from_lem p k n) l))
    not_below (no l) = omega arith

    up : Dec (m < n) → first p k n ≤ m
    up (yes l) = first_some p k n m from l (turns l)
    up (no l) = omega (arith, first_le p k n (omega arith))

-- only the indices below the end count
pub first_ext : (p q : ℕ → Bool) (n : ℕ) → ((i : ℕ) → i < n → p i ≡ q i) → first p 0 n ≡ first q 0 n
first_ext p q n same =
    let a : first p 0 n ≤ n = first_le p 0 n (omega arith) in
    let b : first q 0 n ≤ n = first_le q 0 n (omega arith) in
    le_antisymm {n = first p 0 n} {m = first q 0 n} (one p q same (dec_lt (first q 0 n) n)) (one q p (λ i h. sym (same i h)) (dec_lt (first p 0 n) n))
  where
    one : (f g : ℕ → Bool) → ((i : ℕ) → i < n → f i ≡ g i) → Dec (first g 0 n < n) → first f 0 n ≤ first g 0 n
    one f g eq (yes h) = first_some f 0 n (first g 0 n) (omega arith) h (eq (first g 0 n) h ∙ first_hit g 0 n h)
    one f g eq (no h) = omega (arith, first_le f 0 n (omega arith))

-- a search loop: the search from i on finds what the search from 0 finds. It has found, or come to the end
pub search_here : (p : ℕ → Bool) (i n : ℕ) → first p i n ≡ first p 0 n → i < n → p i ≡ true → (i ≡ first p 0 n) × (i ≤ n)
search_here p i n inv h e = (sym (first_here p i n h e) ∙ inv, omega arith)

pub search_end : (p : ℕ → Bool) (i n : ℕ) → first p i n ≡ first p 0 n → i ≤ n → n ≤ i → (i ≡ first p 0 n) × (i ≤ n)
search_end p i n inv l h = (sym (first_end_lem p i n h) ∙ inv, l)

-- ---- some index passes

pub has_true : (p : ℕ → Bool) (n r : ℕ) → r ≡ first p 0 n → r < n → has p n ≡ true
has_true p n r e h = ap (λ (k : ℕ). ltb k n) (sym e) ∙ lt-ltb r n h

pub has_false : (p : ℕ → Bool) (n r : ℕ) → r ≡ first p 0 n → n ≤ r → has p n ≡ false
has_false p n r e h = ap (λ (k : ℕ). ltb k n) (sym e) ∙ le-ltb r n h

pub has_at : (p : ℕ → Bool) (n i : ℕ) → i < n → p i ≡ true → has p n ≡ true
has_at p n i h e = lt-ltb (first p 0 n) n (omega (arith, first_some p 0 n i (omega arith) h e))

pub has_some : (p : ℕ → Bool) (n : ℕ) → has p n ≡ true → (i : ℕ) × (i < n) × (p i ≡ true)
has_some p n h =
    let l : first p 0 n < n = ltb-true (first p 0 n) n h in
    (first p 0 n, l, first_hit p 0 n l)

pub has_none : (p : ℕ → Bool) (n i : ℕ) → has p n ≡ false → i < n → p i ≡ false
has_none p n i h l = first_none p 0 n i (omega arith) l (omega (arith, ltb-false (first p 0 n) n h))

-- a test that the last index fails
pub has_skip : (p : ℕ → Bool) (n : ℕ) → p n ≡ false → has p (n + 1) ≡ has p n
has_skip p n off = go (has p n) refl (has p (n + 1)) refl
  where
    clash : true ≡ false → has p (n + 1) ≡ has p n
    clash e = absurd (true≢false e)

    go : (s : Bool) → has p n ≡ s → (t : Bool) → has p (n + 1) ≡ t → has p (n + 1) ≡ has p n
    go true e true f = f ∙ sym e
    go false e false f = f ∙ sym e
    go true e false f = let r = has_some p n e in clash (sym r.2 ∙ has_none p (n + 1) r.0 f (omega (arith, r.1)))
    go false e true f =
        let r = has_some p (n + 1) f in
        elim (dec_lt r.0 n) [
          | yes l ↦ clash (sym r.2 ∙ has_none p n r.0 e l)
          | no l ↦ let last : r.0 ≡ n = le_antisymm {n = r.0} {m = n} (omega (arith, r.1)) (omega arith) in clash (sym r.2 ∙ ap p last ∙ off)
        ]

-- ---- every index passes

pub both_true : (x a y b : ℕ) → x ≡ a → y ≡ b → (eqb x a && eqb y b) ≡ true
both_true x a y b e f = ap₂ (λ s t. s && t) (eq-eqb x a e) (eq-eqb y b f)

pub left_false : (x a y b : ℕ) → (x ≡ a → ⊥) → (eqb x a && eqb y b) ≡ false
left_false x a y b e = ap (λ (t : Bool). t && eqb y b) (ne_eqb x a e)

pub right_false : (x a y b : ℕ) → (y ≡ b → ⊥) → (eqb x a && eqb y b) ≡ false
right_false x a y b f = ap (λ (t : Bool). eqb x a && t) (ne_eqb y b f) ∙ and-false (eqb x a)

pub and_true : (a b : Bool) → a && b ≡ true → (a ≡ true) × (b ≡ true)
and_true true true h = (refl, refl)
and_true true false h = (refl, h)
and_true false b h = absurd (true≢false (sym h))

pub or_false : (a b : Bool) → a || b ≡ false → (a ≡ false) × (b ≡ false)
or_false true true e = (e, e)
or_false true false e = (e, refl)
or_false false b e = (refl, e)

-- nothing tested yet
pub every_none : (p : ℕ → Bool) → every 0 p ≡ true
unfolding every
every_none p = refl

-- one more that passes
pub every_more : (p : ℕ → Bool) (i : ℕ) → every i p ≡ true → p i ≡ true → every (i + 1) p ≡ true
unfolding every
every_more p i h t = rw (add-one, h, t)

-- all have passed
pub every_end : (p : ℕ → Bool) (i n : ℕ) → every i p ≡ true → i ≤ n → n ≤ i → true ≡ every n p
every_end p i n h a b = rw (← le_antisymm a b) (sym h)

-- one that fails
pub every_fails : (p : ℕ → Bool) (i n : ℕ) → i < n → p i ≡ false → false ≡ every n p
unfolding every
every_fails p i zero l f = absurd (not-suc-le-zero l)
every_fails p i (suc n) l f =
    elim (dec_lt i n) [ yes h ↦ rw (← every_fails p i n h f) | no h ↦ rw (le_antisymm {n = n} {m = i} (omega arith) (omega arith), f) (sym (and-false (every i p))) ]

-- any one of those that all passed
pub every_at : (p : ℕ → Bool) (i n : ℕ) → every n p ≡ true → i < n → p i ≡ true
unfolding every
every_at p i zero h l = absurd (not-suc-le-zero l)
every_at p i (suc n) h l =
    let b = and_true (every n p) (p n) h in
    elim (dec_lt i n) [ yes k ↦ every_at p i n b.0 k | no k ↦ rw (le_antisymm {n = i} {m = n} (omega arith) (omega arith)) b.1 ]

pub every_all : (p : ℕ → Bool) (n : ℕ) → ((i : ℕ) → i < n → p i ≡ true) → every n p ≡ true
unfolding every
every_all p zero h = refl
every_all p (suc n) h = rw (every_all p n (λ i l. h i (omega (arith, l))), h n (omega arith))

-- only the indices below the end count
pub every_ext : (n : ℕ) (p q : ℕ → Bool) → ((i : ℕ) → i < n → p i ≡ q i) → every n p ≡ every n q
unfolding every
every_ext zero p q h = refl
every_ext (suc n) p q h = ap₂ (λ s t. s && t) (every_ext n p q (λ i l. h i (omega (arith, l)))) (h n (omega arith))

-- two tests of every index
pub every_both : (p q : ℕ → Bool) (n : ℕ) → every n p && every n q ≡ every n (λ i. p i && q i)
unfolding every
every_both p q zero = refl
every_both p q (suc n) = go (every n p) (every n q) (p n) (q n) (every_both p q n)
  where
    go : (a b c d : Bool) → (a && b ≡ every n (λ i. p i && q i)) → (a && c) && (b && d) ≡ every n (λ i. p i && q i) && (c && d)
    go true b true d e = ap (λ (t : Bool). t && d) e
    go true b false d e = sym (and-false (every n (λ i. p i && q i)))
    go false b c d e = ap (λ (t : Bool). t && (c && d)) e

-- where not every index passes, one fails
pub every_some : (p : ℕ → Bool) (n : ℕ) → every n p ≡ false → (i : ℕ) × (i < n) × (p i ≡ false)
unfolding every
every_some p zero h = absurd (true≢false h)
every_some p (suc n) h = go (every n p) refl (p n) refl (λ e. every_some p n e)
  where
    go : (t : Bool) → every n p ≡ t → (u : Bool) → p n ≡ u → (every n p ≡ false → (i : ℕ) × (i < n) × (p i ≡ false)) → (i : ℕ) × (i < suc n) × (p i ≡ false)
    go t e false f ih = (n, omega arith, f)
    go false e true f ih = let r = ih e in (r.0, omega (arith, r.1), r.2)
    go true e true f ih = absurd (true≢false (sym (rw (e, f)) ∙ h))
