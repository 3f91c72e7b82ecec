-- Things put on chains, the last one first. Assumes nothing.
use mathlib.Core.Path.{◌≡◌, refl, sym, ap, ◌∙◌, subst}
use mathlib.Core.Bool.{Bool, true, false, cond}
use mathlib.Core.List.{List}
use Prim.Native.Nat.{ℕ, suc, ◌+◌, ◌*◌, ◌-◌, ◌≤◌, ◌<◌, max}
use native.Mathlib.Nat.{max-le}
use native.Mathlib.Decide.{ℕ_discrete}
use native.Mathlib.Omega.{arith}
use lib.Dec.{ltb}
use lib.ListN.{length, get_or, set, length-set, replicate}
use lib.Ieee.{Float}
use Rattle.std.proofs.lemmas.List.{get_or-replicate}
use lib.Seq.{ext_get_or, get_or-set_same, get_or-set_other}
use borrow.Author.Tests.{eq-eqb, ne_eqb, ltb-true}
use Rattle.lists.specs.Search.{first}
use Rattle.lists.specs.Gather.{each}
use Rattle.lists.proofs.Search.{first_on, first_here, first_end_lem}
use Rattle.lists.proofs.Gather.{length_each, get_or_each}
use Rattle.strips.specs.declared.squares.Span.{Span}
use Rattle.rules.specs.declared.Bounds.{Bounds}
use Rattle.strips.specs.Things.{thing_count, thing_box}
use Rattle.strips.specs.Squares.{span_of, narrowed, square_chain}
use Rattle.strips.specs.Index.{chain_count, span_by, chain_by, on_chain, head_at, next_at, above}

chain_low : (h : ℕ) (s : Span) (x y : ℕ) → 0 < h → square_chain h s x y < h
unfolding square_chain
chain_low h s x y some = go (ltb (s.at + y * s.side + x) h) refl
  where
    go : (t : Bool) → ltb (s.at + y * s.side + x) h ≡ t → cond t (s.at + y * s.side + x) 0 < h
    go true e = ltb-true (s.at + y * s.side + x) h e
    go false e = some

-- ---- one thing

module _ (coords : List Float) (xs ys nodes ends : List ℕ) (j h c : ℕ) (b : Bounds) (s₀ s : Span) (b_is : b ≡ thing_box coords nodes ends j)
    (s₀-is : s₀ ≡ span_of coords xs ys b) (s_is : s ≡ narrowed 512 s₀) where
  pub thing_span : s ≡ span_by coords xs ys nodes ends j
  thing_span = s_is ∙ ap (narrowed 512) (s₀-is ∙ ap (span_of coords xs ys) b_is)

  pub thing_chain : h ≡ chain_count (thing_count nodes ends) → c ≡ square_chain h s s.x0 s.y0 → c ≡ chain_by coords xs ys nodes ends j
  unfolding chain_by
  thing_chain h-is c-is =
      let t : Span = span_by coords xs ys nodes ends j in
      c-is ∙ ap (λ (u : Span). square_chain h u u.x0 u.y0) thing_span ∙ ap (λ (k : ℕ). square_chain k t t.x0 t.y0) h-is

-- the chain of a thing is one of them
pub chain_by_low : (coords : List Float) (xs ys nodes ends : List ℕ) (j : ℕ) → chain_by coords xs ys nodes ends j < chain_count (thing_count nodes ends)
unfolding chain_by
chain_by_low coords xs ys nodes ends j =
    let t : Span = span_by coords xs ys nodes ends j in
    chain_low (chain_count (thing_count nodes ends)) t t.x0 t.y0 (omega arith)

-- what `fill` leaves
pub filled : (h n : ℕ) (heads : List ℕ) → heads ≡ replicate h n → (c : ℕ) → c < h → get_or heads c 0 ≡ n
filled h n heads e c b = ap (λ (u : List ℕ). get_or u c 0) e ∙ get_or-replicate h c n 0 b

-- ---- chains by f; thing j is on level g j

module _ (f g : ℕ → ℕ) (h n : ℕ) where
  -- the things from q on are on chains
  pub record Linked (q : ℕ) (heads nexts : List ℕ) (levels : ℕ) : Type 0 where
    pub wide : length heads ≡ h
    pub long : length nexts ≡ n
    pub head : (c : ℕ) → c < h → get_or heads c 0 ≡ first (on_chain f c) q n
    pub next : (p : ℕ) → q ≤ p → p < n → get_or nexts p 0 ≡ next_at f n p
    pub highest : levels ≡ above g q (n - q)
    pub few : levels ≤ 513

  -- no thing is on a chain yet
  pub link_start : (heads nexts : List ℕ) → length heads ≡ h → length nexts ≡ n → ((c : ℕ) → c < h → get_or heads c 0 ≡ n) → Linked n heads nexts 0
  unfolding above
  link_start heads nexts wide long none =
      let z : n - n ≡ 0 = omega arith in
      record {
        wide = wide;
        long = long;
        head = λ c b. none c b ∙ sym (first_end_lem (on_chain f c) n n (omega arith));
        next = λ p a b. absurd (omega arith);
        highest = ap (above g n) (sym z);
        few = omega arith;
      }

  -- the thing before j goes before those on its chain
  module _ (j : ℕ) (heads nexts : List ℕ) (levels : ℕ) (some : 0 < j) (low : f (j - 1) < h) (most : j ≤ n) (behind : Linked j heads nexts levels) where
    abbrev q : ℕ
    q = j - 1

    l : q < n
    l = omega (arith, some, most)

    inv : Linked (q + 1) heads nexts levels
    inv = let back : j ≡ q + 1 = omega (arith, some) in subst (λ (i : ℕ). Linked i heads nexts levels) back behind

    head_turn : (k : ℕ) → k < h → Dec (k ≡ f q) → get_or (set heads (f q) q) k 0 ≡ first (on_chain f k) q n
    head_turn k b (yes e) =
        ap (λ (j : ℕ). get_or (set heads (f q) q) j 0) e ∙ get_or-set_same heads (f q) q 0 (omega (arith, inv.wide))
        ∙ sym (first_here (on_chain f k) q n l (eq-eqb (f q) k (sym e)))
    head_turn k b (no e) = get_or-set_other heads (f q) k q 0 e ∙ inv.head k b ∙ first_on (on_chain f k) q n l (ne_eqb (f q) k (λ z. e (sym z)))

    next_turn : (p : ℕ) → q ≤ p → p < n → Dec (p ≡ q) → get_or (set nexts q (get_or heads (f q) 0)) p 0 ≡ next_at f n p
    next_turn p a b (yes e) =
        ap (λ (j : ℕ). get_or (set nexts q (get_or heads (f q) 0)) j 0) e ∙ get_or-set_same nexts q (get_or heads (f q) 0) 0 (omega (arith, inv.long))
        ∙ inv.head (f q) low ∙ ap (λ (j : ℕ). first (on_chain f (f j)) (j + 1) n) (sym e)
    next_turn p a b (no e) = get_or-set_other nexts q p (get_or heads (f q) 0) 0 e ∙ inv.next p (omega (arith, e)) b

    highest_turn : (r : ℕ) → r ≡ max (g q + 1) levels → r ≡ above g q (n - q)
    unfolding above
    highest_turn r r_is =
        let one : q + 1 ≡ suc q = omega arith in
        let left : n - q ≡ suc (n - (q + 1)) = omega arith in
        r_is ∙ ap (max (g q + 1)) (inv.highest ∙ ap (λ (k : ℕ). above g k (n - (q + 1))) one) ∙ ap (above g q) (sym left)

    pub link_turn : (heads' nexts' : List ℕ) (m r : ℕ) → heads' ≡ set heads (f (j - 1)) (j - 1) → nexts' ≡ set nexts (j - 1) (get_or heads (f (j - 1)) 0) → m ≡ g (j - 1) → m ≤ 512
        → r ≡ max (m + 1) levels → Linked (j - 1) heads' nexts' r
    link_turn heads' nexts' m r a b m_is m_low r_is =
        record {
          wide = ap length a ∙ length-set heads (f q) q ∙ inv.wide;
          long = ap length b ∙ length-set nexts q (get_or heads (f q) 0) ∙ inv.long;
          head = λ k c. ap (λ (u : List ℕ). get_or u k 0) a ∙ head_turn k c (ℕ_discrete k (f q));
          next = λ p c d. ap (λ (u : List ℕ). get_or u p 0) b ∙ next_turn p c d (ℕ_discrete p q);
          highest = highest_turn r (r_is ∙ ap (λ (k : ℕ). max (k + 1) levels) m_is);
          few = omega (arith, r_is, max-le {a = m + 1} {b = levels} {k = 513} (omega arith) inv.few);
        }

  -- all of them are on chains
  module _ (j : ℕ) (heads nexts : List ℕ) (levels : ℕ) (inv : Linked j heads nexts levels) (none : j ≤ 0) where
    pub link_heads : heads ≡ each h (head_at f n)
    link_heads =
        let z : j ≡ 0 = omega (arith, none) in
        ext_get_or 0 heads (each h (head_at f n)) (inv.wide ∙ sym (length_each h (head_at f n)))
        (λ i l. inv.head i (omega (arith, inv.wide)) ∙ ap (λ (k : ℕ). first (on_chain f i) k n) z ∙ sym (get_or_each h (head_at f n) i 0 (omega (arith, inv.wide))))

    pub link_nexts : nexts ≡ each n (next_at f n)
    link_nexts =
        ext_get_or 0 nexts (each n (next_at f n)) (inv.long ∙ sym (length_each n (next_at f n)))
        (λ i l. inv.next i (omega (arith, none)) (omega (arith, inv.long)) ∙ sym (get_or_each n (next_at f n) i 0 (omega (arith, inv.long))))
