-- Meetings put on chains, the last one first, and the links made of both kinds of chains. Assumes nothing.
use mathlib.Core.Path.{◌≡◌, refl, sym, ap, ap₂, subst, ◌∙◌}
use mathlib.Core.List.{List, ◌++◌, append_assoc}
use Prim.Native.Nat.{ℕ, ◌+◌, ◌*◌, ◌-◌, ◌/◌, ◌≤◌, ◌<◌}
use native.Mathlib.Decide.{ℕ_discrete}
use Rattle.std.proofs.Math.Arith.{le-zero}
use native.Mathlib.Omega.{arith}
use lib.ListN.{length, get_or, set, take, drop, length-set, replicate, length-replicate}
use lib.Seq.{ext_get_or, get_or-set_same, get_or-set_other, take_at, drop_at}
use Rattle.std.proofs.lemmas.List.{get_or-replicate}
use borrow.Author.Tests.{eq-eqb, ne_eqb}
use Rattle.lists.specs.Search.{first}
use Rattle.lists.specs.Gather.{each}
use Rattle.lists.proofs.Search.{first_on, first_here, first_end_lem}
use Rattle.lists.proofs.Gather.{length_each, get_or_each}
use Rattle.cutting.specs.Edges.{Edge, edge_at, key}
use Rattle.keys.specs.declared.SortedKey.{SortedKey}
use Rattle.keys.specs.Chains.{chain_of}
use Rattle.edge_nodes.specs.Links.{chain_at, on_chain, head_at, next_at, links_of, Linked}
use Rattle.edge_nodes.specs.Chained.{edge_of}

module _ (h : ℕ) (es : List Edge) (met : List ℕ) (which : ℕ) where
  abbrev n : ℕ
  n = length met / 5

  -- the meetings from q on are on chains
  pub record Linking (q : ℕ) (heads nexts : List ℕ) : Type 0 where
    pub wide : length heads ≡ h
    pub long : length nexts ≡ n
    pub head : (c : ℕ) → c < h → get_or heads c 0 ≡ first (on_chain h es met which c) q n
    pub next : (p : ℕ) → q ≤ p → p < n → get_or nexts p 0 ≡ first (on_chain h es met which (chain_at h es met which p)) (p + 1) n

  -- no meeting is on a chain yet
  pub link_start : (q : ℕ) (heads nexts : List ℕ) → heads ≡ replicate h q → length nexts ≡ q → q ≡ n → Linking q heads nexts
  link_start q heads nexts filled long all =
      let wide : length heads ≡ h = ap length filled ∙ length-replicate h q in
      record {
        wide = wide;
        long = long ∙ all;
        head = λ c b.
            ap (λ (l : List ℕ). get_or l c 0) filled ∙ get_or-replicate h c q 0 b ∙ sym (first_end_lem (on_chain h es met which c) q n (omega (arith, all)));
        next = λ p a b. absurd (omega (arith, a, b, all));
      }

  -- meeting q goes before those on its chain
  module _ (q c : ℕ) (heads nexts : List ℕ) (c-is : c ≡ chain_at h es met which q) (low : c < h) (l : q < n) (inv : Linking (q + 1) heads nexts) where
    head_turn : (k : ℕ) → k < h → Dec (k ≡ c) → get_or (set heads c q) k 0 ≡ first (on_chain h es met which k) q n
    head_turn k b (yes e) =
        ap (λ (j : ℕ). get_or (set heads c q) j 0) e ∙ get_or-set_same heads c q 0 (omega (arith, inv.wide, low))
        ∙ sym (first_here (on_chain h es met which k) q n l (eq-eqb (chain_at h es met which q) k (sym c-is ∙ sym e)))
    head_turn k b (no e) =
        get_or-set_other heads c k q 0 e ∙ inv.head k b ∙ first_on (on_chain h es met which k) q n l (ne_eqb (chain_at h es met which q) k (λ z. e (sym z ∙ sym c-is)))

    next_turn : (p : ℕ) → q ≤ p → p < n → Dec (p ≡ q) → get_or (set nexts q (get_or heads c 0)) p 0 ≡ first (on_chain h es met which (chain_at h es met which p)) (p + 1) n
    next_turn p a b (yes e) =
        ap (λ (j : ℕ). get_or (set nexts q (get_or heads c 0)) j 0) e ∙ get_or-set_same nexts q (get_or heads c 0) 0 (omega (arith, inv.long, l))
        ∙ inv.head c low ∙ ap₂ (λ (k j : ℕ). first (on_chain h es met which k) (j + 1) n) (c-is ∙ ap (chain_at h es met which) (sym e)) (sym e)
    next_turn p a b (no e) = get_or-set_other nexts q p (get_or heads c 0) 0 e ∙ inv.next p (omega (arith, e, a)) b

    linked_one : Linking q (set heads c q) (set nexts q (get_or heads c 0))
    linked_one =
        record {
          wide = length-set heads c q ∙ inv.wide;
          long = length-set nexts q (get_or heads c 0) ∙ inv.long;
          head = λ k b. head_turn k b (ℕ_discrete k c);
          next = λ p a b. next_turn p a b (ℕ_discrete p q);
        }

  module _ (q : ℕ) (heads nexts : List ℕ) (inv : Linking q heads nexts) where
    -- the one before q, on the chain of the key that was read
    pub link_turn : (c : ℕ) (k : SortedKey) → edge_of k ≡ key (edge_at es (get_or met (5 * (q - 1) + which) 0)) → c ≡ chain_of (length heads) k.first → c < length heads
        → 0 < q → q ≤ length nexts → Linking (q - 1) (set heads c (q - 1)) (set nexts (q - 1) (get_or heads c 0))
    unfolding chain_at
    link_turn c k e c-is low some most =
        let back : q ≡ q - 1 + 1 = omega arith in
        linked_one (q - 1) c heads nexts (c-is ∙ ap (λ (l : ℕ). chain_of l k.first) inv.wide ∙ ap (λ (x : Edge). chain_of h x.0) e) (omega (arith, low, inv.wide))
        (omega (arith, some, most, inv.long)) (subst (λ (i : ℕ). Linking i heads nexts) back inv)

    -- all are
    pub link_heads : q ≤ 0 → heads ≡ each h (head_at h es met which)
    unfolding head_at
    link_heads none =
        ext_get_or 0 heads (each h (head_at h es met which)) (inv.wide ∙ sym (length_each h (head_at h es met which)))
        (λ i l. inv.head i (omega (arith, inv.wide, l)) ∙ ap (λ (k : ℕ). first (on_chain h es met which i) k n) (le-zero none)
        ∙ sym (get_or_each h (head_at h es met which) i 0 (omega (arith, inv.wide, l))))

    pub link_nexts : q ≤ 0 → nexts ≡ each (length met / 5) (next_at h es met which)
    unfolding next_at
    link_nexts none =
        ext_get_or 0 nexts (each (length met / 5) (next_at h es met which)) (inv.long ∙ sym (length_each (length met / 5) (next_at h es met which)))
        (λ i l. inv.next i (omega (arith, none)) (omega (arith, inv.long, l))
        ∙ sym (get_or_each (length met / 5) (next_at h es met which) i 0 (omega (arith, inv.long, l))))

-- ---- both kinds

pub links_made : (h : ℕ) (subject cutter : List Edge) (met a b c d : List ℕ) → a ≡ each h (head_at h subject met 0) → b ≡ each h (head_at h cutter met 1)
    → c ≡ each (length met / 5) (next_at h subject met 0) → d ≡ each (length met / 5) (next_at h cutter met 1) → a ++ (b ++ (c ++ d)) ≡ links_of h subject cutter met
unfolding links_of
links_made h subject cutter met a b c d ea eb ec ed =
    sym (append_assoc a b (c ++ d)) ∙ sym (append_assoc (a ++ b) c d)
    ∙ ap₂ (λ (x y : List ℕ). x ++ y) (ap₂ (λ (x y : List ℕ). x ++ y) (ap₂ (λ (x y : List ℕ). x ++ y) ea eb) ec) ed

-- the links taken apart
module _ (subject cutter : List Edge) (met links : List ℕ) (whole : Linked subject cutter met links) where
  abbrev h : ℕ
  h = length links / 2 - length met / 5

  abbrev A : List ℕ
  A = each h (head_at h subject met 0)

  abbrev B : List ℕ
  B = each h (head_at h cutter met 1)

  abbrev C : List ℕ
  C = each (length met / 5) (next_at h subject met 0)

  abbrev D : List ℕ
  D = each (length met / 5) (next_at h cutter met 1)

  apart : links ≡ A ++ (B ++ (C ++ D))
  apart = whole.are ∙ sym (links_made h subject cutter met A B C D refl refl refl refl)

  module _ (a : List ℕ) (a-is : a ≡ take (length links / 2 - length met / 5) links) where
    heads : a ≡ A
    heads = a-is ∙ ap (take h) apart ∙ take_at A (B ++ (C ++ D)) h (length_each h (head_at h subject met 0))

    wide : length a ≡ h
    wide = ap length heads ∙ length_each h (head_at h subject met 0)

    pub subject_some : 0 < length a
    subject_some = omega (arith, wide, whole.some)

    pub subject_heads : a ≡ each (length a) (head_at (length a) subject met 0)
    subject_heads = heads ∙ ap (λ (k : ℕ). each k (head_at k subject met 0)) (sym wide)

  module _ (r : List ℕ) (r-is : r ≡ drop (length links / 2 - length met / 5) links) where
    rest : r ≡ B ++ (C ++ D)
    rest = r-is ∙ ap (drop h) apart ∙ drop_at A (B ++ (C ++ D)) h (length_each h (head_at h subject met 0))

    module _ (b : List ℕ) (b-is : b ≡ take (length links / 2 - length met / 5) r) where
      b_heads : b ≡ B
      b_heads = b-is ∙ ap (take h) rest ∙ take_at B (C ++ D) h (length_each h (head_at h cutter met 1))

      b_wide : length b ≡ h
      b_wide = ap length b_heads ∙ length_each h (head_at h cutter met 1)

      pub cutter_some : 0 < length b
      cutter_some = omega (arith, b_wide, whole.some)

      pub cutter_heads : b ≡ each (length b) (head_at (length b) cutter met 1)
      cutter_heads = b_heads ∙ ap (λ (k : ℕ). each k (head_at k cutter met 1)) (sym b_wide)

    module _ (s : List ℕ) (s-is : s ≡ drop (length links / 2 - length met / 5) r) (k : ℕ) (k-is : k ≡ length links / 2 - length met / 5) where
      nexts : s ≡ C ++ D
      nexts = s-is ∙ ap (drop h) rest ∙ drop_at B (C ++ D) h (length_each h (head_at h cutter met 1))

      pub subject_nexts : (c : List ℕ) → c ≡ take (length met / 5) s → c ≡ each (length met / 5) (next_at k subject met 0)
      subject_nexts c e =
          e ∙ ap (take (length met / 5)) nexts ∙ take_at C D (length met / 5) (length_each (length met / 5) (next_at h subject met 0))
          ∙ ap (λ (j : ℕ). each (length met / 5) (next_at j subject met 0)) (sym k-is)

      pub cutter_nexts : (d : List ℕ) → d ≡ drop (length met / 5) s → d ≡ each (length met / 5) (next_at k cutter met 1)
      cutter_nexts d e =
          e ∙ ap (drop (length met / 5)) nexts ∙ drop_at C D (length met / 5) (length_each (length met / 5) (next_at h subject met 0))
          ∙ ap (λ (j : ℕ). each (length met / 5) (next_at j cutter met 1)) (sym k-is)
