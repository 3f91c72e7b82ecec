-- The things on one chain, one after the other. Assumes nothing.
use mathlib.Core.Path.{◌≡◌, refl, sym, ap, ◌∙◌}
use mathlib.Core.Bool.{Bool, true, false, cond}
use mathlib.Core.List.{List, [], ◌∷◌, ◌++◌, append-nil, append_assoc}
use Prim.Native.Nat.{ℕ, zero, suc, ◌+◌, ◌-◌, ◌≤◌, ◌<◌}
use native.Mathlib.Nat.{min-le_right}
use native.Mathlib.Decide.{dec_lt}
use native.Mathlib.Omega.{arith}
use lib.ListN.{length, get_or, take, length-take, length-append}
use borrow.Author.Tests.{eq-eqb, eqb-true}
use Rattle.std.proofs.lemmas.List.{get_or_at}
use Rattle.lists.specs.Search.{seek, first}
use Rattle.lists.specs.Gather.{gathered, places}
use Rattle.lists.proofs.Search.{first_hit}
use Rattle.lists.proofs.Gather.{gathered_more, places_at}
use Rattle.spatial_index.specs.Candidates.{places_among, places_from}
use Rattle.spatial_index.proofs.Candidates.{places_from_lem}
use Rattle.strips.specs.declared.gathering.Search.{Search}
use Rattle.strips.specs.Index.{on_chain}
use Rattle.strips.specs.Search.{chain, chain_of, count}
use Rattle.strips.specs.Gathering.{Risen, with_thing, with_things}
use Rattle.strips.proofs.Gathered.{Holds, holds_none, holds_more, holds_risen, one_thing}
use Rattle.lists.specs.Regions.{FrontIs}

-- ---- along a chain

module _ (p : ℕ → Bool) where
  -- numbers that fail are passed over
  among_first : (k m : ℕ) → places_among p k m ≡ places_among p (seek p k m) (k + m - seek p k m)
  unfolding places_among seek
  among_first k zero = let z : k + 0 - k ≡ 0 = omega arith in rw z refl
  among_first k (suc m) = go (p k) refl (among_first (suc k) m)
    where
      go : (t : Bool) → p k ≡ t → places_among p (suc k) m ≡ places_among p (seek p (suc k) m) (suc k + m - seek p (suc k) m)
          → (let q : ℕ = elim t [ true ↦ k | false ↦ seek p (suc k) m ] in places_among p k (suc m) ≡ places_among p q (k + suc m - q))
      go true e ih = let z : suc m ≡ k + suc m - k = omega arith in ap (places_among p k) z
      go false e ih =
          let q : ℕ = seek p (suc k) m in
          let z : suc k + m - q ≡ k + suc m - q = omega arith in
          ap (λ (t : Bool). cond t (k ∷ []) [] ++ places_among p (suc k) m) e ∙ ih ∙ ap (places_among p q) z

  none_left : (k n : ℕ) → n ≤ k → places_from p k n ≡ []
  unfolding places_among
  none_left k n h = let z : n - k ≡ 0 = omega arith in ap (places_among p k) z

  from_next : (k n : ℕ) → k ≤ n → places_from p (first p k n) n ≡ places_from p k n
  unfolding first
  from_next k n h = let z : k + (n - k) ≡ n = omega arith in sym (among_first k (n - k) ∙ ap (λ (m : ℕ). places_among p (seek p k (n - k)) (m - seek p k (n - k))) z)

  from_here : (k n : ℕ) → k < n → p k ≡ true → places_from p k n ≡ k ∷ places_from p (k + 1) n
  unfolding places_among
  from_here k n h e =
      let z : n - k ≡ suc (n - (k + 1)) = omega arith in
      let one : suc k ≡ k + 1 = omega arith in
      ap (places_among p k) z ∙ ap (λ (t : Bool). cond t (k ∷ []) [] ++ places_among p (suc k) (n - (k + 1))) e ∙ ap (λ (i : ℕ). k ∷ places_among p i (n - (k + 1))) one

-- n things are on chains by f
module _ (f : ℕ → ℕ) (n : ℕ) where
  -- those from thing `at` on that are on its chain
  abbrev from : ℕ → List ℕ
  from at = places_from (on_chain f (f at)) at n

  -- the walk from the first thing on a chain is along that chain
  from_first : (c k at : ℕ) → k ≤ n → at ≡ first (on_chain f c) k n → from at ≡ places_from (on_chain f c) k n
  from_first c k at l e = go (dec_lt at n) ∙ ap (λ (i : ℕ). places_from (on_chain f c) i n) e ∙ from_next (on_chain f c) k n l
    where
      go : Dec (at < n) → from at ≡ places_from (on_chain f c) at n
      go (yes b) = ap (λ (d : ℕ). places_from (on_chain f d) at n) (ap f e ∙ eqb-true (f (first (on_chain f c) k n)) c (first_hit (on_chain f c) k n (omega (arith, b, e))))
      go (no b) = none_left (on_chain f (f at)) at n (omega (arith, b)) ∙ sym (none_left (on_chain f c) at n (omega (arith, b)))

module _ (g : Search) where
  abbrev left : ℕ → List ℕ
  left at = places_from (on_chain (chain_of g) (chain_of g at)) at (count g)

  pub starts : (c : ℕ) → c < length g.heads.now → left (get_or g.heads.now c 0) ≡ chain g c
  starts c h = from_first (chain_of g) (count g) c 0 (get_or g.heads.now c 0) (omega arith) (g.chained.head c h) ∙ places_from_lem (on_chain (chain_of g) c) (count g)

  pub one_given : (j : ℕ) → j < length g.nexts.now → left j ≡ j ∷ left (get_or g.nexts.now j 0)
  one_given j h =
      let f : ℕ → ℕ = chain_of g in
      let low : j < count g = omega (arith, h, g.chained.long) in
      from_here (on_chain f (f j)) j (count g) low (eq-eqb (f j) (f j) refl)
      ∙ ap (λ (js : List ℕ). j ∷ js) (sym (from_first f (count g) (f j) (j + 1) (get_or g.nexts.now j 0) (omega (arith, low)) (g.chained.next j low)))

  pub at_end : (j : ℕ) → length g.nexts.now ≤ j → left j ≡ []
  at_end j h = none_left (on_chain (chain_of g) (chain_of g j)) j (count g) (omega (arith, h, g.chained.long))

-- ---- things put in one after the other

-- of the things `all`, each put in where it passes, those in `left` are still to come
pub record Putting (p : ℕ → Bool) (all : List ℕ) (k : ℕ) (found₀ : List ℕ) (left : List ℕ) (r : ℕ) (found : List ℕ) : Type 0 where
  pub gone : List ℕ
  pub whole : gone ++ left ≡ all
  pub risen : Risen k found₀
  pub holds : Holds p (take k found₀) gone found₀ r found

module _ (p : ℕ → Bool) (all : List ℕ) (k : ℕ) (found₀ : List ℕ) where
  pub putting_start : (left : List ℕ) → left ≡ all → Risen k found₀ → Putting p all k found₀ left k found₀
  putting_start left e risen = record { gone = []; whole = e; risen = risen; holds = holds_none p found₀ k risen.fits }

  module _ (left : List ℕ) (r : ℕ) (found : List ℕ) (inv : Putting p all k found₀ left r found) where
    pub putting_risen : Risen r found
    putting_risen = holds_risen p (take k found₀) inv.gone found₀ found r inv.holds inv.risen.rises

    pub putting_more : (js rest : List ℕ) → left ≡ js ++ rest → (q : ℕ) (found' : List ℕ) → FrontIs (with_things (length found) p (take r found) js) found q found'
        → Putting p all k found₀ rest q found'
    putting_more js rest e q found' put =
        record {
          gone = inv.gone ++ js;
          whole = append_assoc inv.gone js rest ∙ ap (λ (ks : List ℕ). inv.gone ++ ks) (sym e) ∙ inv.whole;
          risen = inv.risen;
          holds = holds_more p (take k found₀) inv.gone found₀ found r inv.holds js found' q short put;
        }
      where
        short : length (take k found₀) ≤ length found₀
        short = omega (arith, length-take k found₀, min-le_right k (length found₀))

    pub putting_turn : (j : ℕ) (rest : List ℕ) → left ≡ j ∷ rest → (q : ℕ) (found' : List ℕ) → FrontIs (with_thing (length found) p (take r found) j) found q found'
        → Putting p all k found₀ rest q found'
    putting_turn j rest e q found' put =
        let one : FrontIs (with_things (length found) p (take r found) (j ∷ [])) found q found' = rw (sym (one_thing (length found) p (take r found) j)) put in
        putting_more (j ∷ []) rest e q found' one

    pub putting_end : left ≡ [] → FrontIs (with_things (length found₀) p (take k found₀) all) found₀ r found
    putting_end e =
        let z : inv.gone ≡ all = sym (append-nil inv.gone) ∙ ap (λ (js : List ℕ). inv.gone ++ js) (sym e) ∙ inv.whole in
        rw (sym z) inv.holds

-- the next one on a chain is a thing
module _ (p on : ℕ → Bool) (n k : ℕ) (found₀ left : List ℕ) (r : ℕ) (found : List ℕ) (inv : Putting p (places on n) k found₀ left r found) where
  pub next_low : (j : ℕ) (rest : List ℕ) → left ≡ j ∷ rest → j < n
  next_low j rest e =
      let at : ℕ = length inv.gone in
      let whole : inv.gone ++ j ∷ rest ≡ places on n = ap (λ (js : List ℕ). inv.gone ++ js) (sym e) ∙ inv.whole in
      let low : at < length (places on n) = omega (arith, ap length whole, length-append inv.gone (j ∷ rest)) in
      let is : get_or (places on n) at 0 ≡ j = ap (λ (js : List ℕ). get_or js at 0) (sym whole) ∙ get_or_at inv.gone j rest 0 at refl in
      omega (arith, is, (places_at on n at low).0)

-- ---- rows and levels: lists of things one after the other

-- the lists g i of the places before x have been put in
pub record Going (p : ℕ → Bool) (g : ℕ → List ℕ) (start end k : ℕ) (found₀ : List ℕ) (x r : ℕ) (found : List ℕ) : Type 0 where
  pub from : start ≤ x
  pub upto : x - start ≤ end + 1 - start
  pub risen : Risen k found₀
  pub holds : Holds p (take k found₀) (gathered (x - start) g) found₀ r found

module _ (p : ℕ → Bool) (g : ℕ → List ℕ) (start end k : ℕ) (found₀ : List ℕ) where
  pub going_start : Risen k found₀ → Going p g start end k found₀ start k found₀
  unfolding gathered
  going_start risen =
      let z : start - start ≡ 0 = omega arith in
      record { from = omega arith; upto = omega arith; risen = risen; holds = rw z (holds_none p found₀ k risen.fits) }

  module _ (x r : ℕ) (found : List ℕ) (inv : Going p g start end k found₀ x r found) where
    pub going_risen : Risen r found
    going_risen = holds_risen p (take k found₀) (gathered (x - start) g) found₀ found r inv.holds inv.risen.rises

    pub going_turn : (q : ℕ) (ks found' : List ℕ) → x ≤ end → ks ≡ g (x - start) → FrontIs (with_things (length found) p (take r found) ks) found q found'
        → Going p g start end k found₀ (x + 1) q found'
    going_turn q ks found' l e next =
        let here : FrontIs (with_things (length found) p (take r found) (g (x - start))) found q found' = rw (sym e) next in
        let z : x + 1 - start ≡ x - start + 1 = omega (arith, inv.from) in
        record {
          from = omega (arith, inv.from);
          upto = omega (arith, inv.from);
          risen = inv.risen;
          holds = rw (z, gathered_more (x - start) g) (holds_more p (take k found₀) (gathered (x - start) g) found₀ found r inv.holds (g (x - start)) found' q short here);
        }
      where
        short : length (take k found₀) ≤ length found₀
        short = omega (arith, length-take k found₀, min-le_right k (length found₀))

    pub going_end : end < x → FrontIs (with_things (length found₀) p (take k found₀) (gathered (end + 1 - start) g)) found₀ r found
    going_end h =
        let z : end + 1 - start ≡ x - start = omega (arith, inv.upto) in
        rw z inv.holds
