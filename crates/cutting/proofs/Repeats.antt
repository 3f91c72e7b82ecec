-- Edges between the same two nodes: an outline repeats unless it passes between any two nodes at most once, both ways counted. Assumes nothing.
use mathlib.Core.Path.{◌≡◌, refl, sym, ap, ap₂, ◌∙◌}
use mathlib.Core.Bool.{Bool, true, false, ◌&&◌, ◌||◌, true≢false}
use mathlib.Core.List.{List, [], ◌∷◌}
use Prim.Native.Nat.{ℕ, ◌+◌, ◌≤◌, ◌<◌}
use native.Mathlib.Omega.{arith}
use native.Mathlib.Decide.{dec_le}
use lib.Dec.{eqb}
use borrow.Author.Tests.{eqb-false, ne_eqb}
use Rattle.lists.specs.Search.{bit}
use Rattle.lists.proofs.Search.{both_true, or_false}
use Rattle.cutting.specs.Edges.{Edge, key, same_key, hit, times}
use Rattle.cutting.specs.Cell.{among, repeats}
use Rattle.cutting.proofs.EdgeLaws.{both, hit_self}

-- ---- keys

key_of : (a b : ℕ) → a ≤ b → ◌≡◌ {A = Edge} (key (a, b)) (a, b)
key_of a b h = ap₂ (λ (x y : ℕ). (x, y)) (omega arith) (omega arith)

key_back : (a b : ℕ) → b ≤ a → ◌≡◌ {A = Edge} (key (a, b)) (b, a)
key_back a b h = ap₂ (λ (x y : ℕ). (x, y)) (omega arith) (omega arith)

-- an edge of the same key is the edge or its reverse
same_either : (d e : Edge) → same_key d e ≡ true → 0 < hit e.0 e.1 d.0 d.1 + hit e.1 e.0 d.0 d.1
same_either d e h = go (dec_le d.0 d.1) (dec_le e.0 e.1)
  where
    at : ((key d).0 ≡ (key e).0) × ((key d).1 ≡ (key e).1)
    at = both (key d).0 (key e).0 (key d).1 (key e).1 h

    hits : (x y a b : ℕ) → x ≡ a → y ≡ b → hit a b x y ≡ 1
    hits x y a b p q = ap₂ (λ (u v : ℕ). hit u v x y) (sym p) (sym q) ∙ hit_self x y

    go : Dec (d.0 ≤ d.1) → Dec (e.0 ≤ e.1) → 0 < hit e.0 e.1 d.0 d.1 + hit e.1 e.0 d.0 d.1
    go (yes p) (yes q) =
        let k = key_of d.0 d.1 p in
        let l = key_of e.0 e.1 q in
        omega (
          arith,
          hits d.0 d.1 e.0 e.1 (sym (ap (λ (x : Edge). x.0) k) ∙ at.0 ∙ ap (λ (x : Edge). x.0) l)
              (sym (ap (λ (x : Edge). x.1) k) ∙ at.1 ∙ ap (λ (x : Edge). x.1) l),
        )
    go (yes p) (no q) =
        let k = key_of d.0 d.1 p in
        let l = key_back e.0 e.1 (omega arith) in
        omega (
          arith,
          hits d.0 d.1 e.1 e.0 (sym (ap (λ (x : Edge). x.0) k) ∙ at.0 ∙ ap (λ (x : Edge). x.0) l)
              (sym (ap (λ (x : Edge). x.1) k) ∙ at.1 ∙ ap (λ (x : Edge). x.1) l),
        )
    go (no p) (yes q) =
        let k = key_back d.0 d.1 (omega arith) in
        let l = key_of e.0 e.1 q in
        omega (
          arith,
          hits d.0 d.1 e.1 e.0 (sym (ap (λ (x : Edge). x.1) k) ∙ at.1 ∙ ap (λ (x : Edge). x.1) l)
              (sym (ap (λ (x : Edge). x.0) k) ∙ at.0 ∙ ap (λ (x : Edge). x.0) l),
        )
    go (no p) (no q) =
        let k = key_back d.0 d.1 (omega arith) in
        let l = key_back e.0 e.1 (omega arith) in
        omega (
          arith,
          hits d.0 d.1 e.0 e.1 (sym (ap (λ (x : Edge). x.1) k) ∙ at.1 ∙ ap (λ (x : Edge). x.1) l)
              (sym (ap (λ (x : Edge). x.0) k) ∙ at.0 ∙ ap (λ (x : Edge). x.0) l),
        )

-- and either way the key is the same
either_same : (f e : Edge) → 0 < hit e.0 e.1 f.0 f.1 + hit e.1 e.0 f.0 f.1 → same_key f e ≡ true
either_same f e h = go (eqb f.0 e.0 && eqb f.1 e.1) (eqb f.0 e.1 && eqb f.1 e.0) refl refl h
  where
    go : (x y : Bool) → eqb f.0 e.0 && eqb f.1 e.1 ≡ x → eqb f.0 e.1 && eqb f.1 e.0 ≡ y → 0 < bit x + bit y → same_key f e ≡ true
    go true y p q k =
        let at = both f.0 e.0 f.1 e.1 p in
        both_true (key f).0 (key e).0 (key f).1 (key e).1 (omega (arith, at.0, at.1)) (omega (arith, at.0, at.1))
    go false true p q k =
        let at = both f.0 e.1 f.1 e.0 q in
        both_true (key f).0 (key e).0 (key f).1 (key e).1 (omega (arith, at.0, at.1)) (omega (arith, at.0, at.1))
    go false false p q k = absurd (omega (arith, k))

-- ---- among edges

pub among_none : (e : Edge) (es : List Edge) → among e es ≡ false → times e.0 e.1 es + times e.1 e.0 es ≡ 0
unfolding among times
among_none e [] h = refl
among_none e (f ∷ fs) h =
    let n = or_false (same_key f e) (among e fs) h in
    go (dec_le (hit e.0 e.1 f.0 f.1 + hit e.1 e.0 f.0 f.1) 0) n.0 (among_none e fs n.1)
  where
    go : Dec (hit e.0 e.1 f.0 f.1 + hit e.1 e.0 f.0 f.1 ≤ 0) → same_key f e ≡ false → times e.0 e.1 fs + times e.1 e.0 fs ≡ 0
        → times e.0 e.1 (f ∷ fs) + times e.1 e.0 (f ∷ fs) ≡ 0
    go (yes k) n ih = omega (arith, k, ih)
    go (no k) n ih = absurd (true≢false (sym (either_same f e (omega (arith, k))) ∙ n))

pub none_among : (e : Edge) (es : List Edge) → times e.0 e.1 es + times e.1 e.0 es ≡ 0 → among e es ≡ false
unfolding among times
none_among e [] h = refl
none_among e (f ∷ fs) h = ap₂ (λ (x y : Bool). x || y) (go (same_key f e) refl) (none_among e fs (omega (arith, h)))
  where
    go : (x : Bool) → same_key f e ≡ x → x ≡ false
    go true q = absurd (omega (arith, h, same_either f e q))
    go false q = refl

-- ---- an outline that repeats

pub repeats_not : (outline : List Edge) → repeats outline ≡ false → (a b : ℕ) → times a b outline + times b a outline ≤ 1
unfolding repeats times
repeats_not [] h a b = omega arith
repeats_not (e ∷ es) h a b =
    let n = or_false (eqb e.0 e.1 || among e es) (repeats es) h in
    let m = or_false (eqb e.0 e.1) (among e es) n.0 in
    go (eqb e.0 a && eqb e.1 b) (eqb e.0 b && eqb e.1 a) refl refl (eqb-false e.0 e.1 m.0) (among_none e es m.1) (repeats_not es n.1 a b)
  where
    go : (x y : Bool) → eqb e.0 a && eqb e.1 b ≡ x → eqb e.0 b && eqb e.1 a ≡ y → (e.0 ≡ e.1 → ⊥) → times e.0 e.1 es + times e.1 e.0 es ≡ 0
        → times a b es + times b a es ≤ 1 → bit x + times a b es + (bit y + times b a es) ≤ 1
    go true true p q ne none ih = absurd (ne ((both e.0 a e.1 b p).0 ∙ sym (both e.0 b e.1 a q).1))
    go true false p q ne none ih =
        let at = both e.0 a e.1 b p in
        omega (arith, none, ap₂ (λ (u v : ℕ). times u v es + times v u es) at.0 at.1)
    go false true p q ne none ih =
        let at = both e.0 b e.1 a q in
        omega (arith, none, ap₂ (λ (u v : ℕ). times u v es + times v u es) at.0 at.1)
    go false false p q ne none ih = omega (arith, ih)

pub once_not : (outline : List Edge) → ((a b : ℕ) → times a b outline + times b a outline ≤ 1) → repeats outline ≡ false
unfolding repeats times
once_not [] h = refl
once_not (e ∷ es) h =
    let one = hit_self e.0 e.1 in
    let here = h e.0 e.1 in
    let apart : e.0 ≡ e.1 → ⊥ = λ q. omega (arith, here, one, ap₂ (λ (u v : ℕ). hit u v e.0 e.1) (sym q) q) in
    (λ t. ne_eqb e.0 e.1 apart t || none_among e es (omega (arith, here, one)) t || once_not es (λ a b. omega (arith, h a b)) t)
