-- Pieces one after the other: their corners and ends, and the room that they take up. Assumes nothing.
use mathlib.Core.Path.{◌≡◌, refl, sym, ap, ◌∙◌}
use mathlib.Core.Bool.{Bool, true, false}
use mathlib.Core.List.{List, [], ◌∷◌, ◌++◌, append_assoc}
use Prim.Native.Nat.{ℕ, zero, suc, ◌+◌, ◌-◌, ◌≤◌, ◌<◌}
use native.Mathlib.Nat.{add-zero}
use native.Mathlib.Omega.{arith}
use lib.Dec.{leb}
use lib.ListN.{length, length-append}
use borrow.Author.Tests.{leb-true, le-leb, lt-leb}
use Rattle.cutting.specs.Outcome.{flat, stops}
use Rattle.rules.specs.Refusals.{Event, piece, first_refusal}
use Rattle.rules.proofs.Accepts.{Calm}
use Rattle.rules.proofs.Course.{meetings_in, points_in, pieces_in, entries_in, goes_on, refused_first}
use Rattle.pieces.specs.Pieces.{events}

-- ---- corners and ends

pub flat_append : (ks ls : List (List ℕ)) → flat (ks ++ ls) ≡ flat ks ++ flat ls
unfolding flat
flat_append [] ls = refl
flat_append (k ∷ ks) ls = ap (λ (t : List ℕ). k ++ t) (flat_append ks ls) ∙ sym (append_assoc k (flat ks) (flat ls))

pub stops_append : (e : ℕ) (ks ls : List (List ℕ)) → stops e (ks ++ ls) ≡ stops e ks ++ stops (e + length (flat ks)) ls
unfolding flat stops
stops_append e [] ls = ap (λ (a : ℕ). stops a ls) (sym (add-zero e))
stops_append e (k ∷ ks) ls =
    let at : e + length k + length (flat ks) ≡ e + length (k ++ flat ks) = omega (arith, length-append k (flat ks)) in
    ap (λ (t : List ℕ). (e + length k) ∷ t) (stops_append (e + length k) ks ls ∙ ap (λ (a : ℕ). stops (e + length k) ks ++ stops a ls) at)

-- ---- the events of pieces: no stop, no meeting, no point

calm : (ks : List (List ℕ)) → Calm (events ks)
calm [] = tt
calm (k ∷ ks) = calm ks

taken : (ks : List (List ℕ))
    → (meetings_in (events ks) ≡ 0) × (points_in (events ks) ≡ 0) × (pieces_in (events ks) ≡ length ks) × (entries_in (events ks) ≡ length (flat ks))
unfolding meetings_in points_in pieces_in entries_in flat
taken [] = (refl, refl, refl, refl)
taken (k ∷ ks) =
    let t = taken ks in
    (t.0, t.1, ap suc t.2, omega (arith, t.3, length-append k (flat ks)))

-- where all are placed they fit
pub fits : (ks : List (List ℕ)) (m p q n : ℕ) → first_refusal m p q n (events ks) ≡ 0 → (length ks ≤ q) × (length (flat ks) ≤ n)
unfolding first_refusal flat
fits [] m p q n e = (omega arith, omega arith)
fits (k ∷ ks) m p zero n e = absurd (omega (arith, e))
fits (k ∷ ks) m p (suc q) n e = go (leb (length k) n) refl (λ f. fits ks m p q (n - length k) f) e
  where
    go : (t : Bool) → leb (length k) n ≡ t → (first_refusal m p q (n - length k) (events ks) ≡ 0 → (length ks ≤ q) × (length (flat ks) ≤ n - length k))
        → (let x : ℕ = elim t [ true ↦ first_refusal m p q (n - length k) (events ks) | false ↦ 12 ] in x ≡ 0) → (suc (length ks) ≤ suc q) × (length (k ++ flat ks) ≤ n)
    go true l ih f = let h = ih f in (omega (arith, h.0), omega (arith, h.1, leb-true (length k) n l, length-append k (flat ks)))
    go false l ih f = absurd (omega (arith, f))

-- they take up their room
pub behind : (ks : List (List ℕ)) (fs : List Event) (m p q n : ℕ) → length ks ≤ q → length (flat ks) ≤ n
    → first_refusal m p q n (events ks ++ fs) ≡ first_refusal m p (q - length ks) (n - length (flat ks)) fs
behind ks fs m p q n hq hn =
    let t = taken ks in
    let em : meetings_in (events ks) + m ≡ m = omega (arith, t.0) in
    let ep : points_in (events ks) + p ≡ p = omega (arith, t.1) in
    let eq : pieces_in (events ks) + (q - length ks) ≡ q = omega (arith, t.2) in
    let en : entries_in (events ks) + (n - length (flat ks)) ≡ n = omega (arith, t.3) in
    rw (em, ep, eq, en) at (goes_on (events ks) fs m p (q - length ks) (n - length (flat ks)) (calm ks))

-- a refusal among the first is that of all
pub refused : (r : ℕ) (es fs : List Event) (m p q n : ℕ) → (r ≡ 0 → ⊥) → r ≡ first_refusal m p q n es → r ≡ first_refusal m p q n (es ++ fs)
refused zero es fs m p q n h e = absurd (h refl)
refused (suc r) es fs m p q n h e = sym (refused_first es fs m p q n r (sym e))

-- ---- one piece

pub one_fits : (m p q n k : ℕ) → 0 < q → k ≤ n → 0 ≡ first_refusal m p q n (piece k ∷ [])
unfolding first_refusal
one_fits m p zero n k hq hn = absurd (omega (arith, hq))
one_fits m p (suc q) n k hq hn = rw (le-leb k n hn, first_refusal)

pub no_place : (m p n k : ℕ) → 12 ≡ first_refusal m p 0 n (piece k ∷ [])
unfolding first_refusal
no_place m p n k = refl

pub too_long : (m p q n k : ℕ) → n < k → 12 ≡ first_refusal m p q n (piece k ∷ [])
unfolding first_refusal
too_long m p zero n k h = refl
too_long m p (suc q) n k h = rw (lt-leb k n h, first_refusal)
