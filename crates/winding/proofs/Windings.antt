-- Winding numbers: pieces that close up wind about every point as often as the outline does. Assumes nothing.
use mathlib.Core.Path.{◌≡◌, refl, sym, ap, ap₂, ◌∙◌}
use mathlib.Core.Bool.{false, true≢false}
use mathlib.Core.List.{List, [], ◌∷◌}
use Prim.Native.Nat.{ℕ, zero, suc, ◌+◌, ◌≤◌, ◌<◌}
use native.Mathlib.Omega.{arith}
use native.Mathlib.Decide.{dec_le}
use lib.IntN.{ℤ, pos, negsuc, neg_ℤ, ◌+ℤ◌, ◌-ℤ◌, +ℤ_comm, neg_ℤ-+ℤ, neg_ℤ-neg_ℤ, pos-+ℤ-pos}
use lib.ListN.{length, get_or}
use lib.Ieee.{Float}
use Rattle.lists.specs.Search.{bit}
use Rattle.lists.specs.Gather.{tally}
use Rattle.cutting.specs.Edges.{Edge, ring, rings, times}
use Rattle.cutting.specs.Cell.{repeats}
use Rattle.cutting.specs.Areas.{Closes, ClosesUp}
use Rattle.winding.specs.Winding.{Spot, spot_at, rises_past, crosses_ray, winding, winding_of, windings, negative, positive, WindsUp, NoneBackward, OneWinds}
use Rattle.cutting.proofs.Sums.{sum, sum_append, sum_even}
use Rattle.cutting.proofs.Repeats.{repeats_not}

-- ---- turned round, an edge crosses the other way: for every point, on the edge too

module _ (coords : List Float) (s : Spot) where
  abbrev weight : ℕ → ℕ → ℤ
  weight a b = crosses_ray s (spot_at coords a) (spot_at coords b)

  pub crossing_odd : (a b : ℕ) → weight a b ≡ neg_ℤ (weight b a)
  crossing_odd a b = back (pos (bit (rises_past s (spot_at coords a) (spot_at coords b)))) (pos (bit (rises_past s (spot_at coords b) (spot_at coords a))))
    where
      back : (u v : ℤ) → u -ℤ v ≡ neg_ℤ (v -ℤ u)
      back u v = +ℤ_comm u (neg_ℤ v) ∙ ap (λ (z : ℤ). neg_ℤ v +ℤ z) (sym (neg_ℤ-neg_ℤ u)) ∙ sym (neg_ℤ-+ℤ v (neg_ℤ u))

  winding_sum : (es : List Edge) → winding coords s es ≡ sum weight es
  unfolding winding sum
  winding_sum [] = refl
  winding_sum (e ∷ es) = ap (λ (z : ℤ). weight e.0 e.1 +ℤ z) (winding_sum es)

  windings_sum : (ps : List (List ℕ)) → windings coords s ps ≡ sum weight (rings ps)
  unfolding windings rings sum
  windings_sum [] = refl
  windings_sum (p ∷ ps) = ap₂ (λ (y z : ℤ). y +ℤ z) (winding_sum (ring p)) (windings_sum ps) ∙ sym (sum_append weight (ring p) (rings ps))

-- ---- the theorem: of pieces that close up to an outline that doesn't repeat the windings add up

module _ (coords : List Float) (outline : List Edge) (ps : List (List ℕ)) where
  -- each edge is used as often as its reverse, but for the outline's darts
  balance : ((a b : ℕ) → Closes outline ps a b) → ((a b : ℕ) → times a b outline ≤ 1) → (a b : ℕ)
      → times a b (rings ps) + times b a outline ≡ times b a (rings ps) + times a b outline
  balance close single a b = go (dec_le 1 (times a b outline)) (dec_le 1 (times b a outline))
    where
      go : Dec (1 ≤ times a b outline) → Dec (1 ≤ times b a outline) → times a b (rings ps) + times b a outline ≡ times b a (rings ps) + times a b outline
      go (yes h) (yes k) = let c = (close a b).outer (omega (arith, h)) in let d = (close b a).outer (omega (arith, k)) in absurd (omega (arith, c.0, d.1))
      go (yes h) (no k) = let c = (close a b).outer (omega (arith, h)) in omega (arith, c.0, c.1, single a b)
      go (no h) (yes k) = let d = (close b a).outer (omega (arith, k)) in omega (arith, d.0, d.1, single b a)
      go (no h) (no k) = let c = (close a b).other (omega (arith, h)) (omega (arith, k)) in omega (arith, c.0)

  pub windings_add : repeats outline ≡ false → ClosesUp coords outline ps → WindsUp coords outline ps
  windings_add once close s =
      windings_sum coords s ps ∙ sum_even (weight coords s) (crossing_odd coords s) (rings ps) outline (balance close.edges (λ a b. omega (arith, repeats_not outline once a b)))
      ∙ sym (winding_sum coords s outline)

-- ---- where no piece winds clockwise

natural : (z : ℤ) → negative z ≡ false → (n : ℕ) × (z ≡ pos n)
natural (pos n) h = (n, refl)
natural (negsuc n) h = absurd (true≢false h)

counted : {m n : ℕ} → pos m ≡ pos n → m ≡ n
counted e = cc

some : (n : ℕ) → bit (positive (pos n)) ≤ n
some zero = omega arith
some (suc n) = omega arith

module _ (coords : List Float) (s : Spot) where
  tail : (p : List ℕ) (ps : List (List ℕ)) → NoneBackward coords s (p ∷ ps) → NoneBackward coords s ps
  tail p ps h j k = h (suc j) (omega arith)

  head : (p : List ℕ) (ps : List (List ℕ)) → NoneBackward coords s (p ∷ ps) → (n : ℕ) × (winding_of coords s p ≡ pos n)
  head p ps h = natural (winding_of coords s p) (h zero (omega arith))

  whole : (ps : List (List ℕ)) → NoneBackward coords s ps → (n : ℕ) × (windings coords s ps ≡ pos n)
  unfolding windings
  whole [] h = (0, refl)
  whole (p ∷ ps) h =
      let a = head p ps h in
      let b = whole ps (tail p ps h) in
      (a.0 + b.0, ap₂ (λ (y z : ℤ). y +ℤ z) a.1 b.1 ∙ pos-+ℤ-pos a.0 b.0)

  -- at most as many pieces wind about s as the windings add up to
  few : (ps : List (List ℕ)) → NoneBackward coords s ps → (w : ℕ) → windings coords s ps ≡ pos w → tally (λ p. positive (winding_of coords s p)) ps ≤ w
  unfolding windings tally
  few [] h w e = omega arith
  few (p ∷ ps) h w e =
      let a = head p ps h in
      let b = whole ps (tail p ps h) in
      let rest = few ps (tail p ps h) b.0 b.1 in
      let all : a.0 + b.0 ≡ w = counted (sym (pos-+ℤ-pos a.0 b.0) ∙ sym (ap₂ (λ (y z : ℤ). y +ℤ z) a.1 b.1) ∙ e) in
      let one : bit (positive (winding_of coords s p)) ≤ a.0 = rw a.1 (some a.0) in
      omega arith

  -- where they add up to nothing, none does
  nothing : (ps : List (List ℕ)) → NoneBackward coords s ps → windings coords s ps ≡ pos 0 → (j : ℕ) → j < length ps → winding_of coords s (get_or ps j []) ≡ pos 0
  unfolding windings
  nothing [] h e j k = absurd (omega arith)
  nothing (p ∷ ps) h e j k =
      let a = head p ps h in
      let b = whole ps (tail p ps h) in
      let none : a.0 + b.0 ≡ 0 = counted (sym (pos-+ℤ-pos a.0 b.0) ∙ sym (ap₂ (λ (y z : ℤ). y +ℤ z) a.1 b.1) ∙ e) in
      at (a.1 ∙ ap pos (omega arith)) (nothing ps (tail p ps h) (b.1 ∙ ap pos (omega arith))) j k
    where
      at : winding_of coords s p ≡ pos 0 → ((i : ℕ) → i < length ps → winding_of coords s (get_or ps i []) ≡ pos 0) → (j : ℕ) → j < length (p ∷ ps)
          → winding_of coords s (get_or (p ∷ ps) j []) ≡ pos 0
      at here later zero k = here
      at here later (suc i) k = later i (omega arith)

  -- where they add up to one, one does
  only : (ps : List (List ℕ)) → NoneBackward coords s ps → windings coords s ps ≡ pos 1 → OneWinds coords s ps
  unfolding windings
  only [] h e = absurd (omega (arith, counted e))
  only (p ∷ ps) h e =
      let a = head p ps h in
      let b = whole ps (tail p ps h) in
      let one : a.0 + b.0 ≡ 1 = counted (sym (pos-+ℤ-pos a.0 b.0) ∙ sym (ap₂ (λ (y z : ℤ). y +ℤ z) a.1 b.1) ∙ e) in
      go a.0 b.0 one a.1 b.1 (λ q. only ps (tail p ps h) q)
    where
      first : winding_of coords s p ≡ pos 1 → windings coords s ps ≡ pos 0 → OneWinds coords s (p ∷ ps)
      first here rest = record { at = 0; below = omega arith; once = here; others = others }
        where
          others : (j : ℕ) → j < length (p ∷ ps) → (j ≡ 0 → ⊥) → winding_of coords s (get_or (p ∷ ps) j []) ≡ pos 0
          others zero k ne = absurd (ne refl)
          others (suc i) k ne = nothing ps (tail p ps h) rest i (omega arith)

      later : winding_of coords s p ≡ pos 0 → OneWinds coords s ps → OneWinds coords s (p ∷ ps)
      later here r = record { at = suc r.at; below = omega (arith, r.below); once = r.once; others = others }
        where
          others : (j : ℕ) → j < length (p ∷ ps) → (j ≡ suc r.at → ⊥) → winding_of coords s (get_or (p ∷ ps) j []) ≡ pos 0
          others zero k ne = here
          others (suc i) k ne = r.others i (omega arith) (λ q. ne (ap suc q))

      go : (m n : ℕ) → m + n ≡ 1 → winding_of coords s p ≡ pos m → windings coords s ps ≡ pos n → (windings coords s ps ≡ pos 1 → OneWinds coords s ps) → OneWinds coords s (p ∷ ps)
      go zero n q here rest rec = later here (rec (rest ∙ ap pos (omega arith)))
      go (suc m) n q here rest rec = first (here ∙ ap pos (omega arith)) (rest ∙ ap pos (omega arith))

module _ (coords : List Float) (outline : List Edge) (ps : List (List ℕ)) (adds : WindsUp coords outline ps) (s : Spot) (forward : NoneBackward coords s ps) where
  -- About a point about which no piece winds clockwise at most as many pieces wind as the outline does.
  pub at_most_the_outline : (w : ℕ) → winding coords s outline ≡ pos w → tally (λ p. positive (winding_of coords s p)) ps ≤ w
  at_most_the_outline w e = few coords s ps forward w (adds s ∙ e)

  -- Where the outline winds once, exactly one piece winds about it, and once.
  pub exactly_one : winding coords s outline ≡ pos 1 → OneWinds coords s ps
  exactly_one e = only coords s ps forward (adds s ∙ e)
