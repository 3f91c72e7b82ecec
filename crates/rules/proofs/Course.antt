-- Laws for code that meets the events one after the other: a refusal in a first part is the whole's; a first part without one takes up its room;
-- meetings are only ever added behind those found. Assumes nothing.
use mathlib.Core.Path.{◌≡◌, refl, sym, ap, ◌∙◌}
use mathlib.Core.Bool.{Bool, true, false}
use mathlib.Core.List.{List, [], ◌∷◌, ◌++◌, append-nil, append_assoc}
use Prim.Native.Nat.{ℕ, zero, suc, ◌+◌, ◌-◌, ◌≤◌, ◌<◌}
use native.Mathlib.Nat.{zero-add, suc-add}
use native.Mathlib.Omega.{arith}
use lib.Dec.{leb}
use lib.ListN.{replicate}
use lib.Ieee.{Float}
use borrow.Author.Tests.{le-leb}
use Rattle.cutting.specs.Edges.{edge_at}
use Rattle.grid.specs.Grid.{Grid}
use Rattle.rules.specs.Neighbours.{Net}
use Rattle.rules.specs.SpatialIndex.{edge_box, candidates}
use Rattle.rules.specs.Meetings.{Met, met_pair, met_all, meetings_to}
use Rattle.rules.specs.Refusals.{Event, meeting, point, piece, stop, first_refusal}
use Rattle.rules.proofs.Accepts.{Calm}

-- ---- a refusal in the first part is that of the whole
pub refused_first : (es fs : List Event) (m p q n r : ℕ) → first_refusal m p q n es ≡ suc r → first_refusal m p q n (es ++ fs) ≡ suc r
unfolding first_refusal
refused_first [] fs m p q n r e = absurd (omega (arith, e))
refused_first (meeting ∷ es) fs zero p q n r e = e
refused_first (meeting ∷ es) fs (suc m) p q n r e = refused_first es fs m p q n r e
refused_first (point ∷ es) fs m zero q n r e = e
refused_first (point ∷ es) fs m (suc p) q n r e = refused_first es fs m p q n r e
refused_first (piece k ∷ es) fs m p zero n r e = e
refused_first (piece k ∷ es) fs m p (suc q) n r e = go (leb k n) (λ f. refused_first es fs m p q (n - k) r f) e
  where
    go : (t : Bool) → (first_refusal m p q (n - k) es ≡ suc r → first_refusal m p q (n - k) (es ++ fs) ≡ suc r)
        → (let x : ℕ = elim t [ true ↦ first_refusal m p q (n - k) es | false ↦ 12 ] in x ≡ suc r)
        → (let x : ℕ = elim t [ true ↦ first_refusal m p q (n - k) (es ++ fs) | false ↦ 12 ] in x ≡ suc r)
    go true ih f = ih f
    go false ih f = f
refused_first (stop k ∷ es) fs m p q n r e = e

-- ---- a first part without refusals takes up its room

unfoldable pub meetings_in : List Event → ℕ
meetings_in [] = 0
meetings_in (meeting ∷ es) = suc (meetings_in es)
meetings_in (point ∷ es) = meetings_in es
meetings_in (piece k ∷ es) = meetings_in es
meetings_in (stop r ∷ es) = meetings_in es

unfoldable pub points_in : List Event → ℕ
points_in [] = 0
points_in (meeting ∷ es) = points_in es
points_in (point ∷ es) = suc (points_in es)
points_in (piece k ∷ es) = points_in es
points_in (stop r ∷ es) = points_in es

unfoldable pub pieces_in : List Event → ℕ
pieces_in [] = 0
pieces_in (meeting ∷ es) = pieces_in es
pieces_in (point ∷ es) = pieces_in es
pieces_in (piece k ∷ es) = suc (pieces_in es)
pieces_in (stop r ∷ es) = pieces_in es

unfoldable pub entries_in : List Event → ℕ
entries_in [] = 0
entries_in (meeting ∷ es) = entries_in es
entries_in (point ∷ es) = entries_in es
entries_in (piece k ∷ es) = k + entries_in es
entries_in (stop r ∷ es) = entries_in es

pub goes_on : (es fs : List Event) (m p q n : ℕ) → Calm es → first_refusal (meetings_in es + m) (points_in es + p) (pieces_in es + q) (entries_in es + n) (es ++ fs)
    ≡ first_refusal m p q n fs
unfolding first_refusal meetings_in points_in pieces_in entries_in
goes_on [] fs m p q n h = rw (zero-add m, zero-add p, zero-add q, zero-add n)
goes_on (meeting ∷ es) fs m p q n h = rw suc-add (goes_on es fs m p q n h)
goes_on (point ∷ es) fs m p q n h = rw suc-add (goes_on es fs m p q n h)
goes_on (piece k ∷ es) fs m p q n h =
    let left : k + entries_in es + n - k ≡ entries_in es + n = omega arith in
    rw (suc-add, le-leb k (k + entries_in es + n) (omega arith), first_refusal)
    (ap (λ (x : ℕ). first_refusal (meetings_in es + m) (points_in es + p) (pieces_in es + q) x (es ++ fs)) left ∙ goes_on es fs m p q n h)
goes_on (stop r ∷ es) fs m p q n h = absurd h

-- ---- points placed one after the other: they fit, or the first without a place is refused

pub points_fit : (k : ℕ) (es : List Event) (m p q n : ℕ) → k ≤ p → first_refusal m p q n (replicate k point ++ es) ≡ first_refusal m (p - k) q n es
unfolding first_refusal
points_fit zero es m p q n h = let all : p ≡ p - 0 = omega arith in ap (λ (x : ℕ). first_refusal m x q n es) all
points_fit (suc k) es m zero q n h = absurd (omega (arith, h))
points_fit (suc k) es m (suc p) q n h =
    let left : p - k ≡ suc p - suc k = omega arith in
    points_fit k es m p q n (omega (arith, h)) ∙ ap (λ (x : ℕ). first_refusal m x q n es) left

pub points_over : (k : ℕ) (es : List Event) (m p q n : ℕ) → p < k → first_refusal m p q n (replicate k point ++ es) ≡ 12
unfolding first_refusal
points_over zero es m p q n h = absurd (omega (arith, h))
points_over (suc k) es m zero q n h = refl
points_over (suc k) es m (suc p) q n h = points_over k es m p q n (omega (arith, h))

-- ---- meetings are only added

module _ (g : Grid) (coords : List Float) (s c : Net) where
  pub pair_behind : (i j : ℕ) (ms : List Met) → (more : List Met) × (met_pair g coords s c i j ms ≡ ms ++ more)
  unfolding met_pair
  pair_behind i j ms = (_, refl)

  pub all_behind : (i : ℕ) (js : List ℕ) (ms : List Met) → (more : List Met) × (met_all g coords s c i js ms ≡ ms ++ more)
  unfolding met_all
  all_behind i [] ms = ([], sym (append-nil ms))
  all_behind i (j ∷ js) ms =
      let a = pair_behind i j ms in
      let b = all_behind i js (met_pair g coords s c i j ms) in
      (a.0 ++ b.0, b.1 ∙ ap (λ (l : List Met). l ++ b.0) a.1 ∙ append_assoc ms a.0 b.0)

  -- the meetings of the first i edges stand before those of i + k
  pub edges_behind : (i k : ℕ) → (more : List Met) × (meetings_to g coords s c (k + i) ≡ meetings_to g coords s c i ++ more)
  unfolding meetings_to
  edges_behind i zero = rw zero-add ([], sym (append-nil (meetings_to g coords s c i)))
  edges_behind i (suc k) =
      let a = edges_behind i k in
      let b = all_behind (k + i) (candidates coords c.edges (edge_box coords (edge_at s.edges (k + i)))) (meetings_to g coords s c (k + i)) in
      rw suc-add (a.0 ++ b.0, b.1 ∙ ap (λ (l : List Met). l ++ b.0) a.1 ∙ append_assoc (meetings_to g coords s c i) a.0 b.0)
