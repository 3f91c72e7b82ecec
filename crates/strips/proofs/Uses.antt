-- What a caller of `build` and `gather` cites: the index in its region, things as edges and as cells, a point, and a search that goes on. Assumes nothing.
use mathlib.Core.Path.{◌≡◌, refl, sym, ap, ap₂, ◌∙◌}
use mathlib.Core.Bool.{Bool, true, false, cond}
use mathlib.Core.List.{List, [], ◌∷◌, ◌++◌}
use Prim.Native.Nat.{ℕ, zero, suc, ◌+◌, ◌-◌, ◌≤◌, ◌<◌}
use native.Mathlib.Omega.{arith}
use lib.ListN.{length, get_or, take, drop, take-append-drop}
use lib.Seq.{take_all, length-take-le, get_or-take}
use lib.Ieee.{Float}
use native.Mathlib.Decide.{dec_le}
use Rattle.lists.specs.Regions.{run, put}
use Rattle.lists.proofs.Regions.{length_run, run_before, run_put}
use Rattle.cutting.specs.Lent.{pairs}
use Rattle.cutting.proofs.Pairs.{pairs_length}
use Rattle.plane.specs.declared.Point.{Point}
use Rattle.entry.specs.Mesh.{mesh, Rising}
use Rattle.rules.specs.declared.Bounds.{Bounds}
use Rattle.rules.specs.Mesh.{cell_at}
use Rattle.rules.specs.SpatialIndex.{box_of, boxes_meet, box_holds}
use Rattle.spatial_index.specs.Candidates.{places_among, places_from, meets, point_box}
use Rattle.spatial_index.proofs.Candidates.{point_meets}
use Rattle.strips.specs.Things.{thing_count, thing_box}
use Rattle.strips.specs.Index.{index_size, index_of, Indexed}
use Rattle.strips.specs.Meeting.{things_meeting}
use Rattle.strips.proofs.IndexAt.{length_index}
use Rattle.strips.proofs.Complete.{among_ext}

-- ---- the index in its region, as `build` leaves it

module _ (coords : List Float) (ends : List ℕ) (from end at : ℕ) (w₀ w : List ℕ) (rises : from ≤ end) (apart : end ≤ at)
    (fits : at + index_size (thing_count (run w₀ from (end - from)) ends) ≤ length w₀) (e : w ≡ put w₀ at (index_of coords (run w₀ from (end - from)) ends)) where
  abbrev nodes : List ℕ
  nodes = run w₀ from (end - from)

  abbrev size : ℕ
  size = index_size (thing_count (run w₀ from (end - from)) ends)

  -- the things are as they were
  pub nodes_held : run w from (end - from) ≡ run w₀ from (end - from)
  nodes_held = ap (λ (u : List ℕ). run u from (end - from)) e ∙ run_before w₀ at (omega (arith, fits)) (index_of coords nodes ends) from (end - from) (omega arith)

  pub index_held : thing_count (run w₀ from (end - from)) ends ≤ 65536 → Rising ends (end - from)
      → Indexed coords (run w from (end - from)) ends (run w at (index_size (thing_count (run w₀ from (end - from)) ends)))
  index_held few rising =
      let ix : List ℕ = index_of coords nodes ends in
      let there : run w at size ≡ ix = ap (λ (u : List ℕ). run u at size) e ∙ run_put w₀ at (omega (arith, fits)) ix size (length_index coords nodes ends) in
      let long : length nodes ≡ end - from = length_run w₀ from (end - from) (omega (arith, fits)) in
      rw (nodes_held, there) (record { rising = λ i l. ((rising i l).0, omega (arith, (rising i l).1, long)); few = few; is = refl })

  -- the same of the parts that are lent to `gather`
  pub nodes_lent : take (end - from) (drop from w) ≡ run w₀ from (end - from)
  unfolding run
  nodes_lent = nodes_held

  pub index_lent : (to : ℕ) → to ≡ at + index_size (thing_count (run w₀ from (end - from)) ends) → thing_count (run w₀ from (end - from)) ends ≤ 65536 → Rising ends (end - from)
      → Indexed coords (take (end - from) (drop from w)) ends (take (to - at) (drop at w))
  unfolding run
  index_lent to to_is few rising =
      let z : to - at ≡ size = omega (arith, to_is) in
      rw z (index_held few rising)

-- ---- edges: without ends

pub pairs_meeting : (coords : List Float) (nodes : List ℕ) (b : Bounds) (from : ℕ)
    → things_meeting coords nodes [] b from ≡ places_from (meets coords (pairs nodes) b) from (length (pairs nodes))
unfolding thing_count thing_box
pairs_meeting coords nodes b from = ap (places_from (meets coords (pairs nodes) b) from) (sym (pairs_length nodes))

-- ---- cells: with ends

module _ (coords : List Float) (nodes : List ℕ) where
  pub cell_count_lem : (ends : List ℕ) → 0 < length ends → thing_count nodes ends ≡ length ends
  unfolding thing_count
  cell_count_lem [] h = absurd (omega arith)
  cell_count_lem (e ∷ ends) h = refl

  pub cell_box : (ends : List ℕ) (j : ℕ) → 0 < length ends → thing_box coords nodes ends j ≡ box_of coords (cell_at (mesh [] [] nodes ends [] []) j)
  unfolding thing_box cell_at
  cell_box [] j h = absurd (omega arith)
  cell_box (e ∷ ends) j h = refl

-- ---- a point

pub things_holding : (coords : List Float) (nodes ends : List ℕ) (p : Point) (from : ℕ)
    → things_meeting coords nodes ends (point_box p) from ≡ places_from (λ j. box_holds (thing_box coords nodes ends j) p) from (thing_count nodes ends)
things_holding coords nodes ends p from =
    among_ext (λ j. boxes_meet (thing_box coords nodes ends j) (point_box p)) (λ j. box_holds (thing_box coords nodes ends j) p) from (thing_count nodes ends - from)
    (λ i a b. point_meets (thing_box coords nodes ends i) p)

-- ---- a search that goes on

-- behind one of those that pass come those from the next number on
among_rest : (p : ℕ → Bool) (k m i : ℕ) → i < length (places_among p k m)
    → drop (suc i) (places_among p k m) ≡ places_among p (get_or (places_among p k m) i 0 + 1) (k + m - (get_or (places_among p k m) i 0 + 1))
unfolding places_among
among_rest p k zero i h = absurd (omega arith)
among_rest p k (suc m) i h = go (p k) i h (λ j l. among_rest p (suc k) m j l)
  where
    rest : List ℕ
    rest = places_among p (suc k) m

    further : (x : ℕ) → places_among p (x + 1) (suc k + m - (x + 1)) ≡ places_among p (x + 1) (k + suc m - (x + 1))
    further x =
        let z : suc k + m - (x + 1) ≡ k + suc m - (x + 1) = omega arith in
        ap (places_among p (x + 1)) z

    go : (t : Bool) (i : ℕ) → i < length (cond t (k ∷ []) [] ++ rest)
        → ((j : ℕ) → j < length rest → drop (suc j) rest ≡ places_among p (get_or rest j 0 + 1) (suc k + m - (get_or rest j 0 + 1)))
        → drop (suc i) (cond t (k ∷ []) [] ++ rest)
        ≡ places_among p (get_or (cond t (k ∷ []) [] ++ rest) i 0 + 1) (k + suc m - (get_or (cond t (k ∷ []) [] ++ rest) i 0 + 1))
    go false i l ih = ih i l ∙ further (get_or rest i 0)
    go true zero l ih =
        let one : suc k ≡ k + 1 = omega arith in
        let left : m ≡ k + suc m - (k + 1) = omega arith in
        ap₂ (places_among p) one left
    go true (suc i) l ih = ih i (omega arith) ∙ further (get_or rest i 0)

module _ (p : ℕ → Bool) (from n : ℕ) where
  -- a list that isn't full has them all
  pub all_taken : (most : ℕ) → length (take most (places_from p from n)) < most → take most (places_from p from n) ≡ places_from p from n
  all_taken most h = go (dec_le (length (places_from p from n)) most)
    where
      go : Dec (length (places_from p from n) ≤ most) → take most (places_from p from n) ≡ places_from p from n
      go (yes l) = take_all most (places_from p from n) l
      go (no l) = absurd (omega (arith, length-take-le most (places_from p from n) (omega arith)))

  -- behind a full one come those from its last + 1 on
  pub goes_on : (k : ℕ) → length (take (suc k) (places_from p from n)) ≡ suc k
      → places_from p from n ≡ take (suc k) (places_from p from n) ++ places_from p (get_or (take (suc k) (places_from p from n)) k 0 + 1) n
  unfolding places_among
  goes_on k full =
      let xs : List ℕ = places_from p from n in
      let last : get_or (take (suc k) xs) k 0 ≡ get_or xs k 0 = get_or-take (suc k) xs k 0 (omega arith) in
      let enough : k < length xs = there (dec_le (suc k) (length xs)) in
      let low : from ≤ n = reached enough (dec_le from n) in
      let end : from + (n - from) ≡ n = omega arith in
      sym (take-append-drop (suc k) xs) ∙ ap (λ (l : List ℕ). take (suc k) xs ++ l)
      (among_rest p from (n - from) k enough ∙ ap₂ (λ (x m : ℕ). places_among p (x + 1) (m - (x + 1))) (sym last) end)
    where
      there : Dec (suc k ≤ length (places_from p from n)) → k < length (places_from p from n)
      there (yes l) = l
      there (no l) = absurd (omega (arith, full, ap length (take_all (suc k) (places_from p from n) (omega arith))))

      reached : k < length (places_from p from n) → Dec (from ≤ n) → from ≤ n
      reached h (yes l) = l
      reached h (no l) =
          let none : n - from ≡ 0 = omega arith in
          absurd (omega (arith, h, ap (λ (m : ℕ). length (places_among p from m)) none))
