-- W5: what the second number counts, in the words of specs/Counted.antt, and how it stands to the fourth. Assumes nothing.
use mathlib.Core.Path.{◌≡◌, refl, sym, ap, ◌∙◌, subst}
use mathlib.Core.Logic.{◌⊎◌, inl, inr}
use mathlib.Core.Bool.{Bool, true, false, not, ◌&&◌}
use mathlib.Core.List.{List, [], Memᴰ}
use Prim.Native.Nat.{ℕ, ◌+◌, ◌/◌, ◌≤◌, ◌<◌}
use native.Mathlib.Omega.{arith}
use lib.Dec.{leb, eqb}
use lib.ListN.{length, get_or, length-append}
use borrow.Author.Tests.{le-leb, leb-true}
use Rattle.lists.specs.Search.{named, many}
use Rattle.lists.proofs.Search.{many_all, many_bound, and_true}
use Rattle.lists.proofs.Gather.{in_list, mem_at, places_at, places_has, places_rise}
use Rattle.lists.proofs.Members.{named_in, in_named}
use Rattle.cutting.specs.Edition.{ours}
use Rattle.grid.specs.Grid.{Grid}
use Rattle.settings.specs.declared.Settings.{Settings}
use Rattle.entry.specs.Mesh.{Mesh, node_count}
use Rattle.entry.specs.Refused.{entry_of}
use Rattle.rules.specs.Mesh.{the_subject}
use Rattle.rules.specs.Meetings.{Scene}
use Rattle.rules.specs.Operations.{keeps, scene_for, pieces_of, piece_at, piece_with, lies_inside, listing}
use Rattle.rules.specs.Overlay.{Lists, Result, named_points, answered, answered_with, overlay_of}
use Rattle.rules.specs.Demand3.{Accepted, set_on}
use Rattle.rules.proofs.Endings.{Ending, input, state_met, success, ending, input_refused, state_refused, succeeds, no_refusal}
use Rattle.rules.proofs.Accepts.{Taken, accepted}
use Rattle.rules.proofs.Parts.{among, listed, listed_kept, kept_listed}
use Rattle.rules.proofs.Rows.{at_place}
use Rattle.rules.proofs.Closing.{cells_lent}
use Rattle.rules.proofs.Points.{points_counted}
use Rattle.coordinates.proofs.InScene.{scene_length, lent_even, piece_nodes}
use Rattle.new_points.specs.Counted.{Among, Entered, CountsPoints}
use Rattle.new_points.proofs.Entries.{entries_of, entry_is_corner, corner_is_entry, entered_in, in_entered}
use Rattle.new_points.proofs.Named.{new_point_named}

-- ---- the listed pieces

module _ (o : Settings) (s c : Mesh) where
  abbrev sc : Scene
  sc = scene_for o s c

  abbrev lent : ℕ
  lent = node_count s + node_count c

  abbrev all : ℕ
  all = length sc.coords / 2

  abbrev entries : List ℕ
  entries = entries_of (listing o s c)

  -- their corners are nodes of the scene
  entry_node : (w : ℕ) → entry_of o s c w ≡ 0 → (n : ℕ) → Memᴰ n entries → n < all
  entry_node w pass n h =
      let r = entry_is_corner (listing o s c) n h in
      let p = r.0 in
      let k = listed_kept o s c p (listed o s c p r.1) in
      piece_nodes o s c w pass p.mesh p.cell k.cell (get_or (pieces_of sc p.mesh p.cell) p.place [])
      (in_list (pieces_of sc p.mesh p.cell) p.place k.place []) n (subst (Memᴰ n) (at_place sc o.op p k) r.2)

  -- a piece of the subject that the operation keeps is listed, and its corners are entries
  kept_entry : (i j : ℕ) → i < length s.ends → j < length (pieces_of sc the_subject i) → keeps o.op the_subject (lies_inside sc the_subject (piece_at sc the_subject i j)) ≡ true
      → (n : ℕ) → Memᴰ n (get_or (pieces_of sc the_subject i) j []) → Memᴰ n entries
  unfolding piece_with
  kept_entry i j h k passes n m =
      let q = piece_at sc the_subject i j in
      corner_is_entry (listing o s c) q n
      (among o s c q
      (kept_listed o s c q (record { cut = refl; cell = omega (arith, h, cells_lent o.grid (eqb o.op 5) s c the_subject); place = k; same = refl; passes = passes }))) m

-- ---- the theorems

-- W5: in an accepted overlay's answer the second number counts each point once, and exactly those whose number is not below the lent nodes' count and that some
-- entry of the answer's node list is.
pub counts_named : (o : Settings) (s c : Mesh) (l : Lists) → Accepted o s c l → CountsPoints (overlay_of o s c l) (node_count s + node_count c)
    (named_points (node_count s + node_count c) (length (scene_for o s c).coords / 2) (listing o s c))
unfolding named_points answered_with
counts_named o s c l h = subst (λ (r : Result). CountsPoints r (lent o s c) points) (sym t.answer) answer
  where
    t : Taken ours o s c l
    t = accepted ours o s c l h

    new : ℕ → Bool
    new n = leb (lent o s c) n && named (entries o s c) n

    points : List ℕ
    points = named_points (lent o s c) (all o s c) (listing o s c)

    -- the number of a counted point is not below the lent nodes' count, and an entry is it
    counted : (n : ℕ) → Among points (length points) n → (lent o s c ≤ n) × Entered (answered o s c l) n
    counted n (i, h, e) =
        let passes : new n ≡ true = ap new (sym e) ∙ (places_at new (all o s c) i h).1 in
        let b = and_true (leb (lent o s c) n) (named (entries o s c) n) passes in
        (leb-true (lent o s c) n b.0, in_entered o s c l n (named_in (entries o s c) n b.1))

    -- and each such number is counted
    all_such : (n : ℕ) → (lent o s c ≤ n) × Entered (answered o s c l) n → Among points (length points) n
    all_such n (low, k) =
        let e = entered_in o s c l n k in
        places_has new (all o s c) n (entry_node o s c (length l.work) t.entry n e)
        (ap (λ (b : Bool). b && named (entries o s c) n) (le-leb (lent o s c) n low) ∙ in_named (entries o s c) n e)

    answer : CountsPoints (answered o s c l) (lent o s c) points
    answer = record { count = refl; rising = places_rise new (all o s c); exactly = λ n. (counted n, all_such n) }

-- ---- the second number and the fourth

module _ (o : Settings) (s c : Mesh) (l : Lists) (h : Accepted o s c l) where
  abbrev r : Result
  r = overlay_of o s c l

  answer_is : overlay_of o s c l ≡ answered o s c l
  answer_is = (accepted ours o s c l h).answer

  -- all nodes: those lent, and those added
  all_are : all o s c ≡ lent o s c + (overlay_of o s c l).added
  unfolding answered_with
  all_are =
      let even = lent_even o s c (length l.work) (accepted ours o s c l h).entry in
      omega (arith, even, scene_length o s c, length-append s.coords c.coords, ap (λ (x : Result). x.added) answer_is)

  points_are : (overlay_of o s c l).points ≡ many (λ k. named (entries o s c) (lent o s c + k)) (overlay_of o s c l).added
  unfolding answered_with
  points_are =
      ap (λ (x : Result). x.points) answer_is ∙ ap (λ (n : ℕ). length (named_points (lent o s c) n (listing o s c))) all_are
      ∙ points_counted (lent o s c) (overlay_of o s c l).added (listing o s c)

  below_fourth : (overlay_of o s c l).points ≤ (overlay_of o s c l).added
  below_fourth = omega (arith, points_are, many_bound (λ k. named (entries o s c) (lent o s c + k)) (overlay_of o s c l).added)

  -- a new point is a corner of a piece of the subject: at a cell and a place
  corner_of : (n : ℕ) → lent o s c ≤ n → n < all o s c
      → (i : ℕ) × (j : ℕ) × (i < length s.ends) × (j < length (pieces_of (sc o s c) the_subject i)) × Memᴰ n (get_or (pieces_of (sc o s c) the_subject i) j [])
  corner_of n low high =
      let (i, k, p, at, on) = new_point_named o s c l h n low high in
      let place = mem_at (pieces_of (sc o s c) the_subject i) p at in
      (i, place.0, k, place.1, subst (Memᴰ n) (sym (place.2 [])) on)

  -- Where every piece of the subject is listed, every added point is counted.
  all_counted : ((inside : Bool) → keeps o.op the_subject inside ≡ true) → (overlay_of o s c l).points ≡ (overlay_of o s c l).added
  all_counted whole = points_are ∙ many_all _ (overlay_of o s c l).added at
    where
      at : (k : ℕ) → k < (overlay_of o s c l).added → named (entries o s c) (lent o s c + k) ≡ true
      at k b =
          let n = lent o s c + k in
          let (i, j, x, y, on) = corner_of n (omega arith) (omega (arith, b, all_are)) in
          in_named (entries o s c) n (kept_entry o s c i j x y (whole (lies_inside (sc o s c) the_subject (piece_at (sc o s c) the_subject i j))) n on)

-- Each entry of the answer's node list names a node that the answer lists, with both its coordinates.
pub entries_listed : (o : Settings) (s c : Mesh) (l : Lists) → Accepted o s c l
    → (n : ℕ) → Entered (overlay_of o s c l) n → n < node_count s + node_count c + (overlay_of o s c l).added
entries_listed o s c l h n k =
    let e = entered_in o s c l n (subst (λ (x : Result). Entered x n) (answer_is o s c l h) k) in
    let low = entry_node o s c (length l.work) (accepted ours o s c l h).entry n e in
    omega (arith, low, all_are o s c l h)

-- The second number is never above the fourth, of a refusal too.
pub never_above : (o : Settings) (s c : Mesh) (l : Lists) → (overlay_of o s c l).points ≤ (overlay_of o s c l).added
never_above o s c l = go (ending ours o s c l)
  where
    go : Ending ours o s c l → (overlay_of o s c l).points ≤ (overlay_of o s c l).added
    go (input n) = rw (input_refused ours o s c l n) (omega arith)
    go (state_met e n) = rw (state_refused ours o s c l e n) (omega arith)
    go (success e f) = below_fourth o s c l (ap (λ (x : Result). x.code) (succeeds ours o s c l e f) ∙ no_refusal ours o s c l)

-- Imprint, Union and lines list every piece of the subject, so they count every added point.
pub imprint_counts_all : (g : Grid) (m : ℕ) (s c : Mesh) (l : Lists) → Accepted (set_on g 0 m) s c l → (overlay_of (set_on g 0 m) s c l).points ≡ (overlay_of (set_on g 0 m) s c l).added
imprint_counts_all g m s c l h = all_counted (set_on g 0 m) s c l h (λ inside. refl)

pub union_counts_all : (g : Grid) (m : ℕ) (s c : Mesh) (l : Lists) → Accepted (set_on g 1 m) s c l → (overlay_of (set_on g 1 m) s c l).points ≡ (overlay_of (set_on g 1 m) s c l).added
union_counts_all g m s c l h = all_counted (set_on g 1 m) s c l h (λ inside. refl)

pub lines_count_all : (g : Grid) (m : ℕ) (s c : Mesh) (l : Lists) → Accepted (set_on g 5 m) s c l → (overlay_of (set_on g 5 m) s c l).points ≡ (overlay_of (set_on g 5 m) s c l).added
lines_count_all g m s c l h = all_counted (set_on g 5 m) s c l h (λ inside. refl)

-- Intersection and Difference may each count fewer, but together they miss none: of the same meshes, on one grid or on none, each added point is named by a piece of one or of the other.
pub either_counts : (g : Grid) (m₂ m₃ : ℕ) (s c : Mesh) (l₂ l₃ : Lists) → Accepted (set_on g 2 m₂) s c l₂ → Accepted (set_on g 3 m₃) s c l₃
    → (n : ℕ) → node_count s + node_count c ≤ n → n < node_count s + node_count c + (overlay_of (set_on g 2 m₂) s c l₂).added
    → Entered (overlay_of (set_on g 2 m₂) s c l₂) n ⊎ Entered (overlay_of (set_on g 3 m₃) s c l₃) n
either_counts g m₂ m₃ s c l₂ l₃ h₂ h₃ n low high =
    let (i, j, x, y, corner) = corner_of (set_on g 2 m₂) s c l₂ h₂ n low (omega (arith, high, all_are (set_on g 2 m₂) s c l₂ h₂)) in
    go i j x y corner (lies_inside (sc (set_on g 2 m₂) s c) the_subject (piece_at (sc (set_on g 2 m₂) s c) the_subject i j)) refl
  where
    go : (i j : ℕ) → i < length s.ends → j < length (pieces_of (sc (set_on g 2 m₂) s c) the_subject i) → Memᴰ n (get_or (pieces_of (sc (set_on g 2 m₂) s c) the_subject i) j [])
        → (t : Bool) → lies_inside (sc (set_on g 2 m₂) s c) the_subject (piece_at (sc (set_on g 2 m₂) s c) the_subject i j) ≡ t
        → Entered (overlay_of (set_on g 2 m₂) s c l₂) n ⊎ Entered (overlay_of (set_on g 3 m₃) s c l₃) n
    go i j x y corner true e =
        inl (subst (λ (z : Result). Entered z n) (sym (answer_is (set_on g 2 m₂) s c l₂ h₂)) (in_entered (set_on g 2 m₂) s c l₂ n (kept_entry (set_on g 2 m₂) s c i j x y e n corner)))
    go i j x y corner false e =
        inr (subst (λ (z : Result). Entered z n) (sym (answer_is (set_on g 3 m₃) s c l₃ h₃)) (in_entered (set_on g 3 m₃) s c l₃ n (kept_entry (set_on g 3 m₃) s c i j x y (ap not e) n corner)))
