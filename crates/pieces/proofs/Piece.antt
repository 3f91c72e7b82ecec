-- One piece in the three lists, or none. Assumes nothing.
use mathlib.Core.Path.{◌≡◌, sym, ap, ap₂, ◌∙◌}
use mathlib.Core.Bool.{Bool, true, false}
use mathlib.Core.List.{List, [], ◌∷◌, append-nil}
use Prim.Native.Nat.{ℕ, ◌+◌, ◌-◌, ◌≤◌, ◌<◌, ◌^◌}
use native.Mathlib.Nat.{le_of_lt, add-zero}
use native.Mathlib.Omega.{arith}
use lib.Dec.{leb}
use lib.ListN.{length, set}
use borrow.Author.Tests.{leb-true, leb-false}
use Rattle.std.specs.Prelude.{Ok, Err}
use Rattle.lists.specs.Gather.{passing}
use Rattle.lists.specs.Regions.{put, copied}
use Rattle.lists.proofs.Regions.{put_none, put_store, copied_fits}
use Rattle.cutting.specs.Outcome.{flat, stops}
use Rattle.rules.specs.Refusals.{piece, first_refusal}
use Rattle.pieces.specs.declared.Listed.{Listed}
use Rattle.pieces.specs.declared.piece_lists.PieceLists.{PieceLists}
use Rattle.pieces.specs.Pieces.{tagged, Placing, placing, placed_in}
use Rattle.pieces.proofs.Room.{one_fits, no_place, too_long}
use Rattle.pieces.proofs.Placing.{placed_all, placed_not}

-- What p counts stands in the lists; a piece has a place in both of ends and tags; n more corners can be counted.
pub record Space (p : Listed) (n : ℕ) (l : PieceLists) : Type 0 where
  pub counted : p.count ≤ length l.ends.now
  pub tags : length l.ends.now ≤ length l.tags.now
  pub corners : p.entries ≤ length l.corners.now
  pub short : p.entries + n < 2 ^ 32

-- one element
set_put : (w : List ℕ) (b v : ℕ) → b < length w → set w b v ≡ put w b (v ∷ [])
set_put w b v h = ap₂ (λ (u : List ℕ) (c : ℕ). set u c v) (sym (put_none w b)) (sym (add-zero b)) ∙ put_store w b (le_of_lt h) [] v 0 (rw add-zero h)

module _ (p : Listed) (t : ℕ) (q : List ℕ) (l : PieceLists) (space : Space p (length q) l) where
  refused : 12 ≡ first_refusal 0 0 (length l.ends.now - p.count) (length l.corners.now - p.entries) (piece (length q) ∷ [])
      → Err 12 ≡ (placed_in p (tagged t (q ∷ [])) l).answer
  refused m =
      ap Err m ∙ sym (ap (λ (g : Placing). g.answer) (placed_not p (tagged t (q ∷ [])) l.corners.now l.ends.now l.tags.now (λ z. absurd (omega (arith, m, z)))))

  pub no_end : length l.ends.now < p.count + 1 → Err 12 ≡ (placed_in p (tagged t (q ∷ [])) l).answer
  no_end h =
      let full : length l.ends.now - p.count ≡ 0 = omega (arith, h) in
      refused (rw full (no_place 0 0 (length l.corners.now - p.entries) (length q)))

  pub no_corners : (b : Bool) → b ≡ leb (p.entries + length q) (length l.corners.now) → b ≡ false → Err 12 ≡ (placed_in p (tagged t (q ∷ [])) l).answer
  no_corners b e f =
      refused (too_long 0 0 (length l.ends.now - p.count) (length l.corners.now - p.entries) (length q)
      (omega (arith, space.corners, leb-false (p.entries + length q) (length l.corners.now) (sym e ∙ f))))

  pub has_place : p.count + 1 ≤ length l.ends.now → (b : Bool) → b ≡ leb (p.entries + length q) (length l.corners.now) → b ≡ true
      → (on : List ℕ) → on ≡ copied l.corners.now p.entries q
      → placing (Ok (record { count = p.count + 1; entries = p.entries + length q })) on (set l.ends.now p.count (p.entries + length q)) (set l.tags.now p.count t)
      ≡ placed_in p (tagged t (q ∷ [])) l
  unfolding flat stops
  has_place h b e y on held =
      let within : p.entries + length q ≤ length l.corners.now = leb-true (p.entries + length q) (length l.corners.now) (sym e ∙ y) in
      let corners : on ≡ put l.corners.now p.entries q = held ∙ copied_fits l.corners.now p.entries q within in
      let ends = set_put l.ends.now p.count (p.entries + length q) (omega (arith, h)) in
      let tags = set_put l.tags.now p.count t (omega (arith, h, space.tags)) in
      (λ i. placing (Ok (record { count = p.count + 1; entries = p.entries + length q })) (corners i) (ends i) (tags i))
      ∙ sym (placed_all p (tagged t (q ∷ [])) l.corners.now l.ends.now l.tags.now
      (sym (one_fits 0 0 (length l.ends.now - p.count) (length l.corners.now - p.entries) (length q) (omega (arith, h)) (omega (arith, within))))
      ∙ ap (λ (c : List ℕ). placing (Ok (record { count = p.count + 1; entries = p.entries + length c })) (put l.corners.now p.entries c)
      (put l.ends.now p.count ((p.entries + length q) ∷ [])) (put l.tags.now p.count (t ∷ []))) (append-nil q))

-- ---- kept or not

pub kept_yes : (f : List ℕ → Bool) (q : List ℕ) → f q ≡ true → passing f (q ∷ []) ≡ q ∷ []
unfolding passing
kept_yes f q h = rw (h, passing)

pub kept_no : (f : List ℕ → Bool) (q : List ℕ) → f q ≡ false → passing f (q ∷ []) ≡ []
unfolding passing
kept_no f q h = rw (h, passing)
