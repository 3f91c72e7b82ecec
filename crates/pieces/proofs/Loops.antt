-- The turns of `place_run`, over plain values. Assumes nothing.
use mathlib.Core.Path.{◌≡◌, refl, sym, ap, ◌∙◌}
use mathlib.Core.Bool.{Bool, true, false}
use mathlib.Core.List.{List, [], ◌∷◌, ◌++◌, append-nil, append_assoc}
use Prim.Native.Nat.{ℕ, ◌+◌, ◌^◌, ◌<◌}
use native.Mathlib.Omega.{arith}
use lib.ListN.{length, length-append}
use Rattle.std.specs.Prelude.{Result, Ok, Err, is_ok}
use Rattle.lists.specs.Gather.{passing}
use Rattle.lists.proofs.Gather.{passing_append}
use Rattle.cutting.specs.Outcome.{flat}
use Rattle.entry.specs.Mesh.{Rising}
use Rattle.refusals.specs.declared.Refusal.{Refusal}
use Rattle.refusals.specs.Numbers.{number}
use Rattle.pieces.specs.declared.Listed.{Listed}
use Rattle.pieces.specs.declared.piece_lists.PieceLists.{PieceLists}
use Rattle.pieces.specs.Pieces.{runs_of, Yield, tagged, Placing, left, left_by, refused_in, placed_in, BeforeZeroing, SameLists}
use Rattle.pieces.proofs.Room.{flat_append}
use Rattle.pieces.proofs.Runs.{flat_passing, runs_short}
use Rattle.pieces.proofs.Piece.{Space, kept_yes, kept_no}
use Rattle.pieces.proofs.Placing.{steady_tagged, tagged_both, all_placed, fit, placed_nothing, refused_first, placed_behind_lem, zeroed}

pub same_none : (l : PieceLists) → SameLists l l
same_none l =
    record { corners = record { name = refl; long = refl }; ends = record { name = refl; long = refl }; tags = record { name = refl; long = refl } }

pub same_both : (l m n : PieceLists) → SameLists n m → SameLists m l → SameLists n l
same_both l m n s t =
    record {
      corners = record { name = s.corners.name ∙ t.corners.name; long = s.corners.long ∙ t.corners.long };
      ends = record { name = s.ends.name ∙ t.ends.name; long = s.ends.long ∙ t.ends.long };
      tags = record { name = s.tags.name ∙ t.tags.name; long = s.tags.long ∙ t.tags.long };
    }

-- what its fields say of a list of pieces
pub space_of : (l : PieceLists) (n : ℕ) → l.placed.entries + n < 2 ^ 32 → Space l.placed n l
space_of l n short = record { counted = l.counted; tags = l.tagged; corners = l.within; short = short }

-- of the pieces ps those in `rest` are left, and of the others those that are kept are placed
pub record Going (f : List ℕ → Bool) (ps : List (List ℕ)) (p : Listed) (t : ℕ) (l l' : PieceLists) (q : Listed) (rest : List (List ℕ)) : Type 0 where
  pub done : List (List ℕ)
  pub all : ps ≡ done ++ rest
  pub same : SameLists l' l
  pub placed : left_by (Ok q) l' ≡ placed_in p (tagged t (passing f done)) l

module _ (runs ends : List ℕ) (up : Rising ends (length runs)) {f : List ℕ → Bool} {p : Listed} {t : ℕ} {l : PieceLists} (space : Space p (length runs) l) where
  pub begin : (rest : List (List ℕ)) → rest ≡ runs_of runs ends → Going f (runs_of runs ends) p t l l p rest
  unfolding passing
  begin rest e = record { done = []; all = sym e; same = same_none l; placed = sym (placed_nothing p l.corners.now l.ends.now l.tags.now) }

  module _ {l' : PieceLists} {q : Listed} {rest : List (List ℕ)} (inv : Going f (runs_of runs ends) p t l l' q rest) where
    abbrev kept : List (List ℕ)
    kept = passing f inv.done

    pub end : rest ≡ [] → left_by (Ok q) l' ≡ placed_in p (tagged t (passing f (runs_of runs ends))) l
    end none =
        inv.placed ∙ ap (λ (ks : List (List ℕ)). placed_in p (tagged t (passing f ks)) l)
        (sym (inv.all ∙ ap (λ (ks : List (List ℕ)). inv.done ++ ks) none ∙ append-nil inv.done))

    -- piece x is the next
    module _ {x : List ℕ} {ys : List (List ℕ)} (here : rest ≡ x ∷ ys) where
      all_with : runs_of runs ends ≡ (inv.done ++ x ∷ []) ++ ys
      all_with = inv.all ∙ ap (λ (ks : List (List ℕ)). inv.done ++ ks) here ∙ sym (append_assoc inv.done (x ∷ []) ys)

      kept_with : (ks : List (List ℕ)) → passing f (x ∷ []) ≡ ks → passing f (inv.done ++ x ∷ []) ≡ kept ++ ks
      kept_with ks e = passing_append f inv.done (x ∷ []) ∙ ap (λ (m : List (List ℕ)). kept ++ m) e

      -- there is space for it
      pub next_space : Space q (length x) l'
      unfolding flat
      next_space =
          let a = all_placed p (tagged t kept) l.corners.now l.ends.now l.tags.now q l'.corners.now l'.ends.now l'.tags.now inv.placed in
          let k = fit p (tagged t kept) l.corners.now l.ends.now l.tags.now q l'.corners.now l'.ends.now l'.tags.now inv.placed
          (steady_tagged t kept) space.counted space.corners in
          let long : length (flat (runs_of runs ends)) ≡ length (flat inv.done) + (length x + length (flat ys)) =
          omega (
            arith,
            ap (λ (ks : List (List ℕ)). length (flat ks)) (inv.all ∙ ap (λ (ks : List (List ℕ)). inv.done ++ ks) here),
            ap length (flat_append inv.done (x ∷ ys)),
            length-append (flat inv.done) (flat (x ∷ ys)),
            length-append x (flat ys),
          ) in
          record {
            counted = omega (arith, k.0, inv.same.ends.long);
            tags = omega (arith, space.tags, inv.same.ends.long, inv.same.tags.long);
            corners = omega (arith, k.1, inv.same.corners.long);
            short = omega (arith, space.short, runs_short runs ends up, long, a.entered, flat_passing f inv.done);
          }

      -- it isn't kept
      pub skipped : f x ≡ false → Going f (runs_of runs ends) p t l l' q ys
      skipped n =
          record {
            done = inv.done ++ x ∷ [];
            all = all_with;
            same = inv.same;
            placed = inv.placed ∙ ap (λ (ks : List (List ℕ)). placed_in p (tagged t ks) l) (sym (kept_with [] (kept_no f x n) ∙ append-nil kept));
          }

      -- it is kept
      module _ (y : f x ≡ true) where
        step : placed_in p (tagged t (passing f (inv.done ++ x ∷ []))) l ≡ placed_in q (tagged t (x ∷ [])) l'
        step =
            ap (λ (ks : List (List ℕ)). placed_in p (tagged t ks) l) (kept_with (x ∷ []) (kept_yes f x y))
            ∙ ap (λ (z : Yield). placed_in p z l) (tagged_both t kept (x ∷ []))
            ∙ placed_behind_lem p (tagged t kept) (tagged t (x ∷ [])) l.corners.now l.ends.now l.tags.now
            (steady_tagged t kept) space.counted space.tags space.corners q l'.corners.now l'.ends.now l'.tags.now inv.placed

        pub laid : (r : Listed) (l'' : PieceLists) → left_by (Ok r) l'' ≡ placed_in q (tagged t (x ∷ [])) l' → SameLists l'' l' → Going f (runs_of runs ends) p t l l'' r ys
        laid r l'' got s = record { done = inv.done ++ x ∷ []; all = all_with; same = same_both l l' l'' s inv.same; placed = got ∙ sym step }

        pub unlaid : (e : Refusal) → Err (number e) ≡ (placed_in q (tagged t (x ∷ [])) l').answer → Err (number e) ≡ (placed_in p (tagged t (passing f (runs_of runs ends))) l).answer
        unlaid e got =
            let ks : List (List ℕ) = passing f (inv.done ++ x ∷ []) in
            let met : Err (number e) ≡ (placed_in p (tagged t ks) l).answer = got ∙ sym (ap (λ (g : Placing). g.answer) step) in
            met ∙ sym (ap (λ (g : Placing). g.answer)
            (ap (λ (ms : List (List ℕ)). placed_in p (tagged t ms) l) (ap (passing f) all_with ∙ passing_append f (inv.done ++ x ∷ []) ys)
            ∙ ap (λ (z : Yield). placed_in p z l) (tagged_both t ks (passing f ys))
            ∙ refused_first p (tagged t ks) (tagged t (passing f ys)) l.corners.now l.ends.now l.tags.now e met))

-- ---- behind the last piece, or the lists cleared where one had no place

module _ (p : Listed) (y : Yield) (l l' : PieceLists) where
  pub left_ok : (r : Result (Unit {0}) Refusal) → BeforeZeroing (placed_in p y l) r l' → true ≡ is_ok r → left r l' ≡ placed_in p y l
  left_ok (Ok x) met e = met
  left_ok (Err k) met e = cc

  pub left_cleared : (r : Result (Unit {0}) Refusal) → BeforeZeroing (placed_in p y l) r l' → false ≡ is_ok r → SameLists l' l
      → (l'' : PieceLists) → ((code : ℕ) → left_by (Err code) l'' ≡ refused_in code l') → left r l'' ≡ placed_in p y l
  left_cleared (Ok x) met e same l'' cleared = cc
  left_cleared (Err k) met e same l'' cleared =
      cleared (number k) ∙ zeroed p y _ _ _ k met _ _ _ same.corners.long same.ends.long same.tags.long
