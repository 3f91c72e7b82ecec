-- Pieces as runs of one flat list, and a list with an entry more. Assumes nothing.
use mathlib.Core.Path.{◌≡◌, refl, sym, ap, ◌∙◌}
use mathlib.Core.List.{List, [], ◌∷◌, ◌++◌, append_assoc, append-nil}
use Prim.Native.Nat.{ℕ, suc, ◌+◌, ◌<◌}
use native.Mathlib.Omega.{arith}
use native.Mathlib.Numerals.{add-one}
use lib.ListN.{length, set, take, drop, length-append}
use lib.Seq.{take-suc-set, drop-set-lt, drop-drop}
use Rattle.cutting.specs.Outcome.{flat, stops}

pub take_push : (xs : List ℕ) (m v : ℕ) → m < length xs → take (m + 1) (set xs m v) ≡ take m xs ++ v ∷ []
take_push xs m v h = rw add-one (take-suc-set xs m v h)

-- what lies past the entries stays
pub drop_push : (xs ys : List ℕ) (m v : ℕ) → drop m xs ≡ drop m ys → drop (m + 1) (set xs m v) ≡ drop (m + 1) ys
drop_push xs ys m v e = drop-set-lt (m + 1) xs m v (omega arith) ∙ sym (drop-drop 1 m xs) ∙ ap (drop 1) e ∙ drop-drop 1 m ys

pub flat_snoc : (ps : List (List ℕ)) (p : List ℕ) → flat (ps ++ p ∷ []) ≡ flat ps ++ p
unfolding flat
flat_snoc [] p = append-nil p
flat_snoc (q ∷ ps) p = ap (λ (l : List ℕ). q ++ l) (flat_snoc ps p) ∙ sym (append_assoc q (flat ps) p)

pub stops_snoc : (k : ℕ) (ps : List (List ℕ)) (p : List ℕ) → stops k (ps ++ p ∷ []) ≡ stops k ps ++ (k + length (flat ps ++ p)) ∷ []
unfolding stops flat
stops_snoc k [] p = refl
stops_snoc k (q ∷ ps) p =
    let n : k + length q + length (flat ps ++ p) ≡ k + length ((q ++ flat ps) ++ p) = simp (length-append) (omega arith) in
    ap (λ (l : List ℕ). (k + length q) ∷ l) (stops_snoc (k + length q) ps p ∙ ap (λ (x : ℕ). stops (k + length q) ps ++ x ∷ []) n)

pub stops_length : (k : ℕ) (ps : List (List ℕ)) → length (stops k ps) ≡ length ps
unfolding stops
stops_length k [] = refl
stops_length k (p ∷ ps) = ap suc (stops_length (k + length p) ps)
