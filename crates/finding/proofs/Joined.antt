-- Writing into a list that is cut in two, and zeros cut in two. Assumes nothing.
use mathlib.Core.Path.{◌≡◌, sym, ap, ap₂, ◌∙◌}
use mathlib.Core.List.{List, ◌++◌, append_assoc}
use Prim.Native.Nat.{ℕ, ◌+◌, ◌≤◌}
use native.Mathlib.Omega.{arith}
use lib.ListN.{length, take, drop, length-drop, length-replicate}
use lib.Seq.{drop-append-le, take-append-le, take_at, drop_at, drop-drop}
use Rattle.std.proofs.lemmas.List.{replicate-append-replicate}
use Rattle.lists.specs.Regions.{front, put, zeros}

-- a region in the first of two lists, and one at the front of the second
pub put_left : (u v : List ℕ) (b : ℕ) (xs : List ℕ) → b + length xs ≤ length u → put (u ++ v) b xs ≡ put u b xs ++ v
unfolding put front
put_left u v b xs h =
    let rest : drop (length xs) (drop b (u ++ v)) ≡ drop (length xs) (drop b u) ++ v =
    ap (drop (length xs)) (drop-append-le b u v (omega arith)) ∙ drop-append-le (length xs) (drop b u) v (omega (arith, length-drop b u)) in
    ap₂ (λ (l m : List ℕ). l ++ (xs ++ m)) (take-append-le b u v (omega arith)) rest
    ∙ ap (λ (l : List ℕ). take b u ++ l) (sym (append_assoc xs (drop (length xs) (drop b u)) v)) ∙ sym (append_assoc (take b u) (xs ++ drop (length xs) (drop b u)) v)

pub put_right : (u v : List ℕ) (b : ℕ) (xs : List ℕ) → length u ≡ b → put (u ++ v) b xs ≡ u ++ front v xs
unfolding put
put_right u v b xs h = ap₂ (λ (l m : List ℕ). l ++ front m xs) (take_at u v b h) (drop_at u v b h)

-- zeros at the front of a list, written to two parts of it
pub zeros_apart : (v : List ℕ) (h n : ℕ) → zeros h ++ (zeros n ++ drop n (drop h v)) ≡ front v (zeros (h + n))
unfolding front
zeros_apart v h n =
    sym (append_assoc (zeros h) (zeros n) (drop n (drop h v)))
    ∙ ap₂ (λ (l m : List ℕ). l ++ m) (replicate-append-replicate h n 0) (drop-drop n h v ∙ ap (λ (k : ℕ). drop k v) (sym (length-replicate {A = ℕ} (h + n) 0)))
