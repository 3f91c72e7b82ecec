-- Edges along a list of nodes, and edges as a flat list of pairs. Assumes nothing.
use mathlib.Core.Path.{◌≡◌, refl, sym, ap, ap₂, ◌∙◌}
use mathlib.Core.Bool.{Bool, true, false, cond}
use mathlib.Core.List.{List, [], ◌∷◌, ◌++◌, append_assoc}
use Prim.Native.Nat.{ℕ, zero, suc, ◌+◌, ◌*◌, ◌≤◌, ◌<◌, ◌/◌}
use native.Mathlib.Omega.{arith}
use native.Mathlib.Numerals.{add-one}
use lib.ListN.{length, get_or, set, drop, length-append}
use lib.Seq.{drop-cons}
use Rattle.lists.specs.Gather.{joined}
use Rattle.lists.specs.Regions.{put}
use Rattle.lists.proofs.Gather.{joined_snoc, joined_append}
use Rattle.lists.proofs.Regions.{put_store}
use Rattle.cutting.specs.Edges.{Edge, reversed_if, hops, edge_at}
use Rattle.cutting.specs.Cell.{windows}
use Rattle.cutting.specs.Lent.{flat_edges, pairs}

-- ---- along a list of nodes

pub windows_next : (ns : List ℕ) (i : ℕ) → i + 1 < length ns → windows (drop i ns) ≡ (get_or ns i 0, get_or ns (i + 1) 0) ∷ windows (drop (i + 1) ns)
unfolding hops
windows_next ns i h =
    let next : drop (i + 1) ns ≡ get_or ns (i + 1) 0 ∷ drop (suc (i + 1)) ns = drop-cons ns (i + 1) 0 h in
    let here : drop i ns ≡ get_or ns i 0 ∷ get_or ns (i + 1) 0 ∷ drop (suc (i + 1)) ns = drop-cons ns i 0 (omega arith) ∙ ap (λ (j : ℕ). get_or ns i 0 ∷ drop j ns)
    (sym (add-one i)) ∙ ap (λ (l : List ℕ). get_or ns i 0 ∷ l) next in
    ap windows here ∙ ap (λ (es : List Edge). (get_or ns i 0, get_or ns (i + 1) 0) ∷ es) (sym (ap windows next))

pub windows_end : (ns : List ℕ) (i : ℕ) → length ns ≤ i + 1 → windows (drop i ns) ≡ []
unfolding hops
windows_end [] zero h = refl
windows_end [] (suc i) h = refl
windows_end (x ∷ []) zero h = refl
windows_end (x ∷ y ∷ ns) zero h = absurd (omega arith)
windows_end (x ∷ ns) (suc i) h = windows_end ns i (omega arith)

pub windows_length : (x : ℕ) (ns : List ℕ) → length (windows (x ∷ ns)) ≡ length ns
unfolding hops
windows_length x [] = refl
windows_length x (y ∷ ns) = ap suc (windows_length y ns)

-- a window, turned by its two ends
pub turned_is : (inv : Bool) (p q : ℕ) → ◌≡◌ {A = Edge} (cond inv q p, cond inv p q) (reversed_if inv (p, q))
turned_is true p q = refl
turned_is false p q = refl

-- ---- a flat list of edges

pub ends_length : (es : List Edge) → length (flat_edges es) ≡ 2 * length es
unfolding flat_edges joined
ends_length [] = refl
ends_length (e ∷ es) = omega (arith, ends_length es)

pub ends_append : (es fs : List Edge) → flat_edges (es ++ fs) ≡ flat_edges es ++ flat_edges fs
unfolding flat_edges
ends_append es fs = joined_append (λ e. e.0 ∷ e.1 ∷ []) es fs

pub pairs_ends : (es : List Edge) → pairs (flat_edges es) ≡ es
unfolding flat_edges pairs joined
pairs_ends [] = refl
pairs_ends (e ∷ es) = ap (λ (fs : List Edge). e ∷ fs) (pairs_ends es)

pub pairs_length : (xs : List ℕ) → length (pairs xs) ≡ length xs / 2
unfolding pairs
pairs_length [] = refl
pairs_length (a ∷ []) = refl
pairs_length (a ∷ b ∷ xs) = omega (arith, pairs_length xs)

pub pairs_at : (xs : List ℕ) (i : ℕ) → i < length xs / 2 → edge_at (pairs xs) i ≡ (get_or xs (2 * i) 0, get_or xs (2 * i + 1) 0)
unfolding pairs
pairs_at [] i h = absurd (omega arith)
pairs_at (a ∷ []) i h = absurd (omega arith)
pairs_at (a ∷ b ∷ xs) zero h = refl
pairs_at (a ∷ b ∷ xs) (suc i) h =
    let two : 2 * suc i ≡ suc (suc (2 * i)) = omega arith in
    let three : 2 * suc i + 1 ≡ suc (suc (2 * i + 1)) = omega arith in
    pairs_at xs i (omega arith) ∙ sym (λ t. (get_or (a ∷ b ∷ xs) (two t) 0, get_or (a ∷ b ∷ xs) (three t) 0))

pub pairs_short : (xs : List ℕ) → length xs ≤ 1 → pairs xs ≡ []
unfolding pairs
pairs_short [] h = refl
pairs_short (a ∷ []) h = refl
pairs_short (a ∷ b ∷ xs) h = absurd (omega arith)

pub pairs_drop : (xs : List ℕ) (i : ℕ) → i + 1 < length xs → pairs (drop i xs) ≡ (get_or xs i 0, get_or xs (i + 1) 0) ∷ pairs (drop (i + 2) xs)
unfolding pairs
pairs_drop xs i h =
    let two : i + 2 ≡ suc (suc i) = omega arith in
    ap pairs (drop-cons xs i 0 (omega arith) ∙ ap (λ (l : List ℕ). get_or xs i 0 ∷ l) (drop-cons xs (suc i) 0 (omega arith))) ∙ ap₂
    (λ (j k : ℕ). (get_or xs i 0, get_or xs j 0) ∷ pairs (drop k xs)) (sym (add-one i)) (sym two)

-- two entries behind the edges that an outline has
pub ends_more : (w v : List ℕ) (n k a b : ℕ) (done : List Edge) (e : Edge) → n ≤ length w → k ≡ n + 2 * length done → k + 2 ≤ length w
    → v ≡ put w n (flat_edges done) → a ≡ e.0 → b ≡ e.1 → set (set v k a) (k + 1) b ≡ put w n (flat_edges (done ++ e ∷ []))
unfolding flat_edges
ends_more w v n k a b done e h l m q ea eb =
    let len = ends_length done in
    let at : k ≡ n + length (flat_edges done) = omega arith in
    let at' : k + 1 ≡ n + length (flat_edges done ++ a ∷ []) = omega (arith, length-append (flat_edges done) (a ∷ [])) in
    (λ t. set (set (q t) (at t) a) (at' t) b) ∙ ap (λ (u : List ℕ). set u (n + length (flat_edges done ++ a ∷ [])) b) (put_store w n h (flat_edges done) a 0 (omega arith))
    ∙ put_store w n h (flat_edges done ++ a ∷ []) b 0 (omega arith)
    ∙ ap (put w n) (append_assoc (flat_edges done) (a ∷ []) (b ∷ []) ∙ ap₂ (λ (x y : ℕ). flat_edges done ++ x ∷ y ∷ []) ea eb ∙ sym (joined_snoc (λ e. e.0 ∷ e.1 ∷ []) done e))
