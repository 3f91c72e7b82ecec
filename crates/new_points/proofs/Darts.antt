-- A dart of a cell's own edges leads to or from each of the edges' sorted nodes. Assumes nothing.
use mathlib.Core.Path.{◌≡◌, refl, sym, ◌∙◌}
use mathlib.Core.Logic.{◌⊎◌, inl, inr}
use mathlib.Core.Bool.{Bool, true, false}
use mathlib.Core.List.Memᴰ
use mathlib.Core.List.{
  List,
  [],
  ◌∷◌,
  map,
  Memᴰ,
}
use Prim.Native.Nat.{ℕ}
use lib.Dec.{eqb}
use lib.ListN.{get_or}
use Rattle.lists.proofs.Members.{in_joined}
use Rattle.cutting.specs.Edges.{Edge, reversed_if, hops, ring}
use Rattle.cutting.specs.Cell.{windows, or_ends, darts_along, own_darts, outline_darts}
use Rattle.rules.specs.Meetings.{Scene}
use Rattle.rules.specs.Nodes.{sorted_nodes}
use Rattle.rules.specs.Cell.{laid, darts_of}

-- the edge leads from n or to n
abbrev pub Touches : ℕ → Edge → Type 0
Touches n e = (e.0 ≡ n) ⊎ (e.1 ≡ n)

-- some edge of a list does
abbrev pub Touched : ℕ → List Edge → Type 0
Touched n es = (e : Edge) × Memᴰ e es × Touches n e

hops_reach : (n x : ℕ) (ys : List ℕ) → Memᴰ n ys → Touched n (hops x ys)
unfolding hops
hops_reach n x [] m = absurd (Memᴰ.not-nil m)
hops_reach n x (y ∷ ys) m = go (λ i. hops_reach n y ys i) (Memᴰ.cases_cons m)
  where
    go : (Memᴰ n ys → Touched n (hops y ys)) → (n ≡ y) ⊎ Memᴰ n ys → Touched n ((x, y) ∷ hops y ys)
    go ih (inl e) = ((x, y), Memᴰ.head refl, inr (sym e))
    go ih (inr i) = let r = ih i in (r.0, Memᴰ.tail r.1, r.2)

hops_leave : (x k : ℕ) (ys : List ℕ) → Memᴰ k ys → Touched x (hops x ys)
unfolding hops
hops_leave x k [] m = absurd (Memᴰ.not-nil m)
hops_leave x k (y ∷ ys) m = ((x, y), Memᴰ.head refl, inl refl)

-- where a list has the node n and another, one of its windows has n
windows_touch : (n k : ℕ) (ns : List ℕ) → (n ≡ k → ⊥) → Memᴰ n ns → Memᴰ k ns → Touched n (windows ns)
windows_touch n k [] d m i = absurd (Memᴰ.not-nil m)
windows_touch n k (x ∷ xs) d m i = go (Memᴰ.cases_cons m) (Memᴰ.cases_cons i)
  where
    go : (n ≡ x) ⊎ Memᴰ n xs → (k ≡ x) ⊎ Memᴰ k xs → Touched n (hops x xs)
    go (inr a) b = hops_reach n x xs a
    go (inl a) (inl b) = absurd (d (a ∙ sym b))
    go (inl a) (inr b) = let r = hops_leave x k xs b in (r.0, r.1, same r.0 r.2)
      where
        same : (e : Edge) → Touches x e → Touches n e
        same e (inl q) = inl (q ∙ sym a)
        same e (inr q) = inr (q ∙ sym a)

-- the other way round too
darts_touch : (second n : ℕ) (ns : List ℕ) → Touched n (windows ns) → Touched n (darts_along second ns)
unfolding darts_along
darts_touch second n ns t =
    let b = eqb second (get_or ns 0 0) in
    (reversed_if b t.0, Memᴰ.map (reversed_if b) t.1, turned b t.0 t.2)
  where
    turned : (b : Bool) (e : Edge) → Touches n e → Touches n (reversed_if b e)
    turned false e h = h
    turned true e (inl q) = inr q
    turned true e (inr q) = inl q

own_touch : (sc : Scene) (e : Edge) (n k : ℕ) → (n ≡ k → ⊥) → Memᴰ n (sorted_nodes sc e) → Memᴰ k (sorted_nodes sc e) → Touched n (own_darts (laid sc e))
unfolding own_darts
own_touch sc e n k d m i = go (sorted_nodes sc e) m i
  where
    go : (ns : List ℕ) → Memᴰ n ns → Memᴰ k ns → Touched n (darts_along e.1 (or_ends e ns))
    go [] a b = absurd (Memᴰ.not-nil a)
    go (x ∷ ns) a b = darts_touch e.1 n (x ∷ ns) (windows_touch n k (x ∷ ns) d a b)

-- A dart of a cell that is cut leads to or from a sorted node of one of its edges, where that edge has another.
pub outline_touches : (sc : Scene) (cell : List ℕ) (e : Edge) (n k : ℕ) → Memᴰ e (ring cell) → (n ≡ k → ⊥)
    → Memᴰ n (sorted_nodes sc e) → Memᴰ k (sorted_nodes sc e) → Touched n (darts_of sc cell)
unfolding darts_of outline_darts
outline_touches sc cell e n k h d m i =
    let t = own_touch sc e n k d m i in
    (t.0, in_joined own_darts (laid sc e) t.0 (map (laid sc) (ring cell)) (Memᴰ.map (laid sc) h) t.1, t.2)
