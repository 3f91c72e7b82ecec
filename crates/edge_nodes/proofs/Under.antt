-- The nodes that meetings collect under a key, put in order one after the other. Assumes nothing.
use mathlib.Core.Path.{◌≡◌, sym, ap, ap₂, ◌∙◌}
use mathlib.Core.Bool.{Bool, true, false, cond, ◌&&◌}
use mathlib.Core.List.{List, [], ◌∷◌, ◌++◌}
use Prim.Native.Nat.{ℕ, zero, suc, ◌+◌, ◌*◌, ◌-◌, ◌/◌, ◌≤◌, ◌<◌, min, max}
use native.Mathlib.Omega.{arith}
use lib.Dec.{eqb}
use lib.Ieee.{Float}
use lib.ListN.{length, get_or, take, drop, length-append}
use lib.Seq.{drop-cons}
use Rattle.std.specs.List.{concat}
use Rattle.lists.specs.Gather.{gathered, passing}
use Rattle.lists.specs.Sort.{sort_onto}
use Rattle.lists.proofs.Gather.{gathered_more}
use Rattle.lists.proofs.Sort.{sort_onto_append, length_sort_onto}
use Rattle.grid.specs.Grid.{Grid}
use Rattle.cutting.specs.Edges.{Edge, edge_at, key, same_key}
use Rattle.keys.specs.declared.SortedKey.{SortedKey}
use Rattle.edge_nodes.specs.declared.nodes.Placed.{Placed}
use Rattle.edge_nodes.specs.Lent.{all_placed, stands_before, met_nodes, under_at, under}
use Rattle.edge_nodes.specs.Chained.{edge_of}
use Rattle.edge_nodes.proofs.Placing.{placed_append, placed_few}

-- ---- the nodes of a meeting

two_of : (c r a b : ℕ) (rest : List ℕ) → r ≡ min c 2 → take r (a ∷ b ∷ rest) ≡ take c (a ∷ b ∷ [])
two_of zero r a b rest e = let z : r ≡ 0 = omega (arith, e) in ap (λ (k : ℕ). take k (a ∷ b ∷ rest)) z
two_of (suc zero) r a b rest e = let z : r ≡ 1 = omega (arith, e) in ap (λ (k : ℕ). take k (a ∷ b ∷ rest)) z
two_of (suc (suc zero)) r a b rest e = let z : r ≡ 2 = omega (arith, e) in ap (λ (k : ℕ). take k (a ∷ b ∷ rest)) z
two_of (suc (suc (suc c))) r a b rest e = let z : r ≡ 2 = omega (arith, e) in ap (λ (k : ℕ). take k (a ∷ b ∷ rest)) z

-- read from the list
pub nodes_read : (met : List ℕ) (q r : ℕ) → q < length met / 5 → r ≡ min (get_or met (5 * q + 2) 0) 2
    → take (5 * q + 3 + r - (5 * q + 3)) (drop (5 * q + 3) met) ≡ met_nodes met q
unfolding met_nodes
nodes_read met q r h e =
    let three : ℕ = 5 * q + 3 in
    let one : suc three ≡ 5 * q + 4 = omega arith in
    let n : three + r - three ≡ r = omega arith in
    let rest : List ℕ = drop (suc (5 * q + 4)) met in
    let next : drop (suc three) met ≡ get_or met (5 * q + 4) 0 ∷ rest = ap (λ (k : ℕ). drop k met) one ∙ drop-cons met (5 * q + 4) 0 (omega arith) in
    let all : drop three met ≡ get_or met three 0 ∷ get_or met (5 * q + 4) 0 ∷ rest =
    drop-cons met three 0 (omega arith) ∙ ap (λ (l : List ℕ). get_or met three 0 ∷ l) next in
    ap (λ (k : ℕ). take k (drop three met)) n ∙ ap (take r) all ∙ two_of (get_or met (5 * q + 2) 0) r (get_or met three 0) (get_or met (5 * q + 4) 0) rest e

-- ---- under the key, or not

-- a key is the key of the edge between its nodes
pub sorted_key : (k : SortedKey) → key (edge_of k) ≡ edge_of k
sorted_key k =
    let a : min k.first k.second ≡ k.first = omega (arith, k.sorted) in
    let b : max k.first k.second ≡ k.second = omega (arith, k.sorted) in
    ap₂ (λ (x y : ℕ). (x, y)) a b

-- two keys compared
pub keys_compared : (g : Edge) (f k : SortedKey) (r : Bool) → edge_of f ≡ key g → r ≡ (eqb f.first k.first && eqb f.second k.second) → same_key g (edge_of k) ≡ r
keys_compared g f k r p e = ap₂ (λ (x y : Edge). eqb x.0 y.0 && eqb x.1 y.1) (sym p) (sorted_key k) ∙ sym e

module _ (es : List Edge) (met : List ℕ) (which : ℕ) (e : Edge) (q : ℕ) where
  pub under_it : same_key (edge_at es (get_or met (5 * q + which) 0)) e ≡ true → under_at es met which e q ≡ met_nodes met q
  unfolding under_at
  under_it t = ap (λ (b : Bool). cond b (met_nodes met q) []) t

  pub not_under : same_key (edge_at es (get_or met (5 * q + which) 0)) e ≡ false → under_at es met which e q ≡ []
  unfolding under_at
  not_under t = ap (λ (b : Bool). cond b (met_nodes met q) []) t

  -- they are two at most
  pub under_few : length (under_at es met which e q) ≤ 2
  unfolding under_at met_nodes
  under_few = go (same_key (edge_at es (get_or met (5 * q + which) 0)) e) (get_or met (5 * q + 2) 0)
    where
      go : (t : Bool) (c : ℕ) → length (cond t (take c (get_or met (5 * q + 3) 0 ∷ get_or met (5 * q + 4) 0 ∷ [])) []) ≤ 2
      go false c = omega arith
      go true zero = omega arith
      go true (suc zero) = omega arith
      go true (suc (suc zero)) = omega arith
      go true (suc (suc (suc c))) = omega arith

-- ---- all meetings

module _ (es : List Edge) (met : List ℕ) (which : ℕ) (e : Edge) where
  pub under_more : (q : ℕ) → under (q + 1) es met which e ≡ under q es met which e ++ under_at es met which e q
  unfolding under
  under_more q = gathered_more q (under_at es met which e)

  pub length_under : (q : ℕ) → length (under (q + 1) es met which e) ≡ length (under q es met which e) + length (under_at es met which e q)
  length_under q = ap length (under_more q) ∙ length-append (under q es met which e) (under_at es met which e q)

  -- they are two for each meeting at most
  pub under_bound : (n : ℕ) → length (under n es met which e) ≤ 2 * n
  unfolding under gathered
  under_bound zero = omega arith
  under_bound (suc n) = omega (arith, length-append (under n es met which e) (under_at es met which e n), under_bound n, under_few es met which e n)

-- ---- one list after the other

module _ (grid : Grid) (coords : List Float) (k : Edge) (part : List ℕ) (before after : List (List ℕ)) (ys zs : List Placed) (e : before ≡ part ∷ after)
    (z : zs ≡ sort_onto stands_before ys (all_placed grid coords k part)) where
  abbrev puts : List ℕ → List Placed
  puts = all_placed grid coords k

  pub part_put_in : {all : List Placed} → sort_onto stands_before ys (all_placed grid coords k (concat before)) ≡ all
      → sort_onto stands_before zs (all_placed grid coords k (concat after)) ≡ all
  part_put_in h =
      ap (λ (l : List Placed). sort_onto stands_before l (puts (concat after))) z ∙ sym (sort_onto_append stands_before ys (puts part) (puts (concat after)))
      ∙ sym (ap (sort_onto stands_before ys) (ap (λ (l : List (List ℕ)). puts (concat l)) e ∙ placed_append grid coords k part (concat after))) ∙ h

  pub part_fits : {m : ℕ} → length ys + length (concat before) ≤ m → length zs + length (concat after) ≤ m
  part_fits h =
      omega (
        arith,
        h,
        ap length z ∙ length_sort_onto stands_before ys (puts part),
        placed_few grid coords k part,
        ap (λ (l : List (List ℕ)). length (concat l)) e,
        length-append part (concat after),
      )

pub part_counted : (n : ℕ) {m : ℕ} (part : List ℕ) (before after : List (List ℕ)) → before ≡ part ∷ after → n + length (concat before) ≡ m
    → n + length part + length (concat after) ≡ m
part_counted n part before after e h = omega (arith, h, ap (λ (l : List (List ℕ)). length (concat l)) e, length-append part (concat after))

pub no_part_left : (grid : Grid) (coords : List Float) (k : Edge) (rest : List (List ℕ)) (ys : List Placed) → rest ≡ []
    → sort_onto stands_before ys (all_placed grid coords k (concat rest)) ≡ ys
unfolding sort_onto all_placed passing
no_part_left grid coords k rest ys e = rw e
