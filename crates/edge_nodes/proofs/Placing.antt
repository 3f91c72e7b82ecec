-- The nodes of a key that go in among those put in order, with a grid or without. Assumes nothing.
use mathlib.Core.Path.{◌≡◌, refl, ap, ◌∙◌}
use mathlib.Core.Bool.{Bool, true, false, not}
use mathlib.Core.List.{List, [], ◌∷◌, ◌++◌, map}
use Rattle.std.specs.Prelude.{None, Some}
use Prim.Native.Nat.{ℕ, ◌≤◌}
use native.Mathlib.Omega.{arith}
use lib.ListN.{length, length-map}
use lib.Ieee.{Float, nan, inf, fin, lt, eq}
use Rattle.std.proofs.lemmas.List.{map-append}
use Rattle.lists.specs.Gather.{all, passing}
use Rattle.lists.specs.Sort.{insert, sort_onto, sorted}
use Rattle.lists.proofs.Gather.{passing_append, length_passing, tally_le}
use Rattle.lists.proofs.Sort.{sorted_head}
use Rattle.grid.specs.Grid.{Grid}
use Rattle.cutting.specs.Edges.{Edge}
use Rattle.rules.specs.Nodes.{Projected, projected, by_projection, by_projections, inner_of, before_last, total_before}
use Rattle.edge_nodes.specs.declared.nodes.Placed.{Placed}
use Rattle.edge_nodes.specs.Lent.{placed, first_placed, goes_in, all_placed, stands_before, node_of}

-- ---- one after the other

module _ (grid : Grid) (coords : List Float) (k : Edge) where
  module _ (n : ℕ) (ns : List ℕ) where
    pub placed_in : goes_in grid k n ≡ true → all_placed grid coords k (n ∷ ns) ≡ placed coords k n ∷ all_placed grid coords k ns
    unfolding all_placed passing
    placed_in t = ap (λ (b : Bool). map (placed coords k) (elim b [ true ↦ n ∷ passing (goes_in grid k) ns | false ↦ passing (goes_in grid k) ns ])) t

    pub placed_out : goes_in grid k n ≡ false → all_placed grid coords k (n ∷ ns) ≡ all_placed grid coords k ns
    unfolding all_placed passing
    placed_out t = ap (λ (b : Bool). map (placed coords k) (elim b [ true ↦ n ∷ passing (goes_in grid k) ns | false ↦ passing (goes_in grid k) ns ])) t

  pub placed_append : (xs ys : List ℕ) → all_placed grid coords k (xs ++ ys) ≡ all_placed grid coords k xs ++ all_placed grid coords k ys
  unfolding all_placed
  placed_append xs ys =
      ap (map (placed coords k)) (passing_append (goes_in grid k) xs ys) ∙ map-append (placed coords k) (passing (goes_in grid k) xs) (passing (goes_in grid k) ys)

  pub placed_few : (ns : List ℕ) → length (all_placed grid coords k ns) ≤ length ns
  unfolding all_placed
  placed_few ns = omega (arith, length-map (passing (goes_in grid k) ns) (placed coords k), length_passing (goes_in grid k) ns, tally_le (goes_in grid k) ns)

-- ---- as the rules have them

abbrev projected_of : Placed → Projected
projected_of p = record { projection = p.along; node = p.node }

map_insert : (x : Placed) (xs : List Placed) → map projected_of (insert stands_before x xs) ≡ insert by_projection (projected_of x) (map projected_of xs)
unfolding insert
map_insert x [] = refl
map_insert x (y ∷ ys) = go (stands_before x y) (map_insert x ys)
  where
    go : (t : Bool) → map projected_of (insert stands_before x ys) ≡ insert by_projection (projected_of x) (map projected_of ys)
        → map projected_of (elim t [ true ↦ x ∷ y ∷ ys | false ↦ y ∷ insert stands_before x ys ])
        ≡ elim t [ true ↦ projected_of x ∷ projected_of y ∷ map projected_of ys | false ↦ projected_of y ∷ insert by_projection (projected_of x) (map projected_of ys) ]
    go true ih = refl
    go false ih = ap (λ (l : List Projected). projected_of y ∷ l) ih

map_sort : (coords : List Float) (k : Edge) (done : List Placed) (ns : List ℕ)
    → map projected_of (sort_onto stands_before done (map (placed coords k) ns)) ≡ sort_onto by_projection (map projected_of done) (map (projected coords k) ns)
unfolding sort_onto
map_sort coords k done [] = refl
map_sort coords k done (n ∷ ns) =
    map_sort coords k (insert stands_before (placed coords k n) done) ns
    ∙ ap (λ (l : List Projected). sort_onto by_projection l (map (projected coords k) ns)) (map_insert (placed coords k n) done)

map_nodes : (xs : List Placed) → map node_of xs ≡ map (λ (p : Projected). p.node) (map projected_of xs)
map_nodes [] = refl
map_nodes (x ∷ xs) = ap (λ (l : List ℕ). x.node ∷ l) (map_nodes xs)

-- sorted nodes as the rules sort them
in_order : (coords : List Float) (k : Edge) (ns : List ℕ) → map node_of (sorted stands_before (map (placed coords k) ns)) ≡ by_projections coords k ns
in_order coords k ns = map_nodes (sorted stands_before (map (placed coords k) ns)) ∙ ap (map (λ (p : Projected). p.node)) (map_sort coords k [] ns)

-- nothing lies before what lies at minus infinity
none_before : (x : Float) → total_before x (inf true) ≡ false
unfolding lt eq
none_before nan = refl
none_before (inf true) = refl
none_before (inf false) = refl
none_before (fin s m e) = refl

all_behind : (coords : List Float) (k : Edge) (ns : List ℕ) → all (λ n. not (total_before (placed coords k n).along (inf true))) ns ≡ true
unfolding all
all_behind coords k [] = refl
all_behind coords k (n ∷ ns) =
    ap (λ (b : Bool). elim (not b) [ true ↦ all (λ i. not (total_before (placed coords k i).along (inf true))) ns | false ↦ false ])
    (none_before (placed coords k n).along) ∙ all_behind coords k ns

-- without a grid all go in
all_in : (k : Edge) (ns : List ℕ) → passing (goes_in None k) ns ≡ ns
unfolding goes_in passing
all_in k [] = refl
all_in k (n ∷ ns) = ap (λ (l : List ℕ). n ∷ l) (all_in k ns)

-- the key's first node and those that go in
pub nodes_before : (grid : Grid) (coords : List Float) (k : Edge) (ns : List ℕ)
    → map node_of (sort_onto stands_before (first_placed grid coords k ∷ []) (all_placed grid coords k ns)) ≡ before_last grid coords k ns
unfolding first_placed all_placed goes_in before_last sort_onto insert
nodes_before None coords k ns =
    ap (λ (l : List ℕ). map node_of (sort_onto stands_before (placed coords k k.0 ∷ []) (map (placed coords k) l))) (all_in k ns) ∙ in_order coords k (k.0 ∷ ns)
nodes_before (Some i) coords k ns =
    let x : Placed = record { along = inf true; node = k.0 } in
    let inner : List ℕ = passing (inner_of k) ns in
    ap (map node_of) (sorted_head stands_before x (placed coords k) inner (all_behind coords k inner)) ∙ ap (λ (l : List ℕ). k.0 ∷ l) (in_order coords k inner)
