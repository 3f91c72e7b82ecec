-- The samples and the nodes at which strips begin, as they are made. Assumes nothing.
use mathlib.Core.Path.{◌≡◌, refl, sym, ap, ap₂, ◌∙◌}
use mathlib.Core.List.{List, ◌++◌, append-nil}
use Prim.Native.Nat.{ℕ, ◌+◌, ◌*◌, ◌/◌, ◌≤◌, ◌<◌, min}
use native.Mathlib.Nat.{le_antisymm, min-le_left, min-le_right}
use native.Mathlib.Omega.{arith}
use lib.ListN.{length, get_or, set, take, drop_of_length-le}
use lib.Seq.{take_all, get_or-take, length-take-le}
use lib.Ieee.{Float, lt}
use Rattle.lists.specs.Search.{first}
use Rattle.lists.specs.Gather.{gathered, each}
use Rattle.lists.specs.Sort.{insert, sort_onto, sorted}
use Rattle.lists.specs.Regions.{front, insert_at}
use Rattle.std.proofs.Common.{unwrap_or}
use Rattle.std.specs.List.{position}
use Rattle.lists.proofs.Search.{first_ext}
use Rattle.lists.proofs.InPlace.{place_is}
use Rattle.lists.proofs.Library.{first_list}
use Rattle.lists.proofs.Gather.{each_more, length_each}
use Rattle.lists.proofs.Sort.{insert_at_is, length_insert, length_sorted, sorted_snoc}
use Rattle.lists.proofs.Regions.{length_front, take_front_of, front_store}
use Rattle.strips.specs.declared.squares.Axis.{Axis}
use Rattle.strips.specs.Things.{thing_count, start_of}
use Rattle.strips.specs.Squares.{coordinate_of}
use Rattle.strips.proofs.Sizes.{side_range}
use Rattle.strips.specs.Index.{strip_count, is_before, sample_count, sample_node, samples_of, picked, bounds_of}

-- ---- one sample

pub sample_is : (nodes ends : List ℕ) (k i n s r : ℕ) → n ≡ thing_count nodes ends → s ≡ start_of ends (i * n / k) → r ≡ get_or nodes s 0 → r ≡ sample_node nodes ends k i
unfolding sample_node
sample_is nodes ends k i n s r n_is s_is r_is =
    r_is ∙ ap (λ (j : ℕ). get_or nodes j 0) (s_is ∙ ap (λ (m : ℕ). start_of ends (i * m / k)) n_is)

pub before_is : (coords : List Float) (axis : Axis) (v u : ℕ) (c d : Float) → c ≡ coordinate_of coords axis v → d ≡ coordinate_of coords axis u → is_before coords axis v u ≡ lt c d
before_is coords axis v u c d e f = ap₂ lt (sym e) (sym f)

-- where a node goes: the first that it stands before
pub placed : (coords : List Float) (axis : Axis) (v : ℕ) (order : List ℕ) (r : ℕ) → r ≡ unwrap_or (position (is_before coords axis v) order) (length order)
    → r ≡ first (λ i. is_before coords axis v (get_or order i 0)) 0 (length order)
placed coords axis v order r e = e ∙ place_is (is_before coords axis v) order ∙ sym (first_list (is_before coords axis v) order 0)

-- ---- samples put in order one by one

module _ (coords : List Float) (nodes ends : List ℕ) (axis : Axis) (k : ℕ) where
  abbrev firsts : ℕ → List ℕ
  firsts i = sorted (is_before coords axis) (each i (sample_node nodes ends k))

  length_firsts : (i : ℕ) → length (firsts i) ≡ i
  length_firsts i = length_sorted (is_before coords axis) (each i (sample_node nodes ends k)) ∙ length_each i (sample_node nodes ends k)

  pub length_samples : length (samples_of coords nodes ends axis k) ≡ k
  unfolding samples_of
  length_samples = length_firsts k

  -- the first i stand in order
  pub record Sorting (i : ℕ) (w : List ℕ) : Type 0 where
    pub long : length w ≡ k
    pub held : take i w ≡ sorted (is_before coords axis) (each i (sample_node nodes ends k))

  pub sorting_start : (w : List ℕ) → length w ≡ k → Sorting 0 w
  unfolding gathered sort_onto
  sorting_start w l = record { long = l; held = refl }

  pub sorting_turn : (i v p : ℕ) (w w' : List ℕ) → Sorting i w → i < k → v ≡ sample_node nodes ends k i
      → p ≡ first (λ m. is_before coords axis v (get_or (take i w) m 0)) 0 (length (take i w)) → w' ≡ insert_at w i p v → Sorting (i + 1) w'
  sorting_turn i v p w w' inv h v_is p-is w-is =
      let B = is_before coords axis in
      let n : length (take i w) ≡ i = length-take-le i w (omega (arith, inv.long)) in
      let q : p ≡ first (λ m. B v (get_or w m 0)) 0 i =
      p-is ∙ ap (first (λ m. B v (get_or (take i w) m 0)) 0) n ∙ first_ext _ _ i (λ m l. ap (B v) (get_or-take i w m 0 l)) in
      let made : w' ≡ front w (insert B v (take i w)) = w-is ∙ insert_at_is B w i p v 0 (omega (arith, inv.long)) q in
      let long : length (insert B v (take i w)) ≡ i + 1 = length_insert B v (take i w) ∙ ap (λ (m : ℕ). m + 1) n in
      record {
        long = ap length made ∙ length_front w (insert B v (take i w)) (omega (arith, long, inv.long)) ∙ inv.long;
        held = ap (take (i + 1)) made ∙ take_front_of w (insert B v (take i w)) (i + 1) long ∙ ap₂ (insert B) v_is inv.held
            ∙ sym (sorted_snoc B (each i (sample_node nodes ends k)) (sample_node nodes ends k i)) ∙ ap (sorted B) (sym (each_more i (sample_node nodes ends k)));
      }

  pub sorting_end : (w : List ℕ) → Sorting k w → w ≡ samples_of coords nodes ends axis k
  unfolding samples_of
  sorting_end w inv = sym (take_all k w (omega (arith, inv.long))) ∙ inv.held

-- ---- evenly spread ones picked

module _ (w₀ order : List ℕ) (side k : ℕ) where
  abbrev one : ℕ → ℕ
  one t = get_or order (t * k / side) 0

  -- the first t are
  pub record Picking (t : ℕ) (w : List ℕ) : Type 0 where
    pub held : w ≡ front w₀ (each t (λ i. get_or order (i * k / side) 0))

  pub picking_start : Picking 0 w₀
  unfolding gathered front
  picking_start = record { held = refl }

  pub picking_turn : (t v : ℕ) (w : List ℕ) → Picking t w → t < length w₀ → v ≡ get_or order (t * k / side) 0 → Picking (t + 1) (set w t v)
  picking_turn t v w inv h v_is =
      record { held = ap (set w t) v_is ∙ front_store w₀ w (each t one) t (one t) 0 (length_each t one) h inv.held ∙ ap (front w₀) (sym (each_more t one)) }

  pub picking_end : (t : ℕ) (w : List ℕ) → Picking t w → t ≤ side → side ≤ t → length w₀ ≡ side → w ≡ picked side k order
  unfolding picked front
  picking_end t w inv a b l =
      let n : length (each side one) ≡ side = length_each side one in
      let all : t ≡ side = le_antisymm a b in
      inv.held ∙ ap (λ (m : ℕ). front w₀ (each m one)) all
      ∙ ap (λ (u : List ℕ). each side one ++ u) (drop_of_length-le w₀ {i = length (each side one)} (omega (arith, n, l))) ∙ append-nil (each side one)

-- ---- the nodes at which the strips of one axis begin

-- how many samples are taken for as many nodes as there are strips: all have their place, and they are few
pub samples_fit : (n side k : ℕ) (scratch : List ℕ) → side ≡ strip_count n → k ≡ min (4 * side) n → n ≤ length scratch → (length (take k scratch) ≡ k) × (k ≤ 1024)
samples_fit n side k scratch s e fits =
    (length-take-le k scratch (omega (arith, e, min-le_right (4 * side) n, fits)), omega (arith, e, min-le_left (4 * side) n, s, (side_range n).1))

pub bound_is : (coords : List Float) (nodes ends : List ℕ) (axis : Axis) (side k : ℕ) (order : List ℕ) → side ≡ strip_count (thing_count nodes ends)
    → k ≡ sample_count (thing_count nodes ends) → order ≡ samples_of coords nodes ends axis k → picked side (length order) order ≡ bounds_of coords nodes ends axis
unfolding bounds_of
bound_is coords nodes ends axis side k order s e o =
    ap (λ (u : List ℕ). picked side (length u) u) o ∙ ap (λ (m : ℕ). picked side m (samples_of coords nodes ends axis k)) (length_samples coords nodes ends axis k)
    ∙ ap₂ (λ (i m : ℕ). picked i m (samples_of coords nodes ends axis m)) s e
