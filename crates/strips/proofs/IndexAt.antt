-- The index, place by place. Assumes nothing.
use mathlib.Core.Path.{◌≡◌, refl, sym, ap, ◌∙◌}
use mathlib.Core.List.{List, ◌++◌}
use Prim.Native.Nat.{ℕ, ◌+◌, ◌*◌, ◌/◌, ◌<◌}
use native.Mathlib.Omega.{arith}
use lib.ListN.{length, get_or, take, drop, length-append, get_or-append}
use lib.Seq.{take_at, drop_at, drop-drop, get_or-append-add}
use lib.Ieee.{Float}
use Rattle.lists.specs.Gather.{each}
use Rattle.lists.proofs.Gather.{length_each, get_or_each}
use Rattle.strips.specs.declared.squares.Axis.{Axis}
use Rattle.strips.specs.declared.squares.Axis.TheVariants.{X, Y}
use Rattle.strips.specs.Things.{thing_count}
use Rattle.strips.specs.Index.{strip_count, chain_count, index_size, sample_count, samples_of, picked, bounds_of, head_at, next_at, links_of, chain_at, level_count, index_of}

-- ---- heads and next ones

module _ (f : ℕ → ℕ) (n h : ℕ) where
  pub length_links : length (links_of f n h) ≡ h + n
  unfolding links_of
  length_links = omega (arith, length-append (each h (head_at f n)) (each n (next_at f n)), length_each h (head_at f n), length_each n (next_at f n))

  pub links_head : (c : ℕ) → c < h → get_or (links_of f n h) c 0 ≡ head_at f n c
  unfolding links_of
  links_head c l = get_or-append (each h (head_at f n)) (each n (next_at f n)) 0 c (omega (arith, length_each h (head_at f n))) ∙ get_or_each h (head_at f n) c 0 l

  pub links_next : (j : ℕ) → j < n → get_or (links_of f n h) (h + j) 0 ≡ next_at f n j
  unfolding links_of
  links_next j l =
      ap (λ (k : ℕ). get_or (each h (head_at f n) ++ each n (next_at f n)) (k + j) 0) (sym (length_each h (head_at f n)))
      ∙ get_or-append-add (each h (head_at f n)) (each n (next_at f n)) j 0 ∙ get_or_each n (next_at f n) j 0 l

-- ---- all of it

module _ (coords : List Float) (nodes ends : List ℕ) where
  abbrev n : ℕ
  n = thing_count nodes ends

  abbrev side : ℕ
  side = strip_count (thing_count nodes ends)

  abbrev h : ℕ
  h = chain_count (thing_count nodes ends)

  abbrev xs : List ℕ
  xs = bounds_of coords nodes ends X

  abbrev ys : List ℕ
  ys = bounds_of coords nodes ends Y

  abbrev L : List ℕ
  L = links_of (chain_at coords nodes ends) (thing_count nodes ends) (chain_count (thing_count nodes ends))

  pub length_bounds : (axis : Axis) → length (bounds_of coords nodes ends axis) ≡ strip_count (thing_count nodes ends)
  unfolding bounds_of picked
  length_bounds axis = length_each side (λ t. get_or (samples_of coords nodes ends axis (sample_count n)) (t * sample_count n / side) 0)

  pub index_side : get_or (index_of coords nodes ends) 0 0 ≡ strip_count (thing_count nodes ends)
  unfolding index_of
  index_side = refl

  pub index_levels : get_or (index_of coords nodes ends) 1 0 ≡ level_count coords nodes ends
  unfolding index_of
  index_levels = refl

  behind_header : drop 2 (index_of coords nodes ends) ≡ xs ++ (ys ++ L)
  unfolding index_of
  behind_header = refl

  behind_x : drop (2 + side) (index_of coords nodes ends) ≡ ys ++ L
  behind_x = sym (drop-drop side 2 (index_of coords nodes ends)) ∙ ap (drop side) behind_header ∙ drop_at xs (ys ++ L) side (length_bounds X)

  -- the parts
  pub index_x : take (strip_count (thing_count nodes ends)) (drop 2 (index_of coords nodes ends)) ≡ bounds_of coords nodes ends X
  index_x = ap (take side) behind_header ∙ take_at xs (ys ++ L) side (length_bounds X)

  pub index_y : take (strip_count (thing_count nodes ends)) (drop (2 + strip_count (thing_count nodes ends)) (index_of coords nodes ends)) ≡ bounds_of coords nodes ends Y
  index_y = ap (take side) behind_x ∙ take_at ys L side (length_bounds Y)

  pub index_links : drop (2 + strip_count (thing_count nodes ends) + strip_count (thing_count nodes ends)) (index_of coords nodes ends)
      ≡ links_of (chain_at coords nodes ends) (thing_count nodes ends) (chain_count (thing_count nodes ends))
  index_links = sym (drop-drop side (2 + side) (index_of coords nodes ends)) ∙ ap (drop side) behind_x ∙ drop_at ys L side (length_bounds Y)

  pub length_index : length (index_of coords nodes ends) ≡ index_size (thing_count nodes ends)
  unfolding index_of
  length_index =
      omega (arith, length-append xs (ys ++ L), length-append ys L, length_bounds X, length_bounds Y, length_links (chain_at coords nodes ends) n h)
