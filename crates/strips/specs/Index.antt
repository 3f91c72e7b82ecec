-- The index of some things, as it stands in a lent list. Assumes nothing.
use Rattle.std.specs.Prelude.{◌≡◌, Bool, List, [], ◌∷◌, ◌++◌, ℕ, zero, suc, ◌+◌, ◌*◌, ◌/◌, ◌≤◌, min, max, ltb, eqb, length, get_or, Float}
use Rattle.std.specs.Float.Ieee.{lt}
use Rattle.lists.specs.Search.{first}
use Rattle.lists.specs.Gather.{each}
use Rattle.lists.specs.Sort.{sorted}
use Rattle.entry.specs.Mesh.{Rising}
use Rattle.strips.specs.declared.squares.Axis.{Axis}
use Rattle.strips.specs.declared.squares.Axis.TheVariants.{X, Y}
use Rattle.strips.specs.declared.squares.Span.{Span}
use Rattle.strips.specs.Things.{thing_count, start_of, thing_box}
use Rattle.strips.specs.Squares.{coordinate_of, span_of, narrowed, square_chain}

-- ---- how large it is

-- How many strips there are by x, and by y: the root of n, at least 1 and at most 256. Any number would do.
unfoldable pub strip_count : ℕ → ℕ
strip_count n = first (λ s. ltb n ((s + 1) * (s + 1))) 1 256

-- how many chains: about as many as there are squares on all levels
abbrev pub chain_count : ℕ → ℕ
chain_count n = n + n / 2 + 8

-- how many numbers the index of n things takes
abbrev pub index_size : ℕ → ℕ
index_size n = 2 + 2 * strip_count n + chain_count n + n

-- ---- the nodes at which strips begin

abbrev pub is_before : List Float → Axis → ℕ → ℕ → Bool
is_before coords axis v u = lt (coordinate_of coords axis v) (coordinate_of coords axis u)

abbrev pub sample_count : ℕ → ℕ
sample_count n = min (4 * strip_count n) n

-- sample i of k: the first node of a thing
unfoldable pub sample_node : List ℕ → List ℕ → ℕ → ℕ → ℕ
sample_node nodes ends k i = get_or nodes (start_of ends (i * thing_count nodes ends / k)) 0

-- k samples, in order
unfoldable pub samples_of : List Float → List ℕ → List ℕ → Axis → ℕ → List ℕ
samples_of coords nodes ends axis k = sorted (is_before coords axis) (each k (sample_node nodes ends k))

-- of k numbers `side` evenly spread ones
unfoldable pub picked : ℕ → ℕ → List ℕ → List ℕ
picked side k xs = each side (λ t. get_or xs (t * k / side) 0)

-- Where the strips of one axis begin. No law needs these nodes: strips may begin anywhere, in any order.
unfoldable pub bounds_of : List Float → List ℕ → List ℕ → Axis → List ℕ
bounds_of coords nodes ends axis =
    let n = thing_count nodes ends in
    picked (strip_count n) (sample_count n) (samples_of coords nodes ends axis (sample_count n))

-- ---- the chains

-- strips begin at the nodes xs and ys
module _ (coords : List Float) (xs ys nodes ends : List ℕ) where
  -- the squares of thing j
  abbrev pub span_by : ℕ → Span
  span_by j = narrowed 512 (span_of coords xs ys (thing_box coords nodes ends j))

  -- its chain: that of the first of them
  unfoldable pub chain_by : ℕ → ℕ
  chain_by j = square_chain (chain_count (thing_count nodes ends)) (span_by j) (span_by j).x0 (span_by j).y0

-- thing j is on chain c, by f
abbrev pub on_chain : (ℕ → ℕ) → ℕ → ℕ → Bool
on_chain f c j = eqb (f j) c

-- n things are on chains by f
module _ (f : ℕ → ℕ) (n : ℕ) where
  -- the first thing on chain c; n where there is none
  abbrev pub head_at : ℕ → ℕ
  head_at c = first (on_chain f c) 0 n

  -- the next one on the chain of thing j
  abbrev pub next_at : ℕ → ℕ
  next_at j = first (on_chain f (f j)) (j + 1) n

  -- the heads of h chains, then the next one of each thing
  unfoldable pub links_of : ℕ → List ℕ
  links_of h = each h head_at ++ each n next_at

-- one more than the highest of the m numbers f k, f (k + 1), ..; 0 where there is none
unfoldable pub above : (ℕ → ℕ) → ℕ → ℕ → ℕ
above f k zero = 0
above f k (suc m) = max (f k + 1) (above f (suc k) m)

-- ---- the index

module _ (coords : List Float) (nodes ends : List ℕ) where
  -- the chain of thing j
  abbrev pub chain_at : ℕ → ℕ
  chain_at = chain_by coords (bounds_of coords nodes ends X) (bounds_of coords nodes ends Y) nodes ends

  -- how many levels there are: one more than the highest that a thing is on
  abbrev pub level_count : ℕ
  level_count = above (λ j. (span_by coords (bounds_of coords nodes ends X) (bounds_of coords nodes ends Y) nodes ends j).level) 0 (thing_count nodes ends)

  -- how many strips and levels there are, where the strips begin, and the chains
  unfoldable pub index_of : List ℕ
  index_of =
      (strip_count (thing_count nodes ends) ∷ level_count ∷ []) ++ (bounds_of coords nodes ends X ++ (bounds_of coords nodes ends Y
      ++ links_of chain_at (thing_count nodes ends) (chain_count (thing_count nodes ends))))

-- The list `ix` is the index of these things.
pub record Indexed (coords : List Float) (nodes ends ix : List ℕ) : Type 0 where
  pub rising : Rising ends (length nodes)
  pub few : thing_count nodes ends ≤ 65536
  pub is : ix ≡ index_of coords nodes ends
