-- How `gather` goes over the chains, and puts in one thing after the other: what only inner functions' contracts cite. Assumes nothing.
use Rattle.std.specs.Prelude.{◌≡◌, Result, MatchResult, Bool, true, false, cond, ◌&&◌, List, [], ◌∷◌, ◌++◌, length, take, get_or, Float}
use Rattle.std.specs.Prelude.{ℕ, zero, suc, ◌+◌, ◌-◌, ◌≤◌, ◌<◌, ltb, leb, eqb}
use Rattle.lists.specs.Search.{first}
use Rattle.lists.specs.Gather.{gathered, places}
use Rattle.rules.specs.declared.Bounds.{Bounds}
use Rattle.strips.specs.declared.squares.Span.{Span}
use Rattle.strips.specs.Things.{thing_count, thing_meets}
use Rattle.strips.specs.Squares.{halved, square_chain}
use Rattle.strips.specs.Index.{on_chain, next_at, chain_at}

-- each is below those behind it
abbrev pub Rises : List ℕ → Type 0
Rises xs = (i k : ℕ) → i < k → k < length xs → get_or xs i 0 < get_or xs k 0

-- a list's first k numbers rise
pub record Risen (k : ℕ) (found : List ℕ) : Type 0 where
  pub fits : k ≤ length found
  pub rises : Rises (take k found)

-- where v stands among numbers that rise, or goes: behind those below it, before those above it
abbrev pub PlaceAmong : List ℕ → ℕ → Result ℕ ℕ → Type 0
PlaceAmong xs v r = MatchResult r (λ i. (i < length xs) × (get_or xs i 0 ≡ v))
    (λ p. (p ≤ length xs) × ((k : ℕ) → k < p → get_or xs k 0 < v) × ((k : ℕ) → p ≤ k → k < length xs → v < get_or xs k 0))

-- v put among numbers that rise, unless it is there
unfoldable pub put_rising : ℕ → List ℕ → List ℕ
put_rising v [] = v ∷ []
put_rising v (x ∷ xs) = elim (ltb x v) [ true ↦ x ∷ put_rising v xs | false ↦ cond (eqb x v) (x ∷ xs) (v ∷ x ∷ xs) ]

-- at most `most` numbers are kept, and only things that pass p
module _ (most : ℕ) (p : ℕ → Bool) where
  unfoldable pub with_thing : List ℕ → ℕ → List ℕ
  with_thing xs j = cond (p j) (take most (put_rising j xs)) xs

  unfoldable pub with_things : List ℕ → List ℕ → List ℕ
  with_things xs [] = xs
  with_things xs (j ∷ js) = with_things (with_thing xs j) js

-- thing j is no lower than `from`, and its box meets b
abbrev pub is_wanted : List Float → List ℕ → List ℕ → Bounds → ℕ → ℕ → Bool
is_wanted coords nodes ends b from j = leb from j && thing_meets coords nodes ends b j

-- of n things on chains by f those on chain c
abbrev pub on_chains : (ℕ → ℕ) → ℕ → ℕ → List ℕ
on_chains f n c = places (on_chain f c) n

-- those on the chains of squares, of h chains
module _ (f : ℕ → ℕ) (n h : ℕ) where
  -- of the squares of row y, from the strip before the first that s reaches up to the last
  unfoldable pub in_row : Span → ℕ → List ℕ
  in_row s y = gathered (s.x1 + 1 - (s.x0 - 1)) (λ i. on_chains f n (square_chain h s (s.x0 - 1 + i) y))

  -- of the rows from the one before the first that s reaches up to the last
  unfoldable pub in_level : Span → List ℕ
  in_level s = gathered (s.y1 + 1 - (s.y0 - 1)) (λ i. in_row s (s.y0 - 1 + i))

  -- of m levels, where s is the span on the first of them
  unfoldable pub in_levels : Span → ℕ → List ℕ
  in_levels s zero = []
  in_levels s (suc m) = in_level s ++ in_levels (halved s) m

-- the lists hold the heads of chains by f, and the next one of each of n things
pub record Links (f : ℕ → ℕ) (n : ℕ) (heads nexts : List ℕ) : Type 0 where
  pub some : 0 < length heads
  pub long : length nexts ≡ n
  pub head : (c : ℕ) → c < length heads → get_or heads c 0 ≡ first (on_chain f c) 0 n
  pub next : (j : ℕ) → j < n → get_or nexts j 0 ≡ next_at f n j

-- the lists chain these things
abbrev pub Chains : List Float → List ℕ → List ℕ → List ℕ → List ℕ → Type 0
Chains coords nodes ends heads nexts = Links (chain_at coords nodes ends) (thing_count nodes ends) heads nexts
