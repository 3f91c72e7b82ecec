-- What a search looks for, and in which order it comes to things: what only inner functions' contracts cite. Assumes nothing.
use Rattle.std.specs.Prelude.{Bool, List, ℕ, length}
use Rattle.strips.specs.declared.squares.Span.{Span}
use Rattle.strips.specs.declared.gathering.Search.{Search}
use Rattle.strips.specs.Things.{thing_count}
use Rattle.strips.specs.Index.{chain_at}
use Rattle.strips.specs.Gathering.{is_wanted, on_chains, in_row, in_level, in_levels}

-- how many things there are, and the chain of each
abbrev pub count : Search → ℕ
count s = thing_count s.things.nodes.now s.things.ends.now

abbrev pub chain_of : Search → ℕ → ℕ
chain_of s = chain_at s.things.coords.now s.things.nodes.now s.things.ends.now

abbrev pub wanted : Search → ℕ → Bool
wanted s = is_wanted s.things.coords.now s.things.nodes.now s.things.ends.now s.bounds s.from

-- those on a chain, on those of a row of squares, of a level, and of some levels
abbrev pub chain : Search → ℕ → List ℕ
chain s c = on_chains (chain_of s) (count s) c

abbrev pub row : Search → Span → ℕ → List ℕ
row s = in_row (chain_of s) (count s) (length s.heads.now)

abbrev pub level : Search → Span → List ℕ
level s = in_level (chain_of s) (count s) (length s.heads.now)

abbrev pub levels : Search → Span → ℕ → List ℕ
levels s = in_levels (chain_of s) (count s) (length s.heads.now)
