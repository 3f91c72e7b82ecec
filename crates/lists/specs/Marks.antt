-- Marks for nodes numbered one after the other. Assumes nothing.
use Rattle.std.specs.Prelude.{List, ℕ, ◌+◌}
use Rattle.lists.specs.Search.{named, bit}
use Rattle.lists.specs.Gather.{each}

-- a mark for each of the n nodes b, b + 1, ..: 1 where some entry of the list is it, 0 where none is
unfoldable pub marks_from : List ℕ → ℕ → ℕ → List ℕ
marks_from nodes b n = each n (λ k. bit (named nodes (b + k)))
