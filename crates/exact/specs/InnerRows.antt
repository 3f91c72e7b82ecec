-- Cited only by the contracts of inner functions: two rows of cells, one for what is added and one for what is taken away. Assumes nothing.
use Rattle.std.specs.Prelude.{ℤ, pos, ◌-ℤ◌, ℕ, max}
use Rattle.exact.specs.InnerCells.{value, greatest}
use Rattle.exact.specs.declared.rows.Rows.{Rows}

-- the greatest cell of both rows, and the number that they stand for
abbrev pub fullest : Rows → ℕ
fullest r = max (greatest r.more) (greatest r.less)

abbrev pub net : Rows → ℤ
net r = pos (value r.more) -ℤ pos (value r.less)
