use Rattle.std.proofs.Common.{rules}
use Rattle.grid.proofs.Ways.{not_nan}
use Rattle.grid.proofs.on_grid.Goals as goal

pub copysign-requires : goal.copysign-requires
copysign-requires c = search (rules, not_nan)
