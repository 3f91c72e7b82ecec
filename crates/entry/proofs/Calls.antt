-- What the entry's returns rest on. Assumes nothing.
use Prim.Native.Nat.{◌≤◌}
use native.Mathlib.Omega.{arith}
use Rattle.entry.specs.declared.operation.Operation.{Operation}
use Rattle.entry.specs.Named.{op_number}
use Rattle.refusals.proofs.Numbers.{number_positive}
use Rattle.entry.proofs.Lowest.{at_call, at_grid, settings_passed, at_settings, at_mesh, at_work, passed_all}
use Rattle.entry.proofs.Passed.{call_unnamed, call_below, call_beyond, call_within, grid_beyond, grid_within, no_grid, mesh_sound}

pub op_most : (o : Operation) → op_number o ≤ 5
op_most o = grind arith

pub ruleset settings_steps = (at_call, at_grid, settings_passed, call_unnamed, call_below, call_beyond, call_within, grid_beyond, grid_within, no_grid, op_most)

pub ruleset entry_steps = (at_settings, at_mesh, at_work, passed_all, number_positive)
