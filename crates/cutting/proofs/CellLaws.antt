-- What sorting a table keeps, and a table's parts. Assumes nothing.
use mathlib.Core.Path.{◌≡◌, refl, ap}
use mathlib.Core.Bool.{Bool, false}
use mathlib.Core.List.{List, [], ◌∷◌, ◌++◌}
use Prim.Native.Nat.{◌*◌}
use native.Mathlib.Omega.{arith}
use lib.ListN.{length}
use lib.Ieee.{Float}
use Rattle.lists.specs.Gather.{tally}
use Rattle.cutting.specs.Edges.{Edge}
use Rattle.cutting.specs.Cell.{Laid, inner_with, edge_slots, table, stands_before, cell_table_with}
use Rattle.cutting.specs.declared.Slot.{Slot}
use Rattle.lists.proofs.Sort.{sorted_tally}

pub slots_append : (back : Bool) (es fs : List Edge) → edge_slots back (es ++ fs) ≡ edge_slots back es ++ edge_slots back fs
unfolding edge_slots
slots_append back [] fs = refl
slots_append back (e ∷ es) fs = ap (λ (t : List Slot). record { src = e.0; dst = e.1; marked = false } ∷ record { src = e.1; dst = e.0; marked = back } ∷ t) (slots_append back es fs)

pub slots_length : (back : Bool) (es : List Edge) → length (edge_slots back es) ≡ 2 * length es
unfolding edge_slots
slots_length back [] = refl
slots_length back (e ∷ es) = omega (arith, slots_length back es)

pub sorted_table : (once : Bool) (coords : List Float) (outline : List Edge) (near : List Laid) (p : Slot → Bool)
    → tally p (cell_table_with once coords outline near) ≡ tally p (table outline (inner_with once outline near))
unfolding cell_table_with
sorted_table once coords outline near p = sorted_tally (stands_before coords) p (table outline (inner_with once outline near))
