-- What the program hands to printing, before the lists are looked at. Assumes nothing.
use Rattle.std.specs.Prelude.{ℕ, ◌+◌, Result, Ok, Err}
use Rattle.refusals.specs.declared.Refusal.{Refusal}
use Rattle.refusals.specs.Numbers.{number}
use Rattle.overlay.specs.declared.Counts.{Counts}
use Rattle.printing.specs.declared.Answer.{Answer as Printed}
use Rattle.printing.specs.declared.Answer.TheVariants as printed

-- of an overlay, how many nodes there are then and the three counts. W5: "a fourth number, not printed"
abbrev pub printed_of : ℕ → Result Counts Refusal → Printed
printed_of nodes (Ok k) = printed.Overlay (nodes + k.added) (record { pieces = k.pieces; points = k.points; doubled = 0 })
printed_of nodes (Err r) = printed.Refused (number r)
