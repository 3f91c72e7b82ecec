-- What an output shows, the lists, and what an answer says: the refusal's number or 0, and the counts. Assumes nothing.
use Rattle.std.specs.Prelude.{ℕ, List, Result, Ok, Err}
use Rattle.refusals.specs.declared.Refusal.{Refusal}
use Rattle.refusals.specs.Numbers.{number}
use Rattle.rules.specs.Overlay.{Lists, lent_lists, result_of}
use Rattle.rules.specs.Overlay as Rules
use Rattle.views.specs.declared.OutputView.{OutputView}
use Rattle.overlay.specs.declared.Counts.{Counts}

-- the output's lists, and the working list w
abbrev pub lists_of : OutputView → List ℕ → Lists
lists_of o w = lent_lists o.coords.now o.layers.now o.nodes.now o.ends.now o.kinds.now o.families.now o.meshes.now o.cells.now w

-- The answer, with the lists at exit. W14: "The third count is 0 ever after".
abbrev pub answer_of : Result Counts Refusal → Lists → Rules.Result
answer_of (Ok c) l = result_of 0 c.pieces c.points 0 c.added l
answer_of (Err r) l = result_of (number r) 0 0 0 0 l
