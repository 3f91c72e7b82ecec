-- The meetings of a scene in a lent list. Assumes nothing.
use Rattle.std.specs.Prelude.{◌≡◌, List, [], ℕ, ◌+◌, ◌*◌, ◌/◌, ◌<◌, length, get_or}
use Rattle.rules.specs.Meetings.{Met}
use Rattle.edge_nodes.specs.Lent.{met_nodes}

abbrev pub no_met : Met
no_met = record { subject_edge = 0; cutter_edge = 0; nodes = []; point = [] }

-- the meetings ms stand in `met`, five numbers each
pub record Stored (ms : List Met) (met : List ℕ) : Type 0 where
  pub count : length met / 5 ≡ length ms
  pub subjects : (q : ℕ) → q < length ms → get_or met (5 * q) 0 ≡ (get_or ms q no_met).subject_edge
  pub cutters : (q : ℕ) → q < length ms → get_or met (5 * q + 1) 0 ≡ (get_or ms q no_met).cutter_edge
  pub nodes_at : (q : ℕ) → q < length ms → met_nodes met q ≡ (get_or ms q no_met).nodes
