-- Runs of the working list: what only contracts of the stages cite. Assumes nothing.
use Rattle.std.specs.Prelude.{List, ℕ, ◌-◌, ◌≤◌}
use Rattle.lists.specs.Regions.{run}
use Rattle.cutting.specs.Edges.{Edge}
use Rattle.cutting.specs.Lent.{pairs}
use Rattle.regions.specs.declared.Run.{Run}
use Rattle.regions.specs.declared.MeshRuns.{MeshRuns}
use Rattle.regions.specs.declared.Regions.{Regions}

-- the run r stands in a list of n numbers
pub record Within (r : Run) (n : ℕ) : Type 0 where
  pub rises : r.from ≤ r.end
  pub fits : r.end ≤ n

unfoldable pub run_in : List ℕ → Run → List ℕ
run_in w r = run w r.from (r.end - r.from)

-- all of them do
pub record Lies (g : Regions) (n : ℕ) : Type 0 where
  pub subject_edges : Within g.subject.edges n
  pub subject_entries : Within g.subject.entries n
  pub cutter_edges : Within g.cutter.edges n
  pub cutter_entries : Within g.cutter.entries n
  pub met : Within g.met n
  pub links : Within g.links n

-- ---- what they hold

abbrev pub mesh_edges : List ℕ → MeshRuns → List Edge
mesh_edges w m = pairs (run_in w m.edges)
