-- What is found before any cell is cut. Assumes nothing.
use Rattle.std.specs.Prelude.{Result, Ok, Err, MatchResult, Bool, cond, ◌||◌, List, [], ◌∷◌, ◌++◌, ℕ, ◌+◌, ◌*◌, ◌/◌, ◌≡◌, ◌≤◌, ◌<◌, eqb, length, take, replicate, Float}
use Rattle.lists.specs.Search.{has}
use Rattle.lists.specs.Gather.{joined}
use Rattle.lists.specs.Regions.{run, front, put, zeros, fzeros}
use Rattle.cutting.specs.Lent.{pairs}
use Rattle.grid.specs.Grid.{Grid}
use Rattle.settings.specs.declared.Settings.{Settings}
use Rattle.entry.specs.Mesh.{Mesh, node_count}
use Rattle.rules.specs.Meetings.{Met, added_by}
use Rattle.rules.specs.Nodes.{crowded}
use Rattle.rules.specs.Operations.{scene_for}
use Rattle.rules.specs.Refusals.{Event, point, stop, of_meeting, first_refusal}
use Rattle.regions.specs.declared.Regions.{Regions}
use Rattle.regions.specs.Runs.{Within, run_in, Lies, mesh_edges}
use Rattle.strips.specs.Index.{Indexed}
use Rattle.refusals.specs.declared.Refusal.{Refusal}
use Rattle.refusals.specs.Numbers.{number}
use Rattle.meetings.specs.declared.Found.{Found as MeetFound}
use Rattle.meetings.specs.InNumbers.{in_numbers, meetings_of}
use Rattle.edge_nodes.specs.Links.{links_of, Linked}
use Rattle.edge_nodes.specs.Lent.{crowded_at}
use Rattle.finding.specs.declared.numbering.NetPlaces.{NetPlaces}
use Rattle.finding.specs.declared.stages.Found.{Found}
use Rattle.finding.specs.Nets.{between, nets_of, netted, met_at}

-- `course` up to the cells: both meshes' coordinates, the meetings, and 9
unfoldable pub found_events : Settings → Mesh → Mesh → List Event
found_events o s c =
    let sc = scene_for o s c in
    replicate (length (s.coords ++ c.coords) / 2) point ++ joined of_meeting sc.met ++ cond (crowded sc) (stop 9 ∷ []) []

-- the chains by which meetings are found under a key: one for each node of both meshes, and one
abbrev pub chains : Mesh → Mesh → ℕ
chains s c = node_count s + node_count c + 1

-- the regions of the working list, with `met` meetings behind the nets n and the links of h chains behind these
unfoldable pub regions_by : NetPlaces → (met h : ℕ) → Regions
regions_by n met h =
    let end = n.behind + 5 * met in
    record {
      subject = n.subject;
      cutter = n.cutter;
      met = between n.behind end;
      links = between end (end + 2 * (h + met));
    }

-- the answer
unfoldable pub found_as : Settings → Mesh → Mesh → Found
found_as o s c =
    let sc = scene_for o s c in
    record { regions = regions_by (nets_of (eqb o.op 5) s c) (length sc.met) (chains s c); next = length sc.coords / 2 }

-- the meetings' links, along these chains
abbrev pub links_in : Settings → Mesh → Mesh → List ℕ
links_in o s c = let sc = scene_for o s c in links_of (chains s c) sc.subject.edges sc.cutter.edges (in_numbers sc.met)

-- the working list w with both nets, the meetings and their links
unfoldable pub worked : Settings → Mesh → Mesh → List ℕ → List ℕ
worked o s c w = put (netted (eqb o.op 5) s c w) (met_at s c) (in_numbers (scene_for o s c).met ++ links_in o s c)

-- ---- what finding leaves: the answer or the refusal's number, the coordinates and the working list

pub record FoundLists : Type 0 where
  pub answer : Result Found ℕ
  pub coords : List Float
  pub work : List ℕ

-- on a refusal both lists are zeros
abbrev pub refused_lists : ℕ → List Float → List ℕ → FoundLists
refused_lists code oc w = record { answer = Err code; coords = fzeros (length oc); work = zeros (length w) }

unfoldable pub found_of : Settings → Mesh → Mesh → List Float → List ℕ → FoundLists
found_of o s c oc w =
    let code = first_refusal o.m (length oc / 2) 0 0 (found_events o s c) in
    cond (eqb code 0) (record { answer = Ok (found_as o s c); coords = front oc (scene_for o s c).coords; work = worked o s c w }) (refused_lists code oc w)

-- ---- what only an inner function's contract cites

-- refusal 9, by the edges and meetings as they stand in the working list
unfoldable pub both_full : List ℕ → List ℕ → List ℕ → Bool
both_full es fs ms = has (crowded_at (pairs es) (pairs es) (pairs fs) ms) (length es / 2) || has (crowded_at (pairs fs) (pairs es) (pairs fs) ms) (length fs / 2)

-- the regions g stand in w, and the links are those of the meetings
pub record LinkedIn (w : List ℕ) (g : Regions) : Type 0 where
  pub lies : Lies g (length w)
  pub linked : Linked (mesh_edges w g.subject) (mesh_edges w g.cutter) (run_in w g.met) (run_in w g.links)

-- lists of `coords` and `work` numbers: whole points are placed, the edges stand before the meetings, and there is room for m of these
pub record MeetingsRoom (n : NetPlaces) (coords work placed m : ℕ) : Type 0 where
  pub placed_fits : placed ≤ coords
  pub placed_even : 2 * (placed / 2) ≡ placed
  pub placed_most : placed ≤ 65536
  pub subject : Within n.subject.edges n.behind
  pub subject_most : n.subject.edges.end ≤ n.subject.edges.from + 131072
  pub cutter : Within n.cutter.edges n.behind
  pub cutter_most : n.cutter.edges.end ≤ n.cutter.edges.from + 131072
  pub met_fits : n.behind + 5 * m ≤ work
  pub met_most : m ≤ 65536

-- the index of the cutter's edges stands before the meetings
pub record CutterIndexed (n : NetPlaces) (coords : List Float) (work : List ℕ) : Type 0 where
  pub index : Within n.index n.behind
  pub indexed : Indexed coords (run_in work n.cutter.edges) [] (run_in work n.index)

-- the meetings of the edges that n names, on the grid or none, over the first `placed` coordinates
abbrev pub met_in : Grid → NetPlaces → ℕ → List Float → List ℕ → List Met
met_in grid n placed oc w = meetings_of grid (take placed oc) (run_in w n.subject.edges) (run_in w n.cutter.edges)

-- they are written: new points behind these coordinates, their numbers behind the nets
pub record MetWritten (grid : Grid) (n : NetPlaces) (placed : ℕ) (oc : List Float) (w : List ℕ) (oc' : List Float) (w' : List ℕ) (f : MeetFound) : Type 0 where
  pub found : f ≡ record { met = length (met_in grid n placed oc w); points = length (added_by (met_in grid n placed oc w)) / 2 }
  pub coords : oc' ≡ put oc placed (added_by (met_in grid n placed oc w))
  pub work : w' ≡ put w n.behind (in_numbers (met_in grid n placed oc w))

-- room for the links in a working list of `work` numbers
pub record LinkRoom (n : NetPlaces) (met h work : ℕ) : Type 0 where
  pub subject : Within n.subject.edges n.behind
  pub cutter : Within n.cutter.edges n.behind
  pub links_fit : n.behind + 5 * met + 2 * (h + met) ≤ work
  pub some : 0 < h
  pub few : met ≤ 65536

-- w with them
unfoldable pub linked_by : NetPlaces → (met h : ℕ) → List ℕ → List ℕ
linked_by n met h w =
    put w (n.behind + 5 * met) (links_of h (pairs (run_in w n.subject.edges)) (pairs (run_in w n.cutter.edges)) (run w n.behind (5 * met)))

-- what the stages leave: all that is found, or a refusal that is yet to clear the lists
abbrev pub StagesGive : Settings → Mesh → Mesh → List Float → List ℕ → List Float → List ℕ → Result Found Refusal → Type 0
StagesGive o s c oc w oc' w' r =
    MatchResult r (λ f. record { answer = Ok f; coords = oc'; work = w' } ≡ found_of o s c oc w)
    (λ e. number e ≡ first_refusal o.m (length oc / 2) 0 0 (found_events o s c))
