-- The answers of the code that reads meshes and inputs, as what was read and the rest of the text. Assumes nothing.
use Rattle.std.specs.Prelude.{ℕ, ◌-◌, ◌*◌, ◌≤◌, ◌≡◌, List, [], ◌++◌, length, take, drop, Float, Option, None, Some, option_map}
use Rattle.lists.specs.Regions.{zeros, fzeros}
use Rattle.text.specs.Given.{Parsed, ReadMesh, Limits, limits, Given}
use Rattle.lists.specs.Same.{SameList}
use Rattle.reading_lines.specs.Lines.{nodes_of}
use Rattle.reading.specs.declared.Counts.{Counts}
use Rattle.reading.specs.declared.MeshLists.{MeshLists}
use Rattle.reading.specs.declared.Input.{Input}

-- what lists of these lengths hold
abbrev pub limits_of : MeshLists → Limits
limits_of l = limits (length l.coords.now) (length l.layers.now) (length l.nodes.now) (length l.ends.now) (length l.kinds.now) (length l.families.now)

-- the mesh in the front of the lists
abbrev pub mesh_seen : Counts → List Float → (ls ns es ks fs : List ℕ) → ReadMesh
mesh_seen c cs ls ns es ks fs =
    record {
      points = nodes_of c.points cs ls;
      cells = record { nodes = take c.entries ns; ends = take c.cells es; kinds = take c.cells ks; families = take c.cells fs };
    }

abbrev pub mesh_of : Counts → MeshLists → ReadMesh
mesh_of c l = mesh_seen c l.coords.now l.layers.now l.nodes.now l.ends.now l.kinds.now l.families.now

abbrev pub input_seen : Input → MeshLists → MeshLists → Given
input_seen i s c = record { settings = i.settings; subject = mesh_of i.subject s; cutter = mesh_of i.cutter c }

abbrev pub input_as : Option Input → MeshLists → MeshLists → Parsed Given
input_as r s c = option_map (λ i. (input_seen i s c, [])) r

abbrev pub nothing : Counts
nothing = record { points = 0; cells = 0; entries = 0 }

-- how much of the lists an answer speaks of
abbrev pub subject_of : Option Input → Counts
subject_of (Some i) = i.subject
subject_of None = nothing

abbrev pub cutter_of : Option Input → Counts
cutter_of (Some i) = i.cutter
cutter_of None = nothing

-- the lists have as many places
pub record Within (c : Counts) (l : MeshLists) : Type 0 where
  pub points : 2 * c.points ≤ length l.coords.now
  pub to_layers : c.points ≤ length l.layers.now
  pub entries : c.entries ≤ length l.nodes.now
  pub to_ends : c.cells ≤ length l.ends.now
  pub to_kinds : c.cells ≤ length l.kinds.now
  pub to_families : c.cells ≤ length l.families.now

-- the same lists, written or not
pub record SameLists (l m : MeshLists) : Type 0 where
  pub coords : SameList l.coords m.coords
  pub layers : SameList l.layers m.layers
  pub nodes : SameList l.nodes m.nodes
  pub ends : SameList l.ends m.ends
  pub kinds : SameList l.kinds m.kinds
  pub families : SameList l.families m.families

-- a list with zeros from n on
abbrev pub zeroed_from : ℕ → List ℕ → List ℕ
zeroed_from n l = take n l ++ zeros (length l - n)

abbrev pub fzeroed_from : ℕ → List Float → List Float
fzeroed_from n l = take n l ++ fzeros (length l - n)

-- the lists l with zeros after a mesh
pub record Zeroed (c : Counts) (l m : MeshLists) : Type 0 where
  pub coords : m.coords.now ≡ fzeroed_from (2 * c.points) l.coords.now
  pub layers : m.layers.now ≡ zeroed_from c.points l.layers.now
  pub nodes : m.nodes.now ≡ zeroed_from c.entries l.nodes.now
  pub ends : m.ends.now ≡ zeroed_from c.cells l.ends.now
  pub kinds : m.kinds.now ≡ zeroed_from c.cells l.kinds.now
  pub families : m.families.now ≡ zeroed_from c.cells l.families.now

-- how many places of the lists l an answer speaks of, and the places after those hold zeros in m
pub record MeshRest (c : Counts) (l m : MeshLists) : Type 0 where
  pub within : Within c l
  pub coords : drop (2 * c.points) m.coords.now ≡ fzeros (length l.coords.now - 2 * c.points)
  pub layers : drop c.points m.layers.now ≡ zeros (length l.layers.now - c.points)
  pub nodes : drop c.entries m.nodes.now ≡ zeros (length l.nodes.now - c.entries)
  pub ends : drop c.cells m.ends.now ≡ zeros (length l.ends.now - c.cells)
  pub kinds : drop c.cells m.kinds.now ≡ zeros (length l.kinds.now - c.cells)
  pub families : drop c.cells m.families.now ≡ zeros (length l.families.now - c.cells)
