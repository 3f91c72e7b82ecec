-- What the later stages may take for granted of an overlay that the entry lets pass. Assumes nothing.
use Rattle.std.specs.Prelude.{◌≡◌, Bool, true, false, ◌⊎◌, ℕ, ◌+◌, ◌*◌, ◌^◌, ◌≤◌, ◌<◌, eqb, length, get_or, ℤ, Float, Some}
use Rattle.std.specs.Float.{nan, fin}
use Rattle.std.specs.Float.Ieee.{up, down}
use Rattle.settings.specs.declared.Settings.{Settings}
use Rattle.entry.specs.Mesh.{Mesh, node_count, prior, cell_size}

-- finite, at most 2^40 in size, not −0
pub record Placed (x : Float) : Type 0 where
  pub sign : Bool
  pub size : ℕ
  pub power : ℤ
  pub finite : x ≡ fin sign size power
  pub bounded : size * up power ≤ 2 ^ 40 * down power
  pub unsigned : size ≡ 0 → sign ≡ false

-- a mesh, of lines or of cells
pub record Sound (lines : Bool) (m : Mesh) : Type 0 where
  -- 2
  pub even : length m.coords ≡ 2 * node_count m
  pub rises : (i : ℕ) → i < length m.ends → prior m.ends i < get_or m.ends i 0
  pub within : (i : ℕ) → i < length m.ends → get_or m.ends i 0 ≤ length m.nodes
  pub last : prior m.ends (length m.ends) ≡ length m.nodes
  pub kinds_long : length m.kinds ≡ length m.ends
  pub families_long : length m.families ≡ length m.ends
  pub layers_long : length m.layers ≡ node_count m
  pub most_nodes : node_count m ≤ 16384
  pub most_cells : length m.ends ≤ 16384
  pub most_entries : length m.nodes ≤ 65536
  -- 3
  pub placed : (i : ℕ) → i < length m.coords → Placed (get_or m.coords i nan)
  -- 4
  pub kinds_rise : (i : ℕ) → i < length m.ends → prior m.kinds i ≤ get_or m.kinds i 0
  pub line_kind : (i : ℕ) → i < length m.ends → lines ≡ true → (get_or m.kinds i 0 ≡ 1) × (cell_size m.ends i ≡ 2)
  pub cell_kind : (i : ℕ) → i < length m.ends → lines ≡ false
      → ((get_or m.kinds i 0 ≡ 5) × (cell_size m.ends i ≡ 3)) ⊎ (((get_or m.kinds i 0 ≡ 8) × (cell_size m.ends i ≡ 4))
      ⊎ ((get_or m.kinds i 0 ≡ 11) × (3 ≤ cell_size m.ends i) × (cell_size m.ends i ≤ 256)))
  pub cell_least : (i : ℕ) → i < length m.ends → lines ≡ false → 3 ≤ cell_size m.ends i
  pub cell_most : (i : ℕ) → i < length m.ends → cell_size m.ends i ≤ 256
  -- 5
  pub number : (i : ℕ) → i < length m.nodes → get_or m.nodes i 0 < node_count m
  -- 6
  pub once : (i j k : ℕ) → i < length m.ends → j < k → k < cell_size m.ends i → get_or m.nodes (prior m.ends i + j) 0 ≡ get_or m.nodes (prior m.ends i + k) 0 → ⊥

pub record Passed (o : Settings) (s c : Mesh) (w : ℕ) : Type 0 where
  pub operation : o.op ≤ 5
  pub least : 1 ≤ o.m
  pub most : o.m ≤ 65536
  pub grid : (k : ℕ) → o.grid ≡ Some k → k ≤ 10
  pub subject : Sound false s
  pub cutter : Sound (eqb o.op 5) c
  pub room : 16 * ((node_count s + node_count c) + (length s.nodes + length c.nodes) + o.m) + 64 ≤ w
