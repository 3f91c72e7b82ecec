-- The inputs that have a text. Assumes nothing.
use Rattle.std.specs.Prelude.{List, [], ◌∷◌, map, ℕ, ◌-◌, ◌*◌, ◌≤◌, ◌<◌, length, take, drop, IfSome}
use Rattle.settings.specs.declared.Settings.{Settings}
use Rattle.text.specs.Text.{Bits, input_text}
use Rattle.text.specs.Given.{coordinate, ReadMesh, Limits, Given}

-- bits of coordinates, x then y, and a layer for each two
pub data Points : (bs ls : List ℕ) → Type 0 where
  no_points : Points [] []
  point : {x y l : ℕ} {bs ls : List ℕ} → x < 18446744073709551616 → y < 18446744073709551616 → l ≤ 4294967295 → Points bs ls → Points (x ∷ y ∷ bs) (l ∷ ls)

-- numbers that fit 32 bits
pub data Small : List ℕ → Type 0 where
  no_numbers : Small []
  small : {n : ℕ} {ns : List ℕ} → n ≤ 4294967295 → Small ns → Small (n ∷ ns)

-- cells whose ends rise from n to m in ns
pub data Rises (ns : List ℕ) : ℕ → List ℕ → List ℕ → List ℕ → ℕ → Type 0 where
  no_cells : {n : ℕ} → Rises ns n [] [] [] n
  cell : {n e k f m : ℕ} {es ks fs : List ℕ} → n ≤ e → e ≤ length ns → k ≤ 255 → f ≤ 4294967295 → Small (take (e - n) (drop n ns))
      → Rises ns e es ks fs m → Rises ns n (e ∷ es) (k ∷ ks) (f ∷ fs) m

-- a mesh that has a text of its own: whole pairs of bits, a layer for each, ends that rise to the last entry, numbers that fit
pub record Fine (m : Bits) : Type 0 where
  pub points : Points m.coords m.layers
  pub rises : Rises m.nodes 0 m.ends m.kinds m.families (length m.nodes)

-- what is read of it
unfoldable pub read : Bits → ReadMesh
read m =
    record {
      points = record { coords = map coordinate m.coords; layers = m.layers };
      cells = record { nodes = m.nodes; ends = m.ends; kinds = m.kinds; families = m.families };
    }

pub record Within (l : Limits) (m : Bits) : Type 0 where
  pub nodes : length m.coords ≤ 2 * l.nodes
  pub cells : length m.ends ≤ l.cells
  pub entries : length m.nodes ≤ l.entries

-- settings that have a text: numbers that fit
pub record Fits (s : Settings) : Type 0 where
  pub op : s.op ≤ 4294967295
  pub m : s.m ≤ 4294967295
  pub grid : IfSome s.grid (λ k. k ≤ 4294967295)

-- an input: the settings and the two meshes, as bits
pub record Input : Type 0 where
  pub settings : Settings
  pub subject : Bits
  pub cutter : Bits

abbrev pub text_of : Input → List ℕ
text_of i = input_text i.settings i.subject i.cutter

abbrev pub given : Input → Given
given i = record { settings = i.settings; subject = read i.subject; cutter = read i.cutter }

-- numbers that fit, meshes within their limits, at most 65,536 bytes
pub record Readable (l k : Limits) (i : Input) : Type 0 where
  pub settings : Fits i.settings
  pub subject : Fine i.subject
  pub cutter : Fine i.cutter
  pub within : Within l i.subject
  pub within' : Within k i.cutter
  pub bytes : length (text_of i) ≤ 65536
