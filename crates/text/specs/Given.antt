-- What is read of a text. Assumes nothing.
use Rattle.std.specs.Prelude.{ℕ, ◌/◌, min, List, Float, Option}
use Rattle.std.specs.Float.Ieee.{of_bits}
use Rattle.std.specs.Float.{binary64}
use Rattle.settings.specs.declared.Settings.{Settings}

-- what was read, and what follows it
abbrev pub Parsed : Type 0 → Type 0
Parsed A = Option (A × List ℕ)

abbrev pub coordinate : ℕ → Float
coordinate b = of_bits binary64 b

-- coordinates (x then y), and each node's layer
pub record Nodes : Type 0 where
  pub coords : List Float
  pub layers : List ℕ

pub record Cells : Type 0 where
  pub nodes : List ℕ
  pub ends : List ℕ
  pub kinds : List ℕ
  pub families : List ℕ

pub record ReadMesh : Type 0 where
  pub points : Nodes
  pub cells : Cells

-- how much of a mesh is read
pub record Limits : Type 0 where
  pub nodes : ℕ
  pub cells : ℕ
  pub entries : ℕ

abbrev pub at_most : ℕ → ℕ → ℕ → Limits
at_most n c e = record { nodes = n; cells = c; entries = e }

-- 512 nodes, 512 cells and 2,048 entries, or what lists of these lengths hold
unfoldable pub limits : (coords layers nodes ends kinds families : ℕ) → Limits
limits coords layers nodes ends kinds families =
    at_most (min 512 (min (coords / 2) layers)) (min 512 (min ends (min kinds families))) (min 2048 nodes)

-- an input: its first line gives the settings
pub record Given : Type 0 where
  pub settings : Settings
  pub subject : ReadMesh
  pub cutter : ReadMesh
