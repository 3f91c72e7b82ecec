-- Of an overlay that the entry passes: by the numbers of all meetings the layers are those of the scene. Assumes nothing.
use mathlib.Core.Path.{◌≡◌}
use mathlib.Core.List.{◌++◌}
use Prim.Native.Nat.{ℕ, ◌+◌}
use native.Mathlib.Omega.{arith}
use lib.Dec.{eqb}
use lib.ListN.{length}
use Rattle.cutting.specs.Lent.{flat_edges}
use Rattle.settings.specs.declared.Settings.{Settings}
use Rattle.entry.specs.Mesh.{Mesh, node_count}
use Rattle.entry.specs.Refused.{entry_of}
use Rattle.entry.proofs.Passed.{passed}
use Rattle.rules.specs.Neighbours.{subject_net, cutter_net}
use Rattle.rules.specs.Meetings.{scene_of}
use Rattle.rules.specs.Layers.{layers_of}
use Rattle.rules.specs.Operations.{scene_for}
use Rattle.coordinates.proofs.InScene.{lent_even, subject_all, cutter_all}
use Rattle.meetings.specs.InNumbers.{in_numbers}
use Rattle.layers.specs.Written.{layers_to}
use Rattle.layers.proofs.Meant.{layers_meant}

pub layers_met : (o : Settings) (s c : Mesh) (w : ℕ) → entry_of o s c w ≡ 0
    → layers_to (length (scene_for o s c).met) s.layers c.layers (flat_edges (scene_for o s c).subject.edges) (in_numbers (scene_for o s c).met)
    ≡ layers_of (scene_for o s c) s c
unfolding scene_of layers_of
layers_met o s c w pass =
    let ok = passed o s c w pass in
    layers_meant o.grid (s.coords ++ c.coords) (subject_net s) (cutter_net (eqb o.op 5) s c) s.layers c.layers (node_count s + node_count c) (lent_even o s c w pass)
    (omega (arith, ok.subject.layers_long, ok.cutter.layers_long)) (subject_all o s c w pass) (cutter_all o s c w pass)
