-- (a) of demand 3 point by point: about every point a cell's pieces wind together as often as its outline as cut. Assumes nothing.
use mathlib.Core.Path.{◌≡◌}
use mathlib.Core.Bool.{true}
use Prim.Native.Nat.{ℕ, ◌≤◌, ◌<◌}
use lib.IntN.{pos}
use lib.ListN.{length}
use Rattle.lists.specs.Gather.{tally}
use Rattle.winding.specs.Winding.{Spot, winding, winding_of, positive, WindsUp, NoneBackward, OneWinds}
use Rattle.winding.proofs.Windings.{windings_add, at_most_the_outline, exactly_one}
use Rattle.settings.specs.declared.Settings.{Settings}
use Rattle.entry.specs.Mesh.{Mesh}
use Rattle.rules.specs.Mesh.{Side, lent_mesh}
use Rattle.rules.specs.Meetings.{Scene}
use Rattle.rules.specs.Cell.{outline_of}
use Rattle.rules.specs.Operations.{cuts, scene_for, pieces_of}
use Rattle.rules.specs.Overlay.{Lists}
use Rattle.rules.specs.Demand3.{Accepted}
use Rattle.rules.proofs.Closing.{accepted_closes, outline_once}

-- For all settings, meshes and lists: if the overlay is accepted, then in every cell of a mesh that the operation cuts and about
-- every point with exact coordinates,
module _ (o : Settings) (s c : Mesh) (l : Lists) (h : Accepted o s c l) (w : Side) (e : cuts o.op w ≡ true) (i : ℕ) (k : i < length (lent_mesh s c w).ends) where
  abbrev sc : Scene
  sc = scene_for o s c

  -- the windings of the pieces before any are dropped add up to that of the outline as cut;
  pub winds_up : WindsUp sc.coords (outline_of sc w i) (pieces_of sc w i)
  winds_up = windings_add sc.coords (outline_of sc w i) (pieces_of sc w i) (outline_once o s c l h w e i k) (accepted_closes o s c l h w e i k)

  module _ (p : Spot) (forward : NoneBackward sc.coords p (pieces_of sc w i)) where
    -- where none of them winds clockwise, at most as many wind about the point as the outline does,
    pub overlaps_bounded : (n : ℕ) → winding sc.coords p (outline_of sc w i) ≡ pos n → tally (λ q. positive (winding_of sc.coords p q)) (pieces_of sc w i) ≤ n
    overlaps_bounded n q = at_most_the_outline sc.coords (outline_of sc w i) (pieces_of sc w i) winds_up p forward n q

    -- and exactly one, once, where the outline winds once.
    pub covered_once : winding sc.coords p (outline_of sc w i) ≡ pos 1 → OneWinds sc.coords p (pieces_of sc w i)
    covered_once q = exactly_one sc.coords (outline_of sc w i) (pieces_of sc w i) winds_up p forward q
