-- Every new point of an accepted overlay is a corner of a piece of a subject cell, before any are dropped. Assumes nothing.
use mathlib.Core.Path.{refl, sym}
use mathlib.Core.Logic.{inl, inr}
use mathlib.Core.List.Memᴰ
use mathlib.Core.List.{List, Memᴰ}
use Prim.Native.Nat.{ℕ, ◌+◌, ◌/◌, ◌≤◌, ◌<◌}
use native.Mathlib.Omega.{arith}
use lib.ListN.{length}
use Rattle.cutting.specs.Edges.{rings}
use Rattle.cutting.specs.Edition.{ours}
use Rattle.settings.specs.declared.Settings.{Settings}
use Rattle.entry.specs.Mesh.{Mesh, node_count}
use Rattle.rules.specs.Mesh.{Side, the_subject}
use Rattle.rules.specs.Meetings.{Scene}
use Rattle.rules.specs.Cell.{outline_of}
use Rattle.rules.specs.Operations.{scene_for, pieces_of}
use Rattle.rules.specs.Overlay.{Lists}
use Rattle.rules.specs.Demand3.{Accepted, CellCloses}
use Rattle.rules.proofs.Accepts.{accepted}
use Rattle.rules.proofs.Demand3.{closes_up_lem}
use Rattle.new_points.proofs.Rings.{ring_ends, times_in, in_times, in_rings}
use Rattle.new_points.proofs.Darts.{Touches, Touched}
use Rattle.new_points.proofs.Outlines.{point_on_outline}

-- where the pieces of a cell close up, the ends of its outline darts are corners of pieces
pub outline_named : (sc : Scene) (w : Side) (i : ℕ) → CellCloses sc w i → (n : ℕ) → Touched n (outline_of sc w i)
    → (p : List ℕ) × Memᴰ p (pieces_of sc w i) × Memᴰ n p
outline_named sc w i up n (e, at, touches) =
    let once = ((up.edges e.0 e.1).outer (times_in e (outline_of sc w i) at)).0 in
    let used = in_rings (e.0, e.1) (pieces_of sc w i) (in_times e.0 e.1 (rings (pieces_of sc w i)) (omega (arith, once))) in
    let ends = ring_ends used.0 (e.0, e.1) used.2 in
    (used.0, used.1, named used.0 ends.0 ends.1 touches)
  where
    named : (p : List ℕ) → Memᴰ e.0 p → Memᴰ e.1 p → Touches n e → Memᴰ n p
    named p a b (inl q) = Memᴰ.cast (sym q) a
    named p a b (inr q) = Memᴰ.cast (sym q) b

pub new_point_named : (o : Settings) (s c : Mesh) (l : Lists) → Accepted o s c l
    → (n : ℕ) → node_count s + node_count c ≤ n → n < length (scene_for o s c).coords / 2
    → (i : ℕ) × (i < length s.ends) × (p : List ℕ) × Memᴰ p (pieces_of (scene_for o s c) the_subject i) × Memᴰ n p
new_point_named o s c l h n low high =
    let on = point_on_outline o s c (length l.work) (accepted ours o s c l h).entry n low high in
    let r = outline_named (scene_for o s c) the_subject on.0 (closes_up_lem o s c l h the_subject refl on.0 on.1) n on.2 in
    (on.0, on.1, r.0, r.1, r.2)
