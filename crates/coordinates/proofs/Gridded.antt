-- W6: once the entry passes an overlay with a grid, every coordinate of the scene from the lent ones on is on it, none of them -0, and so is every new
-- point's in an answer. Assumes nothing.
use mathlib.Core.Path.{◌≡◌, sym, ap, subst}
use mathlib.Core.List.{List, ◌++◌}
use Prim.Native.Nat.{ℕ, ◌+◌, ◌-◌, ◌*◌, ◌≤◌, ◌<◌}
use native.Mathlib.Omega.{arith}
use lib.ListN.{length, get_or, length-append}
use lib.Seq.{get_or-append_right}
use lib.Ieee.{Float, nan}
use Rattle.std.specs.Prelude.{Some}
use Rattle.lists.proofs.Gather.{in_list}
use Rattle.exact.specs.Exact.{minus}
use Rattle.grid.specs.Grid.{Grid, on_grid, booked}
use Rattle.grid.proofs.OnGrid.{put_there, plus_zero}
use Rattle.cutting.specs.Edition.{ours}
use Rattle.settings.specs.declared.Settings.{Settings}
use Rattle.entry.specs.Mesh.{Mesh}
use Rattle.entry.specs.Refused.{entry_of}
use Rattle.entry.proofs.Passed.{passed}
use Rattle.rules.specs.Meetings.{added_by, scene_of}
use Rattle.rules.specs.Operations.{scene_for}
use Rattle.rules.specs.Overlay.{Lists, Result, answered, answered_with, overlay_of}
use Rattle.rules.specs.Demand3.{Accepted}
use Rattle.rules.proofs.Accepts.{accepted}
use Rattle.coordinates.specs.Points.{Doubles}
use Rattle.coordinates.specs.Finite.{Bounded, Gridded}
use Rattle.coordinates.proofs.Added.{each_added}
use Rattle.coordinates.proofs.InScene.{scene_length, answer_coord}
use Rattle.coordinates.proofs.Points.{Each}

-- a coordinate that is put there
put_gridded : (k : ℕ) (x : Float) → k ≤ 10 → Bounded x → Gridded k (on_grid k x)
put_gridded k x h b = record { on = put_there k x h b.fit b.end; plus = λ z. ap minus (plus_zero k x h b.fit b.end z) }

module _ (o : Settings) (s c : Mesh) (w : ℕ) (pass : entry_of o s c w ≡ 0) (subject : Doubles s.coords) (k : ℕ) (grid : o.grid ≡ Some k) where
  abbrev lent : List Float
  lent = s.coords ++ c.coords

  abbrev new : List Float
  new = added_by (scene_for o s c).met

  gridded : (x : Float) → Bounded x → Gridded k (booked o.grid x)
  unfolding booked
  gridded x h = subst (λ (g : Grid). Gridded k (booked g x)) (sym grid) (put_gridded k x ((passed o s c w pass).grid k grid) h)

  new_gridded : Each (Gridded k) new
  new_gridded = each_added o s c w pass subject (Gridded k) gridded

  -- Every coordinate of the scene from the lent ones on.
  pub from_lent_on : (i : ℕ) → length (s.coords ++ c.coords) ≤ i → i < length (scene_for o s c).coords → Gridded k (get_or (scene_for o s c).coords i nan)
  unfolding scene_of
  from_lent_on i l h =
      let j : i - length lent < length new = omega (arith, h, length-append lent new) in
      subst (Gridded k) (sym (get_or-append_right lent new i nan l)) (new_gridded (get_or new (i - length lent) nan) (in_list new (i - length lent) j nan))

  answer_gridded : (l : Lists) (i : ℕ) → length s.coords + length c.coords ≤ i → i < length s.coords + length c.coords + 2 * (answered o s c l).added
      → Gridded k (get_or (answered o s c l).lists.coords i nan)
  unfolding answered_with
  answer_gridded l i b h =
      let within : i < length (scene_for o s c).coords = omega (arith, h, scene_length o s c) in
      subst (Gridded k) (sym (answer_coord o s c l i within)) (from_lent_on i (omega (arith, b, length-append s.coords c.coords)) within)

-- The coordinates of an accepted overlay's new points.
pub answers_gridded : (o : Settings) (s c : Mesh) (l : Lists) → Accepted o s c l → Doubles s.coords → (k : ℕ) → o.grid ≡ Some k
    → (i : ℕ) → length s.coords + length c.coords ≤ i → i < length s.coords + length c.coords + 2 * (overlay_of o s c l).added
    → Gridded k (get_or (overlay_of o s c l).lists.coords i nan)
answers_gridded o s c l h subject k grid i b =
    let t = accepted ours o s c l h in
    subst (λ (r : Result). i < length s.coords + length c.coords + 2 * r.added → Gridded k (get_or r.lists.coords i nan)) (sym t.answer)
    (answer_gridded o s c (length l.work) t.entry subject k grid l i b)
