-- No answer is longer than 301,108 bytes. Assumes nothing.
use mathlib.Core.Path.{◌≡◌, refl, sym, ap, ◌∙◌}
use mathlib.Core.Bool.{Bool, true, false, cond}
use mathlib.Core.List.{List, [], ◌∷◌, map}
use Prim.Native.Nat.{ℕ, ◌+◌, ◌*◌, ◌≤◌}
use native.Mathlib.Omega.{arith}
use native.Mathlib.Nat.{le_trans}
use lib.Dec.{eqb}
use lib.ListN.{length, take, length-append, length-map}
use lib.Seq.{take_all}
use lib.Ieee.{to_bits, binary64}
use borrow.Author.Tests.{le-leb, eqb-true}
use borrow.Table.Elements.{take-le}
use Rattle.lists.specs.Regions.{front}
use Rattle.lists.proofs.Regions.{take_front_of}
use Rattle.cutting.specs.Outcome.{flat, stops}
use Rattle.cutting.proofs.Runs.{stops_length}
use Rattle.cutting.specs.Edition.{ours}
use Rattle.settings.specs.declared.Settings.{Settings}
use Rattle.entry.specs.Mesh.{Mesh}
use Rattle.rules.specs.Operations.{Piece, listing}
use Rattle.rules.specs.Overlay.{Result, cleared, written, answered as succeeded, answered_with, overlay_of}
use Rattle.rules.proofs.Endings.{Ending, input, state_met, success, ending, input_refused, state_refused, succeeds}
use Rattle.rules.proofs.Lengths.{accepted_fits, lengths_kept}
use Rattle.text.specs.Text.{piece_lines, unread, refused, overlay, answer_text}
use Rattle.text.specs.Read.{input_from}
use Rattle.text.specs.Given.{Given, Parsed}
use Rattle.std.specs.Prelude.{None, Some}
use Rattle.text.proofs.Sizes.{Rising, no_end, end, overlay_size, refused_size}
use Rattle.std.specs.Prelude.{Ok}
use Rattle.printing.specs.Page.{room_for, laid_over}
use Rattle.printing.specs.Told.{bits}
use Rattle.program.specs.Answered.{read_limits, lent, blank, result_told, overlay_told, answer_given, answer_to}

-- ---- where pieces end

stops_rise : (m k : ℕ) (ps : List (List ℕ)) → k + length (flat ps) ≤ m → Rising m k (stops k ps)
unfolding flat stops
stops_rise m k [] h = no_end {n = k} (omega (arith, h))
stops_rise m k (p ∷ ps) h = end {n = k} {e = k + length p} (omega arith) (stops_rise m (k + length p) ps (omega (arith, h, length-append p (flat ps))))

module _ (settings : Settings) (s c : Mesh) where
  abbrev r : Result
  r = overlay_of settings s c blank

  ends_of : (succeeded settings s c blank).lists.ends ≡ front blank.ends (stops 0 (map (λ (p : Piece). p.nodes) (listing settings s c)))
  unfolding answered_with written
  ends_of = refl

  pieces_of_lem : (succeeded settings s c blank).pieces ≡ length (listing settings s c)
  unfolding answered_with
  pieces_of_lem = refl

  success_rises : overlay_of settings s c blank ≡ succeeded settings s c blank → r.code ≡ 0 → Rising 8192 0 (take (succeeded settings s c blank).pieces (succeeded settings s c blank).lists.ends)
  unfolding blank
  success_rises same z =
      let runs = map (λ (p : Piece). p.nodes) (listing settings s c) in
      let fits = (accepted_fits settings s c blank z).nodes in
      let ends = ap (take (succeeded settings s c blank).pieces) ends_of ∙ take_front_of blank.ends (stops 0 runs) _
      (stops_length 0 runs ∙ length-map (listing settings s c) (λ (p : Piece). p.nodes) ∙ sym pieces_of_lem) in
      rw ends (stops_rise 8192 0 runs (omega (arith, fits)))

  rises : r.code ≡ 0 → Rising 8192 0 (take r.pieces r.lists.ends)
  rises z = go (ending ours settings s c blank)
    where
      no_pieces : (l : List ℕ) → Rising 8192 0 (take 0 l)
      no_pieces l = no_end {n = 0} (omega arith)

      go : Ending ours settings s c blank → Rising 8192 0 (take r.pieces r.lists.ends)
      go (input n) = rw (input_refused ours settings s c blank n) (no_pieces blank.ends)
      go (state_met e n) = rw (state_refused ours settings s c blank e n) (no_pieces (cleared blank).ends)
      go (success e f) = let same = succeeds ours settings s c blank e f in rw same (success_rises same z)

  coords_few : (k : ℕ) → length (bits (take k r.lists.coords)) ≤ 4096
  unfolding bits blank
  coords_few k = omega (arith, length-map (take k r.lists.coords) (to_bits binary64), take-le k r.lists.coords, (lengths_kept settings s c blank).coords)

  ends_few : (k : ℕ) → length (take k r.lists.ends) ≤ 2048
  unfolding blank
  ends_few k = omega (arith, take-le k r.lists.ends, (lengths_kept settings s c blank).ends)

  -- what is printed of an overlay
  told_size : (n : ℕ) → length (answer_text (result_told n r)) ≤ 301108
  unfolding result_told
  told_size n = go (eqb r.code 0) refl
    where
      go : (b : Bool) → eqb r.code 0 ≡ b → length (answer_text (cond b
          (overlay (bits (take (2 * (n + r.added)) r.lists.coords)) r.lists.layers (piece_lines 0 r.lists.nodes (take r.pieces r.lists.ends) r.lists.kinds
          r.lists.families r.lists.meshes r.lists.cells) r.pieces r.points r.doubled) (refused r.code))) ≤ 301108
      go true e = overlay_size _ _ _ _ _ _ _ _ r.pieces r.points r.doubled (coords_few (2 * (n + r.added))) (ends_few r.pieces) (rises (eqb-true r.code 0 e))
      go false e = omega (arith, refused_size r.code)

unread_size : length (answer_text unread) ≤ 301108
unfolding answer_text
unread_size = omega arith

answered_size : (g : Parsed Given) → length (answer_text (answer_given g)) ≤ 301108
unfolding answer_given overlay_told
answered_size None = unread_size
answered_size (Some (g, t)) = told_size g.settings (lent g.subject) (lent g.cutter) _

-- every answer
pub answer_size : (t : List ℕ) → length (answer_to t) ≤ 301108
unfolding answer_to
answer_size t = answered_size (input_from read_limits read_limits t)

-- so a list of so many bytes holds it
pub answer_whole : (t o : List ℕ) → 301108 ≤ length o → room_for (length o) (answer_to t) ≡ Ok (length (answer_to t))
unfolding room_for
answer_whole t o h = rw (le-leb (length (answer_to t)) (length o) (le_trans (answer_size t) h)) refl

-- ---- in a list of at least so many bytes

pub laid_front : (t o : List ℕ) → length t ≤ length o → laid_over o t ≡ front o t
unfolding laid_over front
laid_front t o h = rw (take_all (length o) t h) refl

pub ruleset reply_steps = (answer_size, answer_whole, laid_front)
