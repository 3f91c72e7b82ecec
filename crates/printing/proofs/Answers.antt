-- The text that is printed of each answer. Assumes nothing.
use mathlib.Core.Path.{◌≡◌, refl}
use mathlib.Core.List.{[], ◌∷◌, ◌++◌}
use Prim.Native.Nat.{ℕ, ◌*◌, min}
use lib.ListN.{length, take}
use Rattle.std.proofs.lemmas.List.{take_min}
use Rattle.text.specs.Text.{bytes, close, numbers_text, piece_lines, listing_text, unread_text, answer_text}
use Rattle.printing.specs.Told.{bits, told}
use Rattle.printing.specs.declared.Answer.TheVariants.{Unread, Refused, Overlay}
use Rattle.printing.specs.declared.Counts.{Counts}
use Rattle.printing.specs.declared.Listing.{Listing}
use Rattle.printing.proofs.Rests.{refused_parts}

module _ (l : Listing) where
  pub told_unread : answer_text (told Unread l) ≡ unread_text
  unfolding told answer_text
  told_unread = refl

  pub told_refused : (n : ℕ) → answer_text (told (Refused n) l) ≡ bytes "(refused" ++ (numbers_text (n ∷ []) ++ close)
  unfolding told answer_text
  told_refused n = refused_parts n

  pub told_overlay : (nodes : ℕ) (c : Counts) → answer_text (told (Overlay nodes c) l) ≡ listing_text (bits (take (min (2 * nodes) (length l.coords.now)) l.coords.now)) l.layers.now
      (piece_lines 0 l.nodes.now (take (min c.pieces (length l.ends.now)) l.ends.now) l.kinds.now l.families.now l.meshes.now l.cells.now) c.pieces c.points c.doubled
  unfolding told answer_text
  told_overlay nodes c = rw (take_min (2 * nodes) l.coords.now, take_min c.pieces l.ends.now) refl

pub ruleset told_steps = (told_unread, told_refused, told_overlay)
