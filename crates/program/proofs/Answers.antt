-- From the contracts of reading, overlay and printing to the program's answer. Assumes nothing.
use mathlib.Core.Path.{◌≡◌, refl, sym, ap, subst, ◌∙◌}
use mathlib.Core.List.{List, [], ◌++◌}
use Prim.Native.Nat.{ℕ, ◌+◌, ◌≤◌}
use native.Mathlib.Omega.{arith}
use lib.ListN.{length, length-append}
use borrow.Author.Tests.{ne_eqb}
use Rattle.lists.specs.Regions.{zeros, fzeros}
use Rattle.cutting.specs.Edition.{ours}
use Rattle.settings.specs.declared.Settings.{Settings}
use Rattle.entry.specs.Mesh.{Mesh, node_count}
use Rattle.rules.specs.Meetings.{added_by, scene_of}
use Rattle.rules.specs.Operations.{scene_for}
use Rattle.rules.specs.Overlay.{Lists, Result as Answered, lent_lists, answered as succeeded, answered_with, overlay_of}
use Rattle.rules.proofs.Endings.{Ending, input, state_met, success, ending, input_refused, state_refused, succeeds}
use Rattle.rules.proofs.Lengths.{accepted_fits}
use Rattle.text.specs.Text.{unread, answer_text}
use Rattle.text.specs.Read.{input_from}
use Rattle.text.specs.Given.{Given, Parsed, ReadMesh, Limits, limits}
use Rattle.std.specs.Prelude.{None, Some, Result, Ok, Err, IfOk}
use Rattle.refusals.specs.declared.Refusal.{Refusal}
use Rattle.refusals.specs.Numbers.{number}
use Rattle.refusals.proofs.Numbers.{some_not_zero}
use Rattle.overlay.specs.declared.Counts.{Counts}
use Rattle.overlay.specs.Shown.{answer_of}
use Rattle.printing.specs.Page.{Place, Prints}
use Rattle.printing.specs.Told.{told}
use Rattle.printing.specs.declared.Listing.{Listing}
use Rattle.program.specs.Answered.{read_limits, lent, blank, result_told, overlay_told, answer_given, answer_to}
use Rattle.program.specs.Printed.{printed_of}

-- ---- what is printed

-- the lists that printing is lent, and the working list
abbrev shown : Listing → List ℕ → Lists
shown v ws = lent_lists v.coords.now v.layers.now v.nodes.now v.ends.now v.kinds.now v.families.now v.meshes.now v.cells.now ws

printed_told : (n : ℕ) (r : Result Counts Refusal) (v : Listing) (ws : List ℕ) → told (printed_of n r) v ≡ result_told n (answer_of r (shown v ws))
unfolding told result_told
printed_told n (Ok k) v ws = refl
printed_told n (Err r) v ws = rw (ne_eqb (number r) 0 (some_not_zero r)) refl

-- ---- the overlay of two meshes, into the program's lists

abbrev lists : Lists
lists = lent_lists (fzeros 4096) (zeros 2048) (zeros 8192) (zeros 2048) (zeros 2048) (zeros 2048) (zeros 2048) (zeros 2048) (zeros 16384)

module _ (settings : Settings) (s c : Mesh) where
  coords_added : length (scene_for settings s c).coords ≡ length (s.coords ++ c.coords) + length (added_by (scene_for settings s c).met)
  unfolding scene_of
  coords_added = length-append (s.coords ++ c.coords) _

  success_few : overlay_of settings s c lists ≡ succeeded settings s c lists → (succeeded settings s c lists).added ≤ 2048
  unfolding answered_with
  success_few same =
      let fits = (accepted_fits settings s c lists (ap (λ (r : Answered). r.code) same)).coords in
      omega (arith, coords_added, fits)

  added_few : (overlay_of settings s c lists).added ≤ 2048
  added_few = go (ending ours settings s c lists)
    where
      go : Ending ours settings s c lists → (overlay_of settings s c lists).added ≤ 2048
      go (input n) = rw (input_refused ours settings s c lists n) (omega arith)
      go (state_met e n) = rw (state_refused ours settings s c lists e n) (omega arith)
      go (success e f) = let same = succeeds ours settings s c lists e f in rw same (success_few same)

  module _ (n : ℕ) (a : Result Counts Refusal) (l : Lists)
      (same : answer_of a l ≡ overlay_of settings s c
      (lent_lists (fzeros 4096) (zeros 2048) (zeros 8192) (zeros 2048) (zeros 2048) (zeros 2048) (zeros 2048) (zeros 2048) (zeros 16384))) where
    pub nodes_fit_lem : n ≤ 1024 → IfOk a (λ k. n + k.added ≤ 4294967295)
    nodes_fit_lem h = go a same
      where
        go : (a : Result Counts Refusal) → answer_of a l ≡ overlay_of settings s c lists → IfOk a (λ k. n + k.added ≤ 4294967295)
        go (Ok k) e = omega (arith, h, added_few, ap (λ (r : Answered). r.added) e)
        go (Err r) e = tt

    pub cut_printed : (v : Listing) (r : Place) (o u : List ℕ) → n ≡ node_count s + node_count c → shown v l.work ≡ l
        → Prints r o u (answer_text (told (printed_of n a) v)) → Prints r o u (answer_text (overlay_told settings s c))
    unfolding blank overlay_told
    cut_printed v r o u z f h =
        let text : told (printed_of n a) v ≡ result_told (node_count s + node_count c) (overlay_of settings s c lists) =
        printed_told n a v l.work ∙ ap (λ x. result_told n (answer_of a x)) f ∙ ap (result_told n) same ∙ ap (λ k. result_told k (overlay_of settings s c lists)) z in
        rw text at h

-- ---- what was read

module _ (s : List ℕ) where
  abbrev whole : Limits
  whole = limits (length (fzeros 1024)) (length (zeros 512)) (length (zeros 2048)) (length (zeros 512)) (length (zeros 512)) (length (zeros 512))

  most_read : whole ≡ read_limits
  unfolding limits
  most_read = refl

  answer_read : (g : Parsed Given) → g ≡ input_from whole whole s → answer_text (answer_given g) ≡ answer_to s
  unfolding answer_to
  answer_read g e = ap (λ x. answer_text (answer_given x)) (e ∙ ap (λ l. input_from l l s) most_read)

  -- malformed
  pub unread_answer : None ≡ input_from whole whole s → answer_to s ≡ answer_text unread
  unfolding answer_given
  unread_answer e = sym (answer_read None e)

  -- read, and overlaid
  pub read_printed : (settings : Settings) (subject cutter : ReadMesh) (x y : Mesh) (o u : List ℕ) (r : Place)
      → Some (record { settings = settings; subject = subject; cutter = cutter }, []) ≡ input_from whole whole s
      → Prints r o u (answer_text (overlay_told settings x y)) → x ≡ lent subject → y ≡ lent cutter → Prints r o u (answer_to s)
  unfolding answer_given
  read_printed settings subject cutter x y o u r e h f g =
      let text : answer_text (overlay_told settings x y) ≡ answer_to s = rw (f, g) (answer_read _ e) in
      subst (Prints r o u) text h
